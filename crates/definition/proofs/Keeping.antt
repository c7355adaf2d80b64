-- What a run keeps: a property of worlds that single changes keep is kept by every part but program text and members.
-- Assumes nothing.
use Prim.Native.Nat.{ℕ, zero, suc, ◌+◌, ◌-◌, ◌≤◌, ◌<◌}
use native.Mathlib.Omega.{arith}
use mathlib.Core.Bool.{Bool, true, false, cond, ◌&&◌, ◌||◌, false≢true}
use mathlib.Core.List.{List, [], ◌∷◌, ◌++◌}
use mathlib.Core.Path.{◌≡◌, refl}
use lib.Dec.{leb, ltb, eqb}
use lib.IntN.{ℤ}
use lib.ListN.{length, length-append}
use borrow.Author.Tests.{leb-true, ltb-true}
use Rattle.definition.specs.Bytes.{mixed}
use Rattle.definition.specs.Choice.{when}
use Rattle.definition.specs.Steps.{is_left, used_after}
use Rattle.definition.specs.Limits.{value_length, unfinished_bytes}
use Rattle.definition.specs.Refusal.{Why, no_step, declared_twice}
use Rattle.definition.specs.Fixed as Fixed
use Rattle.definition.specs.Expressions.{Operator, Prefix, Tree, integer_of, string_of, bits_of, reference, call, unary, binary, none, more}
use Rattle.definition.specs.Program.{Type', fixed_type, character_type, Bound, by, upto, Statement, null, declare, procedure, assign, conditional, group, iterated, goto, include, activate, deactivate, return, is_iterated, Link, nowhere, row, Role, listed, then_part, else_part, Stretch, Row, Declared, Fault, sound, faulty, Source}
use Rattle.definition.specs.Values as Values
use Rattle.definition.specs.Values.{Value, fixed, characters, bit_value, Answer, gives, fails, and_then, from_fixed, constant, to_fixed, convert, size_of, limited, unfinished, infixed, prefixed, subject, substr}
use Rattle.definition.specs.World as W
use Rattle.definition.specs.World.{Owner, Identifier, Denotation, variable_of, entry_of, label_at, builtin_name, Address, address, unknown, Cell, Activity, inactive, rescanned, copied_only, World, Res, good, bad, bind, placed, ask, with_used, charge, value_at, store}
use Rattle.definition.specs.Evaluate as Evaluate
use Rattle.definition.specs.Evaluate.{Parameter, Meant, a_variable, an_entry, the_substr, no_such, meant, Callee, callee, Wish, as_type, as_subject, wished, wishes, substr_wishes, count, Call, put, read_cell, plain_name, listed_name, evaluate}
use Rattle.definition.specs.Flow.{Jump, to_row, to_end, away, Deed, passed, gave, jumps, Next, begin, again, no_next, End, ran, returned, went, Frame, Machine, Turn, on, ended, end_in, next_in, up_from, behind_as, behind_on, lead_out, first_in, into, target_as, target_at, assigned, truth, number, bounded, bounds, start_as, start_in, start_at, frame_of, number_at, stepped, follow, done, chosen, statement, turn, continued, run_on}
use Rattle.definition.specs.Calls.{Place, store_all, act_in, jump_local, jump_global, jump_out, jump_in, body_machine, value_of, body_run, calls}
use Rattle.definition.specs.Lists.{part}
use Rattle.definition.specs.Tokens.{Piece, name, plain, unclosed, piece_at}
use Rattle.definition.specs.Scan.{Into, to_text, to_work, fits, after, Scanner, outcome, Argument, Arguments, list_up_to, no_list, list_at, scan_arguments, Replaced, Replacer, up_to, call_with, with_list, replace_entry, replace_cell, replace_as, Active, not_active, active, active_as, active_at, active_name, active_in, token, scan_on, scan_with, replacer}
use Rattle.definition.specs.Names as Names
use Rattle.definition.specs.Names.{New, new, listing, Joint, joint, twice, joint_of, Declaring, fine, second, add_name, set_denotation, declared_at, declare_one, declare_all, is_listed, new_of, identifier_of, fault_of, with_member, Entering, entered, unreadable, entered_as, enter}
use Rattle.definition.proofs.Parts.{length_part}
use Rattle.definition.proofs.Choices.{when_has, cond_has}

-- ---- what an answer gives, if it gives anything, has a property
abbrev pub Any : {A : Type 0} → A → Type 0
Any a = Unit {0}

pub data Gives {A : Type 0} (P : A → Type 0) : Answer A → Type 0 where
  given : {a : A} → P a → Gives P (gives a)
  failed : {e : Why} → Gives P (fails e)

pub any_given : {A : Type 0} (x : Answer A) → Gives Any x
any_given (gives a) = given tt
any_given (fails e) = failed

pub then_gives : {A B : Type 0} {P : A → Type 0} {Q : B → Type 0} {x : Answer A} {f : A → Answer B} → Gives P x → ((a : A) → P a → Gives Q (f a)) → Gives Q (and_then x f)
then_gives (given {a} h) k = k a h
then_gives failed k = failed

-- ---- properties of what has values in it
module _ (Of : Value → Type 0) where
  abbrev pub OfCell : Cell → Type 0
  OfCell W.no_value = Unit {0}
  OfCell (W.holds v) = Of v

  abbrev pub OfAll : List Value → Type 0
  OfAll [] = Unit {0}
  OfAll (v ∷ vs) = Of v × OfAll vs

  abbrev pub OfDeed : Deed → Type 0
  OfDeed passed = Unit {0}
  OfDeed (gave v) = Of v
  OfDeed (jumps j) = Unit {0}

  abbrev pub OfEnd : End → Type 0
  OfEnd ran = Unit {0}
  OfEnd (returned v) = Of v
  OfEnd (went t) = Unit {0}

  abbrev pub OfTurn : Turn → Type 0
  OfTurn (on x fs) = Unit {0}
  OfTurn (ended e) = OfEnd e

-- ---- the outcome of a scan is no longer than its room, where no name is scanned that isn't active
abbrev pub room_of : Into → ℕ
room_of (to_text room) = room
room_of (to_work room) = room

abbrev pub FitsIn : Into → List ℕ → Type 0
FitsIn i l = length l ≤ room_of i

pub and_right : (a b : Bool) → (a && b) ≡ true → b ≡ true
and_right true b e = e
and_right false b e = absurd (false≢true e)

pub and_left : (a b : Bool) → (a && b) ≡ true → a ≡ true
and_left true b e = refl
and_left false b e = e

fits_room : (i : Into) (u k n : ℕ) → fits i u k n ≡ true → k + n ≤ room_of i
fits_room (to_text room) u k n e = leb-true (k + n) room e
fits_room (to_work room) u k n e = leb-true (k + n) room (and_left (leb (k + n) room) (leb (u + (k + n)) unfinished_bytes) e)

fits_after : (i : Into) (o l : List ℕ) → FitsIn i o → FitsIn (after i (length o)) l → FitsIn i (o ++ l)
fits_after (to_text room) o l h k = simp length-append (omega arith)
fits_after (to_work room) o l h k = simp length-append (omega arith)

abbrev pub Awake : Activity → Type 0
Awake inactive = ⊥
Awake rescanned = Unit {0}
Awake copied_only = Unit {0}

abbrev pub AllAwake : Active → Type 0
AllAwake not_active = Unit {0}
AllAwake (active a x) = Awake x

awake_as : (x : Activity) (a : ℕ) → AllAwake (active_as x a)
awake_as inactive a = tt
awake_as rescanned a = tt
awake_as copied_only a = tt

awake_at : (x : Address) (w : World) → AllAwake (active_at x w)
awake_at unknown w = tt
awake_at (address a) w = awake_as (W.activity_at a w) a

pub awake_in : (x : Piece) (w : World) → AllAwake (active_in x w)
unfolding active_name
awake_in (name n) w = awake_at (W.address_of n W.everyone w) w
awake_in plain w = tt
awake_in unclosed w = tt

-- ---- worlds that differ in nothing that is counted
pub record Alike (v w : World) : Type 0 where
  pub limit : v.limit ≡ w.limit
  pub used : v.used ≡ w.used
  pub layout : v.layout ≡ w.layout
  pub events : v.events ≡ w.events
  pub text_left : v.text_left ≡ w.text_left
  pub lines_left : v.lines_left ≡ w.lines_left
  pub passes : v.passes ≡ w.passes

-- THE LAWS: what single changes keep, and what single values are. A world is `Sound`, a value is `Of` the kind, a refusal
-- has `Left` so many steps
pub record Laws (Sound : World → Type 0) (Of : Value → Type 0) (Left : ℕ → Type 0) : Type 0 where
  pub left : (w : World) → Sound w → Left w.used
  pub charged : (w : World) → Sound w → w.used < w.limit → Sound (with_used (w.used + 1) w)
  pub changed : (v w : World) → Sound w → Alike v w → v.values ≡ w.values → Sound v
  pub named : (v w : World) → Sound w → Alike v w → v.values ≡ w.values ++ W.no_value ∷ [] → Sound v
  pub stored : (a : ℕ) (x : Value) (w : World) → Of x → Sound w → Sound (store a x w)
  pub cells : (a : ℕ) (w : World) → Sound w → OfCell Of (value_at a w)
  pub constants : (ds : List ℕ) → Gives (λ z. Of (fixed z)) (constant ds)
  pub strings : (l : List ℕ) → Gives Of (limited (characters l))
  pub bit_strings : (l : List ℕ) → Gives Of (limited (bit_value l))
  pub prefixes : (o : Prefix) (x : Value) → Of x → Gives Of (prefixed o x)
  pub infixes : (u : ℕ) (o : Operator) (x y : Value) → Of x → Of y → Gives Of (infixed u o x y)
  pub converts : (t : Type') (x : Value) → Of x → Gives Of (convert t x)
  pub numbers : (x : Value) → Of x → Gives (λ z. Of (fixed z)) (to_fixed x)
  pub sums : (y z : ℤ) → Gives (λ x. Of (fixed x)) (from_fixed (Fixed.sum y z))
  pub subjects : (x : Value) → Of x → Of (subject x)
  pub substrs : (xs : List Value) → OfAll Of xs → Gives Of (substr xs)
  pub scanned : (l : List ℕ) → length l ≤ value_length → Of (characters l)

-- the laws where nothing is said of values
any_cell : (c : Cell) → OfCell Any c
any_cell W.no_value = tt
any_cell (W.holds v) = tt

pub any_all : (vs : List Value) → OfAll Any vs
any_all [] = tt
any_all (v ∷ vs) = (tt, any_all vs)

pub valueless : {Sound : World → Type 0} {Left : ℕ → Type 0} → ((w : World) → Sound w → Left w.used) → ((w : World) → Sound w → w.used < w.limit → Sound (with_used (w.used + 1) w)) → ((v w : World) → Sound w → Alike v w → Sound v) → Laws Sound Any Left
valueless left charged changed = record {
  left = left;
  charged = charged;
  changed = λ v w h k _. changed v w h k;
  named = λ v w h k _. changed v w h k;
  stored = λ a x w _ h. changed (store a x w) w h (record { limit = refl; used = refl; layout = refl; events = refl; text_left = refl; lines_left = refl; passes = refl });
  cells = λ a w h. any_cell (value_at a w);
  constants = λ ds. any_given (constant ds);
  strings = λ l. any_given (limited (characters l));
  bit_strings = λ l. any_given (limited (bit_value l));
  prefixes = λ o x _. any_given (prefixed o x);
  infixes = λ u o x y _ _. any_given (infixed u o x y);
  converts = λ t x _. any_given (convert t x);
  numbers = λ x _. any_given (to_fixed x);
  sums = λ y z. any_given (from_fixed (Fixed.sum y z));
  subjects = λ x _. tt;
  substrs = λ xs _. any_given (substr xs);
  scanned = λ l _. tt;
}

module _ {Sound : World → Type 0} {Of : Value → Type 0} {Left : ℕ → Type 0} (laws : Laws Sound Of Left) where
  -- a part of a run leaves a sound world and something that has a property, or refuses
  pub data Leaves {E A : Type 0} (P : A → Type 0) : Res E A → Type 0 where
    leaves : {a : A} {w : World} → P a → Sound w → Leaves P (good a w)
    stops : {e : E} {u : ℕ} → Left u → Leaves P (bad e u)

  leaves_both : {E A : Type 0} {P : A → Type 0} {a : A} {w : World} → Leaves {E = E} P (good a w) → P a × Sound w
  leaves_both (leaves h k) = (h, k)

  pub leaves_it : {E A : Type 0} {P : A → Type 0} {r : Res E A} {a : A} {w : World} → Leaves P r → r ≡ good a w → P a × Sound w
  leaves_it h e = leaves_both (rw e at h)

  pub passes : {E A : Type 0} {a : A} {w : World} → Sound w → Leaves {E = E} Any (good a w)
  passes h = leaves tt h

  pub halt : {E A : Type 0} {P : A → Type 0} {e : E} {w : World} → Sound w → Leaves P (bad e w.used)
  halt {w} h = stops (laws.left w h)

  pub kept_by : (v : World) {w : World} → Sound w → Alike v w → v.values ≡ w.values → Sound v
  kept_by v {w} h p q = laws.changed v w h p q

  kept_store : (a : ℕ) (x : Value) (w : World) → Of x → Sound w → Sound (store a x w)
  kept_store = laws.stored

  pub bind_leaves : {E A B : Type 0} {P : A → Type 0} {Q : B → Type 0} {r : Res E A} {f : A → World → Res E B} → Leaves P r → ((a : A) (w : World) → P a → Sound w → Leaves Q (f a w)) → Leaves Q (bind r f)
  bind_leaves (leaves {a} {w} h k) g = g a w h k
  bind_leaves (stops h) g = stops h

  pub placed_leaves : {E F A : Type 0} {P : A → Type 0} {r : Res E A} (f : E → F) → Leaves P r → Leaves P (placed f r)
  placed_leaves f (leaves h k) = leaves h k
  placed_leaves f (stops h) = stops h

  pub when_leaves : {E A : Type 0} {P : A → Type 0} (t : Bool) (f g : Unit {0} → Res E A) → Leaves P (f tt) → Leaves P (g tt) → Leaves P (when t f g)
  when_leaves {P} t f g h k = when_has (Leaves P) t f g (λ _. h) (λ _. k)

  pub ask_leaves : {A : Type 0} {P : A → Type 0} {x : Answer A} {w : World} → Gives P x → Sound w → Leaves P (ask x w)
  ask_leaves (given h) k = leaves h k
  ask_leaves failed k = halt k

  -- the same where nothing, or that of a value or a number, is said of what the first part gives
  pub bind_any : {E A B : Type 0} {Q : B → Type 0} {r : Res E A} {f : A → World → Res E B} → Leaves Any r → ((a : A) (w : World) → Sound w → Leaves Q (f a w)) → Leaves Q (bind r f)
  bind_any h g = bind_leaves h λ a w _ k. g a w k

  pub bind_value : {E B : Type 0} {Q : B → Type 0} {r : Res E Value} {f : Value → World → Res E B} → Leaves Of r → ((a : Value) (w : World) → Of a → Sound w → Leaves Q (f a w)) → Leaves Q (bind r f)
  bind_value h g = bind_leaves h g

  pub bind_number : {E B : Type 0} {Q : B → Type 0} {r : Res E ℤ} {f : ℤ → World → Res E B} → Leaves (λ z. Of (fixed z)) r → ((z : ℤ) (w : World) → Of (fixed z) → Sound w → Leaves Q (f z w)) → Leaves Q (bind r f)
  bind_number h g = bind_leaves h g

  pub ruleset keeping = (passes, leaves, halt, kept_by, bind_any, bind_value, bind_number, placed_leaves, when_leaves, ask_leaves, any_given)

  pub charge_leaves : {w : World} → Sound w → Leaves Any (charge w)
  unfolding charge is_left used_after
  charge_leaves {w} h = go (ltb w.used w.limit) refl
    where
      go : (t : Bool) → ltb w.used w.limit ≡ t → Leaves Any (when t (λ _. good (tt {0}) (with_used (cond t (w.used + 1) w.used) w)) (λ _. bad no_step w.used))
      go true e = passes (laws.charged w h (ltb-true w.used w.limit e))
      go false e = halt h

  -- ---- expressions, where `run` keeps
  unfinished_gives : (u : ℕ) (v : Value) → Of v → Gives Of (unfinished u v)
  unfolding unfinished
  unfinished_gives u v h = cond_has (Gives Of) (leb (u + size_of v) unfinished_bytes) _ _ (λ _. given h) λ _. failed

  pub put_leaves : (u : ℕ) {x : Answer Value} {w : World} → Gives Of x → Sound w → Leaves Of (put u x w)
  unfolding put
  put_leaves u h k = ask_leaves (then_gives h (unfinished_gives u)) k

  cell_leaves : (c : Cell) (u : ℕ) {w : World} → OfCell Of c → Sound w → Leaves Of (read_cell c u w)
  cell_leaves W.no_value u h k = halt k
  cell_leaves (W.holds v) u h k = put_leaves u (given h) k

  wished_gives : (g : Wish) (v : Value) → Of v → Gives Of (wished g v)
  wished_gives (as_type t) v h = laws.converts t v h
  wished_gives as_subject v h = given (laws.subjects v h)

  abbrev pub KeepingCall : Call → Type 0
  KeepingCall run = (c : Callee) (vs : List Value) (u : ℕ) (w : World) → OfAll Of vs → Sound w → Leaves Of (run c vs u w)

  module _ (run : Call) (runs : KeepingCall run) where
    plain_leaves : (m : Meant) (u : ℕ) {w : World} → Sound w → Leaves Of (plain_name run m u w)
    unfolding plain_name
    plain_leaves (a_variable a t) u {w} h = cell_leaves (value_at a w) u (laws.cells a w h) h
    plain_leaves (an_entry b) u {w} h = bind_leaves (ask_leaves (any_given (callee b w)) h) λ c v _ k. when_leaves (eqb (length c.parameters) 0) _ _ (runs c [] u v tt k) (halt k)
    plain_leaves the_substr u h = halt h
    plain_leaves no_such u h = halt h

    listed_leaves : (take : List Wish → ℕ → World → Res Why (List Value)) → ((ws : List Wish) (u : ℕ) (w : World) → Sound w → Leaves (OfAll Of) (take ws u w)) → (n : ℕ) (m : Meant) (u : ℕ) {w : World} → Sound w → Leaves Of (listed_name run take n m u w)
    unfolding listed_name
    listed_leaves take takes n (a_variable a t) u h = halt h
    listed_leaves take takes n (an_entry b) u {w} h = bind_leaves (ask_leaves (any_given (callee b w)) h) λ c v _ k.
        when_leaves (eqb (length c.parameters) n) _ _ (bind_leaves (takes (wishes c.parameters) u v k) λ vs x. runs c vs u x) (halt k)
    listed_leaves take takes n the_substr u {w} h =
        when_leaves (eqb n 2 || eqb n 3) _ _ (bind_leaves (takes substr_wishes u w h) λ vs x e k. put_leaves u (laws.substrs vs e) k) (halt h)
    listed_leaves take takes n no_such u h = halt h

    -- of every tree, as an expression and as a list of arguments
    module _ (k : Owner) where
      abbrev KeepingValue : Tree → Type 0
      KeepingValue x = (u : ℕ) (w : World) → Sound w → Leaves Of (evaluate run k x u w)

      abbrev KeepingArguments : Tree → Type 0
      KeepingArguments x = (ws : List Wish) (u : ℕ) (w : World) → Sound w → Leaves (OfAll Of) (Evaluate.arguments run k x ws u w)

      more_leaves : (a b : Tree) → KeepingValue a → KeepingArguments b → KeepingArguments (more a b)
      unfolding Evaluate.arguments
      more_leaves a b f g [] u w h = leaves tt h
      more_leaves a b f g (x ∷ xs) u w h =
          bind_leaves (f u w h) λ y v p q. bind_leaves (put_leaves u (wished_gives x y p) q) λ c z e i.
          bind_leaves (g xs (u + size_of c) z i) λ ys r j l. leaves (e, j) l

      mutual
        unfolding evaluate Evaluate.arguments

        pub evaluate_leaves : (x : Tree) → KeepingValue x
        evaluate_leaves (integer_of ds) = λ u w h. ask_leaves (then_gives (laws.constants ds) λ z e. given e) h
        evaluate_leaves (string_of l) = λ u w h. put_leaves u (laws.strings l) h
        evaluate_leaves (bits_of l) = λ u w h. put_leaves u (laws.bit_strings l) h
        evaluate_leaves (reference n) = λ u w h. plain_leaves (meant k n w) u h
        evaluate_leaves (call n xs) = λ u w h. listed_leaves _ (arguments_leaves xs) (count xs) (meant k n w) u h
        evaluate_leaves (unary o a) = λ u w h. bind_leaves (evaluate_leaves a u w h) λ x v p q. put_leaves u (laws.prefixes o x p) q
        evaluate_leaves (binary o a b) = λ u w h. bind_leaves (evaluate_leaves a u w h) λ x v p q.
            bind_leaves (evaluate_leaves b (u + size_of x) v q) λ y z i j. put_leaves u (laws.infixes u o x y p i) j
        evaluate_leaves none = λ u w h. halt h
        evaluate_leaves (more a b) = λ u w h. halt h

        pub arguments_leaves : (x : Tree) → KeepingArguments x
        arguments_leaves (integer_of ds) = λ ws u w h. leaves tt h
        arguments_leaves (string_of l) = λ ws u w h. leaves tt h
        arguments_leaves (bits_of l) = λ ws u w h. leaves tt h
        arguments_leaves (reference n) = λ ws u w h. leaves tt h
        arguments_leaves (call n xs) = λ ws u w h. leaves tt h
        arguments_leaves (unary o a) = λ ws u w h. leaves tt h
        arguments_leaves (binary o a b) = λ ws u w h. leaves tt h
        arguments_leaves none = λ ws u w h. leaves tt h
        arguments_leaves (more a b) = more_leaves a b (evaluate_leaves a) (arguments_leaves b)

  -- ---- rows, in a machine whose parts keep; the texts that it puts out are `Ok`
  module _ {E : Type 0} (M : Machine E) (Ok : Stretch → Type 0) (texts : (n : ℕ) → Ok (W.row_of M.rows n).text) (leads : (n : ℕ) → Ok (W.row_of M.rows n).lead) (values : (x : Tree) (w : World) → Sound w → Leaves Of (M.value x w)) (outs : (s : Stretch) (w : World) → Ok s → Sound w → Leaves Any (M.out s w)) (acts : (n : ℕ) (w : World) → Sound w → Leaves (OfDeed Of) (M.act n w)) (goes : (n : ℕ) (t : List ℕ) (w : World) → Sound w → Leaves Any (M.jump n t w)) where
    end_leaves : (s : Statement) (g : ℕ) (fs : List Frame) (up : Unit {0} → Res E Next) → Leaves Any (up tt) → {w : World} → Sound w → Leaves Any (end_in M s g fs up w)
    unfolding is_iterated
    end_leaves null g fs up k h = k
    end_leaves (declare ns) g fs up k h = k
    end_leaves (procedure ns t) g fs up k h = passes h
    end_leaves (assign n x) g fs up k h = k
    end_leaves (conditional x) g fs up k h = k
    end_leaves group g fs up k h = k
    end_leaves (iterated n x bs) g fs up k h = search keeping
    end_leaves (goto n) g fs up k h = k
    end_leaves (include ns) g fs up k h = k
    end_leaves (activate ns) g fs up k h = k
    end_leaves (deactivate ns) g fs up k h = k
    end_leaves (return x) g fs up k h = k

    module _ (fs : List Frame) (up : ℕ → World → Res E Next) (ups : (n : ℕ) (w : World) → Sound w → Leaves Any (up n w)) where
      next_leaves : (l p : Link) {w : World} → Sound w → Leaves Any (next_in M l p fs up w)
      next_leaves (row m) p h = passes h
      next_leaves nowhere nowhere h = passes h
      next_leaves nowhere (row g) {w} h = search end_leaves

      up_leaves : (l : Link) {w : World} → Sound w → Leaves Any (up_from M l up w)
      up_leaves nowhere h = passes h
      up_leaves (row g) {w} h = ups g w h

      behind_as_lem : (r : Role) (n : ℕ) {w : World} → Sound w → Leaves Any (behind_as M r n fs up w)
      behind_as_lem listed n h = search (keeping, next_leaves)
      behind_as_lem then_part n h = search up_leaves
      behind_as_lem else_part n h = search up_leaves

    pub behind_leaves : (fs : List Frame) (f n : ℕ) (w : World) → Sound w → Leaves Any (behind_on M fs f n w)
    unfolding behind_on
    behind_leaves fs zero n w h = passes h
    behind_leaves fs (suc f) n w h = search (behind_as_lem, behind_leaves fs f)

    pub lead_leaves : (s : Stretch) {w : World} → Ok s → Sound w → Leaves Any (lead_out M s w)
    unfolding lead_out
    lead_leaves s k h = search keeping

    first_leaves : (l : Link) (g : ℕ) (fs : List Frame) {w : World} → Sound w → Leaves Any (first_in M l g fs w)
    first_leaves (row m) g fs h = passes h
    first_leaves nowhere g fs h = search (end_leaves, behind_leaves)

    pub into_leaves : (fs : List Frame) (g : ℕ) {w : World} → Sound w → Leaves Any (into M fs g w)
    unfolding into
    into_leaves fs g h = search (keeping, lead_leaves, first_leaves)

    -- ---- statements
    target_as_lem : (d : Denotation) (a : ℕ) (f : ℕ → Type' → Res Why (Unit {0})) → ((a : ℕ) (t : Type') → Leaves Any (f a t)) → {w : World} → Sound w → Leaves Any (target_as M d a f w)
    target_as_lem (variable_of t) a f k h = k a t
    target_as_lem (entry_of e b) a f k h = halt h
    target_as_lem (label_at m r x) a f k h = halt h
    target_as_lem builtin_name a f k h = halt h

    target_leaves : (x : Address) (f : ℕ → Type' → Res Why (Unit {0})) → ((a : ℕ) (t : Type') → Leaves Any (f a t)) → {w : World} → Sound w → Leaves Any (target_at M x f w)
    target_leaves (address a) f k h = search target_as_lem
    target_leaves unknown f k h = halt h

    assigned_leaves : (n : List ℕ) (x : Tree) {w : World} → Sound w → Leaves Any (assigned M n x w)
    unfolding assigned
    assigned_leaves n x h = search (keeping, put_leaves, target_leaves, laws.converts, kept_store)

    truth_leaves : (x : Tree) {w : World} → Sound w → Leaves Any (truth M x w)
    unfolding truth
    truth_leaves x h = search keeping

    number_leaves : (x : Tree) {w : World} → Sound w → Leaves (λ z. Of (fixed z)) (number M x w)
    unfolding number
    number_leaves x h = search (keeping, laws.numbers)

    bounded_leaves : (b : Bound) (f : Frame) {w : World} → Sound w → Leaves Any (bounded M b f w)
    bounded_leaves (by x) f h = search (keeping, number_leaves)
    bounded_leaves (upto x) f h = search (keeping, number_leaves)

    bounds_leaves : (bs : List Bound) (f : Frame) (w : World) → Sound w → Leaves Any (bounds M bs f w)
    unfolding bounds
    bounds_leaves [] f w h = passes h
    bounds_leaves (b ∷ bs) f w h = search (keeping, bounded_leaves, bounds_leaves bs)

    start_as_lem : (t : Type') (g a : ℕ) (x : Tree) (bs : List Bound) {w : World} → Sound w → Leaves Any (start_as M t g a x bs w)
    start_as_lem character_type g a x bs h = halt h
    start_as_lem fixed_type g a x bs h = search (keeping, number_leaves, bounds_leaves, kept_store)

    start_in_lem : (d : Denotation) (a g : ℕ) (x : Tree) (bs : List Bound) {w : World} → Sound w → Leaves Any (start_in M d a g x bs w)
    start_in_lem (variable_of t) a g x bs h = search start_as_lem
    start_in_lem (entry_of e b) a g x bs h = halt h
    start_in_lem (label_at m r q) a g x bs h = halt h
    start_in_lem builtin_name a g x bs h = halt h

    start_leaves : (y : Address) (g : ℕ) (x : Tree) (bs : List Bound) {w : World} → Sound w → Leaves Any (start_at M y g x bs w)
    start_leaves (address a) g x bs h = search start_in_lem
    start_leaves unknown g x bs h = halt h

    frame_leaves : (g : ℕ) (fs : List Frame) (f : Frame → Res Why Bool) → ((x : Frame) → Leaves Any (f x)) → {w : World} → Sound w → Leaves Any (frame_of M g fs f w)
    frame_leaves g [] f k h = passes h
    frame_leaves g (x ∷ xs) f k h = search (keeping, frame_leaves g xs)

    at_leaves : (c : Cell) (w : World) (f : ℤ → Res Why Bool) → ((z : ℤ) → Leaves Any (f z)) → Sound w → Leaves Any (number_at M c w f)
    at_leaves W.no_value w f k h = halt h
    at_leaves (W.holds v) w f k h = search

    stepped_leaves : (g : ℕ) (fs : List Frame) {w : World} → Sound w → Leaves Any (stepped M g fs w)
    unfolding stepped
    stepped_leaves g fs h = search (keeping, charge_leaves, frame_leaves, at_leaves, laws.sums, kept_store) depth 7

    follow_leaves : (j : Jump) (fs : List Frame) {w : World} → Sound w → Leaves (OfTurn Of) (follow M j fs w)
    follow_leaves (to_row m) fs h = leaves tt h
    follow_leaves (to_end g) fs h = search (keeping, end_leaves, behind_leaves)
    follow_leaves (away t) fs h = leaves tt h

    done_leaves : (d : Deed) (fs : List Frame) (n : ℕ) {w : World} → OfDeed Of d → Sound w → Leaves (OfTurn Of) (done M d fs n w)
    done_leaves passed fs n e h = search (keeping, behind_leaves)
    done_leaves (gave v) fs n e h = leaves e h
    done_leaves (jumps j) fs n e h = search follow_leaves

    chosen_leaves : (l : Link) (fs : List Frame) (n : ℕ) {w : World} → Sound w → Leaves (OfTurn Of) (chosen M l fs n w)
    chosen_leaves (row m) fs n h = leaves tt h
    chosen_leaves nowhere fs n h = search (keeping, behind_leaves)

    acted : (fs : List Frame) (n : ℕ) {w : World} → Sound w → Leaves (OfTurn Of) (bind (M.act n w) (λ d v. done M d fs n v))
    acted fs n {w} h = bind_leaves (acts n w h) λ d v e k. done_leaves d fs n e k

    ruleset flow = (keeping, behind_leaves, into_leaves, chosen_leaves)

    pub statement_leaves : (s : Statement) (fs : List Frame) (n : ℕ) {w : World} → Sound w → Leaves (OfTurn Of) (statement M s fs n w)
    unfolding statement
    statement_leaves null fs n h = search flow
    statement_leaves (declare ns) fs n h = acted fs n h
    statement_leaves (procedure ns t) fs n h = search flow
    statement_leaves (assign t x) fs n h = search (flow, assigned_leaves)
    statement_leaves (conditional x) fs n h = search (flow, truth_leaves)
    statement_leaves group fs n h = search flow
    statement_leaves (iterated t x bs) fs n h = search (flow, start_leaves)
    statement_leaves (goto t) fs n h = search (flow, follow_leaves)
    statement_leaves (include ns) fs n h = acted fs n h
    statement_leaves (activate ns) fs n h = acted fs n h
    statement_leaves (deactivate ns) fs n h = acted fs n h
    statement_leaves (return x) fs n h = acted fs n h

    pub turn_leaves : (x : Next) (fs : List Frame) {w : World} → Sound w → Leaves (OfTurn Of) (turn M x fs w)
    unfolding turn
    turn_leaves (begin n) fs h = search (keeping, charge_leaves, statement_leaves)
    turn_leaves (again g) fs h = search (flow, stepped_leaves)
    turn_leaves no_next fs h = leaves tt h

    continued_leaves : {r : Res E Turn} (f : Next → List Frame → World → Res E End) → Leaves (OfTurn Of) r → ((x : Next) (fs : List Frame) (w : World) → Sound w → Leaves (OfEnd Of) (f x fs w)) → Leaves (OfEnd Of) (continued M r f)
    continued_leaves f (leaves {a = on x fs} {w} e h) k = k x fs w h
    continued_leaves f (leaves {a = ended x} e h) k = leaves e h
    continued_leaves f (stops h) k = stops h

    pub run_on_leaves : (f : ℕ) (x : Next) (fs : List Frame) (w : World) → Sound w → Leaves (OfEnd Of) (run_on M f x fs w)
    unfolding run_on
    run_on_leaves zero (begin n) fs w h = halt h
    run_on_leaves zero (again g) fs w h = continued_leaves _ (turn_leaves (again g) fs h) (λ x gs v k. halt k)
    run_on_leaves zero no_next fs w h = leaves tt h
    run_on_leaves (suc f) (begin n) fs w h = search (continued_leaves, turn_leaves, run_on_leaves f)
    run_on_leaves (suc f) (again g) fs w h = search (continued_leaves, turn_leaves, run_on_leaves f)
    run_on_leaves (suc f) no_next fs w h = leaves tt h

  -- ---- procedures
  stored_all : (ps : List Parameter) (vs : List Value) {w : World} → OfAll Of vs → Sound w → Sound (store_all ps vs w)
  stored_all [] vs e h = h
  stored_all (p ∷ ps) [] e h = h
  stored_all (p ∷ ps) (v ∷ vs) {w} e h = stored_all ps vs e.1 (laws.stored p.at v w e.0 h)

  pub act_leaves : (s : Statement) (t : Type') (u : ℕ) (value : Tree → World → Res Why Value) → ((x : Tree) (w : World) → Sound w → Leaves Of (value x w)) → {w : World} → Sound w → Leaves (OfDeed Of) (act_in s t u value w)
  act_leaves null t u value k h = leaves tt h
  act_leaves (declare ns) t u value k h = leaves tt h
  act_leaves (procedure ns x) t u value k h = leaves tt h
  act_leaves (assign n x) t u value k h = leaves tt h
  act_leaves (conditional x) t u value k h = leaves tt h
  act_leaves group t u value k h = leaves tt h
  act_leaves (iterated n x bs) t u value k h = leaves tt h
  act_leaves (goto n) t u value k h = leaves tt h
  act_leaves (include ns) t u value k h = leaves tt h
  act_leaves (activate ns) t u value k h = leaves tt h
  act_leaves (deactivate ns) t u value k h = leaves tt h
  act_leaves (return x) t u value k {w} h = bind_leaves (k x w h) λ v y p q. bind_leaves (put_leaves u (laws.converts t v p) q) λ c z e i. leaves e i

  jump_local_lem : (d : Denotation) (rs : List Row) (n : ℕ) {w : World} → Sound w → Leaves Any (jump_local d rs n w)
  jump_local_lem (variable_of t) rs n h = halt h
  jump_local_lem (entry_of e b) rs n h = halt h
  jump_local_lem (label_at m r x) rs n h = search keeping
  jump_local_lem builtin_name rs n h = halt h

  jump_global_lem : (d : Denotation) {w : World} → Sound w → Leaves Any (jump_global d w)
  jump_global_lem (variable_of t) h = halt h
  jump_global_lem (entry_of e b) h = halt h
  jump_global_lem (label_at m r x) h = halt h
  jump_global_lem builtin_name h = halt h

  jump_out_lem : (x : Address) {w : World} → Sound w → Leaves Any (jump_out x w)
  jump_out_lem (address a) h = search jump_global_lem
  jump_out_lem unknown h = halt h

  pub jump_in_lem : (x : Address) (t : List ℕ) (rs : List Row) (n : ℕ) {w : World} → Sound w → Leaves Any (jump_in x t rs n w)
  jump_in_lem (address a) t rs n h = search jump_local_lem
  jump_in_lem unknown t rs n h = search jump_out_lem

  value_leaves : {r : Res Why End} → Leaves (OfEnd Of) r → Leaves Of (value_of r)
  value_leaves (leaves {a = ran} e h) = halt h
  value_leaves (leaves {a = returned v} e h) = leaves e h
  value_leaves (leaves {a = went t} e h) = halt h
  value_leaves (stops h) = stops h

  body_leaves : (run : Call) → KeepingCall run → (m r u : ℕ) {w : World} → Sound w → Leaves Of (body_run run m r u w)
  unfolding body_run body_machine
  body_leaves run runs m r u {w} h =
      value_leaves (run_on_leaves (body_machine run m r u (W.rows_of m w)) Any (λ n. tt) (λ n. tt) (λ x v k. evaluate_leaves run runs (W.procedure_at m r) x u v k) (λ s v _ k. passes k)
      (λ n v k. act_leaves (W.row_of (W.rows_of m w) n).statement _ u _ (λ x z i. evaluate_leaves run runs (W.procedure_at m r) x u z i) k) (λ n t v k. jump_in_lem (W.address_of t (W.procedure_at m r) v) t (W.rows_of m w) n k) _ _ [] w h)

  pub calls_leaves : (n : ℕ) (ps : List Place) → KeepingCall (calls n ps)
  unfolding calls
  calls_leaves zero ps c vs u w e h = search keeping
  calls_leaves (suc n) ps c vs u w e h = search (keeping, stored_all, body_leaves, calls_leaves n)

  -- ---- scanning values and arguments, where `run` keeps
  abbrev KeepingScanner : Scanner → Type 0
  KeepingScanner scan = (i : Into) (t : List ℕ) (u : ℕ) (w : World) → Sound w → Leaves (FitsIn i) (scan i t u w)

  abbrev pub KeepingReplacer : Replacer → Type 0
  KeepingReplacer replace = (t : List ℕ) (p a : ℕ) (x : Activity) (i : Into) (u : ℕ) (w : World) → Awake x → Sound w → Leaves (λ r. FitsIn i r.bytes) (replace t p a x i u w)

  up_to_lem : (i : Into) (p : ℕ) {r : Res Why (List ℕ)} → Leaves (FitsIn i) r → Leaves (λ (x : Replaced). FitsIn i x.bytes) (up_to p r)
  up_to_lem i p h = bind_leaves h λ l w e k. leaves e k

  module _ (scan : Scanner) (scans : KeepingScanner scan) where
    outcome_leaves : (x : Activity) → Awake x → (i : Into) (u : ℕ) (l : List ℕ) {w : World} → Sound w → Leaves (FitsIn i) (outcome x scan i u l w)
    outcome_leaves inactive y i u l h = absurd y
    outcome_leaves rescanned y i u l {w} h = when_leaves (leb (u + length l) unfinished_bytes) _ _ (scans i l (u + length l) w h) (halt h)
    outcome_leaves copied_only y i u l {w} h = when_has (Leaves (FitsIn i)) (fits i u 0 (length l)) _ _ (λ e. leaves {a = l} (omega (arith, fits_room i u 0 (length l) e)) h) λ _. halt h

    pub scan_arguments_leaves : (t : List ℕ) (ps : List Parameter) (xs : List Argument) (u : ℕ) (w : World) → Sound w → Leaves (OfAll Of) (scan_arguments scan t ps xs u w)
    unfolding scan_arguments
    scan_arguments_leaves t [] xs u w h = leaves tt h
    scan_arguments_leaves t (p ∷ ps) [] u w h = leaves tt h
    scan_arguments_leaves t (p ∷ ps) (x ∷ xs) u w h =
        bind_leaves (scans (to_work value_length) _ u w h) λ l v e k. bind_leaves (put_leaves u (laws.converts p.type (characters l) (laws.scanned l e)) k) λ y z f g.
        bind_leaves (scan_arguments_leaves t ps xs (u + size_of y) z g) λ ys r i j. leaves (f, i) j

    replace_cell_lem : (c : Cell) (p : ℕ) (x : Activity) → Awake x → (i : Into) (u : ℕ) {w : World} → Sound w → Leaves (λ r. FitsIn i r.bytes) (replace_cell c scan p x i u w)
    replace_cell_lem W.no_value p x y i u h = halt h
    replace_cell_lem (W.holds v) p x y i u h = up_to_lem i p (outcome_leaves x y i u (Values.to_characters v) h)

    module _ (run : Call) (runs : KeepingCall run) (x : Activity) (y : Awake x) (i : Into) (u : ℕ) where
      call_leaves : (c : Callee) (vs : List Value) {w : World} → OfAll Of vs → Sound w → Leaves (FitsIn i) (call_with run scan x i u c vs w)
      unfolding call_with
      call_leaves c vs {w} e h = bind_leaves (runs c vs u w e h) λ v z _ k. outcome_leaves x y i u (Values.to_characters v) k

      list_leaves : (t : List ℕ) (c : Callee) (a : Arguments) {w : World} → Sound w → Leaves (λ r. FitsIn i r.bytes) (with_list run scan t x i u c a w)
      list_leaves t c no_list h = halt h
      list_leaves t c (list_up_to xs q) {w} h =
          when_leaves (eqb (length xs) (length c.parameters)) _ _
          (bind_leaves (scan_arguments_leaves t c.parameters xs u w h) λ vs z e k. up_to_lem i q (call_leaves c vs e k)) (halt h)

      replace_entry_lem : (t : List ℕ) (p : ℕ) (c : Callee) {w : World} → Sound w → Leaves (λ r. FitsIn i r.bytes) (replace_entry mixed run scan t p x i u c w)
      unfolding replace_entry
      replace_entry_lem t p c {w} h = when_leaves (eqb (length c.parameters) 0) _ _ (up_to_lem i p (call_leaves c [] tt h)) (list_leaves t c (list_at mixed t p) h)

      replace_as_lem : (d : Denotation) (t : List ℕ) (p a : ℕ) {w : World} → Sound w → Leaves (λ r. FitsIn i r.bytes) (replace_as mixed d run scan t p a x i u w)
      replace_as_lem (variable_of k) t p a {w} h = replace_cell_lem (value_at a w) p x y i u h
      replace_as_lem (entry_of e b) t p a {w} h = bind_leaves (ask_leaves (any_given (callee b w)) h) λ c v _ k. replace_entry_lem t p c k
      replace_as_lem (label_at m r z) t p a h = halt h
      replace_as_lem builtin_name t p a h = halt h

  module _ (replace : Replacer) (replaces : KeepingReplacer replace) (i : Into) (t : List ℕ) (u : ℕ) where
    token_leaves : (x : Active) → AllAwake x → (out : List ℕ) → FitsIn i out → (p q : ℕ) (f : List ℕ → ℕ → World → Res Why (List ℕ)) → ((o : List ℕ) (q : ℕ) (w : World) → FitsIn i o → Sound w → Leaves (FitsIn i) (f o q w)) → {w : World} → Sound w → Leaves (FitsIn i) (token x replace i t out u p q w f)
    token_leaves not_active y out e p q f k {w} h =
        when_has (Leaves (FitsIn i)) (fits i u (length out) (q - p)) _ _
        (λ g. k (out ++ part (q - p) p t) q w (simp (length-append, length_part) (fits_room i u (length out) (q - p) g)) h) λ _. halt h
    token_leaves (active a x) y out e p q f k {w} h =
        bind_leaves (replaces t q a x (after i (length out)) _ w y h) λ r v g j. k (out ++ r.bytes) r.to v (fits_after i out r.bytes e g) j

    pub scan_on_leaves : (f : ℕ) (out : List ℕ) (p : ℕ) (w : World) → FitsIn i out → Sound w → Leaves (FitsIn i) (scan_on mixed replace i t u f out p w)
    unfolding scan_on
    scan_on_leaves zero out p w e h = leaves e h
    scan_on_leaves (suc f) out p w e h = when_leaves (leb (length t) p) _ _ (leaves e h)
        (bind_leaves (charge_leaves h) λ _ v _ k. token_leaves (active_in (piece_at mixed t p).piece v) (awake_in (piece_at mixed t p).piece v) out e p (piece_at mixed t p).to _ (scan_on_leaves f) k)

  pub replacer_leaves : (run : Call) → KeepingCall run → (n : ℕ) → KeepingReplacer (replacer mixed run n)
  unfolding replacer
  replacer_leaves run runs zero t p a x i u w y h = halt h
  replacer_leaves run runs (suc n) t p a x i u w y h =
      replace_as_lem (scan_with mixed (replacer mixed run n)) (λ j l v z k. scan_on_leaves (replacer mixed run n) (replacer_leaves run runs n) j l v (suc (length l)) [] 0 z (omega arith) k) run runs x y i u (W.denotation a w) t p a h

  -- ---- entering a member
  data SoundDeclaring : Declaring → Type 0 where
    fine_sound : {w : World} → Sound w → SoundDeclaring (fine w)
    second_any : {p : ℕ} → SoundDeclaring (second p)

  pub data SoundEntering : Entering → Type 0 where
    entered_sound : {w : World} → Sound w → SoundEntering (entered w)
    unreadable_any : {e : Why} {p : ℕ} → SoundEntering (unreadable e p)

  declared_at_lem : (x : Address) (i : Identifier) (d : Denotation) (p : ℕ) {w : World} → Sound w → SoundDeclaring (declared_at x i d p w)
  declared_at_lem unknown i d p {w} h = fine_sound (laws.named (add_name i d w) w h (record { limit = refl; used = refl; layout = refl; events = refl; text_left = refl; lines_left = refl; passes = refl }) refl)
  declared_at_lem (address a) i d p {w} h = go (joint_of (W.denotation a w) d)
    where
      go : (j : Joint) → SoundDeclaring (elim j [ joint e ↦ fine (set_denotation a e w) | twice ↦ second p ])
      go (joint e) = search (fine_sound, kept_by)
      go twice = second_any

  onward_sound : {x : Declaring} (f : World → Declaring) → SoundDeclaring x → ((v : World) → Sound v → SoundDeclaring (f v)) → SoundDeclaring (Names.onward x f)
  onward_sound f (fine_sound {w} h) k = k w h
  onward_sound f second_any k = second_any

  declare_one_lem : (n : New) (i : Identifier) (ps : List Identifier) (p : ℕ) (f : List Identifier → World → Declaring) → ((qs : List Identifier) (v : World) → Sound v → SoundDeclaring (f qs v)) → {w : World} → Sound w → SoundDeclaring (declare_one n i ps p w f)
  declare_one_lem (new d) i ps p f k h = search (onward_sound, declared_at_lem)
  declare_one_lem listing i ps p f k {w} h = when_has SoundDeclaring (is_listed i ps) _ _ (λ _. second_any) (λ _. k (i ∷ ps) w h)

  declare_all_lem : (m : ℕ) (ps : List Identifier) (ds : List Declared) (w : World) → Sound w → SoundDeclaring (declare_all m ps ds w)
  unfolding declare_all
  declare_all_lem m ps [] w h = fine_sound h
  declare_all_lem m ps (d ∷ ds) w h = declare_one_lem (new_of m d.meaning) (identifier_of m d) ps d.place _ (λ qs v k. declare_all_lem m qs ds v k) h

  entered_as_lem : (f : Fault) (m : ℕ) (s : Source) {w : World} → Sound w → SoundEntering (entered_as f m s w)
  entered_as_lem (faulty e p) m s h = unreadable_any
  entered_as_lem sound m s {w} h = go (declare_all_lem m [] s.declared w h)
    where
      go : {x : Declaring} → SoundDeclaring x → SoundEntering (elim x [ fine v ↦ entered (with_member m s v) | second p ↦ unreadable declared_twice p ])
      go (fine_sound k) = search (entered_sound, kept_by)
      go second_any = unreadable_any

  pub enter_leaves : (m : ℕ) (s : Source) {w : World} → Sound w → SoundEntering (enter m s w)
  unfolding enter
  enter_leaves m s {w} h = entered_as_lem (fault_of m s w) m s h
