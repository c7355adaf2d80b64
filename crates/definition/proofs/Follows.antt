-- Two runs in step: in a world with more steps, bytes and lines left, every part of a run gives the same, unless the first one
-- ends for want of steps or room.
-- Assumes nothing.
use Prim.Native.Nat.{ℕ, zero, suc, ◌+◌, ◌-◌, ◌≤◌}
use native.Mathlib.Nat.{not-suc-le-zero}
use native.Mathlib.Omega.{arith}
use mathlib.Core.Bool.{Bool, true, false, cond, ◌||◌}
use mathlib.Core.List.{List, [], ◌∷◌, ◌++◌}
use mathlib.Core.Path.{◌≡◌, refl}
use lib.Dec.{leb, ltb, eqb}
use lib.IntN.{ℤ}
use lib.ListN.{length}
use borrow.Author.Tests.{leb-true, le-leb, ltb-true, ltb-false, lt-ltb, le-ltb}
use Rattle.definition.specs.Bytes.{mixed}
use Rattle.definition.specs.Choice.{when}
use Rattle.definition.specs.Steps.{is_left, used_after}
use Rattle.definition.specs.Limits.{value_length, unfinished_bytes}
use Rattle.definition.specs.Refusal.{Why, no_step, room_full}
use Rattle.definition.specs.Expressions.{Tree, integer_of, string_of, bits_of, reference, call, unary, binary, none, more}
use Rattle.definition.specs.Program.{Type', fixed_type, character_type, Bound, by, upto, Statement, null, declare, procedure, assign, conditional, group, iterated, goto, include, activate, deactivate, return, is_iterated, Link, nowhere, row, Role, listed, then_part, else_part, Stretch, Row}
use Rattle.definition.specs.Fixed as Fixed
use Rattle.definition.specs.Values as Values
use Rattle.definition.specs.Values.{Value, characters, Answer, gives, fails, convert, size_of}
use Rattle.definition.specs.World as W
use Rattle.definition.specs.World.{Owner, Denotation, variable_of, entry_of, label_at, builtin_name, Address, address, unknown, Cell, Activity, inactive, rescanned, copied_only, Pass, World, Res, good, bad, bind, placed, ask, with_used, charge, seen_from, value_at, store, Body, address_of, or_global, row_of, rows_of}
use Rattle.definition.specs.Events.{Event}
use Rattle.definition.specs.Cards.{Layout}
use Rattle.definition.proofs.Views.{taken_by, FullEvents}
use Rattle.definition.specs.Evaluate as Evaluate
use Rattle.definition.specs.Evaluate.{Parameter, Meant, a_variable, an_entry, the_substr, no_such, meant, meant_at, Callee, callee, parameters, parameter_at, listed_in, Wish, wishes, substr_wishes, count, Call, put, read_cell, plain_name, listed_name, evaluate}
use Rattle.definition.specs.Flow.{is_once, Jump, to_row, to_end, away, Deed, passed, gave, jumps, Next, begin, again, no_next, End, ran, returned, went, Frame, Machine, Turn, on, ended, end_in, next_in, up_from, behind_as, behind_on, lead_out, first_in, end_of, behind, onward, alternative_of, in_row, into, target_as, target_at, assigned, truth, number, bounded, bounds, start_as, start_in, start_at, frame_of, number_at, stepped, follow, done, chosen, statement, turn, continued, run_on, may_go}
use Rattle.definition.specs.Calls.{Place, is_running, store_all, act_in, jump_local, jump_global, jump_out, jump_in, body_machine, first_of, value_of, body_run, calls}
use Rattle.definition.specs.Lists.{part}
use Rattle.definition.specs.Tokens.{Piece, name, plain, unclosed, piece_at}
use Rattle.definition.specs.Scan.{Into, to_text, to_work, fits, full, after, waiting, Scanner, outcome, Argument, Arguments, list_up_to, no_list, list_at, scan_arguments, Replacer, up_to, call_with, with_list, replace_entry, replace_cell, replace_as, Active, not_active, active, active_at, active_name, active_in, token, scan_on, scan_with, replacer}

-- the lines that the second world has more, by the events so far, where the deck of the second run may have another layout:
-- what the first run takes more for an event
pub record Extra : Type 0 where
  pub lines : Layout → List Event → ℕ
  pub layout : Layout → Layout
  pub balance : (y : Layout) (e : Event) (es : List Event) → FullEvents (e ∷ []) → lines y (e ∷ es) + taken_by (layout y) e es ≡ lines y es + taken_by y e es

-- so many more at each time, in the same layout
abbrev pub extra : ℕ → Extra
extra c = record { lines = λ y es. c; layout = λ y. y; balance = λ y e es _. refl }

abbrev pub none_extra : Extra
none_extra = extra 0

-- `Short` are the refusals after which nothing is said of the second run. Those for want of steps and room are among
-- them, or the second world has no more than the first
pub data Spare (a b : ℕ) (c : Extra) (Short : Why → Type 0) : Type 0 where
  more_left : Short no_step → Short room_full → Spare a b c Short
  more_room : a ≡ 0 → Short room_full → Spare a b c Short
  no_more : a ≡ 0 → b ≡ 0 → c ≡ none_extra → Spare a b c Short

pub data Same {E : Type 0} : E → E → Type 0 where
  same : {e : E} → Same e e

module _ (a b : ℕ) (c : Extra) (gs : List Pass) (Short : Why → Type 0) (spare : Spare a b c Short) where
  -- a world with a more steps, b more bytes and the lines of c more left, and with more in its ghost
  abbrev pub grow : World → World
  grow w = record { identifiers = w.identifiers; denotations = w.denotations; values = w.values; activities = w.activities; members = w.members; sentences = w.sentences; limit = w.limit + a; used = w.used; layout = c.layout w.layout; events = w.events; text_left = w.text_left + b; lines_left = w.lines_left + c.lines w.layout w.events; passes = w.passes ++ gs }

  -- what the second run gives, by what the first gives
  pub data Follows {E F A : Type 0} (Alike : E → F → Type 0) (Lacks : E → Type 0) : Res E A → Res F A → Type 0 where
    goes : {x : A} {w : World} → Follows Alike Lacks (good x w) (good x (grow w))
    halts : {e : E} {f : F} {u : ℕ} → Alike e f → Follows Alike Lacks (bad e u) (bad f u)
    lacks : {e : E} {u : ℕ} {r : Res F A} → Lacks e → Follows Alike Lacks (bad e u) r

  abbrev pub Fol : {A : Type 0} → Res Why A → Res Why A → Type 0
  Fol r s = Follows Same Short r s

  pub halt : {A : Type 0} {e : Why} {u : ℕ} → Follows {A = A} Same Short (bad e u) (bad e u)
  halt = halts same

  pub bind_follows : {E F A B : Type 0} {Alike : E → F → Type 0} {Lacks : E → Type 0} {r : Res E A} {s : Res F A} (f : A → World → Res E B) (g : A → World → Res F B) → Follows Alike Lacks r s → ((x : A) (w : World) → Follows Alike Lacks (f x w) (g x (grow w))) → Follows Alike Lacks (bind r f) (bind s g)
  bind_follows f g (goes {x} {w}) k = k x w
  bind_follows f g (halts h) k = halts h
  bind_follows f g (lacks h) k = lacks h

  pub placed_follows : {E F A : Type 0} {Alike : E → F → Type 0} {Lacks : E → Type 0} {r s : Res Why A} (f : Why → E) (g : Why → F) → ((e : Why) → Alike (f e) (g e)) → ((e : Why) → Short e → Lacks (f e)) → Fol r s → Follows Alike Lacks (placed f r) (placed g s)
  placed_follows f g i j goes = goes
  placed_follows f g i j (halts {e} same) = halts (i e)
  placed_follows f g i j (lacks {e} h) = lacks (j e h)

  pub when_follows : {E F A : Type 0} {Alike : E → F → Type 0} {Lacks : E → Type 0} (t : Bool) (f g : Unit {0} → Res E A) (h k : Unit {0} → Res F A) → Follows Alike Lacks (f tt) (h tt) → Follows Alike Lacks (g tt) (k tt) → Follows Alike Lacks (when t f g) (when t h k)
  when_follows true f g h k i j = i
  when_follows false f g h k i j = j

  -- the same, where what is chosen may be used
  pub when_follows_by : {E F A : Type 0} {Alike : E → F → Type 0} {Lacks : E → Type 0} (t : Bool) (f g : Unit {0} → Res E A) (h k : Unit {0} → Res F A) → (t ≡ true → Follows Alike Lacks (f tt) (h tt)) → (t ≡ false → Follows Alike Lacks (g tt) (k tt)) → Follows Alike Lacks (when t f g) (when t h k)
  when_follows_by true f g h k i j = i refl
  when_follows_by false f g h k i j = j refl

  pub ask_follows : {A : Type 0} (x : Answer A) (w : World) → Fol (ask x w) (ask x (grow w))
  ask_follows (gives x) w = goes
  ask_follows (fails e) w = halt

  pub ruleset following = (goes, halt, bind_follows, when_follows, ask_follows)

  pub charge_follows : (w : World) → Fol (charge w) (charge (grow w))
  unfolding charge is_left used_after
  charge_follows w = go spare (ltb w.used w.limit) refl
    where
      go : Spare a b c Short → (t : Bool) → ltb w.used w.limit ≡ t → Fol (when t (λ _. good (tt {0}) (with_used (cond t (w.used + 1) w.used) w)) (λ _. bad no_step w.used)) (when (ltb w.used (w.limit + a)) (λ _. good (tt {0}) (with_used (cond (ltb w.used (w.limit + a)) (w.used + 1) w.used) (grow w))) (λ _. bad no_step w.used))
      go x true e = rw (lt-ltb w.used (w.limit + a) (omega (arith, ltb-true w.used w.limit e))) goes
      go (more_left s r) false e = lacks s
      go (more_room p r) false e = rw (le-ltb w.used (w.limit + a) (omega (arith, ltb-false w.used w.limit e))) halt
      go (no_more p q r) false e = rw (le-ltb w.used (w.limit + a) (omega (arith, ltb-false w.used w.limit e))) halt

  -- ---- expressions, where `run` follows
  pub put_follows : (u : ℕ) (x : Answer Value) (w : World) → Fol (put u x w) (put u x (grow w))
  unfolding put
  put_follows u x w = search following

  cell_follows : (x : Cell) (u : ℕ) (w : World) → Fol (read_cell x u w) (read_cell x u (grow w))
  cell_follows W.no_value u w = halt
  cell_follows (W.holds v) u w = put_follows u (gives v) w

  parameter_same : (x : Address) (w : World) → parameter_at x (grow w) ≡ parameter_at x w
  parameter_same (address y) w = refl
  parameter_same unknown w = refl

  parameters_same : (k : Owner) (ns : List (List ℕ)) (w : World) → parameters k ns (grow w) ≡ parameters k ns w
  unfolding parameters
  parameters_same k [] w = refl
  parameters_same k (n ∷ ns) w = rw (parameter_same (address_of n k w) w, parameters_same k ns w)

  callee_same : (x : Body) (w : World) → callee x (grow w) ≡ callee x w
  unfolding callee
  callee_same W.no_body w = refl
  callee_same (W.body_at m r) w = rw (parameters_same (W.procedure_at m r) (listed_in (row_of (rows_of m w) r).statement) w)

  pub callee_follows : (x : Body) (w : World) → Fol (ask (callee x w) w) (ask (callee x (grow w)) (grow w))
  callee_follows x w = rw (callee_same x w) (ask_follows (callee x w) w)

  global_same : (x : Address) (n : List ℕ) (w : World) → or_global x n (grow w) ≡ or_global x n w
  global_same (address y) n w = refl
  global_same unknown n w = refl

  pub seen_same : (k : Owner) (n : List ℕ) (w : World) → seen_from k n (grow w) ≡ seen_from k n w
  unfolding seen_from
  seen_same k n w = global_same (address_of n k w) n w

  meant_at_lem : (x : Address) (n : List ℕ) (w : World) → meant_at x n (grow w) ≡ meant_at x n w
  meant_at_lem (address y) n w = refl
  meant_at_lem unknown n w = refl

  meant_same : (k : Owner) (n : List ℕ) (w : World) → meant k n (grow w) ≡ meant k n w
  unfolding meant
  meant_same k n w = rw (seen_same k n w) (meant_at_lem (seen_from k n w) n w)

  abbrev pub FollowingCall : Call → Type 0
  FollowingCall run = (x : Callee) (vs : List Value) (u : ℕ) (w : World) → Fol (run x vs u w) (run x vs u (grow w))

  module _ (run : Call) (runs : FollowingCall run) where
    plain_follows : (m : Meant) (u : ℕ) (w : World) → Fol (plain_name run m u w) (plain_name run m u (grow w))
    unfolding plain_name
    plain_follows (a_variable x t) u w = cell_follows (value_at x w) u w
    plain_follows (an_entry y) u w = bind_follows _ _ (callee_follows y w) λ x v. when_follows (eqb (length x.parameters) 0) _ _ _ _ (runs x [] u v) halt
    plain_follows the_substr u w = halt
    plain_follows no_such u w = halt

    listed_follows : (take : List Wish → ℕ → World → Res Why (List Value)) → ((ws : List Wish) (u : ℕ) (w : World) → Fol (take ws u w) (take ws u (grow w))) → (n : ℕ) (m : Meant) (u : ℕ) (w : World) → Fol (listed_name run take n m u w) (listed_name run take n m u (grow w))
    unfolding listed_name
    listed_follows take takes n (a_variable x t) u w = halt
    listed_follows take takes n (an_entry y) u w = bind_follows _ _ (callee_follows y w) λ x v.
        when_follows (eqb (length x.parameters) n) _ _ _ _ (bind_follows _ _ (takes (wishes x.parameters) u v) λ vs z. runs x vs u z) halt
    listed_follows take takes n the_substr u w =
        when_follows (eqb n 2 || eqb n 3) _ _ _ _ (bind_follows _ _ (takes substr_wishes u w) λ vs z. put_follows u (Values.substr vs) z) halt
    listed_follows take takes n no_such u w = halt

    -- of every tree, as an expression and as a list of arguments
    module _ (k : Owner) where
      abbrev FollowingValue : Tree → Type 0
      FollowingValue x = (u : ℕ) (w : World) → Fol (evaluate run k x u w) (evaluate run k x u (grow w))

      abbrev FollowingArguments : Tree → Type 0
      FollowingArguments x = (ws : List Wish) (u : ℕ) (w : World) → Fol (Evaluate.arguments run k x ws u w) (Evaluate.arguments run k x ws u (grow w))

      more_follows : (x y : Tree) → FollowingValue x → FollowingArguments y → FollowingArguments (more x y)
      unfolding Evaluate.arguments
      more_follows x y f g [] u w = goes
      more_follows x y f g (i ∷ is) u w =
          bind_follows _ _ (f u w) λ v q. bind_follows _ _ (put_follows u (Evaluate.wished i v) q) λ e z.
          bind_follows _ _ (g is (u + size_of e) z) λ es r. goes

      mutual
        unfolding evaluate Evaluate.arguments

        pub evaluate_follows : (x : Tree) → FollowingValue x
        evaluate_follows (integer_of ds) = λ u w. ask_follows (Values.and_then (Values.constant ds) λ z. gives (Values.fixed z)) w
        evaluate_follows (string_of l) = λ u w. put_follows u (Values.limited (characters l)) w
        evaluate_follows (bits_of l) = λ u w. put_follows u (Values.limited (Values.bit_value l)) w
        evaluate_follows (reference n) = λ u w. rw (meant_same k n w) (plain_follows (meant k n w) u w)
        evaluate_follows (call n xs) = λ u w. rw (meant_same k n w) (listed_follows _ (arguments_follows xs) (count xs) (meant k n w) u w)
        evaluate_follows (unary o x) = λ u w. bind_follows _ _ (evaluate_follows x u w) λ y v. put_follows u (Values.prefixed o y) v
        evaluate_follows (binary o x y) = λ u w. bind_follows _ _ (evaluate_follows x u w) λ i v.
            bind_follows _ _ (evaluate_follows y (u + size_of i) v) λ j z. put_follows u (Values.infixed u o i j) z
        evaluate_follows none = λ u w. halt
        evaluate_follows (more x y) = λ u w. halt

        pub arguments_follows : (x : Tree) → FollowingArguments x
        arguments_follows (integer_of ds) = λ ws u w. goes
        arguments_follows (string_of l) = λ ws u w. goes
        arguments_follows (bits_of l) = λ ws u w. goes
        arguments_follows (reference n) = λ ws u w. goes
        arguments_follows (call n xs) = λ ws u w. goes
        arguments_follows (unary o x) = λ ws u w. goes
        arguments_follows (binary o x y) = λ ws u w. goes
        arguments_follows none = λ ws u w. goes
        arguments_follows (more x y) = more_follows x y (evaluate_follows x) (arguments_follows y)

  -- ---- rows, in two machines that differ in what they do, where what they do follows; of texts it is asked of those of the rows
  module _ {E F : Type 0} {Alike : E → F → Type 0} {Lacks : E → Type 0} (M : Machine E) (fault : Row → Why → F) (value : Tree → World → Res Why Value) (out : Stretch → World → Res F (Unit {0})) (act : ℕ → World → Res F Deed) (jump : ℕ → List ℕ → World → Res F Jump)
      (faults : (r : Row) (e : Why) → Alike (M.fault r e) (fault r e)) (shorts : (r : Row) (e : Why) → Short e → Lacks (M.fault r e))
      (values : (x : Tree) (w : World) → Fol (M.value x w) (value x (grow w)))
      (Text : Stretch → Type 0) (texts : (n : ℕ) → Text (row_of M.rows n).text) (leads : (n : ℕ) → Text (row_of M.rows n).lead)
      (outs : (s : Stretch) → Text s → (w : World) → Follows Alike Lacks (M.out s w) (out s (grow w)))
      (acts : (n : ℕ) (w : World) → Follows Alike Lacks (M.act n w) (act n (grow w)))
      (gotos : (n : ℕ) (t : List ℕ) (w : World) → Follows Alike Lacks (M.jump n t w) (jump n t (grow w))) where
    abbrev N : Machine F
    N = record { rows = M.rows; owner = M.owner; fault = fault; value = value; waiting = M.waiting; out = out; act = act; jump = jump }

    abbrev Ties : {A : Type 0} → Res E A → Res F A → Type 0
    Ties r s = Follows Alike Lacks r s

    end_follows : (s : Statement) (g : ℕ) (fs : List Frame) (up : Unit {0} → Res E Next) (down : Unit {0} → Res F Next) → Ties (up tt) (down tt) → (w : World) → Ties (end_in M s g fs up w) (end_in N s g fs down (grow w))
    unfolding is_iterated
    end_follows null g fs up down k w = k
    end_follows (declare ns) g fs up down k w = k
    end_follows (procedure ns t) g fs up down k w = goes
    end_follows (assign n x) g fs up down k w = k
    end_follows (conditional x) g fs up down k w = k
    end_follows group g fs up down k w = k
    end_follows (iterated n x bs) g fs up down k w = when_follows (is_once g fs) _ _ _ _ k goes
    end_follows (goto n) g fs up down k w = k
    end_follows (include ns) g fs up down k w = k
    end_follows (activate ns) g fs up down k w = k
    end_follows (deactivate ns) g fs up down k w = k
    end_follows (return x) g fs up down k w = k

    module _ (fs : List Frame) (up : ℕ → World → Res E Next) (down : ℕ → World → Res F Next) (ups : (n : ℕ) (w : World) → Ties (up n w) (down n (grow w))) where
      next_follows : (l p : Link) (w : World) → Ties (next_in M l p fs up w) (next_in N l p fs down (grow w))
      next_follows (row m) p w = goes
      next_follows nowhere nowhere w = goes
      next_follows nowhere (row g) w = end_follows (row_of M.rows g).statement g fs (λ _. up g w) (λ _. down g (grow w)) (ups g w) w

      up_follows : (l : Link) (w : World) → Ties (up_from M l up w) (up_from N l down (grow w))
      up_follows nowhere w = goes
      up_follows (row g) w = ups g w

      behind_as_lem : (r : Role) (n : ℕ) (w : World) → Ties (behind_as M r n fs up w) (behind_as N r n fs down (grow w))
      behind_as_lem listed n w = bind_follows _ _ (outs (row_of M.rows n).text (texts n) w) λ _ v. next_follows (row_of M.rows n).next (row_of M.rows n).parent v
      behind_as_lem then_part n w = up_follows (row_of M.rows n).parent w
      behind_as_lem else_part n w = up_follows (row_of M.rows n).parent w

    pub behind_follows : (fs : List Frame) (f n : ℕ) (w : World) → Ties (behind_on M fs f n w) (behind_on N fs f n (grow w))
    unfolding behind_on
    behind_follows fs zero n w = goes
    behind_follows fs (suc f) n w = behind_as_lem fs _ _ (behind_follows fs f) (row_of M.rows n).role n w

    pub lead_follows : (s : Stretch) → Text s → (w : World) → Ties (lead_out M s w) (lead_out N s (grow w))
    unfolding lead_out
    lead_follows s t w = when_follows (ltb s.from s.to) _ _ _ _ (outs s t w) goes

    end_of_lem : (fs : List Frame) (g : ℕ) (w : World) → Ties (end_of M fs g w) (end_of N fs g (grow w))
    end_of_lem fs g w = end_follows (row_of M.rows g).statement g fs _ _ (behind_follows fs (suc g) g w) w

    first_follows : (l : Link) (g : ℕ) (fs : List Frame) (w : World) → Ties (first_in M l g fs w) (first_in N l g fs (grow w))
    first_follows (row m) g fs w = goes
    first_follows nowhere g fs w = end_of_lem fs g w

    pub into_follows : (fs : List Frame) (g : ℕ) (w : World) → Ties (into M fs g w) (into N fs g (grow w))
    unfolding into
    into_follows fs g w = bind_follows _ _ (lead_follows (row_of M.rows g).lead (leads g) w) λ _ v. first_follows (row_of M.rows g).child g fs v

    -- ---- statements
    in_row_lem : {A : Type 0} (n : ℕ) {r s : Res Why A} → Fol r s → Ties (in_row M n r) (in_row N n s)
    in_row_lem n h = placed_follows _ _ (faults (row_of M.rows n)) (shorts (row_of M.rows n)) h

    target_as_lem : (d : Denotation) (x : ℕ) (f g : ℕ → Type' → Res Why (Unit {0})) → ((y : ℕ) (t : Type') → Fol (f y t) (g y t)) → (w : World) → Fol (target_as M d x f w) (target_as N d x g (grow w))
    target_as_lem (variable_of t) x f g k w = k x t
    target_as_lem (entry_of e y) x f g k w = halt
    target_as_lem (label_at m r y) x f g k w = halt
    target_as_lem builtin_name x f g k w = halt

    target_follows : (x : Address) (f g : ℕ → Type' → Res Why (Unit {0})) → ((y : ℕ) (t : Type') → Fol (f y t) (g y t)) → (w : World) → Fol (target_at M x f w) (target_at N x g (grow w))
    target_follows (address y) f g k w = target_as_lem (W.denotation y w) y f g k w
    target_follows unknown f g k w = halt

    assigned_follows : (n : List ℕ) (x : Tree) (w : World) → Fol (assigned M n x w) (assigned N n x (grow w))
    unfolding assigned
    assigned_follows n x w = rw (seen_same M.owner n w) (target_follows (seen_from M.owner n w) _ _ (λ y t. bind_follows _ _ (values x w) λ v z. bind_follows _ _ (put_follows M.waiting (convert t v) z) λ i j. goes) w)

    truth_follows : (x : Tree) (w : World) → Fol (truth M x w) (truth N x (grow w))
    unfolding truth
    truth_follows x w = bind_follows _ _ (values x w) λ v y. ask_follows (Values.holds M.waiting v) y

    number_follows : (x : Tree) (w : World) → Fol (number M x w) (number N x (grow w))
    unfolding number
    number_follows x w = bind_follows _ _ (values x w) λ v y. ask_follows (Values.to_fixed v) y

    bounded_follows : (y : Bound) (f : Frame) (w : World) → Fol (bounded M y f w) (bounded N y f (grow w))
    bounded_follows (by x) f w = bind_follows _ _ (number_follows x w) λ z y. goes
    bounded_follows (upto x) f w = bind_follows _ _ (number_follows x w) λ z y. goes

    bounds_follows : (bs : List Bound) (f : Frame) (w : World) → Fol (bounds M bs f w) (bounds N bs f (grow w))
    unfolding bounds
    bounds_follows [] f w = goes
    bounds_follows (y ∷ bs) f w = bind_follows _ _ (bounded_follows y f w) λ g z. bounds_follows bs g z

    start_as_lem : (t : Type') (g x : ℕ) (y : Tree) (bs : List Bound) (w : World) → Fol (start_as M t g x y bs w) (start_as N t g x y bs (grow w))
    start_as_lem character_type g x y bs w = halt
    start_as_lem fixed_type g x y bs w = bind_follows _ _ (number_follows y w) λ z v. bind_follows _ _ (bounds_follows bs _ v) λ f i. goes

    start_in_lem : (d : Denotation) (x g : ℕ) (y : Tree) (bs : List Bound) (w : World) → Fol (start_in M d x g y bs w) (start_in N d x g y bs (grow w))
    start_in_lem (variable_of t) x g y bs w = start_as_lem t g x y bs w
    start_in_lem (entry_of e z) x g y bs w = halt
    start_in_lem (label_at m r q) x g y bs w = halt
    start_in_lem builtin_name x g y bs w = halt

    start_follows : (x : Address) (g : ℕ) (y : Tree) (bs : List Bound) (w : World) → Fol (start_at M x g y bs w) (start_at N x g y bs (grow w))
    start_follows (address x) g y bs w = start_in_lem (W.denotation x w) x g y bs w
    start_follows unknown g y bs w = halt

    started_follows : (t : List ℕ) (n : ℕ) (x : Tree) (bs : List Bound) (w : World) → Fol (start_at M (seen_from M.owner t w) n x bs w) (start_at N (seen_from M.owner t (grow w)) n x bs (grow w))
    started_follows t n x bs w = rw (seen_same M.owner t w) (start_follows (seen_from M.owner t w) n x bs w)

    frame_follows : (g : ℕ) (fs : List Frame) (f h : Frame → Res Why Bool) → ((x : Frame) → Fol (f x) (h x)) → (w : World) → Fol (frame_of M g fs f w) (frame_of N g fs h (grow w))
    frame_follows g [] f h k w = goes
    frame_follows g (x ∷ xs) f h k w = when_follows (eqb x.group g) _ _ _ _ (k x) (frame_follows g xs f h k w)

    at_follows : (x : Cell) (w : World) (f g : ℤ → Res Why Bool) → ((z : ℤ) → Fol (f z) (g z)) → Fol (number_at M x w f) (number_at N x (grow w) g)
    at_follows W.no_value w f g k = halt
    at_follows (W.holds v) w f g k = k (Values.as_number v)

    stepped_follows : (g : ℕ) (fs : List Frame) (w : World) → Fol (stepped M g fs w) (stepped N g fs (grow w))
    unfolding stepped
    stepped_follows g fs w = frame_follows g fs _ _ (λ f. at_follows (value_at f.at w) w _ _ λ z. bind_follows _ _ (ask_follows (Values.from_fixed (Fixed.sum z f.step)) w) λ y v. bind_follows _ _ (charge_follows (store f.at (Values.fixed y) v)) λ _ x. goes) w

    onward_follows : (fs : List Frame) {r : Res E Next} {s : Res F Next} → Ties r s → Ties (onward M fs r) (onward N fs s)
    onward_follows fs h = bind_follows _ _ h λ x v. goes

    follow_follows : (j : Jump) (fs : List Frame) (w : World) → Ties (follow M j fs w) (follow N j fs (grow w))
    follow_follows (to_row m) fs w = goes
    follow_follows (to_end g) fs w = onward_follows fs (end_of_lem fs g w)
    follow_follows (away t) fs w = goes

    on_behind : (fs : List Frame) (n : ℕ) (w : World) → Ties (onward M fs (behind M fs n w)) (onward N fs (behind N fs n (grow w)))
    on_behind fs n w = onward_follows fs (behind_follows fs (suc n) n w)

    done_follows : (d : Deed) (fs : List Frame) (n : ℕ) (w : World) → Ties (done M d fs n w) (done N d fs n (grow w))
    done_follows passed fs n w = on_behind fs n w
    done_follows (gave v) fs n w = goes
    done_follows (jumps j) fs n w = follow_follows j fs w

    chosen_follows : (l : Link) (fs : List Frame) (n : ℕ) (w : World) → Ties (chosen M l fs n w) (chosen N l fs n (grow w))
    chosen_follows (row m) fs n w = goes
    chosen_follows nowhere fs n w = on_behind fs n w

    other_same : (t : Bool) (n : ℕ) → alternative_of N t n ≡ alternative_of M t n
    other_same true n = refl
    other_same false n = refl

    acted : (fs : List Frame) (n : ℕ) (w : World) → Ties (bind (M.act n w) (λ d v. done M d fs n v)) (bind (act n (grow w)) (λ d v. done N d fs n v))
    acted fs n w = bind_follows _ _ (acts n w) λ d v. done_follows d fs n v

    pub statement_follows : (s : Statement) (fs : List Frame) (n : ℕ) (w : World) → Ties (statement M s fs n w) (statement N s fs n (grow w))
    unfolding statement
    statement_follows null fs n w = on_behind fs n w
    statement_follows (declare ns) fs n w = acted fs n w
    statement_follows (procedure ns t) fs n w = on_behind fs n w
    statement_follows (assign t x) fs n w = bind_follows _ _ (in_row_lem n (assigned_follows t x w)) λ _ v. on_behind fs n v
    statement_follows (conditional x) fs n w = bind_follows _ _ (in_row_lem n (truth_follows x w)) λ t v. rw (other_same t n) (chosen_follows (alternative_of M t n) fs n v)
    statement_follows group fs n w = onward_follows fs (into_follows fs n w)
    statement_follows (iterated t x bs) fs n w = bind_follows _ _ (in_row_lem n (started_follows t n x bs w)) λ s v.
        when_follows s.begins _ _ _ _ (onward_follows (s.frame ∷ fs) (into_follows (s.frame ∷ fs) n v)) (on_behind fs n v)
    statement_follows (goto t) fs n w = bind_follows _ _ (gotos n t w) λ j v. follow_follows j fs v
    statement_follows (include ns) fs n w = acted fs n w
    statement_follows (activate ns) fs n w = acted fs n w
    statement_follows (deactivate ns) fs n w = acted fs n w
    statement_follows (return x) fs n w = acted fs n w

    pub turn_follows : (x : Next) (fs : List Frame) (w : World) → Ties (turn M x fs w) (turn N x fs (grow w))
    unfolding turn
    turn_follows (begin n) fs w = bind_follows _ _ (in_row_lem n (charge_follows w)) λ _ v. statement_follows (row_of M.rows n).statement fs n v
    turn_follows (again g) fs w = bind_follows _ _ (in_row_lem g (stepped_follows g fs w)) λ t v. when_follows t _ _ _ _ (onward_follows fs (into_follows fs g v)) (on_behind fs g v)
    turn_follows no_next fs w = goes

    continued_follows : {r : Res E Turn} {s : Res F Turn} (f : Next → List Frame → World → Res E End) (g : Next → List Frame → World → Res F End) → Ties r s → ((x : Next) (fs : List Frame) (w : World) → Ties (f x fs w) (g x fs (grow w))) → Ties (continued M r f) (continued N s g)
    continued_follows f g (goes {x = on x fs} {w}) k = k x fs w
    continued_follows f g (goes {x = ended e} {w}) k = goes
    continued_follows f g (halts h) k = halts h
    continued_follows f g (lacks h) k = lacks h

    -- the first run has f turns left, the second as many or more
    run_on_less : Short no_step → (f g : ℕ) → f ≤ g → (x : Next) (fs : List Frame) (w : World) → Ties (run_on M f x fs w) (run_on N g x fs (grow w))
    unfolding run_on
    run_on_less s zero g h (begin n) fs w = lacks (shorts (row_of M.rows n) no_step s)
    run_on_less s zero zero h (again n) fs w = continued_follows _ _ (turn_follows (again n) fs w) λ x gs v. lacks (shorts (row_of M.rows n) no_step s)
    run_on_less s zero (suc g) h (again n) fs w = continued_follows _ _ (turn_follows (again n) fs w) λ x gs v. lacks (shorts (row_of M.rows n) no_step s)
    run_on_less s zero zero h no_next fs w = goes
    run_on_less s zero (suc g) h no_next fs w = goes
    run_on_less s (suc f) zero h x fs w = absurd (not-suc-le-zero h)
    run_on_less s (suc f) (suc g) h (begin n) fs w = continued_follows _ _ (turn_follows (begin n) fs w) λ x gs v. run_on_less s f g (omega arith) x gs v
    run_on_less s (suc f) (suc g) h (again n) fs w = continued_follows _ _ (turn_follows (again n) fs w) λ x gs v. run_on_less s f g (omega arith) x gs v
    run_on_less s (suc f) (suc g) h no_next fs w = goes

    run_on_even : (f : ℕ) (x : Next) (fs : List Frame) (w : World) → Ties (run_on M f x fs w) (run_on N f x fs (grow w))
    unfolding run_on
    run_on_even zero (begin n) fs w = halts (faults (row_of M.rows n) no_step)
    run_on_even zero (again n) fs w = continued_follows _ _ (turn_follows (again n) fs w) λ x gs v. halts (faults (row_of M.rows n) no_step)
    run_on_even zero no_next fs w = goes
    run_on_even (suc f) (begin n) fs w = continued_follows _ _ (turn_follows (begin n) fs w) λ x gs v. run_on_even f x gs v
    run_on_even (suc f) (again n) fs w = continued_follows _ _ (turn_follows (again n) fs w) λ x gs v. run_on_even f x gs v
    run_on_even (suc f) no_next fs w = goes

    -- as many turns as there are steps left
    pub run_on_follows : (x : Next) (fs : List Frame) (w : World) → Ties (run_on M (w.limit - w.used) x fs w) (run_on N (w.limit + a - w.used) x fs (grow w))
    run_on_follows x fs w = go spare
      where
        go : Spare a b c Short → Ties (run_on M (w.limit - w.used) x fs w) (run_on N (w.limit + a - w.used) x fs (grow w))
        go (more_left s r) = run_on_less s (w.limit - w.used) (w.limit + a - w.used) (omega arith) x fs w
        go (more_room p r) =
            let e : w.limit + a - w.used ≡ w.limit - w.used = omega arith in
            rw e (run_on_even (w.limit - w.used) x fs w)
        go (no_more p q r) =
            let e : w.limit + a - w.used ≡ w.limit - w.used = omega arith in
            rw e (run_on_even (w.limit - w.used) x fs w)

  -- ---- procedures
  stored_all : (ps : List Parameter) (vs : List Value) (w : World) → store_all ps vs (grow w) ≡ grow (store_all ps vs w)
  stored_all [] vs w = refl
  stored_all (p ∷ ps) [] w = refl
  stored_all (p ∷ ps) (v ∷ vs) w = stored_all ps vs (store p.at v w)

  act_follows : (s : Statement) (t : Type') (u : ℕ) (value : Tree → World → Res Why Value) → ((x : Tree) (w : World) → Fol (value x w) (value x (grow w))) → (w : World) → Fol (act_in s t u value w) (act_in s t u value (grow w))
  act_follows null t u value k w = goes
  act_follows (declare ns) t u value k w = goes
  act_follows (procedure ns x) t u value k w = goes
  act_follows (assign n x) t u value k w = goes
  act_follows (conditional x) t u value k w = goes
  act_follows group t u value k w = goes
  act_follows (iterated n x bs) t u value k w = goes
  act_follows (goto n) t u value k w = goes
  act_follows (include ns) t u value k w = goes
  act_follows (activate ns) t u value k w = goes
  act_follows (deactivate ns) t u value k w = goes
  act_follows (return x) t u value k w = bind_follows _ _ (k x w) λ v y. bind_follows _ _ (put_follows u (convert t v) y) λ i z. goes

  jump_local_lem : (d : Denotation) (rs : List Row) (n : ℕ) (w : World) → Fol (jump_local d rs n w) (jump_local d rs n (grow w))
  jump_local_lem (variable_of t) rs n w = halt
  jump_local_lem (entry_of e y) rs n w = halt
  jump_local_lem (label_at m r x) rs n w = when_follows (may_go rs n r x) _ _ _ _ goes halt
  jump_local_lem builtin_name rs n w = halt

  jump_global_lem : (d : Denotation) (w : World) → Fol (jump_global d w) (jump_global d (grow w))
  jump_global_lem (variable_of t) w = halt
  jump_global_lem (entry_of e y) w = halt
  jump_global_lem (label_at m r x) w = halt
  jump_global_lem builtin_name w = halt

  jump_out_lem : (x : Address) (w : World) → Fol (jump_out x w) (jump_out x (grow w))
  jump_out_lem (address y) w = jump_global_lem (W.denotation y w) w
  jump_out_lem unknown w = halt

  jump_in_lem : (x : Address) (t : List ℕ) (rs : List Row) (n : ℕ) (w : World) → Fol (jump_in x t rs n w) (jump_in x t rs n (grow w))
  jump_in_lem (address y) t rs n w = jump_local_lem (W.denotation y w) rs n w
  jump_in_lem unknown t rs n w = jump_out_lem (address_of t W.everyone w) w

  value_follows : {r s : Res Why End} → Fol r s → Fol (value_of r) (value_of s)
  value_follows (goes {x = ran}) = halt
  value_follows (goes {x = returned v}) = goes
  value_follows (goes {x = went t}) = halt
  value_follows (halts same) = halt
  value_follows (lacks h) = lacks h

  body_follows : (run : Call) → FollowingCall run → (m r u : ℕ) (w : World) → Fol (body_run run m r u w) (body_run run m r u (grow w))
  unfolding body_run body_machine
  body_follows run runs m r u w =
      let M : Machine Why = body_machine run m r u (rows_of m w) in
      value_follows (run_on_follows M (λ x e. e) M.value M.out M.act M.jump (λ x e. same) (λ x e h. h)
      (λ x v. evaluate_follows run runs (W.procedure_at m r) x u v) (λ _. Unit {0}) (λ _. tt) (λ _. tt) (λ s _ v. goes)
      (λ n v. act_follows (row_of (rows_of m w) n).statement _ u _ (λ x z. evaluate_follows run runs (W.procedure_at m r) x u z) v)
      (λ n t v. jump_in_lem (address_of t (W.procedure_at m r) v) t (rows_of m w) n v)
      (first_of (row_of (rows_of m w) r).child) [] w)

  pub calls_follows : (n : ℕ) (ps : List Place) → FollowingCall (calls n ps)
  unfolding calls
  calls_follows zero ps x vs u w = when_follows (is_running x.member x.row ps) _ _ _ _ halt halt
  calls_follows (suc n) ps x vs u w = when_follows (is_running x.member x.row ps) _ _ _ _ halt
      (rw (stored_all x.parameters vs w) (body_follows _ (calls_follows n _) x.member x.row u (store_all x.parameters vs w)))

  -- ---- scanning values and arguments, where `run` follows: the second has as much room or more
  pub data Wider : Into → Into → Type 0 where
    text : {r s : ℕ} → Short room_full → r ≤ s → Wider (to_text r) (to_text s)
    even : {i : Into} → Wider i i

  fits_follows : {A : Type 0} {i j : Into} → Wider i j → (u k n : ℕ) (f g : Unit {0} → Res Why A) (v : ℕ) → Fol (f tt) (g tt) → Fol (when (fits i u k n) f (λ _. bad (full i) v)) (when (fits j u k n) g (λ _. bad (full j) v))
  fits_follows (text {r} {s} l h) u k n f g v e = go (leb (k + n) r) refl
    where
      go : (t : Bool) → leb (k + n) r ≡ t → Fol (when t f (λ _. bad room_full v)) (when (leb (k + n) s) g (λ _. bad room_full v))
      go true z = rw (le-leb (k + n) s (omega (arith, leb-true (k + n) r z))) e
      go false z = lacks l
  fits_follows (even {i}) u k n f g v e = when_follows (fits i u k n) _ _ _ _ e halt

  wider_after : {i j : Into} (k : ℕ) → Wider i j → Wider (after i k) (after j k)
  wider_after k (text {r} {s} l h) = text {r = r - k} {s = s - k} l (omega arith)
  wider_after k even = even

  waiting_same : {i j : Into} (u k : ℕ) → Wider i j → waiting j u k ≡ waiting i u k
  waiting_same u k (text l h) = refl
  waiting_same u k even = refl

  abbrev FollowingScanner : Scanner → Type 0
  FollowingScanner scan = (i j : Into) (t : List ℕ) (u : ℕ) (w : World) → Wider i j → Fol (scan i t u w) (scan j t u (grow w))

  abbrev pub FollowingReplacer : Replacer → Type 0
  FollowingReplacer replace = (t : List ℕ) (p x : ℕ) (y : Activity) (i j : Into) (u : ℕ) (w : World) → Wider i j → Fol (replace t p x y i u w) (replace t p x y j u (grow w))

  up_to_lem : (p : ℕ) {r s : Res Why (List ℕ)} → Fol r s → Fol (up_to p r) (up_to p s)
  up_to_lem p h = bind_follows _ _ h λ l w. goes

  module _ (scan : Scanner) (scans : FollowingScanner scan) where
    outcome_follows : (x : Activity) (i j : Into) (u : ℕ) (l : List ℕ) (w : World) → Wider i j → Fol (outcome x scan i u l w) (outcome x scan j u l (grow w))
    outcome_follows inactive i j u l w h = goes
    outcome_follows rescanned i j u l w h = when_follows (leb (u + length l) unfinished_bytes) _ _ _ _ (scans i j l (u + length l) w h) halt
    outcome_follows copied_only i j u l w h = fits_follows h u 0 (length l) _ _ w.used goes

    scan_arguments_follows : (t : List ℕ) (ps : List Parameter) (xs : List Argument) (u : ℕ) (w : World) → Fol (scan_arguments scan t ps xs u w) (scan_arguments scan t ps xs u (grow w))
    unfolding scan_arguments
    scan_arguments_follows t [] xs u w = goes
    scan_arguments_follows t (p ∷ ps) [] u w = goes
    scan_arguments_follows t (p ∷ ps) (x ∷ xs) u w =
        bind_follows _ _ (scans (to_work value_length) (to_work value_length) _ u w even) λ l v. bind_follows _ _ (put_follows u (convert p.type (characters l)) v) λ y z.
        bind_follows _ _ (scan_arguments_follows t ps xs (u + size_of y) z) λ ys r. goes

    replace_cell_lem : (x : Cell) (p : ℕ) (y : Activity) (i j : Into) (u : ℕ) (w : World) → Wider i j → Fol (replace_cell x scan p y i u w) (replace_cell x scan p y j u (grow w))
    replace_cell_lem W.no_value p y i j u w h = halt
    replace_cell_lem (W.holds v) p y i j u w h = up_to_lem p (outcome_follows y i j u (Values.to_characters v) w h)

    module _ (run : Call) (runs : FollowingCall run) (y : Activity) (i j : Into) (h : Wider i j) (u : ℕ) where
      call_follows : (x : Callee) (vs : List Value) (w : World) → Fol (call_with run scan y i u x vs w) (call_with run scan y j u x vs (grow w))
      unfolding call_with
      call_follows x vs w = bind_follows _ _ (runs x vs u w) λ v z. outcome_follows y i j u (Values.to_characters v) z h

      list_follows : (t : List ℕ) (x : Callee) (l : Arguments) (w : World) → Fol (with_list run scan t y i u x l w) (with_list run scan t y j u x l (grow w))
      list_follows t x no_list w = halt
      list_follows t x (list_up_to xs q) w =
          when_follows (eqb (length xs) (length x.parameters)) _ _ _ _
          (bind_follows _ _ (scan_arguments_follows t x.parameters xs u w) λ vs z. up_to_lem q (call_follows x vs z)) halt

      replace_entry_lem : (t : List ℕ) (p : ℕ) (x : Callee) (w : World) → Fol (replace_entry mixed run scan t p y i u x w) (replace_entry mixed run scan t p y j u x (grow w))
      unfolding replace_entry
      replace_entry_lem t p x w = when_follows (eqb (length x.parameters) 0) _ _ _ _ (up_to_lem p (call_follows x [] w)) (list_follows t x (list_at mixed t p) w)

      replace_as_lem : (d : Denotation) (t : List ℕ) (p x : ℕ) (w : World) → Fol (replace_as mixed d run scan t p x y i u w) (replace_as mixed d run scan t p x y j u (grow w))
      replace_as_lem (variable_of k) t p x w = replace_cell_lem (value_at x w) p y i j u w h
      replace_as_lem (entry_of e z) t p x w = bind_follows _ _ (callee_follows z w) λ k v. replace_entry_lem t p k v
      replace_as_lem (label_at m r z) t p x w = halt
      replace_as_lem builtin_name t p x w = halt

  active_at_lem : (x : Address) (w : World) → active_at x (grow w) ≡ active_at x w
  active_at_lem (address y) w = refl
  active_at_lem unknown w = refl

  pub active_same : (x : Piece) (w : World) → active_in x (grow w) ≡ active_in x w
  unfolding active_name
  active_same (name n) w = active_at_lem (address_of n W.everyone w) w
  active_same plain w = refl
  active_same unclosed w = refl

  module _ (replace : Replacer) (replaces : FollowingReplacer replace) (i j : Into) (h : Wider i j) (t : List ℕ) (u : ℕ) where
    token_follows : (x : Active) (out : List ℕ) (p q : ℕ) (f g : List ℕ → ℕ → World → Res Why (List ℕ)) → ((o : List ℕ) (q : ℕ) (w : World) → Fol (f o q w) (g o q (grow w))) → (w : World) → Fol (token x replace i t out u p q w f) (token x replace j t out u p q (grow w) g)
    token_follows not_active out p q f g k w = fits_follows h u (length out) (q - p) _ _ w.used (k (out ++ part (q - p) p t) q w)
    token_follows (active x y) out p q f g k w = rw (waiting_same u (length out) h)
        (bind_follows _ _ (replaces t q x y (after i (length out)) (after j (length out)) (waiting i u (length out)) w (wider_after (length out) h)) λ r v. k (out ++ r.bytes) r.to v)

    scan_on_follows : (f : ℕ) (out : List ℕ) (p : ℕ) (w : World) → Fol (scan_on mixed replace i t u f out p w) (scan_on mixed replace j t u f out p (grow w))
    unfolding scan_on
    scan_on_follows zero out p w = goes
    scan_on_follows (suc f) out p w = when_follows (leb (length t) p) _ _ _ _ goes
        (bind_follows _ _ (charge_follows w) λ _ v. rw (active_same (piece_at mixed t p).piece v) (token_follows (active_in (piece_at mixed t p).piece v) out p (piece_at mixed t p).to _ _ (scan_on_follows f) v))

  pub replacer_follows : (run : Call) → FollowingCall run → (n : ℕ) → FollowingReplacer (replacer mixed run n)
  unfolding replacer
  replacer_follows run runs zero t p x y i j u w h = halt
  replacer_follows run runs (suc n) t p x y i j u w h =
      replace_as_lem (scan_with mixed (replacer mixed run n)) (λ g h l v z k. scan_on_follows (replacer mixed run n) (replacer_follows run runs n) g h k l v (suc (length l)) [] 0 z) run runs y i j h u (W.denotation x w) t p x w
