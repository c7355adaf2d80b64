-- The list of an expansion tells the passes of its scan, and the passes cover the texts.
-- Assumes nothing.
use Prim.Native.Nat.{ℕ, zero, suc, ◌+◌, ◌-◌, ◌≤◌, ◌<◌}
use native.Mathlib.Omega.{arith}
use mathlib.Core.Bool.{Bool, true, false, cond, ◌&&◌, false≢true}
use mathlib.Core.List.{List, [], ◌∷◌, ◌++◌}
use mathlib.Core.Path.{◌≡◌, refl, sym, ap, ◌∙◌}
use lib.Dec.{leb, eqb}
use lib.ListN.{length, get_or, drop}
use Prim.Native.Char.{code}
use borrow.Author.Tests.{leb-true, leb-false, eqb-true, eqb-false}
use Rattle.definition.specs.declared.Why.TheVariants.{MalformedDeck as malformed_deck, ShortRoom as short_room, RoomFull as room_full}
use Rattle.definition.specs.Choice.{when}
use Rattle.definition.specs.Limits.{include_levels, running_procedures, replacement_levels}
use Rattle.definition.specs.Lists.{part, leading}
use Rattle.definition.specs.Bytes.{mixed, is_blank}
use Rattle.definition.specs.Deck.{is_sound}
use Rattle.definition.specs.Tokens.{Piece, name, plain, unclosed, piece_at}
use Rattle.definition.specs.Program.{Stretch, Source}
use Rattle.definition.specs.Cards.{takes}
use Rattle.definition.specs.Reading.{read_member}
use Rattle.definition.specs.Values.{Answer, to_characters}
use Rattle.definition.specs.Events.{Event, blank, copied, replaced, text_of, Line, line, goes_on as event_goes_on, joins, longer, lines_of}
use Rattle.definition.specs.World as W
use Rattle.definition.specs.World.{Denotation, variable_of, entry_of, label_at, builtin_name, Cell, Activity, inactive, rescanned, copied_only, Address, address, unknown, address_in, Sight, Pass, began, passed, World, with_event, Res, good, bad, bind, ask, placed}
use Rattle.definition.specs.Evaluate.{Callee, callee, parameters, parameter_at, Call}
use Rattle.definition.specs.Calls.{call_out}
use Rattle.definition.specs.Scan.{Into, to_text, Scanner, Argument, Arguments, list_up_to, no_list, cut_on, list_at, scan_arguments, outcome, Replaced, up_to, call_with, with_list, replace_entry, replace_cell, replace_as, Active, not_active, active, active_as, active_at, active_name, active_in, scan_with, replacer}
use Rattle.definition.specs.Names.{Entering, enter}
use Rattle.definition.specs.Flow.{End, ran, returned, went}
use Rattle.definition.specs.Run.{Stop, stop, body_of, put_out, copy_here, replace_here, token_here, pass_of, text_on, text_out}
use Rattle.definition.specs.Expansion.{refusal, result, run_main, world_for, main_world, expansion}
use Rattle.definition.specs.declared.Layout.{Layout}
use Rattle.definition.specs.declared.Layout.TheVariants.{Plain as plainly}
use Rattle.definition.proofs.Choices.{when_has}
use Rattle.definition.proofs.Parts.{length_part}
use Rattle.definition.proofs.Ends.{piece_at_past}
use Rattle.definition.proofs.Texts as Texts
use Rattle.definition.proofs.Keeping.{Any, Gives, given, failed, any_given, then_gives, Laws, valueless, OfEnd, AllAwake, awake_in, Leaves, leaves, stops, passes, charge_leaves, calls_leaves, replacer_leaves, SoundEntering, entered_sound, unreadable_any, enter_leaves}
use Rattle.definition.proofs.Members.{member_leaves}
use Rattle.definition.proofs.Views.{and_true, Newest, newest_line}
use Rattle.promises.specs.Passes.{passes_of, main_passes, passing, activity_at, activity_of, IsActive, WasActive, asks_for, asks_at, asks_of, Asks, Told, nothing, a_blank, a_name, a_token, another, text_in, TextOf, first, behind, leading as leading_in, is_active, active_places, listed_places, GoesOnAt, at_once, behind_list, At, outside, inside, Scans, none, begins, goes_on, ends, Honest}

-- ---- what is active, as the definition asks and as the promise says
as_not : (x : Activity) (a : ℕ) → active_as x a ≡ not_active → IsActive x → ⊥
as_not inactive a e h = h
as_not rescanned a e h = let z : ◌≡◌ {A = ℕ} 0 1 = cc in omega arith
as_not copied_only a e h = let z : ◌≡◌ {A = ℕ} 0 1 = cc in omega arith

at_not : (x : Address) (w : World) → active_at x w ≡ not_active → IsActive (activity_at x w.activities) → ⊥
at_not unknown w e h = h
at_not (address a) w e h = as_not (get_or w.activities a inactive) a e h

not_active_lem : (x : Piece) (w : World) → active_in x w ≡ not_active → IsActive (activity_of x w.identifiers w.activities) → ⊥
unfolding active_name
not_active_lem (name n) w e h = at_not (address_in n W.everyone 0 w.identifiers) w e h
not_active_lem plain w e h = h
not_active_lem unclosed w e h = h

as_is : (x : Activity) (a b : ℕ) (y : Activity) → active_as x a ≡ active b y → IsActive x
as_is inactive a b y e = let z : ◌≡◌ {A = ℕ} 0 1 = cc in absurd (omega arith)
as_is rescanned a b y e = tt
as_is copied_only a b y e = tt

at_is : (x : Address) (w : World) (b : ℕ) (y : Activity) → active_at x w ≡ active b y → IsActive (activity_at x w.activities)
at_is unknown w b y e = let z : ◌≡◌ {A = ℕ} 0 1 = cc in absurd (omega arith)
at_is (address a) w b y e = as_is (get_or w.activities a inactive) a b y e

is_active_lem : (x : Piece) (w : World) (b : ℕ) (y : Activity) → active_in x w ≡ active b y → IsActive (activity_of x w.identifiers w.activities)
unfolding active_name
is_active_lem (name n) w b y e = at_is (address_in n W.everyone 0 w.identifiers) w b y e
is_active_lem plain w b y e = let z : ◌≡◌ {A = ℕ} 0 1 = cc in absurd (omega arith)
is_active_lem unclosed w b y e = let z : ◌≡◌ {A = ℕ} 0 1 = cc in absurd (omega arith)

-- the address of an active name, and what it asks for
as_asks : (x : Activity) (a b : ℕ) (y : Activity) (ds : List Denotation) (ms : List W.Entered) → active_as x a ≡ active b y → asks_at (address a) ds ms ≡ asks_for (get_or ds b builtin_name) ms
as_asks inactive a b y ds ms e = let z : ◌≡◌ {A = ℕ} 0 1 = cc in absurd (omega arith)
as_asks rescanned a b y ds ms e = let z : a ≡ b = cc in rw z
as_asks copied_only a b y ds ms e = let z : a ≡ b = cc in rw z

at_asks : (x : Address) (w : World) (b : ℕ) (y : Activity) → active_at x w ≡ active b y → asks_at x w.denotations w.members ≡ asks_for (W.denotation b w) w.members
at_asks unknown w b y e = let z : ◌≡◌ {A = ℕ} 0 1 = cc in absurd (omega arith)
at_asks (address a) w b y e = as_asks (get_or w.activities a inactive) a b y w.denotations w.members e

name_asks : (x : Piece) (w : World) (b : ℕ) (y : Activity) → active_in x w ≡ active b y → asks_of x w.identifiers w.denotations w.members ≡ asks_for (W.denotation b w) w.members
unfolding active_name
name_asks (name n) w b y e = at_asks (address_in n W.everyone 0 w.identifiers) w b y e
name_asks plain w b y e = let z : ◌≡◌ {A = ℕ} 0 1 = cc in absurd (omega arith)
name_asks unclosed w b y e = let z : ◌≡◌ {A = ℕ} 0 1 = cc in absurd (omega arith)

positive : (n : ℕ) → (n ≡ 0 → ⊥) → 0 < n
positive zero h = absurd (h refl)
positive (suc n) h = omega arith

-- ---- where a replacement ends: behind its name, or behind its list
data Every {E A : Type 0} (P : A → Type 0) : Res E A → Type 0 where
  each : {a : A} {w : World} → P a → Every P (good a w)
  stopped : {e : E} {u : ℕ} → Every P (bad e u)

every_bind : {E A B : Type 0} {Q : B → Type 0} (r : Res E A) (f : A → World → Res E B) → ((a : A) (w : World) → Every Q (f a w)) → Every Q (bind r f)
every_bind (good a w) f h = h a w
every_bind (bad e u) f h = stopped

data Behind (t : List ℕ) (q n : ℕ) : ℕ → Type 0 where
  name_only : n ≡ 0 → Behind t q n q
  with_list_lem : {r : ℕ} {xs : List Argument} → 0 < n → length xs ≡ n → list_at mixed t q ≡ list_up_to xs r → Behind t q n r

up_to_lem : (t : List ℕ) (q n p : ℕ) (r : W.Res _ (List ℕ)) → Behind t q n p → Every (λ (x : Replaced). Behind t q n x.to) (up_to p r)
up_to_lem t q n p (good l w) h = each h
up_to_lem t q n p (bad e u) h = stopped

-- what is called has as many parameters as are listed
parameters_asked : (k : W.Owner) (ns : List (List ℕ)) (w : World) → Gives (λ ps. length ps ≡ length ns) (parameters k ns w)
unfolding parameters
parameters_asked k [] w = given refl
parameters_asked k (n ∷ ns) w = then_gives (any_given (parameter_at (W.address_of n k w) w)) λ p _. then_gives (parameters_asked k ns w) λ ps e. given (ap suc e)

callee_asked : (e : Bool) (b : W.Body) (w : World) → Gives (λ c. length c.parameters ≡ asks_for (entry_of e b) w.members) (callee b w)
unfolding callee
callee_asked e W.no_body w = failed
callee_asked e (W.body_at m r) w = then_gives (parameters_asked (W.procedure_at m r) _ w) λ ps i. given i

every_ask : {A B : Type 0} {P : A → Type 0} {Q : B → Type 0} {x : Answer A} (w : World) (f : A → World → W.Res _ B) → Gives P x → ((a : A) (v : World) → P a → Every Q (f a v)) → Every Q (bind (ask x w) f)
every_ask w f (given {a} h) k = k a w h
every_ask w f failed k = stopped

module _ (t : List ℕ) (q : ℕ) (run : Call) (scan : Scanner) (x : Activity) (i : Into) (u : ℕ) where
  abbrev Ends : ℕ → Replaced → Type 0
  Ends n r = Behind t q n r.to

  list_behind : (n : ℕ) (c : Callee) → length c.parameters ≡ n → 0 < n → (l : Arguments) (w : World) → list_at mixed t q ≡ l → Every (Ends n) (with_list run scan t x i u c l w)
  list_behind n c h k no_list w e = stopped
  list_behind n c h k (list_up_to xs p) w e = when_has (Every (Ends n)) (eqb (length xs) (length c.parameters)) _ _
      (λ z. every_bind (scan_arguments scan t c.parameters xs u w) _ λ vs v. up_to_lem t q n p (call_with run scan x i u c vs v) (with_list_lem k (eqb-true (length xs) (length c.parameters) z ∙ h) e)) λ _. stopped

  entry_behind : (n : ℕ) (c : Callee) → length c.parameters ≡ n → (w : World) → Every (Ends n) (replace_entry mixed run scan t q x i u c w)
  unfolding replace_entry
  entry_behind n c h w = when_has (Every (Ends n)) (eqb (length c.parameters) 0) _ _
      (λ z. up_to_lem t q n q (call_with run scan x i u c [] w) (name_only (sym h ∙ eqb-true (length c.parameters) 0 z)))
      λ z. list_behind n c h (positive n λ y. eqb-false (length c.parameters) 0 z (h ∙ y)) (list_at mixed t q) w refl

  cell_behind : (c : Cell) (w : World) → Every (Ends 0) (replace_cell c scan q x i u w)
  cell_behind W.no_value w = stopped
  cell_behind (W.holds v) w = up_to_lem t q 0 q (outcome x scan i u (to_characters v) w) (name_only refl)

  as_behind : (d : Denotation) (a : ℕ) (w : World) → Every (Ends (asks_for d w.members)) (replace_as mixed d run scan t q a x i u w)
  as_behind (variable_of k) a w = cell_behind (W.value_at a w) w
  as_behind (entry_of e b) a w = every_ask w _ (callee_asked e b w) λ c v h. entry_behind (asks_for (entry_of e b) w.members) c h v
  as_behind (label_at m r z) a w = stopped
  as_behind builtin_name a w = stopped

replacer_behind : (run : Call) (n : ℕ) (t : List ℕ) (q a : ℕ) (x : Activity) (i : Into) (u : ℕ) (w : World) → Every (λ (r : Replaced). Behind t q (asks_for (W.denotation a w) w.members) r.to) (replacer mixed run n t q a x i u w)
unfolding replacer
replacer_behind run zero t q a x i u w = stopped
replacer_behind run (suc n) t q a x i u w = as_behind t q run (scan_with mixed (replacer mixed run n)) x i u (W.denotation a w) a w

-- a list ends behind its start
data Past (p : ℕ) : Arguments → Type 0 where
  past : {xs : List Argument} {r : ℕ} → p < r → Past p (list_up_to xs r)
  open_list : Past p no_list

past_more : (p q : ℕ) (l : Arguments) → p ≤ q → Past q l → Past p l
past_more p q _ h (past {r} k) = past {r = r} (omega arith)
past_more p q _ h open_list = open_list

cut_past : (f : ℕ) (t : List ℕ) (d from : ℕ) (xs : List Argument) (p : ℕ) → Past p (cut_on mixed f t d from xs p)
unfolding cut_on
cut_past zero t d from xs p = open_list
cut_past (suc f) t d from xs p =
    when_has (Past p) (leb (length t) p) _ _ (λ _. open_list) λ e.
    when_has (Past p) (eqb (get_or t p 0) (code "(")) _ _ (λ _. past_more p (p + 1) _ (omega arith) (cut_past f t (suc d) from xs (p + 1))) λ _.
    when_has (Past p) (eqb (get_or t p 0) (code ")") && eqb d 0) _ _ (λ _. past {r = p + 1} (omega arith)) λ _.
    when_has (Past p) (eqb (get_or t p 0) (code ")")) _ _ (λ _. past_more p (p + 1) _ (omega arith) (cut_past f t (d - 1) from xs (p + 1))) λ _.
    when_has (Past p) (eqb (get_or t p 0) (code ",") && eqb d 0) _ _ (λ _. past_more p (p + 1) _ (omega arith) (cut_past f t d (p + 1) _ (p + 1))) λ _.
    past_more p (piece_at mixed t p).to _ (omega (arith, (piece_at_past t p (leb-false (length t) p e)).above)) (cut_past f t d from xs (piece_at mixed t p).to)

list_past : (t : List ℕ) (p : ℕ) → Past p (list_at mixed t p)
unfolding list_at
list_past t p =
    let q : ℕ = p + length (leading is_blank (drop p t)) in
    when_has (Past p) (eqb (get_or t q 0) (code "(")) _ _ (λ _. past_more p (q + 1) _ (omega arith) (cut_past (length t) t 0 (q + 1) [] (q + 1))) λ _. open_list

past_up : (p r : ℕ) (xs : List Argument) → Past p (list_up_to xs r) → p < r
past_up p r xs (past h) = h

behind_more : (t : List ℕ) (q n r : ℕ) → Behind t q n r → q ≤ r
behind_more t q n _ (name_only z) = omega arith
behind_more t q n r (with_list_lem {xs = xs} k z e) = omega (arith, past_up q r xs (rw e at (list_past t q)))

-- ---- each event has its pass
abbrev Pair : Event → Pass → Type 0
Pair (blank m p) (began n x) = (n ≡ m) × (x.from ≡ p)
Pair (blank m p) (passed s) = ⊥
Pair (copied m p l) (began n x) = ⊥
Pair (copied m p l) (passed s) = (s.member ≡ m) × (s.place ≡ p) × (s.outcome ≡ l) × (s.place + length l ≡ s.to) × (WasActive s → ⊥)
Pair (replaced m p l) (began n x) = ⊥
Pair (replaced m p l) (passed s) = (s.member ≡ m) × (s.place ≡ p) × (s.outcome ≡ l) × WasActive s

abbrev Pairs : List Event → List Pass → Type 0
Pairs [] [] = Unit {0}
Pairs [] (g ∷ gs) = ⊥
Pairs (e ∷ es) [] = ⊥
Pairs (e ∷ es) (g ∷ gs) = Pair e g × Pairs es gs

told_longer : (m p : ℕ) (l : List ℕ) (s : Sight) (es : List Event) (ls : List Line) (gs : List Pass) (x : List ℕ) → Pair (copied m p l) (passed s) → joins es m p ≡ true → Newest es ls → Told gs ls x → Told (passed s ∷ gs) (longer (length l) ls) (x ++ l)
unfolding event_goes_on
told_longer m p l s [] [] gs x h j k t = absurd (false≢true j)
told_longer m p l s [] (a ∷ ls) gs x h j k t = absurd (false≢true j)
told_longer m p l s (e ∷ es) [] gs x h j k t = absurd k
told_longer m p l s (blank n q ∷ es) (a ∷ ls) gs x h j k t = absurd (false≢true j)
told_longer m p l s (replaced n q y ∷ es) (a ∷ ls) gs x h j k t = absurd (false≢true j)
told_longer m p l s (copied n q y ∷ es) (a ∷ ls) gs x h j k t =
    let i : (eqb n m ≡ true) × (eqb (q + length y) p ≡ true) = and_true (eqb n m) (eqb (q + length y) p) j in
    let z : s.place + length s.outcome ≡ s.to = rw h.2 h.3 in
    rw (← h.2) (another h.4 z k.0 (k.1 ∙ eqb-true n m i.0 ∙ sym h.0) (k.2 ∙ eqb-true (q + length y) p i.1 ∙ sym h.1) t)

pairs_told : (es : List Event) (gs : List Pass) → Pairs es gs → Told gs (lines_of es) (text_of es)
unfolding lines_of text_of
pairs_told [] [] h = nothing
pairs_told [] (g ∷ gs) h = absurd h
pairs_told (e ∷ es) [] h = absurd h
pairs_told (blank m p ∷ es) (began n x ∷ gs) h = rw (← h.0.0, ← h.0.1) (a_blank (pairs_told es gs h.1))
pairs_told (blank m p ∷ es) (passed s ∷ gs) h = absurd h.0
pairs_told (replaced m p l ∷ es) (began n x ∷ gs) h = absurd h.0
pairs_told (replaced m p l ∷ es) (passed s ∷ gs) h = rw (← h.0.0, ← h.0.1, ← h.0.2) (a_name h.0.3 (pairs_told es gs h.1))
pairs_told (copied m p l ∷ es) (began n x ∷ gs) h = absurd h.0
pairs_told (copied m p l ∷ es) (passed s ∷ gs) h = go (joins es m p) refl (pairs_told es gs h.1)
  where
    go : (t : Bool) → joins es m p ≡ t → Told gs (lines_of es) (text_of es) → Told (passed s ∷ gs) (cond t (longer (length l) (lines_of es)) (line 2 m p (length l) ∷ lines_of es)) (text_of es ++ l)
    go true e k = told_longer m p l s es (lines_of es) gs (text_of es) h.0 e (newest_line es) k
    go false e k =
        let z : s.place + length s.outcome ≡ s.to = rw h.0.2 h.0.3 in
        rw (← h.0.0, ← h.0.1, ← h.0.2) (a_token h.0.4 z k)

-- a text of a member
text_of_lem : {x : Source} {t : Stretch} → Texts.TextOf x t → TextOf x t
text_of_lem Texts.first = first
text_of_lem (Texts.behind n) = behind n
text_of_lem (Texts.leading n) = leading_in n

-- ---- in short
active_true : (x : Activity) → IsActive x → is_active x ≡ true
active_true inactive h = absurd h
active_true rescanned h = refl
active_true copied_only h = refl

active_false : (x : Activity) → (IsActive x → ⊥) → is_active x ≡ false
active_false inactive h = refl
active_false rescanned h = absurd (h tt)
active_false copied_only h = absurd (h tt)

two_or_three : (k : ℕ) → k ≡ 2 → eqb k 3 ≡ false
two_or_three k e = rw e

told_listed : {gs : List Pass} {ls : List Line} {x : List ℕ} → Told gs ls x → listed_places ls ≡ active_places gs
told_listed nothing = refl
told_listed (a_blank t) = told_listed t
told_listed (a_name {s} h t) = rw (active_true (activity_of s.piece s.identifiers s.activities) h, told_listed t)
told_listed (a_token {s} h e t) = rw (active_false (activity_of s.piece s.identifiers s.activities) h) (told_listed t)
told_listed (another {s} {l} h e k m p t) =
    let z : eqb l.kind 3 ≡ false = two_or_three l.kind k in
    rw (active_false (activity_of s.piece s.identifiers s.activities) h, z) (rw z at (told_listed t))

-- ---- the run
module _ (d : List ℕ) where
  record Stands (a : At) (w : World) : Type 0 where
    pairs : Pairs w.events w.passes
    scans : Scans d w.passes a

  standing : (a : At) → Laws (Stands a) Any Any
  standing a = valueless (λ w h. tt) (λ w h _. record { pairs = h.pairs; scans = h.scans }) λ v w h k. record { pairs = rw (k.events, k.passes) h.pairs; scans = rw k.passes h.scans }

  module _ (m : ℕ) (x : Stretch) where
    abbrev t : List ℕ
    t = text_in d m x

    -- a token was passed: the scan stands further on
    data Passed {E : Type 0} (p : ℕ) : Res E ℕ → Type 0 where
      further : {q : ℕ} {w : World} → p < q → Stands (inside m x q) w → Passed p (good q w)
      halted : {e : E} {u : ℕ} → Passed p (bad e u)

    passed_placed : {E F : Type 0} {p : ℕ} {r : Res E ℕ} (f : E → F) → Passed p r → Passed p (placed f r)
    passed_placed f (further h k) = further h k
    passed_placed f halted = halted

    passed_bind : {E A : Type 0} {p : ℕ} {a : At} {P : A → Type 0} {r : Res E A} (f : A → World → Res E ℕ) → Leaves (standing a) P r → ((y : A) (w : World) → Stands a w → Passed p (f y w)) → Passed p (bind r f)
    passed_bind f (leaves {a = y} {w} h k) g = g y w k
    passed_bind f (stops h) g = halted

    passed_both : {E A : Type 0} {p : ℕ} {a : At} {P Q : A → Type 0} {r : Res E A} (f : A → World → Res E ℕ) → Leaves (standing a) P r → Every Q r → ((y : A) (w : World) → Q y → Stands a w → Passed p (f y w)) → Passed p (bind r f)
    passed_both f (leaves {a = y} {w} h k) (each i) g = g y w i k
    passed_both f (stops h) i g = halted

    passed_on : {E A : Type 0} {p : ℕ} {r : Res E ℕ} (f : ℕ → World → Res E A) → Passed p r → ((q : ℕ) (w : World) → p < q → Stands (inside m x q) w → Leaves (standing outside) Any (f q w)) → Leaves (standing outside) Any (bind r f)
    passed_on f (further {q} {w} h k) g = g q w h k
    passed_on f halted g = stops tt

    module _ (p : ℕ) (h : p < length t) (v : World) (k : Stands (inside m x p) v) where
      abbrev q : ℕ
      q = (piece_at mixed t p).to

      abbrev sight : List ℕ → ℕ → Pass
      sight l r = pass_of m (x.from + p) (piece_at mixed t p).piece v l (x.from + r)

      after : p < q
      after = (piece_at_past t p h).above

      abbrev seen : List ℕ → ℕ → Sight
      seen l r = record { member = m; place = x.from + p; piece = (piece_at mixed t p).piece; identifiers = v.identifiers; denotations = v.denotations; activities = v.activities; members = v.members; outcome = l; to = x.from + r }

      goes_on_lem : (l : List ℕ) (n r : ℕ) → Behind t q n r → Asks (seen l r) ≡ n → WasActive (seen l r) → GoesOnAt t q (seen l r) r
      goes_on_lem l n _ (name_only z) e a = at_once (λ _. e ∙ z)
      goes_on_lem l n r (with_list_lem k z i) e a = behind_list a (omega arith) (z ∙ sym e) i

      copied_on : active_in (piece_at mixed t p).piece v ≡ not_active → (n : ℕ) → Stands (inside m x q) (with_event (copied m (x.from + p) (part (q - p) p t)) (sight (part (q - p) p t) q) n v)
      copied_on e n = record {
        pairs = ((refl, refl, refl, omega (arith, after, length_part (q - p) p t), not_active_lem (piece_at mixed t p).piece v e), k.pairs);
        scans = goes_on k.scans h refl refl refl refl (at_once λ a. absurd (not_active_lem (piece_at mixed t p).piece v e a));
      }

      replaced_on : (b : ℕ) (y : Activity) → active_in (piece_at mixed t p).piece v ≡ active b y → (r : Replaced) (w : World) → Behind t q (asks_for (W.denotation b v) v.members) r.to → Stands (inside m x p) w → Stands (inside m x r.to) (with_event (replaced m (x.from + p) r.bytes) (sight r.bytes r.to) 1 w)
      replaced_on b y e r w i j = record {
        pairs = ((refl, refl, refl, is_active_lem (piece_at mixed t p).piece v b y e), j.pairs);
        scans = goes_on j.scans h refl refl refl refl (goes_on_lem r.bytes (asks_for (W.denotation b v) v.members) r.to i (name_asks (piece_at mixed t p).piece v b y e) (is_active_lem (piece_at mixed t p).piece v b y e));
      }

      token_passed : (y : Active) → active_in (piece_at mixed t p).piece v ≡ y → AllAwake y → Passed p (token_here mixed y m (x.from + p) t p q sight v)
      unfolding copy_here put_out replace_here
      token_passed not_active e awake =
          go (leb (takes v.layout (joins v.events m (x.from + p)) (x.from + p) (part (q - p) p t)) v.lines_left && leb (length (part (q - p) p t)) v.text_left)
        where
          go : (b : Bool) → Passed p (bind (when b (λ _. good (tt {0}) (with_event (copied m (x.from + p) (part (q - p) p t)) (sight (part (q - p) p t) q) (takes v.layout (joins v.events m (x.from + p)) (x.from + p) (part (q - p) p t)) v)) (λ _. bad room_full v.used)) λ _ w. good q w)
          go true = further after (copied_on e (takes v.layout (joins v.events m (x.from + p)) (x.from + p) (part (q - p) p t)))
          go false = halted
      token_passed (active b y) e awake =
          when_has (Passed p) (leb 1 v.lines_left) _ _
          (λ _. passed_both _ (replacer_leaves (standing (inside m x p)) call_out (calls_leaves (standing (inside m x p)) running_procedures []) replacement_levels t q b y (to_text v.text_left) 0 v awake k)
          (replacer_behind call_out replacement_levels t q b y (to_text v.text_left) 0 v)
          λ r w i j. further (omega (arith, after, behind_more t q (asks_for (W.denotation b v) v.members) r.to i)) (replaced_on b y e r w i j))
          λ _. halted

    text_stands : (f p : ℕ) (w : World) → length t < p + f → Stands (inside m x p) w → Leaves (standing outside) Any (text_on mixed m x.from t f p w)
    unfolding text_on
    text_stands zero p w l h = passes (standing outside) (record { pairs = h.pairs; scans = ends h.scans (omega arith) })
    text_stands (suc f) p w l h =
        when_has (Leaves (standing outside) Any) (leb (length t) p) _ _
        (λ e. passes (standing outside) (record { pairs = h.pairs; scans = ends h.scans (leb-true (length t) p e) })) λ e.
        passed_on _ (passed_placed _ (passed_bind _ (charge_leaves (standing (inside m x p)) h) λ _ v k. token_passed p (leb-false (length t) p e) v k (active_in (piece_at mixed t p).piece v) refl (awake_in (piece_at mixed t p).piece v)))
        λ q v i k. text_stands f q v (omega arith) k

    text_passed : (w : World) → Texts.TextOf (read_member mixed (body_of d m)) x → Stands outside w → Leaves (standing outside) Any (text_out mixed m (body_of d m) x w)
    unfolding text_out put_out
    text_passed w o h = go (leb 1 w.lines_left && leb 1 w.text_left)
      where
        go : (b : Bool) → Leaves (standing outside) Any (bind (placed (stop m x.from) (when b (λ _. good (tt {0}) (with_event (blank m x.from) (began m x) 1 w)) (λ _. bad room_full w.used))) λ _ v. text_on mixed m x.from t (suc (x.to - x.from)) 0 v)
        go true = text_stands (suc (x.to - x.from)) 0 _ (omega (arith, length_part (x.to - x.from) x.from (body_of d m))) (record { pairs = ((refl, refl), h.pairs); scans = begins (text_of_lem o) h.scans })
        go false = stops tt

  result_honest : {r : Res Stop End} → Leaves (standing outside) (OfEnd Any) r → Honest d (passes_of r) (result r)
  result_honest (leaves {a = ran} {w} e h) = record { told = pairs_told w.events w.passes h.pairs; scans = h.scans; listed = told_listed (pairs_told w.events w.passes h.pairs) }
  result_honest (leaves {a = returned v} {w} e h) = record { told = pairs_told w.events w.passes h.pairs; scans = h.scans; listed = told_listed (pairs_told w.events w.passes h.pairs) }
  result_honest (leaves {a = went t} {w} e h) = record { told = pairs_told w.events w.passes h.pairs; scans = h.scans; listed = told_listed (pairs_told w.events w.passes h.pairs) }
  result_honest (stops h) = record { told = nothing; scans = none; listed = refl }

  main_honest : {e : Entering} → SoundEntering (standing outside) e → Honest d (main_passes e d) (run_main mixed e d)
  main_honest unreadable_any = record { told = nothing; scans = none; listed = refl }
  main_honest (entered_sound {w} h) = result_honest (member_leaves (standing outside) d text_passed include_levels 0 [] w h)

  -- in each layout
  pub run_honest : (y : Layout) (text_room list_room steps : ℕ) → Honest d (main_passes (enter 0 (read_member mixed (body_of d 0)) (world_for y text_room list_room steps)) d) (run_main mixed (enter 0 (read_member mixed (body_of d 0)) (world_for y text_room list_room steps)) d)
  run_honest y text_room list_room steps = main_honest (enter_leaves (standing outside) 0 (read_member mixed (body_of d 0)) (record { pairs = tt; scans = none }))

  -- THE SCAN IS HONEST, for every deck, every size of the rooms and every limit
  pub honest : (roomy : Bool) (text_room list_room steps : ℕ) → Honest d (passing roomy d text_room list_room steps) (expansion mixed roomy d text_room list_room steps)
  unfolding expansion passing
  honest roomy text_room list_room steps = go (is_sound mixed d) roomy
    where
      go : (y z : Bool) → Honest d (when y (λ _. when z (λ _. main_passes (enter 0 (read_member mixed (body_of d 0)) (main_world text_room list_room steps)) d) (λ _. [])) (λ _. [])) (when y (λ _. when z (λ _. run_main mixed (enter 0 (read_member mixed (body_of d 0)) (main_world text_room list_room steps)) d) (λ _. refusal short_room 0 0 0)) (λ _. refusal malformed_deck 0 0 0))
      go true true = run_honest plainly text_room list_room steps
      go true false = record { told = nothing; scans = none; listed = refl }
      go false z = record { told = nothing; scans = none; listed = refl }
