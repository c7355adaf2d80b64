-- Every line of an expansion names a place below 131,072, and its size is below 2^32: four bytes say each.
-- Assumes nothing.
use Prim.Native.Nat.{ℕ, zero, suc, ◌+◌, ◌-◌, ◌/◌, ◌≤◌, ◌<◌}
use native.Mathlib.Omega.{arith}
use mathlib.Core.Bool.{Bool, true, cond, ◌&&◌}
use mathlib.Core.List.{List, [], ◌∷◌}
use mathlib.Core.Path.{◌≡◌, refl, ap, ◌∙◌}
use lib.Dec.{leb, eqb}
use lib.ListN.{length}
use borrow.Author.Tests.{leb-true, leb-false, le-leb, eqb-true}
use Rattle.definition.specs.declared.Why.{Why}
use Rattle.definition.specs.declared.Layout.{Layout}
use Rattle.definition.specs.declared.Layout.TheVariants.{Plain as plain, Cards as cards}
use Rattle.definition.specs.Bytes.{mixed}
use Rattle.definition.specs.Limits.{running_procedures, replacement_levels, include_levels, text_bytes, origin_line_bytes}
use Rattle.definition.specs.Lists.{part}
use Rattle.definition.specs.Expressions.{Tree}
use Rattle.definition.specs.Program.{Statement, null, declare, procedure, assign, conditional, group, iterated, goto, include, activate, deactivate, return, Stretch, Row, Activation, Source}
use Rattle.definition.specs.Tokens.{piece_at}
use Rattle.definition.specs.Deck as Deck
use Rattle.definition.specs.Deck.{is_sound}
use Rattle.definition.specs.Reading.{read_member}
use Rattle.definition.specs.Events.{Event, blank, copied, replaced, bytes_in, Line, line, joins, longer, lines_of}
use Rattle.definition.specs.Cards.{column, given, is_first, goes_over, cut, as_given}
use Rattle.definition.specs.World as W
use Rattle.definition.specs.World.{Denotation, variable_of, entry_of, label_at, builtin_name, Address, address, unknown, Activity, inactive, rescanned, Pass, World, Res, row_of, address_of, denotation, rows_of}
use Rattle.definition.specs.Names.{Entering, enter}
use Rattle.definition.specs.Flow.{Deed, End, ran, returned, went, Machine, may_go}
use Rattle.definition.specs.Calls.{Place, call_out}
use Rattle.definition.specs.Scan.{to_text, Active, not_active, active, active_in}
use Rattle.definition.specs.Run as Run
use Rattle.definition.specs.Run.{Stop, body_of, put_out, copy_here, replace_here, token_here, text_on, text_out, activated, activate_at, activate_all, activations, jump_away, jump_label, jump_by, jump_from, Inner, Level, no_level, level, came_out, include_entered, include_at, include_all, act_as, member_machine, run_source, run_member}
use Rattle.definition.specs.Expansion.{Expansion, result, run_main, capped, size_in, expansion_of}
use Rattle.definition.proofs.Choices.{when_has, cond_has}
use Rattle.definition.proofs.Parts.{length_part}
use Rattle.definition.proofs.Ends.{piece_at_past}
use Rattle.definition.proofs.Expanding.{ran_deck, ran_in, told_as, ran_sound, malformed_is, uneven_is, short_is, ran_is, each_way}
use Rattle.definition.proofs.Keeping.{Any, OfDeed, OfEnd, Awake, AllAwake, awake_in, Laws, valueless, Leaves, leaves, stops, passes, halt, bind_leaves, bind_any, placed_leaves, when_leaves, charge_leaves, evaluate_leaves, lead_leaves, run_on_leaves, calls_leaves, replacer_leaves, SoundEntering, entered_sound, unreadable_any, enter_leaves}
use Rattle.definition.proofs.Views.{sizes, Newest, newest_line}
use Rattle.definition.proofs.Fits.{fitting}
use Rattle.printing.proofs.Answers.{Small}
use Rattle.showing.proofs.Stretches.{Ordered, text_ordered, lead_ordered, member_ordered}
use Rattle.showing.proofs.Bodies.{find_low, main_low}
use Rattle.stops.proofs.Stops.{body_short}

-- ---- the place of an event
abbrev Near : Event → Type 0
Near (blank m p) = p < 65536
Near (copied m p l) = (p < 65536) × (p + length l ≤ 65536)
Near (replaced m p l) = p < 65536

abbrev AllNear : List Event → Type 0
AllNear [] = Unit {0}
AllNear (e ∷ es) = Near e × AllNear es

record Fine (w : World) : Type 0 where
  places : AllNear w.events

near : Laws Fine Any Any
near = valueless (λ w h. tt) (λ w h _. record { places = h.places }) λ v w h k. record { places = rw k.events h.places }

abbrev Keeps : {E A : Type 0} → Res E A → Type 0
Keeps r = Leaves near Any r

-- ---- program text
put_out_lem : (e : Event) (g : Pass) (n : ℕ) (w : World) → Near e → Fine w → Keeps (put_out e g n w)
unfolding put_out
put_out_lem e g n w i h = when_leaves near (leb n w.lines_left && leb (length (bytes_in e)) w.text_left) _ _ (passes near (record { places = (i, h.places) })) (halt near h)

replace_here_lem : (m place : ℕ) → place < 65536 → (t : List ℕ) (q a : ℕ) (x : Activity) → Awake x → (to : List ℕ → ℕ → Pass) (w : World) → Fine w → Keeps (replace_here mixed m place t q a x to w)
unfolding replace_here
replace_here_lem m place i t q a x y to w h =
    when_leaves near (leb 1 w.lines_left) _ _
    (bind_leaves near (replacer_leaves near call_out (calls_leaves near running_procedures []) replacement_levels t q a x (to_text w.text_left) 0 w y h) λ r v _ k. passes near (record { places = (i, k.places) }))
    (halt near h)

token_here_lem : (x : Active) → AllAwake x → (m place : ℕ) → place < 65536 → (t : List ℕ) (p q : ℕ) → place + (q - p) ≤ 65536 → (g : List ℕ → ℕ → Pass) (w : World) → Fine w → Keeps (token_here mixed x m place t p q g w)
unfolding copy_here
token_here_lem not_active y m place i t p q j g w h = bind_any near (put_out_lem (copied m place (part (q - p) p t)) _ _ w (i, omega (arith, j, length_part (q - p) p t)) h) λ _ v k. passes near k
token_here_lem (active a x) y m place i t p q j g w h = replace_here_lem m place i t q a x y g w h

text_on_lem : (m from : ℕ) (t : List ℕ) → from + length t < 65536 → (f p : ℕ) (w : World) → Fine w → Keeps (text_on mixed m from t f p w)
unfolding text_on
text_on_lem m from t i zero p w h = passes near h
text_on_lem m from t i (suc f) p w h =
    when_has (Leaves near Any) (leb (length t) p) _ _ (λ _. passes near h) λ e.
    let l : p < length t = leb-false (length t) p e in
    let z : (piece_at mixed t p).to ≤ length t = (piece_at_past t p l).within in
    bind_any near (placed_leaves near _ (bind_any near (charge_leaves near h) λ _ v k. token_here_lem (active_in (piece_at mixed t p).piece v) (awake_in (piece_at mixed t p).piece v) m (from + p) (omega (arith, l)) t p (piece_at mixed t p).to (omega (arith, l, z)) _ v k)) λ q x k.
    text_on_lem m from t i f q x k

text_out_lem : (m : ℕ) (s : List ℕ) (x : Stretch) (w : World) → length s < 65536 → Ordered s x → Fine w → Keeps (text_out mixed m s x w)
unfolding text_out
text_out_lem m s x w i o h =
    let n : ℕ = x.to - x.from in
    bind_any near (placed_leaves near _ (put_out_lem (blank m x.from) (W.began m x) 1 w (omega (arith, o.order, o.within)) h)) λ _ v k.
    text_on_lem m x.from (part n x.from s) (omega (arith, length_part n x.from s, o.order, o.within)) (suc n) 0 v k

-- ---- what puts nothing out
activated_keeps : (d : Denotation) (x : Activity) (a : ℕ) (w : World) → Fine w → Keeps (activated d x a w)
activated_keeps (variable_of t) x a w h = passes near (record { places = h.places })
activated_keeps (entry_of e b) x a w h = passes near (record { places = h.places })
activated_keeps (label_at m r q) x a w h = halt near h
activated_keeps builtin_name x a w h = halt near h

activate_at_lem : (y : Address) (x : Activity) (w : World) → Fine w → Keeps (activate_at y x w)
activate_at_lem (address a) x w h = activated_keeps (denotation a w) x a w h
activate_at_lem unknown x w h = halt near h

activate_all_lem : (x : Activity) (ns : List (List ℕ)) (w : World) → Fine w → Keeps (activate_all x ns w)
unfolding activate_all
activate_all_lem x [] w h = passes near h
activate_all_lem x (n ∷ ns) w h = bind_any near (activate_at_lem (address_of n W.everyone w) x w h) λ _ v k. activate_all_lem x ns v k

activations_keep : (xs : List Activation) (w : World) → Fine w → Keeps (activations xs w)
unfolding activations
activations_keep [] w h = passes near h
activations_keep (x ∷ xs) w h = bind_any near (activate_at_lem (address_of x.spelling W.everyone w) _ w h) λ _ v k. activations_keep xs v k

jump_away_lem : (ps : List Place) (m r : ℕ) (is_end : Bool) (w : World) → Fine w → Keeps (jump_away ps m r is_end w)
unfolding jump_away
jump_away_lem [] m r is_end w h = halt near h
jump_away_lem (p ∷ ps) m r is_end w h = when_leaves near (eqb p.member m) _ _ (when_leaves near (may_go (rows_of m w) p.row r is_end) _ _ (passes near h) (halt near h)) (jump_away_lem ps m r is_end w h)

jump_by_lem : (d : Denotation) (here : ℕ) (rs : List Row) (ps : List Place) (n : ℕ) (w : World) → Fine w → Keeps (jump_by d here rs ps n w)
unfolding jump_label
jump_by_lem (variable_of t) here rs ps n w h = halt near h
jump_by_lem (entry_of e b) here rs ps n w h = halt near h
jump_by_lem (label_at m r is_end) here rs ps n w h = when_leaves near (eqb m here) _ _ (when_leaves near (may_go rs n r is_end) _ _ (passes near h) (halt near h)) (jump_away_lem ps m r is_end w h)
jump_by_lem builtin_name here rs ps n w h = halt near h

jump_from_lem : (x : Address) (here : ℕ) (rs : List Row) (ps : List Place) (n : ℕ) (w : World) → Fine w → Keeps (jump_from x here rs ps n w)
jump_from_lem (address a) here rs ps n w h = jump_by_lem (denotation a w) here rs ps n w h
jump_from_lem unknown here rs ps n w h = halt near h

-- ---- members of a sound deck
module _ (d : List ℕ) (sound : is_sound mixed d ≡ true) where
  abbrev Inners : Inner → Type 0
  Inners inner = (k : ℕ) → k < Deck.count d → (ps : List Place) (w : World) → Fine w → Leaves near (OfEnd Any) (inner k ps w)

  abbrev Levels : Level → Type 0
  Levels no_level = Unit {0}
  Levels (level inner) = Inners inner

  abbrev Does : Res Stop Deed → Type 0
  Does r = Leaves near (OfDeed Any) r

  module _ (next : World → Res Stop Deed) (nexts : (w : World) → Fine w → Does (next w)) where
    came_out_lem : (m : ℕ) (x : End) (w : World) → Fine w → Does (came_out m x w next)
    came_out_lem m ran w h = nexts w h
    came_out_lem m (returned v) w h = nexts w h
    came_out_lem m (went t) w h = leaves tt h

    include_entered_lem : {e : Entering} → SoundEntering near e → (inner : Inner) → Inners inner → (k m n : ℕ) → k < Deck.count d → (ps : List Place) (w : World) → Fine w → Does (include_entered e inner k m n ps w next)
    include_entered_lem unreadable_any inner is k m n i ps w h = halt near h
    include_entered_lem (entered_sound {w = v} g) inner is k m n i ps w h = bind_leaves near (is k i _ v g) λ x y _ j. came_out_lem m x y j

    include_at_lem : (f : Deck.Found) → ((k : ℕ) → f ≡ Deck.line k → k < Deck.count d) → (l : Level) → Levels l → (p m n : ℕ) (ps : List Place) (w : World) → Fine w → Does (include_at mixed f l d p m n ps w next)
    include_at_lem Deck.none i l is p m n ps w h = halt near h
    include_at_lem (Deck.line k) i no_level is p m n ps w h = halt near h
    include_at_lem (Deck.line k) i (level inner) is p m n ps w h = include_entered_lem (enter_leaves near k (read_member mixed (body_of d k)) h) inner is k m n (i k refl) ps w h

  module _ (l : Level) (is : Levels l) where
    include_all_lem : (p m n : ℕ) (ps : List Place) (xs : List Deck.Sought) (w : World) → Fine w → Does (include_all mixed l d p m n ps xs w)
    unfolding include_all
    include_all_lem p m n ps [] w h = leaves tt h
    include_all_lem p m n ps (x ∷ xs) w h = include_at_lem _ (include_all_lem p m n ps xs) (Deck.find mixed x 0 (Deck.lines d)) (find_low d x) l is p m n ps w h

    deed_keeps : (m p : ℕ) {r : Res Why (Unit {0})} → Keeps r → Does (W.placed (Run.stop m p) (Run.deed r))
    deed_keeps m p h = placed_leaves near _ (bind_leaves near h λ _ v _ k. leaves tt k)

    act_as_lem : (s : Statement) (p m n : ℕ) (ps : List Place) (w : World) → Fine w → Does (act_as mixed s l d p m n ps w)
    act_as_lem null p m n ps w h = leaves tt h
    act_as_lem (declare ns) p m n ps w h = deed_keeps m p (activate_all_lem rescanned ns w h)
    act_as_lem (procedure ns t) p m n ps w h = leaves tt h
    act_as_lem (assign t x) p m n ps w h = leaves tt h
    act_as_lem (conditional x) p m n ps w h = leaves tt h
    act_as_lem group p m n ps w h = leaves tt h
    act_as_lem (iterated t x bs) p m n ps w h = leaves tt h
    act_as_lem (goto t) p m n ps w h = leaves tt h
    act_as_lem (include ns) p m n ps w h = include_all_lem p m n ps ns w h
    act_as_lem (activate xs) p m n ps w h = deed_keeps m p (activations_keep xs w h)
    act_as_lem (deactivate ns) p m n ps w h = deed_keeps m p (activate_all_lem inactive ns w h)
    act_as_lem (return x) p m n ps w h = leaves tt h

    source_keeps : (m : ℕ) → m < Deck.count d → (ps : List Place) (w : World) → Fine w → Leaves near (OfEnd Any) (run_source mixed l d m ps (read_member mixed (body_of d m)) w)
    unfolding run_source member_machine
    source_keeps m i ps w h =
        let b : List ℕ = body_of d m in
        let s : Source = read_member mixed b in
        let M : Machine Stop = member_machine mixed l d m ps s in
        let values : (x : Tree) (v : World) → Fine v → Leaves near Any (M.value x v) = λ x v k. evaluate_leaves near call_out (calls_leaves near running_procedures []) W.everyone x 0 v k in
        let outs : (x : Stretch) (v : World) → Ordered b x → Fine v → Leaves near Any (M.out x v) = λ x v o k. text_out_lem m b x v (body_short d sound m i) o k in
        let acts : (n : ℕ) (v : World) → Fine v → Leaves near (OfDeed Any) (M.act n v) = λ n v k. act_as_lem (row_of s.rows n).statement _ m n ps v k in
        let jumps : (n : ℕ) (t : List ℕ) (v : World) → Fine v → Leaves near Any (M.jump n t v) = λ n t v k. placed_leaves near _ (jump_from_lem (address_of t W.everyone v) m s.rows ps n v k) in
        bind_any near (lead_leaves near M (Ordered b) (text_ordered b) (lead_ordered b) values outs acts jumps s.lead (member_ordered b) h)
        λ _ v k. run_on_leaves near M (Ordered b) (text_ordered b) (lead_ordered b) values outs acts jumps _ _ [] v k

  member_keeps : (n : ℕ) → Inners (run_member mixed n d)
  unfolding run_member
  member_keeps zero m i ps w h = source_keeps no_level tt m i ps w h
  member_keeps (suc n) m i ps w h = source_keeps (level (run_member mixed n d)) (member_keeps n) m i ps w h

-- ---- THE LINES of an expansion
-- a line names a near place, and a stretch ends at one
abbrev NearLine : Line → Type 0
NearLine l = (l.offset < 65536) × (l.kind ≡ 2 → l.offset + l.size ≤ 65536)

abbrev NearLines : List Line → Type 0
NearLines [] = Unit {0}
NearLines (l ∷ ls) = NearLine l × NearLines ls

-- all but the end of the newest
abbrev NearBefore : List Line → Type 0
NearBefore [] = Unit {0}
NearBefore (l ∷ ls) = (l.offset < 65536) × NearLines ls

longer_before : (n : ℕ) (ls : List Line) → NearLines ls → NearBefore (longer n ls)
longer_before n [] h = h
longer_before n (l ∷ ls) h = (h.0.0, h.1)

-- the newest ends where the token does that was copied last
stretched : (m p : ℕ) (l : List ℕ) (es : List Event) (ls : List Line) → p + length l ≤ 65536 → Newest (copied m p l ∷ es) ls → NearBefore ls → NearLines ls
stretched m p l es [] i n h = tt
stretched m p l es (a ∷ ls) i n h = ((h.0, λ _. omega (arith, i, n.2)), h.1)

lines_near : (es : List Event) → AllNear es → NearLines (lines_of es)
unfolding lines_of
lines_near [] h = tt
lines_near (blank m p ∷ es) h = ((h.0, λ e. let z : ◌≡◌ {A = ℕ} 1 2 = e in absurd (omega arith)), lines_near es h.1)
lines_near (copied m p l ∷ es) h =
    let a : List Line = longer (length l) (lines_of es) in
    let b : List Line = line 2 m p (length l) ∷ lines_of es in
    stretched m p l es (cond (joins es m p) a b) h.0.1 (newest_line (copied m p l ∷ es))
    (cond_has NearBefore (joins es m p) a b (λ _. longer_before (length l) (lines_of es) (lines_near es h.1)) λ _. (h.0.0, lines_near es h.1))
lines_near (replaced m p l ∷ es) h = ((h.0, λ e. let z : ◌≡◌ {A = ℕ} 3 2 = e in absurd (omega arith)), lines_near es h.1)

abbrev NearIn : Expansion → Type 0
NearIn x = NearLines x.lines

result_near : {r : Res Stop End} → Leaves near (OfEnd Any) r → NearIn (result r)
result_near (leaves {a = ran} {w} e h) = lines_near w.events h.places
result_near (leaves {a = returned v} {w} e h) = lines_near w.events h.places
result_near (leaves {a = went t} {w} e h) = lines_near w.events h.places
result_near (stops h) = tt

main_near : (d : List ℕ) → is_sound mixed d ≡ true → {e : Entering} → SoundEntering near e → NearIn (run_main mixed e d)
main_near d s unreadable_any = tt
main_near d s (entered_sound {w} h) = result_near (member_keeps d s include_levels 0 (main_low d s) [] w h)

run_near : (y : Layout) (d : List ℕ) → is_sound mixed d ≡ true → (text_room list_room steps : ℕ) → NearIn (ran_in y d text_room list_room steps)
run_near y d s text_room list_room steps = main_near d s (enter_leaves near 0 (read_member mixed (body_of d 0)) (record { places = tt }))

-- ---- as they are told: 65,536 joined columns stand in 924 records
abbrev Low : List Line → Type 0
Low [] = Unit {0}
Low (l ∷ ls) = (l.offset < 131072) × Low ls

longer_low : (n : ℕ) (ls : List Line) → Low ls → Low (longer n ls)
longer_low n [] h = h
longer_low n (l ∷ ls) h = h

over_low : (m p n : ℕ) (ls : List Line) → p + n ≤ 65536 → Low ls → Low (goes_over m p n ls)
unfolding goes_over
over_low m p zero ls i h = h
over_low m p (suc n) ls i h = over_low m (suc p) n _ (omega (arith, i)) (cond_has Low (is_first p) _ _ (λ _. (omega (arith, i), h)) λ _. longer_low 1 ls h)

cut_low : (m p n : ℕ) (ls : List Line) → p + n ≤ 65536 → Low ls → Low (cut m p n ls)
cut_low m p zero ls i h = h
cut_low m p (suc n) ls i h = over_low m (suc p) n (line 2 m (column p) 1 ∷ ls) (omega (arith, i)) (omega (arith, i), h)

given_low : (size p : ℕ) → p < 65536 → given size p < 131072
unfolding given
given_low size p i = cond_has (λ q. q < 131072) (eqb p size) _ _ (λ _. omega (arith, i)) λ _. omega (arith, i)

all_low : (ls : List Line) → NearLines ls → Low ls
all_low [] h = tt
all_low (l ∷ ls) h = (omega (arith, h.0.0), all_low ls h.1)

given_lines : (joint : ℕ → ℕ) (ls : List Line) → NearLines ls → Low (as_given joint ls)
unfolding as_given
given_lines joint [] h = tt
given_lines joint (l ∷ ls) h =
    cond_has Low (eqb l.kind 2) _ _ (λ e. cut_low l.member l.offset l.size (as_given joint ls) (h.0.1 (eqb-true l.kind 2 e)) (given_lines joint ls h.1))
    λ _. (given_low (joint l.member) l.offset h.0.0, given_lines joint ls h.1)

told_low : (y : Layout) (d : List ℕ) (x : Expansion) → NearIn x → Low (told_as y d x).lines
told_low plain d x h = all_low x.lines h
told_low cards d x h = given_lines (size_in d) x.lines h

pub offsets_low : (y : Layout) (roomy : Bool) (d : List ℕ) (text_room list_room steps : ℕ) → Low (expansion_of mixed y roomy d text_room list_room steps).lines
offsets_low y roomy d text_room list_room steps =
    let e : List ℕ = ran_deck y d in
    each_way (λ (x : Expansion). Low x.lines) y roomy d text_room list_room steps (λ _. tt) (λ _ _ _. tt) (λ _ _ _. tt)
    λ s _ _. told_low y e (ran_in y e text_room list_room steps) (run_near y e (ran_sound y d s) text_room list_room steps)

-- ---- the text is at most 4,294,967,295 long: in a room that counts for less it is the same
capped_most : (n : ℕ) → capped n ≤ 4294967295
capped_most n = cond_has (λ k. k ≤ 4294967295) (leb n text_bytes) n text_bytes (leb-true n text_bytes) λ _. omega arith

capped_again : (n : ℕ) → capped (capped n) ≡ capped n
capped_again n = rw (le-leb (capped n) text_bytes (capped_most n))

module _ (y : Layout) (roomy : Bool) (d : List ℕ) (text_room list_room steps : ℕ) where
  ran_capped : (e : List ℕ) → ran_in y e (capped text_room) list_room steps ≡ ran_in y e text_room list_room steps
  ran_capped e = ap (λ (n : ℕ). run_main mixed (enter 0 (read_member mixed (body_of e 0)) (W.new_world y steps n (list_room / origin_line_bytes))) e) (capped_again text_room)

  same_capped : expansion_of mixed y roomy d (capped text_room) list_room steps ≡ expansion_of mixed y roomy d text_room list_room steps
  same_capped =
      each_way (λ (x : Expansion). expansion_of mixed y roomy d (capped text_room) list_room steps ≡ x) y roomy d text_room list_room steps
      (malformed_is roomy d (capped text_room) list_room steps y) (uneven_is roomy d (capped text_room) list_room steps y) (short_is roomy d (capped text_room) list_room steps y)
      λ s e r. ran_is roomy d (capped text_room) list_room steps y s e r ∙ ap (told_as y (ran_deck y d)) (ran_capped (ran_deck y d))

  pub text_most : length (expansion_of mixed y roomy d text_room list_room steps).text ≤ 4294967295
  text_most =
      let e : length (expansion_of mixed y roomy d (capped text_room) list_room steps).text ≡ length (expansion_of mixed y roomy d text_room list_room steps).text = ap (λ (x : Expansion). length x.text) same_capped in
      omega (arith, e, (fitting y roomy d (capped text_room) list_room steps).text, capped_most text_room)

  -- THE LINES ARE SMALL
  pub lines_small : Small (expansion_of mixed y roomy d text_room list_room steps).lines
  lines_small = small (expansion_of mixed y roomy d text_room list_room steps).lines (offsets_low y roomy d text_room list_room steps) (omega (arith, (fitting y roomy d text_room list_room steps).agree, text_most))
    where
      small : (ls : List Line) → Low ls → sizes ls ≤ 4294967295 → Small ls
      small [] h k = tt
      small (l ∷ ls) h k = (omega (arith, h.0), omega arith, small ls h.1 (omega arith))
