-- The text and the list of an expansion fit into their rooms, the lines add up to the text, and no copied stretch is empty.
-- Assumes nothing.
use Prim.Native.Nat.{ℕ, ◌+◌, ◌*◌, ◌/◌, ◌≤◌}
use native.Mathlib.Omega.{arith}
use mathlib.Core.Bool.{Bool}
use mathlib.Core.List.{List, [], ◌∷◌}
use mathlib.Core.Path.{◌≡◌, refl, ap, ◌∙◌}
use lib.Dec.{leb}
use lib.ListN.{length, length-append}
use borrow.Author.Tests.{leb-false}
use Rattle.definition.specs.Bytes.{mixed}
use Rattle.definition.specs.Limits.{include_levels, text_bytes, origin_line_bytes}
use Rattle.definition.specs.Reading.{read_member}
use Rattle.definition.specs.Events.{Event, blank, copied, replaced, bytes_in, text_of, Line, lines_of, list_bytes}
use Rattle.definition.specs.Cards.{Layout, plain, cards, joined, as_given, lines_as}
use Rattle.definition.specs.World as W
use Rattle.definition.specs.World.{Pass, World}
use Rattle.definition.specs.Names.{Entering}
use Rattle.definition.specs.Flow.{End, ran, returned, went}
use Rattle.definition.specs.Run.{Stop, body_of}
use Rattle.definition.specs.Expansion.{Expansion, result, run_main, capped, world_for, expansion, size_in, expansion_of}
use Rattle.definition.proofs.Choices.{cond_has}
use Rattle.definition.proofs.Expanding.{ran_deck, ran_in, told_as, each_way}
use Rattle.definition.proofs.Views.{sizes, sizes_add_up, taken_by, FullEvents, FullLines, no_stretch_empty}
use Rattle.definition.proofs.Pieces.{told_taken, sizes_told, full_told}
use Rattle.definition.proofs.Keeping.{Any, Laws, valueless, OfEnd, Leaves, leaves, stops, SoundEntering, entered_sound, unreadable_any, enter_leaves}
use Rattle.definition.proofs.Members.{Takes, text_out_lem, member_leaves}

-- one more event
pub full_more : (e : Event) (es : List Event) → FullEvents (e ∷ []) → FullEvents es → FullEvents (e ∷ es)
full_more (blank m p) es h k = k
full_more (copied m p l) es h k = (h.0, k)
full_more (replaced m p l) es h k = k

text_more_lem : (e : Event) (es : List Event) → length (text_of (e ∷ es)) ≡ length (text_of es) + length (bytes_in e)
unfolding text_of
text_more_lem e es = length-append (text_of es) (bytes_in e)

none_told : (y : Layout) (joint : ℕ → ℕ) → lines_as y joint [] ≡ []
unfolding as_given
none_told plain joint = refl
none_told cards joint = refl

-- in a layout, where the joined bodies have so many bytes by member
module _ (y : Layout) (joint : ℕ → ℕ) (bytes lines : ℕ) where
  -- what has gone out and what may still go out are the rooms together
  record Roomy (w : World) : Type 0 where
    text : length (text_of w.events) + w.text_left ≡ bytes
    list : length (lines_as y joint (lines_of w.events)) + w.lines_left ≡ lines
    full : FullEvents w.events
    layout : w.layout ≡ y

  rooms : Laws Roomy Any Any
  rooms =
      valueless (λ w h. tt) (λ w h _. record { text = h.text; list = h.list; full = h.full; layout = h.layout })
      λ v w h k. record { text = rw (k.events, k.text_left) h.text; list = rw (k.events, k.lines_left) h.list; full = rw k.events h.full; layout = k.layout ∙ h.layout }

  happens : (d : List ℕ) (e : Event) (g : Pass) (n : ℕ) (w : World) → Takes d e n w → Roomy w → Roomy (W.with_event e g n w)
  happens d e g n w t h = record {
    text = omega (arith, h.text, t.bytes, text_more_lem e w.events);
    list = omega (arith, h.list, t.lines, t.right ∙ ap (λ (z : Layout). taken_by z e w.events) h.layout, told_taken joint y e w.events h.full);
    full = full_more e w.events t.full h.full;
    layout = h.layout;
  }

  -- an expansion within them
  pub record Within (x : Expansion) : Type 0 where
    pub text : length x.text ≤ bytes
    pub list : length (lines_as y joint x.lines) ≤ lines
    pub full : FullLines x.lines
    pub agree : sizes x.lines ≡ length x.text

  none_within : (n m p u : ℕ) → Within (record { number = n; member = m; offset = p; steps = u; text = []; lines = [] })
  unfolding as_given
  none_within n m p u = record { text = omega arith; list = rw (none_told y joint) (omega arith); full = tt; agree = refl }

  world_within : (w : World) → Roomy w → Within (result (W.good ran w))
  world_within w h = record { text = omega (arith, h.text); list = omega (arith, h.list); full = no_stretch_empty w.events h.full; agree = sizes_add_up w.events }

  result_within : {r : W.Res Stop End} → Leaves rooms (OfEnd Any) r → Within (result r)
  result_within (leaves {a = ran} {w} e h) = world_within w h
  result_within (leaves {a = returned v} {w} e h) = world_within w h
  result_within (leaves {a = went t} {w} e h) = world_within w h
  result_within (stops h) = none_within _ _ _ _

  main_within : {e : Entering} (d : List ℕ) → SoundEntering rooms e → Within (run_main mixed e d)
  main_within d unreadable_any = none_within _ _ _ _
  main_within d (entered_sound {w} h) = result_within (member_leaves rooms d (text_out_lem rooms d (happens d)) include_levels 0 [] w h)

begun : (y : Layout) (joint : ℕ → ℕ) (text_room list_room steps : ℕ) → Roomy y joint (capped text_room) (list_room / origin_line_bytes) (world_for y text_room list_room steps)
unfolding text_of lines_of
begun y joint text_room list_room steps = record { text = omega arith; list = rw (none_told y joint) (omega arith); full = tt; layout = refl }

run_within : (y : Layout) (joint : ℕ → ℕ) (d : List ℕ) (text_room list_room steps : ℕ) → Within y joint (capped text_room) (list_room / origin_line_bytes) (ran_in y d text_room list_room steps)
run_within y joint d text_room list_room steps =
    main_within y joint (capped text_room) (list_room / origin_line_bytes) d
    (enter_leaves (rooms y joint (capped text_room) (list_room / origin_line_bytes)) 0 (read_member mixed (body_of d 0)) (begun y joint text_room list_room steps))

-- "Twelve bytes a line"
list_length : (ls : List Line) → length (list_bytes ls) ≡ 12 * length ls
unfolding list_bytes
list_length [] = refl
list_length (l ∷ ls) = simp length-append (omega (arith, list_length ls))

-- ---- an expansion in its rooms: the text lies in the text room, the list in the list room, each line of kind 2 has a
-- byte, and the sizes of the lines add up to the length of the text
pub record Fitting (text_room list_room : ℕ) (x : Expansion) : Type 0 where
  pub text : length x.text ≤ text_room
  pub list : length (list_bytes x.lines) ≤ list_room
  pub full : FullLines x.lines
  pub agree : sizes x.lines ≡ length x.text

module _ (text_room list_room : ℕ) where
  capped_less : capped text_room ≤ text_room
  capped_less = cond_has (λ n. n ≤ text_room) (leb text_room text_bytes) _ _ (λ _. omega arith) λ e. omega (arith, leb-false text_room text_bytes e)

  none_fitting : (n m p u : ℕ) → Fitting text_room list_room (record { number = n; member = m; offset = p; steps = u; text = []; lines = [] })
  unfolding list_bytes
  none_fitting n m p u = record { text = omega arith; list = omega arith; full = tt; agree = refl }

  -- the lines of an expansion within the rooms, as they are told
  told_fitting : (y : Layout) (joint : ℕ → ℕ) (n m p u : ℕ) (x : Expansion) → Within y joint (capped text_room) (list_room / origin_line_bytes) x → Fitting text_room list_room (record { number = n; member = m; offset = p; steps = u; text = x.text; lines = lines_as y joint x.lines })
  told_fitting y joint n m p u x h = record {
    text = omega (arith, h.text, capped_less);
    list = omega (arith, h.list, list_length (lines_as y joint x.lines));
    full = full_told joint y x.lines h.full;
    agree = sizes_told joint y x.lines ∙ h.agree;
  }

-- THE EXPANSION of a deck fits, plain or cards
pub fitting : (y : Layout) (roomy : Bool) (d : List ℕ) (text_room list_room steps : ℕ) → Fitting text_room list_room (expansion_of mixed y roomy d text_room list_room steps)
fitting y roomy d t l s = each_way (Fitting t l) y roomy d t l s (λ _. none_fitting t l _ _ _ _) (λ _ _ _. none_fitting t l _ _ _ _) (λ _ _ _. none_fitting t l _ _ _ _) λ _ _ _. run_fitting y
  where
    run_fitting : (y : Layout) → Fitting t l (told_as y (ran_deck y d) (ran_in y (ran_deck y d) t l s))
    run_fitting plain = told_fitting t l plain (λ _. 0) _ _ _ _ (ran_in plain d t l s) (run_within plain (λ _. 0) d t l s)
    run_fitting cards = told_fitting t l cards (size_in (joined d)) _ _ _ _ (ran_in cards (joined d) t l s) (run_within cards (size_in (joined d)) (joined d) t l s)

-- the same of a plain deck, part by part
module _ (roomy : Bool) (d : List ℕ) (text_room list_room steps : ℕ) where
  plain_fitting : Fitting text_room list_room (expansion mixed roomy d text_room list_room steps)
  unfolding expansion_of
  plain_fitting = fitting plain roomy d text_room list_room steps

  pub text_fits : length (expansion mixed roomy d text_room list_room steps).text ≤ text_room
  text_fits = plain_fitting.text

  pub list_fits : length (list_bytes (expansion mixed roomy d text_room list_room steps).lines) ≤ list_room
  list_fits = plain_fitting.list

  pub stretches_full : FullLines (expansion mixed roomy d text_room list_room steps).lines
  stretches_full = plain_fitting.full

  pub views_agree : sizes (expansion mixed roomy d text_room list_room steps).lines ≡ length (expansion mixed roomy d text_room list_room steps).text
  views_agree = plain_fitting.agree
