-- A refusal gives no text and no lines, and leaves both rooms all zero.
-- Assumes nothing.
use Prim.Native.Nat.{ℕ}
use mathlib.Core.Bool.{Bool}
use mathlib.Core.List.{List, []}
use mathlib.Core.Path.{◌≡◌, refl, ap}
use Rattle.definition.specs.Bytes.{mixed}
use Rattle.definition.specs.Room.{zeros}
use Rattle.definition.specs.Reading.{read_member}
use Rattle.definition.specs.Events.{list_bytes}
use Rattle.definition.specs.Limits.{include_levels}
use Rattle.definition.specs.World.{Res, good, bad}
use Rattle.definition.specs.Names.{Entering, entered, unreadable, enter}
use Rattle.definition.specs.Flow.{End, ran, returned, went}
use Rattle.definition.specs.Run.{Stop, body_of, run_member}
use Rattle.definition.specs.Cards.{Layout, plain, cards, as_given}
use Rattle.definition.specs.Expansion.{Expansion, result, run_main, world_for, size_in, expansion_of, text_room_after, list_room_after}
use Rattle.definition.proofs.Expanding.{ran_deck, ran_in, told_as, each_way}
use Rattle.definition.proofs.Rooms.{over_nil}

-- if the number isn't 0, there is no text and no line
abbrev pub Empty : Expansion → Type 0
Empty x = (x.number ≡ 0 → ⊥) → (x.text ≡ []) × (x.lines ≡ [])

result_empty : (r : Res Stop End) → Empty (result r)
result_empty (good ran w) h = absurd (h refl)
result_empty (good (returned v) w) h = absurd (h refl)
result_empty (good (went t) w) h = absurd (h refl)
result_empty (bad s u) h = (refl, refl)

main_empty : (e : Entering) (d : List ℕ) → Empty (run_main mixed e d)
main_empty (unreadable e p) d h = (refl, refl)
main_empty (entered w) d h = result_empty (run_member mixed include_levels d 0 [] w) h

told_empty : (y : Layout) (d : List ℕ) (x : Expansion) → Empty x → Empty (told_as y d x)
unfolding as_given
told_empty plain d x h n = h n
told_empty cards d x h n = ((h n).0, ap (as_given (size_in d)) (h n).1)

-- plain or cards
pub refused_empty : (y : Layout) (roomy : Bool) (d : List ℕ) (text_room list_room steps : ℕ) → Empty (expansion_of mixed y roomy d text_room list_room steps)
refused_empty y roomy d text_room list_room steps =
    let e : List ℕ = ran_deck y d in
    each_way Empty y roomy d text_room list_room steps (λ _ _. (refl, refl)) (λ _ _ _ _. (refl, refl)) (λ _ _ _ _. (refl, refl))
    λ _ _ _. told_empty y e (ran_in y e text_room list_room steps) (main_empty (enter 0 (read_member mixed (body_of e 0)) (world_for y text_room list_room steps)) e)

-- the rooms after a refusal
pub refused_text : (x : Expansion) → Empty x → (x.number ≡ 0 → ⊥) → (n : ℕ) → text_room_after n x ≡ zeros n
unfolding text_room_after
refused_text x h refused n = rw (h refused).0 (over_nil (zeros n) 0)

pub refused_list : (x : Expansion) → Empty x → (x.number ≡ 0 → ⊥) → (n : ℕ) → list_room_after n x ≡ zeros n
unfolding list_room_after list_bytes
refused_list x h refused n = rw (h refused).1 (over_nil (zeros n) 0)
