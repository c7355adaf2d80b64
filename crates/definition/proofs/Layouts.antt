-- A run keeps the layout that it was told.
-- Assumes nothing.
use Prim.Native.Nat.{ℕ}
use mathlib.Core.List.{List, []}
use mathlib.Core.Path.{◌≡◌, refl, ◌∙◌}
use Rattle.definition.specs.Bytes.{mixed}
use Rattle.definition.specs.Limits.{include_levels}
use Rattle.definition.specs.Reading.{read_member}
use Rattle.definition.specs.Cards.{Layout}
use Rattle.definition.specs.World.{World, good}
use Rattle.definition.specs.Names.{Entering, entered, enter}
use Rattle.definition.specs.Flow.{End}
use Rattle.definition.specs.Calls.{Place}
use Rattle.definition.specs.Run.{body_of, run_member}
use Rattle.definition.specs.Expansion.{world_for}
use Rattle.definition.proofs.Keeping.{Any, Laws, valueless, leaves_it, SoundEntering, entered_sound, enter_leaves}
use Rattle.definition.proofs.Members.{text_out_lem, member_leaves}

module _ (y : Layout) where
  abbrev Told : World → Type 0
  Told w = w.layout ≡ y

  told : Laws Told Any Any
  told = valueless (λ w h. tt) (λ w h _. h) λ v w h k. k.layout ∙ h

  run_told : (n : ℕ) (d : List ℕ) (m : ℕ) (on : List Place) (w : World) {x : End} {v : World} → Told w → run_member mixed n d m on w ≡ good x v → Told v
  run_told n d m on w h e = (leaves_it told (member_leaves told d (text_out_lem told d λ _ _ _ _ _ k. k) n m on w h) e).1

  entered_told : {e : Entering} {w : World} → SoundEntering told e → e ≡ entered w → Told w
  entered_told {w} h e = go (rw e at h)
    where
      go : SoundEntering told (entered w) → Told w
      go (entered_sound k) = k

pub member_layout : (n : ℕ) (d : List ℕ) (m : ℕ) (on : List Place) (w : World) {x : End} {v : World} → run_member mixed n d m on w ≡ good x v → v.layout ≡ w.layout
member_layout n d m on w e = run_told w.layout n d m on w refl e

-- of the main program
pub main_layout : (y : Layout) (d : List ℕ) (text_room list_room steps : ℕ) {w v : World} {x : End} → enter 0 (read_member mixed (body_of d 0)) (world_for y text_room list_room steps) ≡ entered w → run_member mixed include_levels d 0 [] w ≡ good x v → v.layout ≡ y
main_layout y d t l s {w} e f = run_told y include_levels d 0 [] w (entered_told y (enter_leaves (told y) 0 (read_member mixed (body_of d 0)) refl) e) f
