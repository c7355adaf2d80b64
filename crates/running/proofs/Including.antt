-- THE DEFINITION'S INCLUDE is the one of specs/Included.antt, and a member that was entered runs what was read of it.
-- Assumes nothing.
use Prim.Native.Nat.{ℕ, zero, suc}
use mathlib.Core.Path.{◌≡◌, refl, ◌∙◌}
use mathlib.Core.List.{List, [], ◌∷◌}
use Rattle.definition.specs.Bytes.{mixed}
use Rattle.definition.specs.Deck as Deck
use Rattle.definition.specs.Reading.{read_member}
use Rattle.definition.specs.World.{World, Res, good, bad, bind}
use Rattle.definition.specs.Names as N
use Rattle.definition.specs.Flow as F
use Rattle.definition.specs.Calls.{Place}
use Rattle.definition.specs.Run as Run
use Rattle.definition.specs.Run.{body_of}
use Rattle.running.specs.Included.{level_of, entered_run, enter_run, found_run, end_on, include_on}

-- THE MEMBER runs what was read of it, with the level that is left
pub run_member_is : (n : ℕ) (d : List ℕ) (m : ℕ) (on : List Place) (w : World) → Run.run_member mixed n d m on w ≡ Run.run_source mixed (level_of n d) d m on (read_member mixed (body_of d m)) w
unfolding Run.run_member
run_member_is zero d m on w = refl
run_member_is (suc n) d m on w = refl

-- the INCLUDE of row r of member m, at the place p
module _ (d : List ℕ) (p m r : ℕ) (on : List Place) where
  abbrev inside : List Place
  inside = record { member = m; row = r } ∷ on

  -- ---- one name
  entered_by : (e : N.Entering) (n k : ℕ) (w : World) (next : World → Res Run.Stop F.Deed)
      → Run.include_entered e (Run.run_member mixed n d) k m r on w next ≡ bind (entered_run e k w (λ v. Run.run_member mixed n d k inside v)) (λ x v. Run.came_out m x v next)
  entered_by (N.unreadable e q) n k w next = refl
  entered_by (N.entered v) n k w next = refl

  found_by : (f : Deck.Found) (n : ℕ) (w : World) (next : World → Res Run.Stop F.Deed)
      → Run.include_at mixed f (level_of n d) d p m r on w next ≡ bind (found_run f n d p m inside w) (λ x v. Run.came_out m x v next)
  unfolding enter_run
  found_by Deck.none n w next = refl
  found_by (Deck.line k) zero w next = refl
  found_by (Deck.line k) (suc n) w next = entered_by (N.enter k (read_member mixed (body_of d k)) w) n k w next

  -- ---- and the names behind it: `next` runs them in the definition, `more` here
  ended_by_lem : (R : Res Run.Stop F.End) (next : World → Res Run.Stop F.Deed) (more : World → Res Run.Stop F.End) → ((v : World) → next v ≡ bind (more v) (λ x u. Run.came_out m x u (λ y. good F.passed y)))
      → bind R (λ x v. Run.came_out m x v next) ≡ bind (bind R (λ x v. end_on x v more)) (λ x u. Run.came_out m x u (λ y. good F.passed y))
  ended_by_lem (bad e u) next more h = refl
  ended_by_lem (good F.ran v) next more h = h v
  ended_by_lem (good (F.returned z) v) next more h = h v
  ended_by_lem (good (F.went t) v) next more h = refl

  pub include_is : (n : ℕ) (ns : List Deck.Sought) (w : World)
      → Run.include_all mixed (level_of n d) d p m r on ns w ≡ bind (include_on n d p m (record { member = m; row = r } ∷ on) ns w) (λ x v. Run.came_out m x v (λ u. good F.passed u))
  unfolding Run.include_all include_on
  include_is n [] w = refl
  include_is n (x ∷ xs) w =
      found_by (Deck.find mixed x 0 (Deck.lines d)) n w (λ v. Run.include_all mixed (level_of n d) d p m r on xs v)
      ∙ ended_by_lem (found_run (Deck.find mixed x 0 (Deck.lines d)) n d p m inside w) (λ v. Run.include_all mixed (level_of n d) d p m r on xs v) (λ v. include_on n d p m inside xs v) (λ v. include_is n xs v)
