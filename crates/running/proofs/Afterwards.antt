-- WHAT THERE IS LATER: a world and a table of rows that grew, one after the other; members that stand below, stand.
-- Assumes nothing.
use mathlib.Core.Path.{◌≡◌, refl}
use mathlib.Core.List.{List, [], ◌∷◌}
use Prim.Native.Nat.{ℕ}
use native.Mathlib.Omega.{arith}
use Rattle.definition.specs.World.{World}
use Rattle.definition.specs.Calls.{Place}
use Rattle.showing.specs.Later.{Later}
use Rattle.showing.proofs.Later.{later_size, later_same, later_on}
use Rattle.showing.proofs.Returning.{grew_none, grew_on}
use Rattle.leaving.specs.Places.{Stand}
use Rattle.running.specs.Members.{Since}

pub since_none : (rows : List ℕ) (B : World) → Since rows B rows B
since_none rows B = record { later = later_same B B refl refl refl; more = omega arith; grew = grew_none rows B.sentences }

pub since_same : (rows : List ℕ) (B B' : World) → Later B B' → B'.sentences ≡ B.sentences → Since rows B rows B'
since_same rows B B' h e = record { later = h; more = omega (arith, e); grew = grew_none rows B.sentences }

pub since_on : (rows rows' rows'' : List ℕ) (B B' B'' : World) → Since rows B rows' B' → Since rows' B' rows'' B'' → Since rows B rows'' B''
since_on rows rows' rows'' B B' B'' h i = record {
  later = later_on B B' B'' h.later i.later;
  more = omega (arith, h.more, i.more);
  grew = grew_on rows rows' rows'' B.sentences B'.sentences h.more h.grew i.grew;
}

pub stand_later : (ps : List Place) (B B' : World) → Later B B' → Stand ps B → Stand ps B'
stand_later [] B B' h k = tt
stand_later (p ∷ ps) B B' h k = (later_size B B' p.member p.row h k.0, stand_later ps B B' h k.1)
