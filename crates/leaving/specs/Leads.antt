-- GOTO outside procedures: "kind first, then 13".
use Rattle.definition.specs.declared.Why.{Why}
use Rattle.std.specs.Prelude.{ℕ, ◌<◌, ◌≤◌, ◌≡◌, Bool, cond, List, eqb, length, get_or, Option, Some, None, Result, Ok, Err}
use Rattle.definition.specs.Values as Val
use Rattle.definition.specs.World as W
use Rattle.definition.specs.World.{World, everyone, address_of, ask, rows_of}
use Rattle.definition.specs.Flow as F
use Rattle.definition.specs.Run.{landing, jump_from}
use Rattle.definition.specs.declared.Why.TheVariants.{WrongGoto}
use Rattle.names.specs.declared.Label.{Label}
use Rattle.rows.specs.declared.Starts.{Starts}
use Rattle.rows.specs.Parts.{part_in}
use Rattle.flow.specs.Shown.{Shown}
use Rattle.flow.specs.Walks.{may_go_on, label_from}
use Rattle.callees.specs.Shown.{Named}
use Rattle.callees.specs.Answer.{spelled_at}
use Rattle.leaving.specs.declared.Below.{Below}
use Rattle.leaving.specs.declared.Jump.{Jump}
use Rattle.leaving.specs.declared.Jump.TheVariants as J
use Rattle.leaving.specs.Places.{below_of, row_for, Stand}

-- what a jump is in the definition
abbrev pub jump_for : Result Jump Why → Val.Answer F.Jump
jump_for (Ok (J.Here l)) = Val.gives (landing l.place.row l.is_end)
jump_for (Ok (J.Away l)) = Val.gives (F.away (record { member = l.place.member; row = l.place.row; is_end = l.is_end }))
jump_for (Err e) = Val.fails e

-- whether GOTO may lead from row n of the part t to the label l
abbrev pub may_lead : List ℕ → ℕ → Label → Bool
may_lead t n l = may_go_on t n 2048 (label_from t l.place.row l.is_end)

-- to a label in a member below, which stands at a row of the part t
abbrev pub away_to : Option ℕ → List ℕ → Label → Result Jump Why
away_to None t l = Err WrongGoto
away_to (Some n) t l = cond (may_lead t n l) (Ok (J.Away l)) (Err WrongGoto)

-- from row n of member m
unfoldable pub label_to : List ℕ → Starts → Below → ℕ → ℕ → Label → Result Jump Why
label_to rows x b m n l =
    cond (eqb l.place.member m) (cond (may_lead (part_in rows x l.place.member) n l) (Ok (J.Here l)) (Err WrongGoto))
    (away_to (row_for (below_of b) l.place.member) (part_in rows x l.place.member) l)

-- the rows of each member are its part of the table; where a label leads, and where members stand, there is a row
pub record RowsThere (rows : List ℕ) (x : Starts) (b : Below) (m n : ℕ) (B : World) : Type 0 where
  pub shown : (k : ℕ) → Shown (part_in rows x k) (rows_of k B)
  pub few : (k : ℕ) → length (rows_of k B) ≤ 2048
  pub labels : (l : List ℕ) (a k r : ℕ) (q : Bool) → address_of l everyone B ≡ W.address a → get_or B.denotations a W.builtin_name ≡ W.label_at k r q → r < length (rows_of k B)
  pub below : Stand (below_of b) B
  pub here : n < length (rows_of m B)

-- the GOTO of row n of member m, whose label's name stands behind the place `at`: the definition's jump, and the world stays
pub record JumpIs (deck s rows names : List ℕ) (count : ℕ) (b : Below) (m : ℕ) (x : Starts) (n at : ℕ) (r : Result Jump Why) : Type 0 where
  pub is : (B : World) → Named deck names count B → RowsThere rows x b m n B
      → ask (jump_for r) B ≡ jump_from (address_of (spelled_at s at) everyone B) m (rows_of m B) (below_of b) n B
