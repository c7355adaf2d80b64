-- The steps that an expansion charges are never more than its limit, and no part of a run gives steps back.
-- Assumes nothing.
use Prim.Native.Nat.{ℕ, ◌≤◌}
use native.Mathlib.Omega.{arith}
use mathlib.Core.Bool.{Bool}
use mathlib.Core.List.{List, []}
use mathlib.Core.Path.{◌≡◌, refl, ◌∙◌}
use Rattle.definition.specs.Bytes.{mixed}
use Rattle.definition.specs.Limits.{include_levels}
use Rattle.definition.specs.Reading.{read_member}
use Rattle.definition.specs.Expressions.{Tree}
use Rattle.definition.specs.Program.{Statement, Row}
use Rattle.definition.specs.Values.{Value}
use Rattle.definition.specs.World.{Owner, procedure_at, World, Res, good, bad, address_of, row_of}
use Rattle.definition.specs.Names.{Entering}
use Rattle.definition.specs.Evaluate.{Callee, evaluate}
use Rattle.definition.specs.Flow.{Frame, End, ran, returned, went, statement}
use Rattle.definition.specs.Calls.{Place, body_machine, calls}
use Rattle.definition.specs.Run.{Stop, body_of}
use Rattle.definition.specs.Cards.{Layout, plain, cards}
use Rattle.definition.specs.Expansion.{Expansion, result, run_main, world_for, expansion_of}
use Rattle.definition.proofs.Expanding.{ran_deck, ran_in, told_as, each_way}
use Rattle.definition.proofs.Keeping.{Any, any_all, Laws, valueless, Leaves, leaves, stops, passes, evaluate_leaves, statement_leaves, act_leaves, jump_in_lem, calls_leaves, SoundEntering, entered_sound, unreadable_any, enter_leaves}
use Rattle.definition.proofs.Members.{text_out_lem, member_leaves}

-- the steps charged after a part of the run
abbrev pub used_by : {E A : Type 0} → Res E A → ℕ
used_by (good a w) = w.used
used_by (bad e u) = u

module _ (least limit : ℕ) where
  -- the meter stands from `least` to `limit`
  abbrev pub Spent : ℕ → Type 0
  Spent u = (least ≤ u) × (u ≤ limit)

  pub record Kept (w : World) : Type 0 where
    pub same : w.limit ≡ limit
    pub spent : Spent w.used

  pub thrift : Laws Kept Any Spent
  thrift =
      valueless (λ w h. h.spent) (λ w h l. record { same = h.same; spent = omega (arith, h.same, h.spent, l) })
      λ v w h k. record { same = k.limit ∙ h.same; spent = omega (arith, h.spent, k.used) }

  pub spent_by : {E A : Type 0} {P : A → Type 0} {r : Res E A} → Leaves thrift P r → Spent (used_by r)
  spent_by (leaves e h) = h.spent
  spent_by (stops h) = h

-- ---- each part ends with the steps that it began with or more, within the limit
module _ (w : World) (h : w.used ≤ w.limit) where
  begun : Kept w.used w.limit w
  begun = record { same = refl; spent = omega arith }

  pub evaluate_used : (n : ℕ) (ps : List Place) (k : Owner) (x : Tree) (u : ℕ) → Spent w.used w.limit (used_by (evaluate (calls n ps) k x u w))
  evaluate_used n ps k x u =
      let laws : Laws (Kept w.used w.limit) Any (Spent w.used w.limit) = thrift w.used w.limit in
      spent_by w.used w.limit (evaluate_leaves laws (calls n ps) (calls_leaves laws n ps) k x u w begun)

  pub calls_used : (n : ℕ) (ps : List Place) (c : Callee) (vs : List Value) (u : ℕ) → Spent w.used w.limit (used_by (calls n ps c vs u w))
  calls_used n ps c vs u = spent_by w.used w.limit (calls_leaves (thrift w.used w.limit) n ps c vs u w (any_all vs) begun)

  -- of a procedure's body
  pub statement_used : (n : ℕ) (ps : List Place) (m r u : ℕ) (rs : List Row) (s : Statement) (fs : List Frame) (k : ℕ) → Spent w.used w.limit (used_by (statement (body_machine (calls n ps) m r u rs) s fs k w))
  unfolding body_machine
  statement_used n ps m r u rs s fs k =
      let laws : Laws (Kept w.used w.limit) Any (Spent w.used w.limit) = thrift w.used w.limit in
      spent_by w.used w.limit (statement_leaves laws (body_machine (calls n ps) m r u rs) Any (λ j. tt) (λ j. tt)
      (λ x v i. evaluate_leaves laws (calls n ps) (calls_leaves laws n ps) (procedure_at m r) x u v i) (λ y v _ i. passes laws i)
      (λ j v i. act_leaves laws (row_of rs j).statement _ u _ (λ x z q. evaluate_leaves laws (calls n ps) (calls_leaves laws n ps) (procedure_at m r) x u z q) i)
      (λ j t v i. jump_in_lem laws (address_of t (procedure_at m r) v) t rs j i) s fs k begun)

-- ---- THE EXPANSION
result_used : (r : Res Stop End) → (result r).steps ≡ used_by r
result_used (good ran w) = refl
result_used (good (returned v) w) = refl
result_used (good (went t) w) = refl
result_used (bad s u) = refl

main_fits : (limit : ℕ) {e : Entering} (d : List ℕ) → SoundEntering (thrift 0 limit) e → (run_main mixed e d).steps ≤ limit
main_fits limit d unreadable_any = omega arith
main_fits limit d (entered_sound {w} h) = rw result_used (spent_by 0 limit (member_leaves (thrift 0 limit) d (text_out_lem (thrift 0 limit) d λ e _ n v _ k. record { same = k.same; spent = k.spent }) include_levels 0 [] w h)).1

run_fits : (y : Layout) (d : List ℕ) (text_room list_room steps : ℕ) → (ran_in y d text_room list_room steps).steps ≤ steps
run_fits y d text_room list_room steps =
    let h : Kept 0 steps (world_for y text_room list_room steps) = record { same = refl; spent = omega arith } in
    main_fits steps d (enter_leaves (thrift 0 steps) 0 (read_member mixed (body_of d 0)) h)

told_steps : (y : Layout) (d : List ℕ) (x : Expansion) → (told_as y d x).steps ≡ x.steps
told_steps plain d x = refl
told_steps cards d x = refl

-- plain or cards
pub expansion_fits : (y : Layout) (roomy : Bool) (d : List ℕ) (text_room list_room steps : ℕ) → (expansion_of mixed y roomy d text_room list_room steps).steps ≤ steps
expansion_fits y roomy d text_room list_room steps =
    let e : List ℕ = ran_deck y d in
    each_way (λ (x : Expansion). x.steps ≤ steps) y roomy d text_room list_room steps (λ _. omega arith) (λ _ _ _. omega arith) (λ _ _ _. omega arith)
    λ _ _ _. omega (arith, run_fits y e text_room list_room steps, told_steps y e (ran_in y e text_room list_room steps))
