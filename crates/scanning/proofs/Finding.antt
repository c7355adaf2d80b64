-- The procedure of an entry that the table of names has.
-- Assumes nothing.
use Rattle.std.proofs.Common.{Option, Some, Result, Ok, Err}
use mathlib.Core.Path.{◌≡◌, refl, sym, ap, ◌∙◌}
use mathlib.Core.Bool.{Bool, true, false}
use mathlib.Core.List.{List, [], ◌∷◌}
use Prim.Native.Nat.{ℕ, ◌≤◌}
use lib.ListN.{length, get_or}
use Rattle.definition.specs.Bytes.{mixed}
use Rattle.definition.specs.Program as D
use Rattle.definition.specs.Tokens.{token_at, is_sign}
use Rattle.definition.specs.Values as Val
use Rattle.definition.specs.World.{World, entry_of, builtin_name, body_at, no_body, row_of, rows_of}
use Rattle.definition.specs.Evaluate as Ev
use Rattle.definition.specs.Evaluate.{callee, listed_in}
use Rattle.definition.specs.declared.Why.{Why}
use Rattle.definition.specs.declared.Why.TheVariants.{WrongName}
use Rattle.definition.specs.declared.ValueType.{ValueType}
use Rattle.meter.specs.declared.Meter.{Meter}
use Rattle.deck.specs.Answer.{body_in}
use Rattle.rows.specs.Table.{row_in}
use Rattle.rows.specs.Parts.{part_in}
use Rattle.names.specs.declared.Place.{Place}
use Rattle.callees.specs.declared.Callee.{Callee}
use Rattle.callees.specs.Shown.{names_world, world_in}
use Rattle.callees.specs.Answer.{owner_at, Names, HeadedBy, called_for, CalleeOf}
use Rattle.callees.proofs.Naming.{parameters_there}
use Rattle.operands.specs.declared.Scene.{Scene}
use Rattle.operands.specs.Shown.{IsRow, Stated, Shows}
use Rattle.evaluating.specs.Cycle.{IsProcedure}
use Rattle.scanning.proofs.Common.{never}

names_of : (o : Bool) (s : List ℕ) (ns : List (List ℕ)) (list : ℕ) → HeadedBy o s ns list → Names s ns list
names_of true s [] list k = tt
names_of true s (l ∷ ns) list k = k
names_of false s [] list k = tt
names_of false s (l ∷ ns) list k = never _ (cc)

pub record Found (deck rows names : List ℕ) (n : ℕ) (p : Place) (y : Result Callee Why) (W₁ : World) (B₁ : World) : Type 0 where
  pub list : ℕ
  pub listed : List (List ℕ)
  pub placed : Names (body_in deck p.member) listed list
  pub within : IsProcedure p B₁
  pub few : (ps : List Ev.Parameter) → Ev.parameters (owner_at p) listed (names_world deck names n) ≡ Val.gives ps → length ps ≤ 256
  pub called : y ≡ called_for p list (Ev.parameters (owner_at p) listed (names_world deck names n))
  pub value : callee (body_at p.member p.row) W₁ ≡ Val.and_then (Ev.parameters (owner_at p) listed (names_world deck names n)) (λ ps. Val.gives (record { member = p.member; row = p.row; parameters = ps }))

module _ (deck rows names c l h w : List ℕ) (u : ℕ) (x : Scene) (m : Meter) (b : Option Place) (y : Result Callee Why) (co : CalleeOf deck rows x.starts names x.names b y) where
  callee_value : (B₁ : World) → Shows deck rows names c l h w u x m B₁ → (p : Place) (ns : List (List ℕ)) (v : ValueType) → (row_of (rows_of p.member B₁) p.row).statement ≡ D.procedure ns v
      → callee (body_at p.member p.row) (world_in B₁ c l h m.used) ≡ Val.and_then (Ev.parameters (owner_at p) ns (names_world deck names x.names)) (λ ps. Val.gives (record { member = p.member; row = p.row; parameters = ps }))
  unfolding callee
  callee_value B₁ sh p ns v e =
      ap (λ (i : D.Statement). Val.and_then (Ev.parameters (owner_at p) (listed_in i) (world_in B₁ c l h m.used)) (λ ps. Val.gives (record { member = p.member; row = p.row; parameters = ps }))) e
      ∙ ap (λ (i : Val.Answer (List Ev.Parameter)). Val.and_then i (λ ps. Val.gives (record { member = p.member; row = p.row; parameters = ps }))) (parameters_there deck names x.names (world_in B₁ c l h m.used) sh.named.identifiers sh.named.denotations (owner_at p) ns)

  -- the entry at the address a
  pub found : (B₁ : World) → Shows deck rows names c l h w u x m B₁ → (p : Place) → b ≡ Some p → (a : ℕ) (d : Bool) → get_or B₁.denotations a builtin_name ≡ entry_of d (body_at p.member p.row) → Found deck rows names x.names p y (world_in B₁ c l h m.used) B₁
  found B₁ sh p e a d k =
      let q : IsRow p.member p.row B₁ × ((ns : List (List ℕ)) × (v : ValueType) × ((row_of (rows_of p.member B₁) p.row).statement ≡ D.procedure ns v)) = sh.rowed.bodies a p.member p.row d k in
      let t : Stated (body_in deck p.member) (row_in (part_in rows x.starts p.member) p.row).content (D.procedure q.1.0 q.1.1) = rw q.1.2 at (sh.rowed.stated p.member p.row q.0) in
      record {
        list = t.1.0;
        listed = q.1.0;
        placed = names_of (is_sign "(" (token_at mixed (body_in deck p.member) (row_in (part_in rows x.starts p.member) p.row).content).token) (body_in deck p.member) q.1.0 t.1.0 t.1.1.names;
        within = record { within = q.0; names = q.1.0; type = q.1.1; is = q.1.2 };
        few = λ ps f. sh.rowed.parameters p.member p.row q.1.0 q.1.1 ps q.0 q.1.2 (parameters_there deck names x.names B₁ sh.named.identifiers sh.named.denotations (owner_at p) q.1.0 ∙ f);
        called = (co.some p e).is t.1.0 q.1.0 t.1.1 t.0;
        value = callee_value B₁ sh p q.1.0 q.1.1 q.1.2;
      }

pub called_fails : (p : Place) (list : ℕ) (Z : Val.Answer (List Ev.Parameter)) (f : Why) → Err f ≡ called_for p list Z → Z ≡ Val.fails f
unfolding called_for
called_fails p list (Val.gives ps) f e = never _ (cc)
called_fails p list (Val.fails g) f e = let k : f ≡ g = cc in ap Val.fails (sym k)

pub record Got (p : Place) (list : ℕ) (z : Callee) (Z : Val.Answer (List Ev.Parameter)) : Type 0 where
  pub parameters : List Ev.Parameter
  pub is : Z ≡ Val.gives parameters
  pub callee : z ≡ record { place = p; list = list; count = length parameters }

pub called_is : (p : Place) (list : ℕ) (Z : Val.Answer (List Ev.Parameter)) (z : Callee) → Ok z ≡ called_for p list Z → Got p list z Z
unfolding called_for
called_is p list (Val.gives ps) z e = let k : z ≡ record { place = p; list = list; count = length ps } = cc in record { parameters = ps; is = refl; callee = k }
called_is p list (Val.fails g) z e = never _ (cc)

pub callee_none : (W₁ : World) → callee no_body W₁ ≡ Val.fails WrongName
unfolding callee
callee_none W₁ = refl
