-- A name without a list that is an entry.
-- Assumes nothing.
use Rattle.operands.specs.Types.{Evaluated}
use Rattle.std.proofs.Common.{Option, Some, None, Result, Ok, Err}
use mathlib.Core.Path.{◌≡◌, refl, sym, ap, subst, ◌∙◌}
use mathlib.Core.Bool.{Bool, true, false, cond}
use mathlib.Core.List.{List, [], ◌∷◌}
use Prim.Native.Nat.{ℕ, ◌≤◌}
use native.Mathlib.Omega.{arith}
use borrow.Author.Tests.{ne_eqb}
use lib.Dec.{eqb}
use lib.ListN.{length, get_or}
use Rattle.definition.specs.Bytes.{mixed}
use Rattle.definition.specs.Choice.{when}
use Rattle.definition.specs.Program as D
use Rattle.definition.specs.Tokens.{token_at, is_sign}
use Rattle.definition.specs.Values as Val
use Rattle.definition.specs.World as W
use Rattle.definition.specs.World.{World, Res, bad, variable_of, entry_of, label_at, builtin_name, body_at, no_body, seen_from, row_of, rows_of}
use Rattle.definition.specs.Evaluate as Ev
use Rattle.definition.specs.Evaluate.{meant, plain_name, callee, listed_in}
use Rattle.definition.specs.declared.Why.{Why}
use Rattle.definition.specs.declared.Why.TheVariants.{WrongArguments, WrongName}
use Rattle.definition.specs.declared.ValueType.{ValueType}
use Rattle.meter.specs.declared.Meter.{Meter}
use Rattle.deck.specs.Answer.{body_in}
use Rattle.rows.specs.Table.{row_in}
use Rattle.names.specs.declared.Place.{Place}
use Rattle.callees.specs.declared.Meant.{Meant}
use Rattle.callees.specs.declared.Meant.TheVariants as M
use Rattle.callees.specs.declared.Callee.{Callee}
use Rattle.callees.specs.declared.Held.{Held}
use Rattle.callees.specs.Shown.{names_world, world_in}
use Rattle.callees.specs.Answer.{owner_at, Names, HeadedBy, called_for, CalleeOf, held_from}
use Rattle.callees.proofs.Naming.{parameters_there}
use Rattle.operands.specs.declared.Scene.{Scene}
use Rattle.operands.specs.Shown.{IsRow, Stated, Shows}
use Rattle.operands.specs.Answer.{with_end, Gave, run_in, Means}
use Rattle.rows.specs.Parts.{part_in}
use Rattle.evaluating.specs.Cycle.{NameIs, IsProcedure, CalleeShown, CallIs}
use Rattle.operands.proofs.Leaves.{below_same}

-- ---- where an entry is declared
pub record Declared (w : World) (b : W.Body) : Type 0 where
  pub at : ℕ
  pub declared : Bool
  pub is : get_or w.denotations at builtin_name ≡ entry_of declared b

no_entry : (b : W.Body) (v : Bool) {A : Type 0} → Ev.an_entry b ≡ cond v Ev.the_substr Ev.no_such → A
no_entry b true e = absurd (let z : ◌≡◌ {A = ℕ} 0 1 = cc in omega arith)
no_entry b false e = absurd (let z : ◌≡◌ {A = ℕ} 0 1 = cc in omega arith)

entry_by : (a : ℕ) (n : List ℕ) (w : World) (b : W.Body) (d : W.Denotation) → W.denotation a w ≡ d → Ev.an_entry b ≡ Ev.meant_by d a n → Declared w b
entry_by a n w b (variable_of t) f e = absurd (let z : ◌≡◌ {A = ℕ} 0 1 = cc in omega arith)
entry_by a n w b (entry_of x c) f e = let h : b ≡ c = cc in record { at = a; declared = x; is = rw h f }
entry_by a n w b (label_at m r x) f e = absurd (let z : ◌≡◌ {A = ℕ} 0 1 = cc in omega arith)
entry_by a n w b builtin_name f e = no_entry b (Ev.is_substr n) e

entry_at : (x : W.Address) (n : List ℕ) (w : World) (b : W.Body) → Ev.an_entry b ≡ Ev.meant_at x n w → Declared w b
entry_at (W.address a) n w b e = entry_by a n w b (W.denotation a w) refl e
entry_at W.unknown n w b e = no_entry b (Ev.is_substr n) e

entry_means : (b : Option Place) (B₁ : World) → Means (M.AnEntry b) B₁ → Declared B₁ (Rattle.names.specs.Table.body_of b)
unfolding meant
entry_means b B₁ k = entry_at (seen_from k.scope k.spelling B₁) k.spelling B₁ (Rattle.names.specs.Table.body_of b) k.is

-- ---- the row of its procedure
names_of : (o : Bool) (s : List ℕ) (ns : List (List ℕ)) (list : ℕ) → HeadedBy o s ns list → Names s ns list
names_of true s [] list k = tt
names_of true s (l ∷ ns) list k = k
names_of false s [] list k = tt
names_of false s (l ∷ ns) list k = absurd (let z : ◌≡◌ {A = ℕ} 0 1 = cc in omega arith)

pub record Found (deck rows names : List ℕ) (n : ℕ) (p : Place) (y : Result Callee Why) (W₁ : World) (B₁ : World) : Type 0 where
  pub list : ℕ
  pub listed : List (List ℕ)
  pub placed : Names (body_in deck p.member) listed list
  pub within : IsProcedure p B₁
  pub few : (ps : List Ev.Parameter) → Ev.parameters (owner_at p) listed (names_world deck names n) ≡ Val.gives ps → length ps ≤ 256
  pub called : y ≡ called_for p list (Ev.parameters (owner_at p) listed (names_world deck names n))
  pub value : callee (body_at p.member p.row) W₁ ≡ Val.and_then (Ev.parameters (owner_at p) listed (names_world deck names n)) (λ ps. Val.gives (record { member = p.member; row = p.row; parameters = ps }))

module _ (deck rows names c l h w : List ℕ) (u : ℕ) (x : Scene) (m : Meter) (b : Option Place) (y : Result Callee Why) (co : CalleeOf deck rows x.starts names x.names b y) where
  callee_value : (B₁ : World) → Shows deck rows names c l h w u x m B₁ → (p : Place) (ns : List (List ℕ)) (v : ValueType) → (row_of (rows_of p.member B₁) p.row).statement ≡ D.procedure ns v
      → callee (body_at p.member p.row) (world_in B₁ c l h m.used) ≡ Val.and_then (Ev.parameters (owner_at p) ns (names_world deck names x.names)) (λ ps. Val.gives (record { member = p.member; row = p.row; parameters = ps }))
  unfolding callee
  callee_value B₁ sh p ns v e =
      ap (λ (i : D.Statement). Val.and_then (Ev.parameters (owner_at p) (listed_in i) (world_in B₁ c l h m.used)) (λ ps. Val.gives (record { member = p.member; row = p.row; parameters = ps }))) e
      ∙ ap (λ (i : Val.Answer (List Ev.Parameter)). Val.and_then i (λ ps. Val.gives (record { member = p.member; row = p.row; parameters = ps }))) (parameters_there deck names x.names (world_in B₁ c l h m.used) sh.named.identifiers sh.named.denotations (owner_at p) ns)

  pub found : (B₁ : World) → Shows deck rows names c l h w u x m B₁ → (p : Place) → b ≡ Some p → Means (M.AnEntry b) B₁ → Found deck rows names x.names p y (world_in B₁ c l h m.used) B₁
  found B₁ sh p e k =
      let d : Declared B₁ (body_at p.member p.row) = rw e at (entry_means b B₁ k) in
      let q : IsRow p.member p.row B₁ × ((ns : List (List ℕ)) × (v : ValueType) × ((row_of (rows_of p.member B₁) p.row).statement ≡ D.procedure ns v)) = sh.rowed.bodies d.at p.member p.row d.declared d.is in
      let t : Stated (body_in deck p.member) (row_in (part_in rows x.starts p.member) p.row).content (D.procedure q.1.0 q.1.1) = rw q.1.2 at (sh.rowed.stated p.member p.row q.0) in
      record {
        list = t.1.0;
        listed = q.1.0;
        placed = names_of (is_sign "(" (token_at mixed (body_in deck p.member) (row_in (part_in rows x.starts p.member) p.row).content).token) (body_in deck p.member) q.1.0 t.1.0 t.1.1.names;
        within = record { within = q.0; names = q.1.0; type = q.1.1; is = q.1.2 };
        few = λ ps f. sh.rowed.parameters p.member p.row q.1.0 q.1.1 ps q.0 q.1.2 (parameters_there deck names x.names B₁ sh.named.identifiers sh.named.denotations (owner_at p) q.1.0 ∙ f);
        called = (co.some p e).is t.1.0 q.1.0 t.1.1 t.0;
        value = callee_value B₁ sh p q.1.0 q.1.1 q.1.2;
      }

  -- what the definition does with a callee
  plain_gives : (b₁ : W.Body) (W₁ : World) (q : Ev.Callee) → callee b₁ W₁ ≡ Val.gives q → plain_name (run_in x) (Ev.an_entry b₁) u W₁ ≡ when (eqb (length q.parameters) 0) (λ _. run_in x q [] u W₁) (λ _. bad WrongArguments W₁.used)
  unfolding plain_name
  plain_gives b₁ W₁ q e = rw e

  plain_fails : (b₁ : W.Body) (W₁ : World) (f : Why) → callee b₁ W₁ ≡ Val.fails f → plain_name (run_in x) (Ev.an_entry b₁) u W₁ ≡ bad f W₁.used
  unfolding plain_name
  plain_fails b₁ W₁ f e = rw e

  pub callee_none : (W₁ : World) → callee no_body W₁ ≡ Val.fails WrongName
  unfolding callee
  callee_none W₁ = refl

  refused_gave : (B₁ : World) → Shows deck rows names c l h w u x m B₁ → (to : ℕ) (f : Why) (R : Res Why Val.Value) → R ≡ bad f m.used → Gave B₁ u w c l h w (Err (f, m)) to R
  refused_gave B₁ sh to f R q = record { is = sym q; end = refl; below = below_same u w; fits = omega (arith, sh.taken); limit = sh.limit; slots = sh.slots }

  pub called_fails : (p : Place) (list : ℕ) (Z : Val.Answer (List Ev.Parameter)) (f : Why) → Err f ≡ called_for p list Z → Z ≡ Val.fails f
  unfolding called_for
  called_fails p list (Val.gives ps) f e = absurd (let z : ◌≡◌ {A = ℕ} 0 1 = cc in omega arith)
  called_fails p list (Val.fails g) f e = let k : f ≡ g = cc in ap Val.fails (sym k)

  pub record Got (p : Place) (list : ℕ) (z : Callee) (Z : Val.Answer (List Ev.Parameter)) : Type 0 where
    pub parameters : List Ev.Parameter
    pub is : Z ≡ Val.gives parameters
    pub callee : z ≡ record { place = p; list = list; count = length parameters }

  pub called_is : (p : Place) (list : ℕ) (Z : Val.Answer (List Ev.Parameter)) (z : Callee) → Ok z ≡ called_for p list Z → Got p list z Z
  unfolding called_for
  called_is p list (Val.gives ps) z e = let k : z ≡ record { place = p; list = list; count = length ps } = cc in record { parameters = ps; is = refl; callee = k }
  called_is p list (Val.fails g) z e = absurd (let z : ◌≡◌ {A = ℕ} 0 1 = cc in omega arith)

  module _ (v : Meant) (i : v ≡ M.AnEntry b) (to : ℕ) where
    fails_by : (f : Why) → y ≡ Err f → (B₁ : World) → Shows deck rows names c l h w u x m B₁ → Means (M.AnEntry b) B₁ → (o : Option Place) → b ≡ o → Gave B₁ u w c l h w (Err (f, m)) to (plain_name (run_in x) (Ev.an_entry (Rattle.names.specs.Table.body_of o)) u (world_in B₁ c l h m.used))
    fails_by f e B₁ sh k None j =
        let d : WrongName ≡ f = (let g : Err f ≡ Err WrongName = sym e ∙ co.none j in let a : f ≡ WrongName = cc in sym a) in
        refused_gave B₁ sh to f _ (plain_fails no_body (world_in B₁ c l h m.used) WrongName (callee_none (world_in B₁ c l h m.used)) ∙ ap (λ (a : Why). bad a m.used) d)
    fails_by f e B₁ sh k (Some p) j =
        let q : Found deck rows names x.names p y (world_in B₁ c l h m.used) B₁ = found B₁ sh p j k in
        let a : Ev.parameters (owner_at p) q.listed (names_world deck names x.names) ≡ Val.fails f = called_fails p q.list _ f (sym e ∙ q.called) in
        refused_gave B₁ sh to f _ (plain_fails (body_at p.member p.row) (world_in B₁ c l h m.used) f (q.value ∙ rw a))

    pub entry_fails : (f : Why) → y ≡ Err f → NameIs deck rows names c l h w u x m v to c l h w (Err (f, m))
    entry_fails f e = rw i record { is = λ B₁ sh k. fails_by f e B₁ sh k b refl }

    module _ (z : Callee) (e : y ≡ Ok z) where
      got_by : (B₁ : World) (sh : Shows deck rows names c l h w u x m B₁) (p : Place) (q : Found deck rows names x.names p y (world_in B₁ c l h m.used) B₁) → Got p q.list z (Ev.parameters (owner_at p) q.listed (names_world deck names x.names))
      got_by B₁ sh p q = called_is p q.list _ z (sym e ∙ q.called)

      no_body_lem : b ≡ None → {A : Type 0} → A
      no_body_lem j = absurd (let g : Ok z ≡ Err WrongName = sym e ∙ co.none j in let o : ◌≡◌ {A = ℕ} 0 1 = cc in omega arith)

      value_got : (B₁ : World) (p : Place) (q : Found deck rows names x.names p y (world_in B₁ c l h m.used) B₁) (ps : List Ev.Parameter) → Ev.parameters (owner_at p) q.listed (names_world deck names x.names) ≡ Val.gives ps
          → plain_name (run_in x) (Ev.an_entry (body_at p.member p.row)) u (world_in B₁ c l h m.used) ≡ when (eqb (length ps) 0) (λ _. run_in x (record { member = p.member; row = p.row; parameters = ps }) [] u (world_in B₁ c l h m.used)) (λ _. bad WrongArguments m.used)
      value_got B₁ p q ps a = plain_gives (body_at p.member p.row) (world_in B₁ c l h m.used) (record { member = p.member; row = p.row; parameters = ps }) (q.value ∙ rw a)

      many_by : (z.count ≡ 0 → ⊥) → (B₁ : World) → Shows deck rows names c l h w u x m B₁ → Means (M.AnEntry b) B₁ → (o : Option Place) → b ≡ o → Gave B₁ u w c l h w (Err (WrongArguments, m)) to (plain_name (run_in x) (Ev.an_entry (Rattle.names.specs.Table.body_of o)) u (world_in B₁ c l h m.used))
      many_by n B₁ sh k None j = no_body_lem j
      many_by n B₁ sh k (Some p) j =
          let q : Found deck rows names x.names p y (world_in B₁ c l h m.used) B₁ = found B₁ sh p j k in
          let g : Got p q.list z (Ev.parameters (owner_at p) q.listed (names_world deck names x.names)) = got_by B₁ sh p q in
          let a : length g.parameters ≡ 0 → ⊥ = λ r. n (ap (λ (i : Callee). i.count) g.callee ∙ r) in
          refused_gave B₁ sh to WrongArguments _ (value_got B₁ p q g.parameters g.is ∙ rw (ne_eqb (length g.parameters) 0 a))

      pub entry_many : (z.count ≡ 0 → ⊥) → NameIs deck rows names c l h w u x m v to c l h w (Err (WrongArguments, m))
      entry_many n = rw i record { is = λ B₁ sh k. many_by n B₁ sh k b refl }

      module _ (n : z.count ≡ 0) (hd : Held) (c₁ l₁ h₁ w₁ : List ℕ) (a : Evaluated) (ca : CallIs deck rows names c l h w u x m z hd c₁ l₁ h₁ w₁ a) (r : Evaluated) (re : r ≡ with_end a to) where
        up_gave : (B₁ : World) (d : Evaluated) (R : Res Why Val.Value) → Gave B₁ u w c₁ l₁ h₁ w₁ d 0 R → Gave B₁ u w c₁ l₁ h₁ w₁ (with_end d to) to R
        up_gave B₁ (Ok (e, q, k)) R g = record { is = g.is; end = refl; below = g.below; fits = g.fits; limit = g.limit; slots = g.slots }
        up_gave B₁ (Err (e, k)) R g = record { is = g.is; end = refl; below = g.below; fits = g.fits; limit = g.limit; slots = g.slots }

        none_by : (B₁ : World) → Shows deck rows names c l h w u x m B₁ → (p : Place) (q : Found deck rows names x.names p y (world_in B₁ c l h m.used) B₁) (ps : List Ev.Parameter) → Ev.parameters (owner_at p) q.listed (names_world deck names x.names) ≡ Val.gives ps
            → z ≡ record { place = p; list = q.list; count = length ps } → length ps ≡ 0 → Gave B₁ u w c₁ l₁ h₁ w₁ r to (plain_name (run_in x) (Ev.an_entry (body_at p.member p.row)) u (world_in B₁ c l h m.used))
        unfolding held_from
        none_by B₁ sh p q (o ∷ ps) f g j = absurd (omega (arith, j))
        none_by B₁ sh p q [] f g j =
            let cs : CalleeShown deck names x.names z (record { member = p.member; row = p.row; parameters = [] }) B₁ = rw g record { member = refl; row = refl; listed = q.listed; placed = q.placed; asked = f; count = refl; few = omega arith; within = q.within } in
            let G : Gave B₁ u w c₁ l₁ h₁ w₁ a 0 (run_in x (record { member = p.member; row = p.row; parameters = [] }) [] u (world_in B₁ c l h m.used)) = ca.is B₁ sh (record { member = p.member; row = p.row; parameters = [] }) cs tt in
            subst (Gave B₁ u w c₁ l₁ h₁ w₁ r to) (sym (value_got B₁ p q [] f)) (rw re (up_gave B₁ a _ G))

        call_by : (B₁ : World) → Shows deck rows names c l h w u x m B₁ → Means (M.AnEntry b) B₁ → (o : Option Place) → b ≡ o → Gave B₁ u w c₁ l₁ h₁ w₁ r to (plain_name (run_in x) (Ev.an_entry (Rattle.names.specs.Table.body_of o)) u (world_in B₁ c l h m.used))
        call_by B₁ sh k None j = no_body_lem j
        call_by B₁ sh k (Some p) j =
            let q : Found deck rows names x.names p y (world_in B₁ c l h m.used) B₁ = found B₁ sh p j k in
            let g : Got p q.list z (Ev.parameters (owner_at p) q.listed (names_world deck names x.names)) = got_by B₁ sh p q in
            none_by B₁ sh p q g.parameters g.is g.callee (sym (ap (λ (i : Callee). i.count) g.callee) ∙ n)

        pub entry_called : NameIs deck rows names c l h w u x m v to c₁ l₁ h₁ w₁ r
        entry_called = rw i record { is = λ B₁ sh k. call_by B₁ sh k b refl }
