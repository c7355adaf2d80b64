-- A name with a list: whose arguments it takes, the call, and SUBSTR.
-- Assumes nothing.
use Rattle.operands.specs.Types.{Evaluated}
use Rattle.std.proofs.Common.{Option, Some, None}
use Rattle.names.specs.declared.Place.{Place}
use mathlib.Core.Path.{◌≡◌, refl, sym, ap, subst, ◌∙◌}
use mathlib.Core.Bool.{Bool, true, false, cond}
use mathlib.Core.List.{List, [], ◌∷◌}
use Prim.Native.Nat.{ℕ, suc, ◌+◌, ◌≤◌}
use native.Mathlib.Omega.{arith}
use Rattle.std.specs.Prelude.{Result, Ok, Err}
use lib.ListN.{length}
use Rattle.definition.specs.Bytes.{mixed}
use Rattle.definition.specs.Choice.{when}
use Rattle.definition.specs.Expressions as E
use Rattle.definition.specs.Expressions.{read, parsed, Tree}
use Rattle.definition.specs.Values as Val
use Rattle.definition.specs.World.{World, Res, bad, bind}
use Rattle.definition.specs.Evaluate as Ev
use Rattle.definition.specs.Evaluate.{put, count}
use Rattle.definition.specs.declared.Why.{Why}
use Rattle.definition.specs.declared.Why.TheVariants.{WrongName}
use Rattle.definition.specs.declared.ValueType.{ValueType}
use Rattle.meter.specs.declared.Meter.{Meter}
use Rattle.names.specs.Table.{owner_of}
use Rattle.expressions.specs.Check.{inside_of}
use Rattle.operators.specs.declared.Value.{Value}
use Rattle.operators.specs.Stands.{size_for}
use Rattle.callees.specs.declared.Held.{Held}
use Rattle.callees.specs.declared.Callee.{Callee}
use Rattle.callees.specs.Shown.{names_world, world_in, Slots}
use Rattle.callees.specs.Answer.{owner_at, held_size}
use Rattle.operands.specs.declared.Scene.{Scene}
use Rattle.operands.specs.declared.Target.{Target}
use Rattle.operands.specs.declared.Target.TheVariants as T
use Rattle.evaluating.specs.declared.Taken.{Taken}
use Rattle.operands.specs.Shown.{Shows}
use Rattle.operands.specs.Answer.{with_end, Gave, run_in}
use Rattle.operands.specs.Takes.{Coming, first_listed, wanted_by, Path, substr_values, SubstrDone}
use Rattle.evaluating.specs.Cycle.{Waits, Args, TakenIs}
use Rattle.operands.proofs.Leaves.{true_false}
use Rattle.evaluating.proofs.Cycle.{shows_as, gave_over, gave_as}
use mathlib.Core.Bool.{◌||◌}
use lib.Dec.{eqb}
use borrow.Author.Tests.{eq-eqb, eqb-true}
use Rattle.definition.specs.World as W
use Rattle.definition.specs.World.{body_at, no_body}
use Rattle.definition.specs.Evaluate.{callee, listed_name}
use Rattle.definition.specs.declared.Why.TheVariants.{WrongArguments}
use Rattle.names.specs.Table.{body_of}
use Rattle.callees.specs.declared.Meant.{Meant}
use Rattle.callees.specs.declared.Meant.TheVariants as M
use Rattle.callees.specs.Answer.{meant_for, CalleeOf, Waiting, held_from}
use Rattle.operands.specs.Answer.{Means}
use Rattle.evaluating.specs.Cycle.{ListedIs, CalleeShown, CallIs}
use Rattle.operands.specs.Blocks.{CountIs}
use Rattle.operands.specs.Takes.{aim_for, AimAs, AimIs}
use Rattle.evaluating.proofs.Entries.{Found, found, Got, called_is, called_fails, callee_none}
use Rattle.operands.proofs.Trees.{clash}

-- ---- the definition's name with a list
module _ (x : Scene) where
  abbrev asked : Tree → List Ev.Wish → ℕ → World → Res Why (List Val.Value)
  asked t ws v z = Ev.arguments (run_in x) (owner_of x.owner) t ws v z

  abbrev named : Tree → Ev.Meant → ℕ → World → Res Why Val.Value
  named t y u w = listed_name (run_in x) (asked t) (count t) y u w

  named_variable : (t : Tree) (a : ℕ) (v : ValueType) (u : ℕ) (w : World) → named t (Ev.a_variable a v) u w ≡ bad WrongName w.used
  unfolding listed_name
  named_variable t a v u w = refl

  named_none : (t : Tree) (u : ℕ) (w : World) → named t Ev.no_such u w ≡ bad WrongName w.used
  unfolding listed_name
  named_none t u w = refl

  named_substr : (t : Tree) (u : ℕ) (w : World) (b : Bool) → (eqb (count t) 2 || eqb (count t) 3) ≡ b → named t Ev.the_substr u w ≡ when b (λ _. bind (asked t Ev.substr_wishes u w) (λ vs z. put u (Val.substr vs) z)) (λ _. bad WrongArguments w.used)
  unfolding listed_name
  named_substr t u w b e = rw e

  named_gives : (t : Tree) (b : W.Body) (u : ℕ) (w : World) (q : Ev.Callee) → callee b w ≡ Val.gives q → named t (Ev.an_entry b) u w ≡ when (eqb (length q.parameters) (count t)) (λ _. bind (asked t (Ev.wishes q.parameters) u w) (λ vs z. run_in x q vs u z)) (λ _. bad WrongArguments w.used)
  unfolding listed_name
  named_gives t b u w q e = rw e

  named_fails : (t : Tree) (b : W.Body) (u : ℕ) (w : World) (f : Why) → callee b w ≡ Val.fails f → named t (Ev.an_entry b) u w ≡ bad f w.used
  unfolding listed_name
  named_fails t b u w f e = rw e

-- ---- what waits for a call
wishes_length : (ps : List Ev.Parameter) → length (Ev.wishes ps) ≡ length ps
wishes_length [] = refl
wishes_length (p ∷ ps) = ap suc (wishes_length ps)

path_held : (w : List ℕ) (f : Value) (k : Held) (i u : ℕ) (ps : List Ev.Parameter) (vs : List Val.Value) (j t : ℕ) (ws' : List Ev.Wish) → Path w f k i u (Ev.wishes ps) vs j t ws' → length vs ≡ length ps → (vs ≡ held_from w k i u ps) × Waiting k i u ps
unfolding held_from
path_held w f k i u [] [] j t ws' p e = (refl, tt)
path_held w f k i u [] (v ∷ vs) j t ws' p e = absurd p
path_held w f k i u (q ∷ ps) [] j t ws' p e = absurd (omega (arith, e))
path_held w f k i u (q ∷ ps) (v ∷ vs) j t ws' (a, b, c, p) e =
    let r : (vs ≡ held_from w k (suc i) (u + held_size k i q.type) ps) × Waiting k (suc i) (u + held_size k i q.type) ps = path_held w f k (suc i) (u + held_size k i q.type) ps vs j t ws' p (omega (arith, e)) in
    (rw (a, r.0), (b, c, r.1))

path_substr : (w : List ℕ) (f : Value) (k : Held) (u : ℕ) (vs : List Val.Value) (j t : ℕ) (ws' : List Ev.Wish) → Path w f k 0 u Ev.substr_wishes vs j t ws' → (eqb (length vs) 2 || eqb (length vs) 3) ≡ true → (vs ≡ substr_values w u (length vs) f k) × (u + size_for f ≤ 65536)
path_substr w f k u [] j t ws' p h = true_false (sym h)
path_substr w f k u (a ∷ []) j t ws' p h = true_false (sym h)
path_substr w f k u (a ∷ b ∷ []) j t ws' (pa, pf, (pb, pg, ph, pi)) h = (rw (pa, pb), pf)
path_substr w f k u (a ∷ b ∷ c ∷ []) j t ws' (pa, pf, (pb, pg, ph, (pc, pk, pl, pm))) h = (rw (pa, pb, pc), pf)
path_substr w f k u (a ∷ b ∷ c ∷ d ∷ vs) j t ws' (pa, pf, (pb, pg, ph, (pc, pk, pl, pm))) h = absurd pm

-- ---- the ways out
module _ (deck s rows names c l h w : List ℕ) (at left u : ℕ) (x : Scene) (m : Meter) (y : Meant) (n : ℕ) (cn : CountIs s at left n) (aim : Result Target Why) (ai : AimIs deck rows x.starts names x.names y n aim) where
  no : (B₁ : World) → Shows deck rows names c l h w u x m B₁ → (to : ℕ) (f : Why) (R : Res Why Val.Value) → R ≡ bad f m.used → Gave B₁ u w c l h w (Err (f, m)) to R
  no B₁ sh to f R q = record { is = sym q; end = refl; below = refl; fits = omega (arith, sh.taken); limit = sh.limit; slots = sh.slots }

  -- the callee that an entry has
  pub record Entered (B₁ : World) (z : Callee) (y₁ : Meant) : Type 0 where
    pub callee : Ev.Callee
    pub shown : CalleeShown deck names x.names z callee B₁
    pub few : length callee.parameters ≤ 256
    pub value : (t : Tree) → named x t (meant_for y₁) u (world_in B₁ c l h m.used) ≡ when (eqb (length callee.parameters) (count t)) (λ _. bind (asked x t (Ev.wishes callee.parameters) u (world_in B₁ c l h m.used)) (λ vs z. run_in x callee vs u z)) (λ _. bad WrongArguments m.used)

  module _ (B₁ : World) (sh : Shows deck rows names c l h w u x m B₁) (b : Option Place) (cy : Result Callee Why) (co : CalleeOf deck rows x.starts names x.names b cy) (me : Means (M.AnEntry b) B₁) where
    entered_by : (z : Callee) → cy ≡ Ok z → (o : Option Place) → b ≡ o → Entered B₁ z (M.AnEntry o)
    entered_by z e None j = absurd (let g : Ok z ≡ Err WrongName = sym e ∙ co.none j in let q : ◌≡◌ {A = ℕ} 0 1 = cc in omega arith)
    entered_by z e (Some p) j =
        let q : Found deck rows names x.names p cy (world_in B₁ c l h m.used) B₁ = found deck rows names c l h w u x m b cy co B₁ sh p j me in
        let g : Got deck rows names c l h w u x m b cy co p q.list z (Ev.parameters (owner_at p) q.listed (names_world deck names x.names)) = called_is deck rows names c l h w u x m b cy co p q.list _ z (sym e ∙ q.called) in
        let a : callee (body_at p.member p.row) (world_in B₁ c l h m.used) ≡ Val.gives (record { member = p.member; row = p.row; parameters = g.parameters }) = q.value ∙ ap (λ (i : Val.Answer (List Ev.Parameter)). Val.and_then i (λ ps. Val.gives (record { member = p.member; row = p.row; parameters = ps }))) g.is in
        record {
          callee = record { member = p.member; row = p.row; parameters = g.parameters };
          shown = subst (λ (i : Callee). CalleeShown deck names x.names i (record { member = p.member; row = p.row; parameters = g.parameters }) B₁) (sym g.callee) record { member = refl; row = refl; listed = q.listed; placed = q.placed; asked = g.is; count = refl; few = q.few g.parameters g.is; within = q.within };
          few = q.few g.parameters g.is;
          value = λ t. named_gives x t (body_at p.member p.row) u (world_in B₁ c l h m.used) (record { member = p.member; row = p.row; parameters = g.parameters }) a;
        }

    entry_refused : (f : Why) → cy ≡ Err f → (o : Option Place) → b ≡ o → (t : Tree) → named x t (Ev.an_entry (body_of o)) u (world_in B₁ c l h m.used) ≡ bad f m.used
    entry_refused f e None j t =
        let d : WrongName ≡ f = (let g : Err f ≡ Err WrongName = sym e ∙ co.none j in let a : f ≡ WrongName = cc in sym a) in
        named_fails x t no_body u (world_in B₁ c l h m.used) WrongName (callee_none deck rows names c l h w u x m b cy co (world_in B₁ c l h m.used)) ∙ ap (λ (a : Why). bad a m.used) d
    entry_refused f e (Some p) j t =
        let q : Found deck rows names x.names p cy (world_in B₁ c l h m.used) B₁ = found deck rows names c l h w u x m b cy co B₁ sh p j me in
        let a : Ev.parameters (owner_at p) q.listed (names_world deck names x.names) ≡ Val.fails f = called_fails deck rows names c l h w u x m b cy co p q.list _ f (sym e ∙ q.called) in
        named_fails x t (body_at p.member p.row) u (world_in B₁ c l h m.used) f (q.value ∙ rw a)

    entry_no : (f : Why) (t : Tree) → n ≡ count t → (cz : Result Callee Why) → cy ≡ cz → Err f ≡ aim_for cz n → named x t (Ev.an_entry (body_of b)) u (world_in B₁ c l h m.used) ≡ bad f m.used
    entry_no f t en (Err g) e q = let d : f ≡ g = cc in entry_refused f (e ∙ ap Err (sym d)) b refl t
    entry_no f t en (Ok z) e q = by (eqb z.count n) refl q
      where
        by : (v : Bool) → eqb z.count n ≡ v → Err f ≡ cond v (Ok (T.Entry z)) (Err WrongArguments) → named x t (Ev.an_entry (body_of b)) u (world_in B₁ c l h m.used) ≡ bad f m.used
        by true g q₁ = clash (cc)
        by false g q₁ =
            let d : f ≡ WrongArguments = cc in
            let k : Entered B₁ z (M.AnEntry b) = entered_by z e b refl in
            let a : eqb (length k.callee.parameters) (count t) ≡ false = rw (← en, ← k.shown.count) g in
            k.value t ∙ rw (a, d)

  fails_by : (f : Why) (B₁ : World) → Shows deck rows names c l h w u x m B₁ → (t : Tree) → n ≡ count t → (y₁ : Meant) → AimAs deck rows x.starts names x.names y₁ n (Err f) → Means y₁ B₁ → named x t (meant_for y₁) u (world_in B₁ c l h m.used) ≡ bad f m.used
  fails_by f B₁ sh t en (M.AVariable a v) k me = let d : f ≡ WrongName = cc in named_variable x t a v u (world_in B₁ c l h m.used) ∙ rw d
  fails_by f B₁ sh t en (M.AnEntry b) (cy, co, q) me = entry_no B₁ sh b cy co me f t en cy refl q
  fails_by f B₁ sh t en M.TheSubstr k me = by (eqb n 2 || eqb n 3) refl k
    where
      by : (v : Bool) → (eqb n 2 || eqb n 3) ≡ v → Err f ≡ cond v (Ok (T.Substr n)) (Err WrongArguments) → named x t Ev.the_substr u (world_in B₁ c l h m.used) ≡ bad f m.used
      by true g q = clash (cc)
      by false g q = let d : f ≡ WrongArguments = cc in named_substr x t u (world_in B₁ c l h m.used) false (rw (← en) g) ∙ rw d
  fails_by f B₁ sh t en M.NoSuch k me = let d : f ≡ WrongName = cc in named_none x t u (world_in B₁ c l h m.used) ∙ rw d

  pub listed_fails : (f : Why) → aim ≡ Err f → ListedIs deck s rows names c l h w at left u x m y c l h w (Err (f, m))
  listed_fails f e = record { is = λ B₁ sh me p t q r. no B₁ sh q f _ (fails_by f B₁ sh t (cn.is p t q r) y (rw e at ai.is) me) }

  module _ (t : Target) (et : aim ≡ Ok t) (c₁ l₁ h₁ w₁ : List ℕ) (z₁ : length w₁ ≡ length w) (o : Result Taken (Why × Meter)) (ti : TakenIs deck s rows names c l h w at left u t x m c₁ l₁ h₁ w₁ o) where
    -- the whole is what is made of the arguments
    pub record Aimed (B₁ : World) (tr : Tree) (t₁ : Target) : Type 0 where
      pub ws : List Ev.Wish
      pub made : List Val.Value → World → Res Why Val.Value
      pub value : named x tr (meant_for y) u (world_in B₁ c l h m.used) ≡ bind (asked x tr ws u (world_in B₁ c l h m.used)) made
      pub coming : Coming deck names x.names t₁ 0 (first_listed t₁) ws
      pub wanted : wanted_by t₁ ≡ count tr
      pub enough : count tr ≤ length ws
      pub few : length ws ≤ 256
      pub is_entry_lem : (z : Callee) → t₁ ≡ T.Entry z → (q : Ev.Callee) × CalleeShown deck names x.names z q B₁ × (ws ≡ Ev.wishes q.parameters) × (length q.parameters ≡ count tr) × ((vs : List Val.Value) (W₁ : World) → made vs W₁ ≡ run_in x q vs u W₁)
      pub is_substr_lem : (j : ℕ) → t₁ ≡ T.Substr j → (ws ≡ Ev.substr_wishes) × ((eqb (count tr) 2 || eqb (count tr) 3) ≡ true) × (n ≡ count tr) × ((vs : List Val.Value) (W₁ : World) → made vs W₁ ≡ put u (Val.substr vs) W₁)

    module _ (B₁ : World) (sh : Shows deck rows names c l h w u x m B₁) (tr : Tree) (en : n ≡ count tr) where
      entry_aimed : (b : Option Place) → y ≡ M.AnEntry b → Means (M.AnEntry b) B₁ → (cy : Result Callee Why) (co : CalleeOf deck rows x.starts names x.names b cy) (cz : Result Callee Why) → cy ≡ cz → Ok t ≡ aim_for cz n → Aimed B₁ tr t
      entry_aimed b ey me cy co (Err g) e q = clash (cc)
      entry_aimed b ey me cy co (Ok z) e q = by (eqb z.count n) refl q
        where
          by : (v : Bool) → eqb z.count n ≡ v → Ok t ≡ cond v (Ok (T.Entry z)) (Err WrongArguments) → Aimed B₁ tr t
          by false g q₁ = clash (cc)
          by true g q₁ =
              let d : t ≡ T.Entry z = cc in
              let k₁ : Entered B₁ z (M.AnEntry b) = entered_by B₁ sh b cy co me z e b refl in
              let zc : z.count ≡ count tr = eqb-true z.count n g ∙ en in
              let pc : length k₁.callee.parameters ≡ count tr = sym k₁.shown.count ∙ zc in
              let a : eqb (length k₁.callee.parameters) (count tr) ≡ true = eq-eqb (length k₁.callee.parameters) (count tr) pc in
              let vl : named x tr (meant_for y) u (world_in B₁ c l h m.used) ≡ bind (asked x tr (Ev.wishes k₁.callee.parameters) u (world_in B₁ c l h m.used)) (λ vs z. run_in x k₁.callee vs u z) = ap (λ (i : Meant). named x tr (meant_for i) u (world_in B₁ c l h m.used)) ey ∙ k₁.value tr ∙ rw a in
              let wl : length (Ev.wishes k₁.callee.parameters) ≡ length k₁.callee.parameters = wishes_length k₁.callee.parameters in
              record {
                ws = Ev.wishes k₁.callee.parameters;
                made = λ vs z. run_in x k₁.callee vs u z;
                value = vl;
                coming = rw d (k₁.callee.parameters, k₁.shown.listed, k₁.shown.placed, k₁.shown.asked, refl);
                wanted = rw d zc;
                enough = omega (arith, wl, pc);
                few = omega (arith, wl, k₁.few);
                is_entry_lem = λ z₂ e₂. let zz : z ≡ z₂ = (let i : T.Entry z ≡ T.Entry z₂ = sym d ∙ e₂ in cc) in (k₁.callee, rw (← zz) k₁.shown, refl, pc, λ vs W₁. refl);
                is_substr_lem = λ j e₂. clash (let i : T.Entry z ≡ T.Substr j = sym d ∙ e₂ in cc);
              }

      substr_aimed : y ≡ M.TheSubstr → (v : Bool) → (eqb n 2 || eqb n 3) ≡ v → Ok t ≡ cond v (Ok (T.Substr n)) (Err WrongArguments) → Aimed B₁ tr t
      substr_aimed ey false g q = clash (cc)
      substr_aimed ey true g q =
          let d : t ≡ T.Substr n = cc in
          let g₁ : (eqb (count tr) 2 || eqb (count tr) 3) ≡ true = rw en at g in
          record {
            ws = Ev.substr_wishes;
            made = λ vs z. put u (Val.substr vs) z;
            value = ap (λ (i : Meant). named x tr (meant_for i) u (world_in B₁ c l h m.used)) ey ∙ named_substr x tr u (world_in B₁ c l h m.used) true g₁;
            coming = rw d refl;
            wanted = rw d en;
            enough = two_three (count tr) g₁;
            few = omega arith;
            is_entry_lem = λ z₂ e₂. clash (let i : T.Substr n ≡ T.Entry z₂ = sym d ∙ e₂ in cc);
            is_substr_lem = λ j e₂. (refl, g₁, en, λ vs W₁. refl);
          }
        where
          two_three : (a : ℕ) → (eqb a 2 || eqb a 3) ≡ true → a ≤ 3
          two_three a e = by (eqb a 2) refl (eqb a 3) refl e
            where
              by : (v : Bool) → eqb a 2 ≡ v → (r : Bool) → eqb a 3 ≡ r → (v || r) ≡ true → a ≤ 3
              by true i r j k = omega (arith, eqb-true a 2 i)
              by false i true j k = omega (arith, eqb-true a 3 j)
              by false i false j k = true_false (sym k)

      aimed_by : (y₁ : Meant) → y ≡ y₁ → AimAs deck rows x.starts names x.names y₁ n (Ok t) → Means y₁ B₁ → Aimed B₁ tr t
      aimed_by (M.AVariable a v) ey k me = clash (cc)
      aimed_by (M.AnEntry b) ey (cy, co, q) me = entry_aimed b ey me cy co cy refl q
      aimed_by M.TheSubstr ey k me = substr_aimed ey (eqb n 2 || eqb n 3) refl k
      aimed_by M.NoSuch ey k me = clash (cc)

    aimed : (B₁ : World) → Shows deck rows names c l h w u x m B₁ → Means y B₁ → (tr : Tree) → n ≡ count tr → Aimed B₁ tr t
    aimed B₁ sh me tr en = aimed_by B₁ sh tr en y refl (rw et at ai.is) me

    args : (B₁ : World) → Shows deck rows names c l h w u x m B₁ → (p : ℕ) (tr : Tree) (e : ℕ) → E.arguments mixed (inside_of left s p) s (length s) at ≡ read (parsed tr e) → (a : Aimed B₁ tr t) → Args B₁ u w c₁ l₁ h₁ w₁ a.ws (count tr) e (asked x tr a.ws u (world_in B₁ c l h m.used)) o
    args B₁ sh p tr e q a = ti.is B₁ sh p tr e q a.wanted a.ws a.coming a.enough a.few

    refused_by : (g : Why) (m₁ : Meter) → o ≡ Err (g, m₁) → (B₁ : World) → Shows deck rows names c l h w u x m B₁ → (tr : Tree) (e : ℕ) (a : Aimed B₁ tr t) → Args B₁ u w c₁ l₁ h₁ w₁ a.ws (count tr) e (asked x tr a.ws u (world_in B₁ c l h m.used)) o → Gave B₁ u w c₁ l₁ h₁ w₁ (Err (g, m₁)) e (named x tr (meant_for y) u (world_in B₁ c l h m.used))
    refused_by g m₁ eo B₁ sh tr e a r =
        let q : asked x tr a.ws u (world_in B₁ c l h m.used) ≡ bad g m₁.used = rw eo at r.is in
        record { is = sym (a.value ∙ ap (λ (i : Res Why (List Val.Value)). bind i a.made) q); end = refl; below = r.below; fits = omega (arith, sh.taken); limit = rw eo at r.limit; slots = r.slots }

    pub listed_refused : (g : Why × Meter) → o ≡ Err g → ListedIs deck s rows names c l h w at left u x m y c₁ l₁ h₁ w₁ (Err g)
    listed_refused (g, m₁) eo = record { is = λ B₁ sh me p tr e q. let a : Aimed B₁ tr t = aimed B₁ sh me tr (cn.is p tr e q) in refused_by g m₁ eo B₁ sh tr e a (args B₁ sh p tr e q a) }

    module _ (got : Taken) (eo : o ≡ Ok got) where
      abbrev f : Value
      f = got.first

      abbrev k : Held
      k = got.held

      abbrev to : ℕ
      to = got.to

      abbrev m₁ : Meter
      m₁ = got.meter

      shows_now : (B₁ : World) → Shows deck rows names c l h w u x m B₁ → Slots B₁.denotations c₁ l₁ h₁ → m₁.limit ≡ B₁.limit → Shows deck rows names c₁ l₁ h₁ w₁ u x m₁ B₁
      shows_now B₁ sh sl lm = shows_as deck rows names c l h w u x m B₁ sh c₁ l₁ h₁ w₁ u m₁ sl z₁ sh.taken lm

      module _ (z : Callee) (ez : t ≡ T.Entry z) (c₂ l₂ h₂ w₂ : List ℕ) (v : Evaluated) (ca : CallIs deck rows names c₁ l₁ h₁ w₁ u x m₁ z k c₂ l₂ h₂ w₂ v) (r : Evaluated) (re : r ≡ with_end v to) where
        up_gave : (B₁ : World) (d : Evaluated) (R : Res Why Val.Value) → Gave B₁ u w₁ c₂ l₂ h₂ w₂ d 0 R → Gave B₁ u w₁ c₂ l₂ h₂ w₂ (with_end d to) to R
        up_gave B₁ (Ok (e, q, k)) R g = record { is = g.is; end = refl; below = g.below; fits = g.fits; limit = g.limit; slots = g.slots }
        up_gave B₁ (Err (e, k)) R g = record { is = g.is; end = refl; below = g.below; fits = g.fits; limit = g.limit; slots = g.slots }

        call_by : (B₁ : World) → Shows deck rows names c l h w u x m B₁ → (tr : Tree) (e : ℕ) (a : Aimed B₁ tr t) → Args B₁ u w c₁ l₁ h₁ w₁ a.ws (count tr) e (asked x tr a.ws u (world_in B₁ c l h m.used)) (Ok got) → Gave B₁ u w c₂ l₂ h₂ w₂ r e (named x tr (meant_for y) u (world_in B₁ c l h m.used))
        call_by B₁ sh tr e a g =
            let wt : Waits B₁ u c₁ l₁ h₁ w₁ f k a.ws (count tr) e (asked x tr a.ws u (world_in B₁ c l h m.used)) to m₁ = g.is in
            let ie : (q : Ev.Callee) × CalleeShown deck names x.names z q B₁ × (a.ws ≡ Ev.wishes q.parameters) × (length q.parameters ≡ count tr) × ((vs : List Val.Value) (W₁ : World) → a.made vs W₁ ≡ run_in x q vs u W₁) = a.is_entry_lem z ez in
            let ph : (wt.values ≡ held_from w₁ k 0 u ie.0.parameters) × Waiting k 0 u ie.0.parameters = path_held w₁ f k 0 u ie.0.parameters wt.values wt.number wt.top wt.rest (subst (λ (i : List Ev.Wish). Path w₁ f k 0 u i wt.values wt.number wt.top wt.rest) ie.2 wt.path) (wt.count ∙ sym ie.3) in
            let G : Gave B₁ u w₁ c₂ l₂ h₂ w₂ v 0 (run_in x ie.0 (held_from w₁ k 0 u ie.0.parameters) u (world_in B₁ c₁ l₁ h₁ m₁.used)) = ca.is B₁ (shows_now B₁ sh g.slots g.limit) ie.0 ie.1 ph.1 in
            let H : Gave B₁ u w₁ c₂ l₂ h₂ w₂ (with_end v to) to (run_in x ie.0 (held_from w₁ k 0 u ie.0.parameters) u (world_in B₁ c₁ l₁ h₁ m₁.used)) = up_gave B₁ v _ G in
            let Q : named x tr (meant_for y) u (world_in B₁ c l h m.used) ≡ run_in x ie.0 (held_from w₁ k 0 u ie.0.parameters) u (world_in B₁ c₁ l₁ h₁ m₁.used) = a.value ∙ ap (λ (i : Res Why (List Val.Value)). bind i a.made) wt.is ∙ ie.4 wt.values (world_in B₁ c₁ l₁ h₁ m₁.used) ∙ ap (λ (i : List Val.Value). run_in x ie.0 i u (world_in B₁ c₁ l₁ h₁ m₁.used)) ph.0 in
            rw (re, ← wt.end) (gave_over B₁ u w w₁ c₂ l₂ h₂ w₂ (with_end v to) to (named x tr (meant_for y) u (world_in B₁ c l h m.used)) g.below (gave_as B₁ u w₁ c₂ l₂ h₂ w₂ (with_end v to) to to (run_in x ie.0 (held_from w₁ k 0 u ie.0.parameters) u (world_in B₁ c₁ l₁ h₁ m₁.used)) (named x tr (meant_for y) u (world_in B₁ c l h m.used)) refl (sym Q) H))

        pub listed_call : ListedIs deck s rows names c l h w at left u x m y c₂ l₂ h₂ w₂ r
        listed_call = record { is = λ B₁ sh me p tr e q. let a : Aimed B₁ tr t = aimed B₁ sh me tr (cn.is p tr e q) in call_by B₁ sh tr e a (subst (λ (i : Result Taken (Why × Meter)). Args B₁ u w c₁ l₁ h₁ w₁ a.ws (count tr) e (asked x tr a.ws u (world_in B₁ c l h m.used)) i) eo (args B₁ sh p tr e q a)) }

      module _ (j : ℕ) (ej : t ≡ T.Substr j) (w₂ : List ℕ) (r : Evaluated) (sd : SubstrDone w₁ u n k f to m₁ w₂ r) where
        substr_by : (B₁ : World) → Shows deck rows names c l h w u x m B₁ → (tr : Tree) (e : ℕ) (a : Aimed B₁ tr t) → Args B₁ u w c₁ l₁ h₁ w₁ a.ws (count tr) e (asked x tr a.ws u (world_in B₁ c l h m.used)) (Ok got) → Gave B₁ u w c₁ l₁ h₁ w₂ r e (named x tr (meant_for y) u (world_in B₁ c l h m.used))
        substr_by B₁ sh tr e a g =
            let wt : Waits B₁ u c₁ l₁ h₁ w₁ f k a.ws (count tr) e (asked x tr a.ws u (world_in B₁ c l h m.used)) to m₁ = g.is in
            let ie : (a.ws ≡ Ev.substr_wishes) × ((eqb (count tr) 2 || eqb (count tr) 3) ≡ true) × (n ≡ count tr) × ((vs : List Val.Value) (W₁ : World) → a.made vs W₁ ≡ put u (Val.substr vs) W₁) = a.is_substr_lem j ej in
            let vn : length wt.values ≡ n = wt.count ∙ sym ie.2 in
            let ph : (wt.values ≡ substr_values w₁ u (length wt.values) f k) × (u + size_for f ≤ 65536) = path_substr w₁ f k u wt.values wt.number wt.top wt.rest (subst (λ (i : List Ev.Wish). Path w₁ f k 0 u i wt.values wt.number wt.top wt.rest) ie.0 wt.path) (rw wt.count ie.1) in
            let vs : wt.values ≡ substr_values w₁ u n f k = ph.0 ∙ ap (λ (i : ℕ). substr_values w₁ u i f k) vn in
            let sz : 65536 ≤ length w₁ = omega (arith, z₁, sh.work) in
            let Q : named x tr (meant_for y) u (world_in B₁ c l h m.used) ≡ put u (Val.substr (substr_values w₁ u n f k)) (world_in B₁ c₁ l₁ h₁ m₁.used) = a.value ∙ ap (λ (i : Res Why (List Val.Value)). bind i a.made) wt.is ∙ ie.3 wt.values (world_in B₁ c₁ l₁ h₁ m₁.used) ∙ ap (λ (i : List Val.Value). put u (Val.substr i) (world_in B₁ c₁ l₁ h₁ m₁.used)) vs in
            record {
              is = sd.is sz ph.1 B₁ c₁ l₁ h₁ ∙ sym Q;
              end = subst (λ (i : ℕ). r ≡ with_end r i) wt.end sd.end;
              below = sd.below sz ph.1 ∙ g.below;
              fits = sd.fits sz ph.1;
              limit = ap (λ (i : Meter). i.limit) sd.limit ∙ g.limit;
              slots = g.slots;
            }

        pub listed_substr : ListedIs deck s rows names c l h w at left u x m y c₁ l₁ h₁ w₂ r
        listed_substr = record { is = λ B₁ sh me p tr e q. let a : Aimed B₁ tr t = aimed B₁ sh me tr (cn.is p tr e q) in substr_by B₁ sh tr e a (subst (λ (i : Result Taken (Why × Meter)). Args B₁ u w c₁ l₁ h₁ w₁ a.ws (count tr) e (asked x tr a.ws u (world_in B₁ c l h m.used)) i) eo (args B₁ sh p tr e q a)) }
