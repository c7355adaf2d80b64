-- WORLDS THAT COME LATER: by the same tables, one after the other, and when a member is entered. A name that is a variable stays one:
-- what is declared is added, or an entry and a procedure join.
-- Assumes nothing.
use mathlib.Core.Path.{◌≡◌, refl, sym, ap, subst, ◌∙◌}
use mathlib.Core.Bool.{Bool, true, false}
use mathlib.Core.List.{List, [], ◌∷◌, ◌++◌}
use Prim.Native.Nat.{ℕ, zero, suc, ◌<◌}
use native.Mathlib.Omega.{arith}
use borrow.Author.Tests.{eqb-true, eqb-false}
use lib.Dec.{eqb}
use lib.ListN.{length, get_or, set}
use lib.Seq.{get_or-set_other}
use Rattle.definition.specs.Bytes.{mixed}
use Rattle.definition.specs.Program as P
use Rattle.definition.specs.Reading as D
use Rattle.definition.specs.World as W
use Rattle.definition.specs.World.{World, Denotation, Identifier, address_in, rows_in, rows_of}
use Rattle.definition.specs.Names as N
use Rattle.definition.specs.declared.ValueType.{ValueType}
use Rattle.definition.proofs.Choices.{when_has}
use Rattle.showing.specs.Worlds.{Wider, none, kept, Placed}
use Rattle.showing.specs.Later.{Later}
use Rattle.showing.proofs.Worlds.{rows_by, Entered, entered_is, entered_grown, members_enter}

-- ---- rows that stay, or of which there were none
wider_on : (rs qs xs : List P.Row) → Wider rs qs → Wider qs xs → Wider rs xs
wider_on rs qs xs (none e) h = none e
wider_on rs qs xs (kept e) h = subst (λ (l : List P.Row). Wider l xs) (sym e) h

wider_rows : (rs qs : List P.Row) (r : ℕ) → Wider rs qs → r < length rs → qs ≡ rs
wider_rows rs qs r (none e) h = absurd (omega (arith, ap (λ (l : List P.Row). length l) e, h))
wider_rows rs qs r (kept e) h = sym e

pub later_rows : (B B' : World) (m r : ℕ) → Later B B' → r < length (rows_of m B) → rows_of m B' ≡ rows_of m B
later_rows B B' m r h l = wider_rows (rows_of m B) (rows_of m B') r (h.rows m) l

pub later_size : (B B' : World) (m r : ℕ) → Later B B' → r < length (rows_of m B) → r < length (rows_of m B')
later_size B B' m r h l = subst (λ (rs : List P.Row). r < length rs) (sym (later_rows B B' m r h l)) l

-- ---- only what names stand for, members and the limit matter
pub later_same : (B B' : World) → B'.denotations ≡ B.denotations → B'.members ≡ B.members → B'.limit ≡ B.limit → Later B B'
later_same B B' e f g = record {
  variables = λ a t q. ap (λ (ds : List Denotation). get_or ds a W.builtin_name) e ∙ q;
  rows = λ m. kept (ap (λ (ms : List W.Entered). rows_in m ms) (sym f));
  limit = g;
}

pub later_on : (B B' B'' : World) → Later B B' → Later B' B'' → Later B B''
later_on B B' B'' h i = record {
  variables = λ a t q. i.variables a t (h.variables a t q);
  rows = λ m. wider_on (rows_of m B) (rows_of m B') (rows_of m B'') (h.rows m) (i.rows m);
  limit = i.limit ∙ h.limit;
}

-- ---- variables stay
abbrev Stay : List Denotation → List Denotation → Type 0
Stay ds es = (a : ℕ) (t : ValueType) → get_or ds a W.builtin_name ≡ W.variable_of t → get_or es a W.builtin_name ≡ W.variable_of t

stay_add : (ds : List Denotation) (d : Denotation) → Stay ds (ds ++ d ∷ [])
stay_add [] d a t e = let z : ◌≡◌ {A = ℕ} 0 1 = cc in absurd (omega arith)
stay_add (x ∷ ds) d zero t e = e
stay_add (x ∷ ds) d (suc a) t e = stay_add ds d a t e

stay_set : (ds : List Denotation) (a : ℕ) (d : Denotation) → ((t : ValueType) → get_or ds a W.builtin_name ≡ W.variable_of t → ⊥) → Stay ds (set ds a d)
stay_set ds a d h j t e = by (eqb j a) refl
  where
    by : (c : Bool) → eqb j a ≡ c → get_or (set ds a d) j W.builtin_name ≡ W.variable_of t
    by true q = absurd (h t (ap (λ (i : ℕ). get_or ds i W.builtin_name) (sym (eqb-true j a q)) ∙ e))
    by false q = get_or-set_other ds a j d W.builtin_name (eqb-false j a q) ∙ e

-- a variable joins nothing
joint_other : (x d e : Denotation) → N.joint_of x d ≡ N.joint e → (t : ValueType) → x ≡ W.variable_of t → ⊥
joint_other (W.variable_of u) d e q t f = let z : ◌≡◌ {A = ℕ} 0 1 = cc in absurd (omega arith)
joint_other (W.entry_of x b) d e q t f = let z : ◌≡◌ {A = ℕ} 0 1 = cc in absurd (omega arith)
joint_other (W.label_at m r x) d e q t f = let z : ◌≡◌ {A = ℕ} 0 1 = cc in absurd (omega arith)
joint_other W.builtin_name d e q t f = let z : ◌≡◌ {A = ℕ} 0 1 = cc in absurd (omega arith)

-- one declaration after the other
abbrev AllStay : List Denotation → N.Declaring → Type 0
AllStay ds (N.fine v) = Stay ds v.denotations
AllStay ds (N.second p) = Unit {0}

joint_stay : (a : ℕ) (i : Identifier) (d : Denotation) (p : ℕ) (w : World) (J : N.Joint) → N.joint_of (W.denotation a w) d ≡ J → AllStay w.denotations (N.declared_at (W.address a) i d p w)
joint_stay a i d p w (N.joint e) q = rw q (stay_set w.denotations a e (joint_other (W.denotation a w) d e q))
joint_stay a i d p w N.twice q = rw q tt

declared_stay : (x : W.Address) (i : Identifier) (d : Denotation) (p : ℕ) (w : World) → AllStay w.denotations (N.declared_at x i d p w)
declared_stay W.unknown i d p w = stay_add w.denotations d
declared_stay (W.address a) i d p w = joint_stay a i d p w (N.joint_of (W.denotation a w) d) refl

stay_then : (ds es : List Denotation) (x : N.Declaring) → Stay ds es → AllStay es x → AllStay ds x
stay_then ds es (N.fine v) h i = λ a t e. i a t (h a t e)
stay_then ds es (N.second p) h i = tt

onward_stay : (ds : List Denotation) (x : N.Declaring) (f : World → N.Declaring) → AllStay ds x → ((u : World) → AllStay u.denotations (f u)) → AllStay ds (N.onward x f)
onward_stay ds (N.fine u) f h g = stay_then ds u.denotations (f u) h (g u)
onward_stay ds (N.second p) f h g = tt

one_stay : (y : N.New) (i : Identifier) (ps : List Identifier) (p : ℕ) (w : World) (f : List Identifier → World → N.Declaring) → ((qs : List Identifier) (u : World) → AllStay u.denotations (f qs u))
    → AllStay w.denotations (N.declare_one y i ps p w f)
one_stay (N.new d) i ps p w f g =
    let at : W.Address = address_in i.spelling i.owner 0 w.identifiers in
    onward_stay w.denotations (N.declared_at at i d p w) (f ps) (declared_stay at i d p w) (g ps)
one_stay N.listing i ps p w f g = when_has (AllStay w.denotations) (N.is_listed i ps) (λ _. N.second p) (λ _. f (i ∷ ps) w) (λ _. tt) (λ _. g (i ∷ ps) w)

declare_stay : (m : ℕ) (ps : List Identifier) (ds : List P.Declared) (w : World) → AllStay w.denotations (N.declare_all m ps ds w)
unfolding N.declare_all
declare_stay m ps [] w = λ a t e. e
declare_stay m ps (d ∷ ds) w = one_stay (N.new_of m d.meaning) (N.identifier_of m d) ps d.place w (λ qs u. N.declare_all m qs ds u) (λ qs u. declare_stay m qs ds u)

-- ---- A MEMBER IS ENTERED, for the first time or again
pub later_enter : (b : ℕ → List ℕ) (m : ℕ) (w v : World) → Placed b w → N.enter m (D.read_member mixed (b m)) w ≡ N.entered v → Later w v
later_enter b m w v h e =
    let s : P.Source = D.read_member mixed (b m) in
    let x : Entered m s w v = entered_is m s w v e in
    let stay : Stay w.denotations x.named.denotations = subst (AllStay w.denotations) x.declared (declare_stay m [] s.declared w) in
    record {
      variables = λ a t q. ap (λ (z : World). get_or z.denotations a W.builtin_name) x.world ∙ stay a t q;
      rows = λ n. subst (λ (ms : List W.Entered). Wider (rows_of n w) (rows_in n ms)) (sym (members_enter m s w v e))
          (rows_by m s w.members n (λ (l : List P.Row). Wider (rows_of n w) l) (λ q. subst (λ (k : ℕ). Wider (rows_of k w) s.rows) q (h.read m)) (λ _. kept refl));
      limit = ap (λ (z : World). z.limit) x.world ∙ ap (λ (z : World). z.limit) (entered_grown m s w v x).tables;
    }
