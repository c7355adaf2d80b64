-- GOTO in a body.
-- Assumes nothing.
use Rattle.std.proofs.Common.{Option, Some, None, Result, Ok, Err}
use mathlib.Core.Path.{◌≡◌, refl, sym, ap, ◌∙◌}
use mathlib.Core.Bool.{Bool, true, false, cond}
use mathlib.Core.List.{List}
use Prim.Native.Nat.{ℕ, ◌-◌}
use Rattle.definition.specs.Bytes.{mixed, folded}
use Rattle.definition.specs.Lists.{part}
use Rattle.definition.specs.Program.{Row as Line}
use Rattle.definition.specs.Values as Val
use Rattle.definition.specs.World as W
use Rattle.definition.specs.World.{World, address_in, address_of, variable_of, entry_of, label_at, builtin_name}
use Rattle.definition.specs.Flow.{Target}
use Rattle.definition.specs.Calls as Calls
use Rattle.definition.specs.declared.Why.{Why}
use Rattle.definition.specs.declared.Why.TheVariants.{WrongName, WrongGoto}
use Rattle.definition.specs.declared.ValueType.{ValueType}
use Rattle.meter.specs.declared.Meter.{Meter}
use Rattle.names.specs.declared.Address.{Address}
use Rattle.names.specs.declared.Entry.{Entry}
use Rattle.names.specs.declared.Label.{Label}
use Rattle.names.specs.declared.Owner.{Owner}
use Rattle.names.specs.declared.Owner.TheVariants.{Everyone}
use Rattle.names.specs.declared.Denotation.{Denotation}
use Rattle.names.specs.declared.Denotation.TheVariants.{Variable, EntryName, LabelName, Builtin}
use Rattle.names.specs.declared.Name.{Name}
use Rattle.names.specs.Table.{owner_of, denotation_of, name_in, identifiers_from, found_for}
use Rattle.rows.specs.declared.Row.{Row}
use Rattle.rows.specs.Table.{row_in}
use Rattle.tokens.specs.declared.Lexeme.{Lexeme}
use Rattle.tokens.specs.Answer.{Lexed}
use Rattle.flow.specs.declared.Frames.{Frames}
use Rattle.flow.specs.declared.Next.{Next}
use Rattle.flow.specs.declared.Walk.{Walk}
use Rattle.flow.specs.Walks.{arrived_at, may_go_on, label_from, landing_walk}
use Rattle.callees.specs.Shown.{names_world, denotations_from}
use Rattle.callees.specs.Answer.{spelled_at}
use Rattle.callees.proofs.Naming.{address_is, denotation_is, low_own, known_is, unknown_is}
use Rattle.operands.specs.declared.Scene.{Scene}
use Rattle.bodies.specs.declared.Step.TheVariants as St
use Rattle.bodies.specs.declared.Turned.{Turned}
use Rattle.bodies.specs.Ways.{turned_by}
use Rattle.bodies.specs.Jumps.{jump_for, local_target, global_target, out_target, target_for, target_in, jump_by, LabelIs, JumpsIn}

-- ---- the label of a name
module _ (t : List ℕ) (a : Address) (b : Bool) (x : Name) (h : x ≡ name_in t a.0) where
  abbrev either : W.Denotation → Val.Answer Target
  either d = cond b (local_target d) (global_target d)

  pub label_local : (l : Label) → x.denotation ≡ LabelName l → b ≡ true → jump_for (Ok l) ≡ either (denotation_of (name_in t a.0).denotation)
  label_local l e i = rw (← h, e, i)

  pub label_global : (l : Label) → x.denotation ≡ LabelName l → b ≡ false → jump_for (Err WrongGoto) ≡ either (denotation_of (name_in t a.0).denotation)
  label_global l e i = rw (← h, e, i)

  wrong_either : (v : Bool) → ◌≡◌ {A = Val.Answer Target} (Val.fails WrongName) (cond v (Val.fails WrongName) (Val.fails WrongName))
  wrong_either true = refl
  wrong_either false = refl

  pub label_other : ((l : Label) → x.denotation ≡ LabelName l → ⊥) → jump_for (Err WrongName) ≡ either (denotation_of (name_in t a.0).denotation)
  label_other k = rw (← h) (by x.denotation refl)
    where
      by : (d : Denotation) → x.denotation ≡ d → jump_for (Err WrongName) ≡ either (denotation_of d)
      by (Variable v) e = wrong_either b
      by (EntryName y) e = wrong_either b
      by (LabelName l) e = absurd (k l e)
      by Builtin e = wrong_either b

-- ---- "local names first, every global label is 13"
module _ (d s t : List ℕ) (n : ℕ) (o : Owner) (x : Lexeme) (m : ℕ) (z : m ≡ x.to - x.from) (f : Option Address)
    (e : f ≡ found_for (address_in (folded mixed (part m x.from s)) (owner_of o) 0 (identifiers_from d t 0 n))) where
  abbrev name : List ℕ
  name = folded mixed (part (x.to - x.from) x.from s)

  own_is : f ≡ found_for (address_in (folded mixed (part (x.to - x.from) x.from s)) (owner_of o) 0 (identifiers_from d t 0 n))
  own_is = rw z at e

  pub local_known : (a : Address) → f ≡ Some a → (r : Result Label Why) → jump_for r ≡ local_target (denotation_of (name_in t a.0).denotation) → LabelIs d s t n o x r
  local_known a g r h =
      let k : address_in name (owner_of o) 0 (identifiers_from d t 0 n) ≡ W.address a.0 = known_is d t n (address_in name (owner_of o) 0 (identifiers_from d t 0 n)) f a own_is g in
      record { is = h ∙ sym (ap (λ (i : W.Address). target_for i name (names_world d t n)) (address_is d t n name (owner_of o) ∙ k) ∙ ap local_target (denotation_is d t n a.0 (low_own d t n name (owner_of o) a.0 k))) }

  module _ (u : f ≡ None) (m₂ : ℕ) (z₂ : m₂ ≡ x.to - x.from) (f₂ : Option Address) (e₂ : f₂ ≡ found_for (address_in (folded mixed (part m₂ x.from s)) (owner_of Everyone) 0 (identifiers_from d t 0 n))) where
    global_is : f₂ ≡ found_for (address_in (folded mixed (part (x.to - x.from) x.from s)) W.everyone 0 (identifiers_from d t 0 n))
    global_is = rw z₂ at e₂

    not_local : target_in d t n (owner_of o) name ≡ out_target (address_in name W.everyone 0 (identifiers_from d t 0 n)) (names_world d t n)
    not_local =
        ap (λ (i : W.Address). target_for i name (names_world d t n)) (address_is d t n name (owner_of o) ∙ unknown_is d t n (address_in name (owner_of o) 0 (identifiers_from d t 0 n)) f own_is u)
        ∙ ap (λ (i : W.Address). out_target i (names_world d t n)) (address_is d t n name W.everyone)

    pub global_known : (a : Address) → f₂ ≡ Some a → (r : Result Label Why) → jump_for r ≡ global_target (denotation_of (name_in t a.0).denotation) → LabelIs d s t n o x r
    global_known a g r h =
        let k : address_in name W.everyone 0 (identifiers_from d t 0 n) ≡ W.address a.0 = known_is d t n (address_in name W.everyone 0 (identifiers_from d t 0 n)) f₂ a global_is g in
        record { is = h ∙ sym (not_local ∙ ap (λ (i : W.Address). out_target i (names_world d t n)) k ∙ ap global_target (denotation_is d t n a.0 (low_own d t n name W.everyone a.0 k))) }

    pub neither_known : f₂ ≡ None → LabelIs d s t n o x (Err WrongName)
    neither_known g = record { is = sym (not_local ∙ ap (λ (i : W.Address). out_target i (names_world d t n)) (unknown_is d t n (address_in name W.everyone 0 (identifiers_from d t 0 n)) f₂ global_is g)) }

-- ---- the GOTO of a row
module _ (d s t names : List ℕ) (fs : Frames) (n : ℕ) (c : Scene) (m : Meter) (q : Row) (hq : q ≡ row_in t n) (x : Lexeme) (lex : Lexed s q.content x)
    (j : Result Label Why) (li : LabelIs d s names c.names c.owner x j) where
  goes : jump_for j ≡ target_in d names c.names (owner_of c.owner) (spelled_at s (row_in t n).content)
  goes = li.is ∙ ap (target_in d names c.names (owner_of c.owner)) (rw (lex.from, lex.to, hq))

  pub jump_bad : (w : Why) → j ≡ Err w → (r : Turned) → r ≡ turned_by fs (Err (w, m)) → JumpsIn d s t names fs n c m r
  jump_bad w e r f = record { jump = j; is = goes; turned = f ∙ rw e }

  module _ (l : Label) (e : j ≡ Ok l) (b : Bool) (hb : b ≡ may_go_on t n 2048 (label_from t l.place.row l.is_end)) where
    pub jump_wrong : b ≡ false → (r : Turned) → r ≡ turned_by fs (Err (WrongGoto, m)) → JumpsIn d s t names fs n c m r
    jump_wrong g r f = record { jump = j; is = goes; turned = f ∙ rw (e, ← hb, g) }

    pub jump_done : b ≡ true → (w : Walk) → w ≡ landing_walk t fs l.place.row l.is_end → (y : Next) → y ≡ arrived_at t fs w → (r : Turned) → r ≡ turned_by fs (Ok (St.On y m)) → JumpsIn d s t names fs n c m r
    jump_done g w hw y hy r f = record { jump = j; is = goes; turned = f ∙ rw (e, ← hb, g, hy, hw) }

-- ---- the definition's own
jump_local_lem : (x : W.Denotation) (rs : List Line) (n : ℕ) (w : World) → Calls.jump_local x rs n w ≡ jump_by (local_target x) rs n w
jump_local_lem (variable_of t) rs n w = refl
jump_local_lem (entry_of e b) rs n w = refl
jump_local_lem (label_at m r q) rs n w = refl
jump_local_lem builtin_name rs n w = refl

jump_global_lem : (x : W.Denotation) (rs : List Line) (n : ℕ) (w : World) → Calls.jump_global x w ≡ jump_by (global_target x) rs n w
jump_global_lem (variable_of t) rs n w = refl
jump_global_lem (entry_of e b) rs n w = refl
jump_global_lem (label_at m r q) rs n w = refl
jump_global_lem builtin_name rs n w = refl

jump_out_lem : (x : W.Address) (rs : List Line) (n : ℕ) (w : World) → Calls.jump_out x w ≡ jump_by (out_target x w) rs n w
jump_out_lem (W.address a) rs n w = jump_global_lem (W.denotation a w) rs n w
jump_out_lem W.unknown rs n w = refl

pub jump_is : (x : W.Address) (l : List ℕ) (rs : List Line) (n : ℕ) (w : World) → Calls.jump_in x l rs n w ≡ jump_by (target_for x l w) rs n w
jump_is (W.address a) l rs n w = jump_local_lem (W.denotation a w) rs n w
jump_is W.unknown l rs n w = jump_out_lem (address_of l W.everyone w) rs n w

-- ---- in any world with the table's names
module _ (d t : List ℕ) (n : ℕ) (B : World) (e : B.identifiers ≡ identifiers_from d t 0 n) (f : B.denotations ≡ denotations_from t 0 n) where
  address_there : (l : List ℕ) (k : W.Owner) → address_of l k B ≡ address_of l k (names_world d t n)
  unfolding names_world
  address_there l k = rw e

  denotation_there : (a : ℕ) → W.denotation a B ≡ W.denotation a (names_world d t n)
  unfolding names_world
  denotation_there a = rw f

  out_there : (x : W.Address) → out_target x B ≡ out_target x (names_world d t n)
  out_there (W.address a) = ap global_target (denotation_there a)
  out_there W.unknown = refl

  for_there : (x : W.Address) (l : List ℕ) → target_for x l B ≡ target_for x l (names_world d t n)
  for_there (W.address a) l = ap local_target (denotation_there a)
  for_there W.unknown l = ap (λ (i : W.Address). out_target i B) (address_there l W.everyone) ∙ out_there (address_of l W.everyone (names_world d t n))

  pub target_there : (o : W.Owner) (l : List ℕ) → target_for (address_of l o B) l B ≡ target_in d t n o l
  target_there o l = ap (λ (i : W.Address). target_for i l B) (address_there l o) ∙ for_there (address_of l o (names_world d t n)) l
