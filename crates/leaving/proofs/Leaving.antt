-- GOTO outside procedures.
-- Assumes nothing.
use Rattle.definition.specs.declared.Why.{Why}
use Rattle.std.proofs.Common.{Option, Some, None, Result, Ok, Err}
use mathlib.Core.Path.{◌≡◌, refl, sym, ap, ◌∙◌}
use mathlib.Core.Bool.{Bool, true, false, cond}
use mathlib.Core.List.{List, [], ◌∷◌}
use Prim.Native.Nat.{ℕ, ◌-◌, ◌<◌}
use borrow.Author.Tests.{eq-eqb, ne_eqb, eqb-true}
use lib.Dec.{eqb}
use lib.ListN.{length}
use Rattle.definition.specs.Bytes.{mixed, folded}
use Rattle.definition.specs.Choice.{when}
use Rattle.definition.specs.Lists.{part}
use Rattle.definition.specs.Calls.{Place}
use Rattle.definition.specs.Flow as F
use Rattle.definition.specs.Run.{landing, jump_away, jump_label, jump_by, jump_from}
use Rattle.definition.specs.World as W
use Rattle.definition.specs.World.{World, good, bad, ask, address_in, address_of, everyone, rows_of}
use Rattle.definition.specs.declared.Why.TheVariants.{WrongName, WrongGoto}
use Rattle.definition.specs.declared.ValueType.{ValueType}
use Rattle.names.specs.declared.Address.{Address}
use Rattle.names.specs.declared.Entry.{Entry}
use Rattle.names.specs.declared.Label.{Label}
use Rattle.names.specs.declared.Name.{Name}
use Rattle.names.specs.declared.Owner.TheVariants.{Everyone}
use Rattle.names.specs.declared.Denotation.TheVariants.{Variable, EntryName, LabelName, Builtin}
use Rattle.names.specs.Table.{owner_of, denotation_of, name_in, identifiers_from, found_for}
use Rattle.rows.specs.declared.Starts.{Starts}
use Rattle.rows.specs.Parts.{part_in}
use Rattle.tokens.specs.declared.Lexeme.{Lexeme}
use Rattle.tokens.specs.Answer.{Lexed}
use Rattle.flow.proofs.Flows.{may_go_is}
use Rattle.callees.specs.Shown.{names_world, Named}
use Rattle.callees.specs.Answer.{spelled_at}
use Rattle.callees.proofs.Naming.{denotation_is, low_own, known_is, unknown_is}
use Rattle.leaving.specs.declared.Below.{Below}
use Rattle.leaving.specs.declared.Jump.{Jump}
use Rattle.leaving.specs.declared.Jump.TheVariants as J
use Rattle.leaving.specs.Places.{below_of, row_for, Stand}
use Rattle.leaving.specs.Leads.{jump_for, may_lead, away_to, label_to, RowsThere, JumpIs}

-- ---- the ways of the code
module _ (t : List ℕ) (b : Below) (l : Label) (x : Option ℕ) (e : x ≡ row_for (below_of b) l.place.member) where
  pub away_none : x ≡ None → Err WrongGoto ≡ away_to (row_for (below_of b) l.place.member) t l
  away_none f = rw (← e, f)

  module _ (n : ℕ) (f : x ≡ Some n) (g : Bool) (h : g ≡ may_lead t n l) where
    pub away_may : g ≡ true → Ok (J.Away l) ≡ away_to (row_for (below_of b) l.place.member) t l
    away_may k = rw (← e, f, ← h, k)

    pub away_not : g ≡ false → Err WrongGoto ≡ away_to (row_for (below_of b) l.place.member) t l
    away_not k = rw (← e, f, ← h, k)

module _ (rows : List ℕ) (x : Starts) (b : Below) (m n : ℕ) (l : Label) (t : List ℕ) (e : t ≡ part_in rows x l.place.member) where
  pub label_away : (l.place.member ≡ m → ⊥) → (r : Result Jump Why) → r ≡ away_to (row_for (below_of b) l.place.member) t l → r ≡ label_to rows x b m n l
  unfolding label_to
  label_away h r k = rw (ne_eqb l.place.member m h, ← e) k

  module _ (h : l.place.member ≡ m) (g : Bool) (k : g ≡ may_lead t n l) where
    pub label_may : g ≡ true → Ok (J.Here l) ≡ label_to rows x b m n l
    unfolding label_to
    label_may i = rw (eq-eqb l.place.member m h, ← e, ← k, i)

    pub label_not : g ≡ false → Err WrongGoto ≡ label_to rows x b m n l
    unfolding label_to
    label_not i = rw (eq-eqb l.place.member m h, ← e, ← k, i)

-- ---- they are the definition's
module _ (rows : List ℕ) (x : Starts) (b : Below) (m n : ℕ) (B : World) (there : RowsThere rows x b m n B) (l : Label) (low : l.place.row < length (rows_of l.place.member B)) where
  may_lead_lem : (i : ℕ) → i < length (rows_of l.place.member B) → F.may_go (rows_of l.place.member B) i l.place.row l.is_end ≡ may_lead (part_in rows x l.place.member) i l
  may_lead_lem i h = may_go_is (part_in rows x l.place.member) (rows_of l.place.member B) (there.shown l.place.member) i h (there.few l.place.member) l.place.row l.is_end low

  abbrev target : F.Jump
  target = F.away (record { member = l.place.member; row = l.place.row; is_end = l.is_end })

  away_by : (v : Bool) → ask (jump_for (cond v (Ok (J.Away l)) (Err WrongGoto))) B ≡ when v (λ _. good target B) (λ _. bad WrongGoto B.used)
  away_by true = refl
  away_by false = refl

  here_by : (v : Bool) → ask (jump_for (cond v (Ok (J.Here l)) (Err WrongGoto))) B ≡ when v (λ _. good (landing l.place.row l.is_end) B) (λ _. bad WrongGoto B.used)
  here_by true = refl
  here_by false = refl

  away_is : (ps : List Place) → Stand ps B
      → ask (jump_for (away_to (row_for ps l.place.member) (part_in rows x l.place.member) l)) B ≡ jump_away ps l.place.member l.place.row l.is_end B
  unfolding row_for jump_away
  away_is [] h = refl
  away_is (p ∷ ps) h = by (eqb p.member l.place.member) refl (away_is ps h.1)
    where
      by : (v : Bool) → eqb p.member l.place.member ≡ v
          → ask (jump_for (away_to (row_for ps l.place.member) (part_in rows x l.place.member) l)) B ≡ jump_away ps l.place.member l.place.row l.is_end B
          → ask (jump_for (away_to (cond v (Some p.row) (row_for ps l.place.member)) (part_in rows x l.place.member) l)) B
          ≡ when v (λ _. when (F.may_go (rows_of l.place.member B) p.row l.place.row l.is_end) (λ _. good target B) (λ _. bad WrongGoto B.used)) (λ _. jump_away ps l.place.member l.place.row l.is_end B)
      by true e f = rw (may_lead_lem p.row (rw (eqb-true p.member l.place.member e) at h.0)) (away_by (may_lead (part_in rows x l.place.member) p.row l))
      by false e f = f

  label_is : ask (jump_for (label_to rows x b m n l)) B ≡ jump_label m (rows_of m B) (below_of b) n l.place.member l.place.row l.is_end B
  unfolding label_to jump_label
  label_is = by (eqb l.place.member m) refl
    where
      by : (v : Bool) → eqb l.place.member m ≡ v
          → ask (jump_for (cond v (cond (may_lead (part_in rows x l.place.member) n l) (Ok (J.Here l)) (Err WrongGoto)) (away_to (row_for (below_of b) l.place.member) (part_in rows x l.place.member) l))) B
          ≡ when v (λ _. when (F.may_go (rows_of m B) n l.place.row l.is_end) (λ _. good (landing l.place.row l.is_end) B) (λ _. bad WrongGoto B.used)) (λ _. jump_away (below_of b) l.place.member l.place.row l.is_end B)
      by true e =
          let q : m ≡ l.place.member = sym (eqb-true l.place.member m e) in
          let h : n < length (rows_of l.place.member B) = rw q at there.here in
          rw (q, may_lead_lem n h) (here_by (may_lead (part_in rows x l.place.member) n l))
      by false e = away_is (below_of b) there.below

-- ---- the name of the label
module _ (d s rows t : List ℕ) (count : ℕ) (b : Below) (m : ℕ) (x : Starts) (n at : ℕ) (z : Lexeme) (lex : Lexed s at z) (len : ℕ) (hl : len ≡ z.to - z.from) (f : Option Address)
    (e : f ≡ found_for (address_in (folded mixed (part len z.from s)) (owner_of Everyone) 0 (identifiers_from d t 0 count))) where
  abbrev name : List ℕ
  name = spelled_at s at

  abbrev found : W.Address
  found = address_in name everyone 0 (identifiers_from d t 0 count)

  is_found : f ≡ found_for found
  is_found = rw (hl, lex.from, lex.to) at e

  address_there : (B : World) → Named d t count B → address_of name everyone B ≡ found
  address_there B nd = rw nd.identifiers

  pub from_unknown : f ≡ None → JumpIs d s rows t count b m x n at (Err WrongName)
  from_unknown u = record { is = λ B nd there. rw (address_there B nd, unknown_is d t count found f is_found u) }

  module _ (a : Address) (g : f ≡ Some a) (y : Name) (h : y ≡ name_in t a.0) where
    at_known : found ≡ W.address a.0
    at_known = known_is d t count found f a is_found g

    denotes : (B : World) → Named d t count B → W.denotation a.0 B ≡ denotation_of y.denotation
    unfolding names_world
    denotes B nd = rw (nd.denotations, h) (denotation_is d t count a.0 (low_own d t count name everyone a.0 at_known))

    from_is : (B : World) → Named d t count B → (v : W.Denotation) → denotation_of y.denotation ≡ v
        → jump_from (address_of name everyone B) m (rows_of m B) (below_of b) n B ≡ jump_by v m (rows_of m B) (below_of b) n B
    from_is B nd v k =
        ap (λ (q : W.Address). jump_from q m (rows_of m B) (below_of b) n B) (address_there B nd ∙ at_known)
        ∙ ap (λ (q : W.Denotation). jump_by q m (rows_of m B) (below_of b) n B) (denotes B nd ∙ k)

    pub from_variable : (v : ValueType) → y.denotation ≡ Variable v → JumpIs d s rows t count b m x n at (Err WrongName)
    from_variable v k = record { is = λ B nd there. sym (from_is B nd (W.variable_of v) (ap denotation_of k)) }

    pub from_entry : (v : Entry) → y.denotation ≡ EntryName v → JumpIs d s rows t count b m x n at (Err WrongName)
    from_entry v k = record { is = λ B nd there. sym (from_is B nd (denotation_of (EntryName v)) (ap denotation_of k)) }

    pub from_builtin : y.denotation ≡ Builtin → JumpIs d s rows t count b m x n at (Err WrongName)
    from_builtin k = record { is = λ B nd there. sym (from_is B nd W.builtin_name (ap denotation_of k)) }

    pub from_label : (l : Label) → y.denotation ≡ LabelName l → (r : Result Jump Why) → r ≡ label_to rows x b m n l → JumpIs d s rows t count b m x n at r
    from_label l k r q = record {
      is = λ B nd there.
          let low : l.place.row < length (rows_of l.place.member B) =
          there.labels name a.0 l.place.member l.place.row l.is_end (address_there B nd ∙ at_known) (denotes B nd ∙ ap denotation_of k) in
          rw q (label_is rows x b m n B there l low) ∙ sym (from_is B nd (denotation_of (LabelName l)) (ap denotation_of k));
    }
