-- Labels are declared one after the other: those that were and those that are left are the definition's.
-- Assumes nothing.
use Rattle.expressions.specs.Types.{NamedAt}
use Rattle.std.proofs.Common.{Option, Some, None, Ok, Err}
use Prim.Native.Nat.{ℕ, zero, suc, ◌-◌, ◌≤◌, ◌<◌}
use native.Mathlib.Omega.{arith}
use native.Mathlib.Numerals.{sub-one}
use mathlib.Core.Bool.{Bool, true, false, cond, ◌&&◌}
use mathlib.Core.List.{List, [], ◌∷◌, ◌++◌, append-nil}
use mathlib.Core.Path.{◌≡◌, refl, sym, ap, ◌∙◌}
use lib.ListN.{length}
use Rattle.definition.specs.declared.Why.{Why}
use Rattle.definition.specs.Bytes.{mixed}
use Rattle.definition.specs.Tokens.{is_sign, token_at}
use Rattle.definition.specs.Expressions.{Reading, read, refused, Named, name_of, name_at}
use Rattle.definition.specs.Program as P
use Rattle.definition.specs.Statements.{means}
use Rattle.definition.specs.Names as Nm
use Rattle.definition.specs.Reading as D
use Rattle.expressions.specs.Check.{named_for}
use Rattle.names.specs.Table.{owner_of, denotation_of}
use Rattle.names.specs.declared.Owner.{Owner}
use Rattle.names.specs.declared.Owner.TheVariants.{Everyone, Procedure}
use Rattle.entering.specs.declared.Meaning.{Meaning}
use Rattle.entering.specs.declared.Meaning.TheVariants as M
use Rattle.entering.specs.declared.Tally.{Tally}
use Rattle.entering.specs.Book.{book_one, book_all, Entered, EnteredIf, Declarable, identifier_at, new_denotation, meaning_of}
use Rattle.statements.specs.Clauses.{scope_of, Own, Ready}
use Rattle.statements.proofs.Listed.{Names, named_is, spelled_in, entered_none, entered_more}
use Rattle.openings.specs.Open.{label_past}
use Rattle.reading.specs.declared.State.{State}
use Rattle.reading.specs.State.{with_tally}
use Rattle.reading.specs.Labelled.{label_name, NamesIf, LabelIf, LabelsIf}

-- ---- one label
new_is : (m : ℕ) (g : Meaning) → Nm.new_of m (meaning_of g) ≡ Nm.new (denotation_of (new_denotation m g))
new_is m (M.Variable t) = refl
new_is m M.EntryOnly = refl
new_is m (M.BodyAt r) = refl
new_is m (M.LabelAt r) = refl
new_is m (M.EndLabelAt r) = refl
new_is m M.BuiltinName = refl

owner_is : (m : ℕ) (o : Owner) → Own m o → Nm.owner_of m (scope_of o) ≡ owner_of o
owner_is m Everyone h = refl
owner_is m (Procedure p) h = rw h

no_name : (n : NamedAt) (w : Why) (p : ℕ) (R : Reading Named) → n ≡ named_for R → n ≡ Err (w, p) → label_name R ≡ []
no_name n w p (read v) e f = let z : ◌≡◌ {A = ℕ} 0 1 = cc in absurd (omega arith)
no_name n w p (refused v q) e f = refl

module _ (d s t : List ℕ) (x : Tally) (at : ℕ) (o : Owner) (g : Meaning) (n : NamedAt) (hn : n ≡ named_for (name_at mixed s at)) where
  pub label_none : (w : Why) (p : ℕ) → n ≡ Err (w, p) → LabelIf d s t x at o g t x
  label_none w p e = record { is = λ r. rw (no_name n w p (name_at mixed s at) hn e) (entered_none d t x r.roomy) }

  module _ (from to : ℕ) (e : n ≡ Ok (from, to)) (u : List ℕ) (y : Tally)
      (b : EnteredIf d s t x (record { from = from; to = to }) (book_one (identifier_at s (record { from = from; to = to }) o) (denotation_of (new_denotation x.member g)) from) u y) where
    name : Names s at from to
    name = named_is s at n from to hn e

    declarable : Ready d s t x o → Declarable d s t x (record { from = from; to = to })
    declarable r = record { roomy = r.roomy; spelled = spelled_in d s x.base at from to r.lies name }

    pub label_one : LabelIf d s t x at o g u y
    unfolding book_all
    label_one = record {
      is = λ r.
          let f : Entered d t x (book_one (identifier_at s (record { from = from; to = to }) o) (denotation_of (new_denotation x.member g)) from) u y = b.is (declarable r) in
          record { book = f.book ∙ sym (rw (name.is, new_is x.member g, owner_is x.member o r.own)); roomy = f.roomy; member = f.member; base = f.base };
    }

-- ---- and those from a place on
means_append : (k : P.Scope) (g : P.Meaning) (ns ms : List Named) → means k g (ns ++ ms) ≡ means k g ns ++ means k g ms
means_append k g [] ms = refl
means_append k g (n ∷ ns) ms = ap (λ (z : List P.Declared). record { spelling = n.spelling; place = n.place; scope = k; meaning = g } ∷ z) (means_append k g ns ms)

pub record Labelling (d s t₀ : List ℕ) (o : Owner) (g : Meaning) (x₀ : Tally) (at₀ : ℕ) (t : List ℕ) (x : Tally) (at turns : ℕ) : Type 0 where
  pub done : List Named
  pub long : List ℕ
  pub entered : Entered d t₀ x₀ (book_all x₀.member (means (scope_of o) (meaning_of g) done)) t x
  pub left : D.labels_from mixed s turns done long at ≡ D.labels mixed s at₀

pub record LabellingIf (d s t₀ : List ℕ) (o : Owner) (g : Meaning) (x₀ : Tally) (at₀ : ℕ) (t : List ℕ) (x : Tally) (at turns : ℕ) : Type 0 where
  pub is : Ready d s t₀ x₀ o → Labelling d s t₀ o g x₀ at₀ t x at turns
  pub size : length t ≡ length t₀

-- a turn of the definition, where a label stands and where none does
abbrev is_label : List ℕ → ℕ → Bool
is_label s at = D.is_name (token_at mixed s at).token && is_sign ":" (token_at mixed s (token_at mixed s at).to).token

mark_label : (b : Bool) (q e : ℕ) → Some e ≡ cond b (Some q) None → (b ≡ true) × (e ≡ q)
mark_label true q e h = (refl, cc)
mark_label false q e h = let z : ◌≡◌ {A = ℕ} 0 1 = cc in absurd (omega arith)

no_mark : (b : Bool) (q : ℕ) → None ≡ cond b (Some q) None → b ≡ false
no_mark true q h = let z : ◌≡◌ {A = ℕ} 0 1 = cc in absurd (omega arith)
no_mark false q h = refl

abbrev longer : Reading Named → List ℕ → List ℕ
longer (read n) qs = qs
longer (refused w p) qs = qs ++ p ∷ []

add_label_lem : (R : Reading Named) (ns : List Named) (qs : List ℕ) (f : List Named → List ℕ → D.Labelled) → D.add_label R ns qs f ≡ f (ns ++ label_name R) (longer R qs)
add_label_lem (read n) ns qs f = refl
add_label_lem (refused w p) ns qs f = ap (λ (z : List Named). f z (qs ++ p ∷ [])) (sym (append-nil ns))

module _ (s : List ℕ) (at : ℕ) (ns : List Named) (qs : List ℕ) where
  label_turn : (n e : ℕ) → 0 < n → Some e ≡ label_past s at → D.labels_from mixed s n ns qs at ≡ D.labels_from mixed s (n - 1) (ns ++ label_name (name_at mixed s at)) (longer (name_at mixed s at) qs) e
  unfolding D.labels_from label_past name_at
  label_turn zero e k h = absurd (omega arith)
  label_turn (suc n) e k h =
      let q : ℕ = (token_at mixed s (token_at mixed s at).to).to in
      let b : (is_label s at ≡ true) × (e ≡ q) = mark_label (is_label s at) q e h in
      rw (sub-one, b.1, b.0) (add_label_lem (name_of (token_at mixed s at).token (token_at mixed s at).from (token_at mixed s at).to) ns qs (λ ms more. D.labels_from mixed s n ms more q))

  label_end : (n : ℕ) → None ≡ label_past s at → (D.labels_from mixed s n ns qs at).labels ≡ ns
  unfolding D.labels_from label_past
  label_end zero h = refl
  label_end (suc n) h = rw (no_mark (is_label s at) (token_at mixed s (token_at mixed s at).to).to h)

  label_last : (n : ℕ) → n ≤ 0 → (D.labels_from mixed s n ns qs at).labels ≡ ns
  unfolding D.labels_from
  label_last zero h = refl
  label_last (suc n) h = absurd (omega arith)

module _ (d s t₀ : List ℕ) (o : Owner) (g : Meaning) (x₀ : Tally) where
  pub labels_start : (at : ℕ) → LabellingIf d s t₀ o g x₀ at t₀ x₀ at (length s)
  labels_start at = record { is = λ r. record { done = []; long = []; entered = entered_none d t₀ x₀ r.roomy; left = refl }; size = refl }

  module _ (at₀ : ℕ) (t : List ℕ) (x : Tally) (at turns : ℕ) (h : LabellingIf d s t₀ o g x₀ at₀ t x at turns) where
    pub labels_more : 0 < turns → (found : Option ℕ) → found ≡ label_past s at → (e : ℕ) → found ≡ Some e → (u : List ℕ) (y : Tally) → length u ≡ length t → LabelIf d s t x at o g u y → LabellingIf d s t₀ o g x₀ at₀ u y e (turns - 1)
    labels_more k found hf e f u y size b = record { is = more; size = size ∙ h.size }
      where
        more : Ready d s t₀ x₀ o → Labelling d s t₀ o g x₀ at₀ u y e (turns - 1)
        more r =
            let l : Labelling d s t₀ o g x₀ at₀ t x at turns = h.is r in
            let ns : List Named = label_name (name_at mixed s at) in
            let own : Ready d s t x o = record { roomy = l.entered.roomy; lies = rw l.entered.base r.lies; own = rw l.entered.member r.own } in
            record {
              done = l.done ++ ns;
              long = longer (name_at mixed s at) l.long;
              entered = rw (means_append (scope_of o) (meaning_of g) l.done ns) (entered_more d t₀ t u x₀ x y (means (scope_of o) (meaning_of g) l.done) (means (scope_of o) (meaning_of g) ns) l.entered (b.is own));
              left = sym (label_turn s at l.done l.long turns e k (sym f ∙ hf)) ∙ l.left;
            }

    labels_by : ((r : Ready d s t₀ x₀ o) → (D.labels_from mixed s turns (h.is r).done (h.is r).long at).labels ≡ (h.is r).done) → NamesIf d s t₀ x₀ o g (D.labels mixed s at₀).labels t x
    labels_by k = record { is = λ r. rw (← (sym (k r) ∙ ap (λ (z : D.Labelled). z.labels) (h.is r).left)) (h.is r).entered }

module _ (d s t₀ : List ℕ) (g : Meaning) (x : State) (at₀ : ℕ) (t : List ℕ) (z : Tally) (at turns : ℕ) (h : LabellingIf d s t₀ x.scope g x.tally at₀ t z at turns) (y : State) (hy : y ≡ with_tally x z) where
  stated : NamesIf d s t₀ x.tally x.scope g (D.labels mixed s at₀).labels t z → LabelsIf d s t₀ x at₀ g t y
  stated k = record { names = rw hy k; rest = rw hy }

  pub labels_end : (found : Option ℕ) → found ≡ label_past s at → found ≡ None → LabelsIf d s t₀ x at₀ g t y
  labels_end found hf e = stated (labels_by d s t₀ x.scope g x.tally at₀ t z at turns h (λ r. label_end s at (h.is r).done (h.is r).long turns (sym e ∙ hf)))

  pub labels_last : turns ≤ 0 → LabelsIf d s t₀ x at₀ g t y
  labels_last k = stated (labels_by d s t₀ x.scope g x.tally at₀ t z at turns h (λ r. label_last s at (h.is r).done (h.is r).long turns k))
