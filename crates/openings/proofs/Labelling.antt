-- Labels are read as the definition reads them: one law for each way out.
-- Assumes nothing.
use Rattle.expressions.specs.Types.{NamedAt}
use Rattle.std.proofs.Common.{Option, Some, None, Ok, Err}
use mathlib.Core.Path.{◌≡◌, refl, sym, ap, ◌∙◌}
use mathlib.Core.Bool.{Bool, true, false, cond, not, ◌&&◌, ◌||◌}
use mathlib.Core.List.{List, [], ◌∷◌, ◌++◌}
use Prim.Native.Nat.{ℕ, zero, suc, ◌+◌, ◌-◌, ◌<◌, ◌≤◌}
use native.Mathlib.Omega.{arith}
use native.Mathlib.Numerals.{sub-one}
use borrow.Author.Tests.{lt-ltb, ne_eqb}
use lib.Dec.{ltb, eqb}
use lib.ListN.{length, length-append}
use Rattle.definition.specs.Bytes.{mixed, folded}
use Rattle.definition.specs.Choice.{when}
use Rattle.definition.specs.Lists.{part, same, is_one_of}
use Rattle.definition.specs.Tokens as Tk
use Rattle.definition.specs.Tokens.{token_at}
use Rattle.definition.specs.Expressions.{Reading, read, refused, Named, name_at}
use Rattle.definition.specs.Reading as D
use Rattle.definition.specs.declared.Why.{Why}
use Rattle.definition.proofs.Folded.{length_folded}
use Rattle.definition.proofs.Parts.{length_part, same_length}
use Rattle.tokens.specs.declared.Lexeme.{Lexeme}
use Rattle.tokens.specs.Answer.{written, spelling}
use Rattle.expressions.specs.Check.{named_for}
use Rattle.expressions.proofs.Laws.{parts}
use Rattle.entering.specs.Book.{first_of}
use Rattle.statements.proofs.Listed.{named_is}
use Rattle.openings.specs.declared.Labels.{Labels}
use Rattle.openings.specs.Open.{label_past, labelled, first_long, long_after, LabelsAt, names_as}

-- ---- a label that is too long
pub long_kept : (m : Option ℕ) (p : ℕ) (R : Reading Named) → m ≡ Some p → Some p ≡ long_after m R
long_kept m p (read n) e = sym e
long_kept m p (refused w q) e = rw e

pub long_none : (m : Option ℕ) (x : NamedAt) (a b : ℕ) (R : Reading Named) → m ≡ None → x ≡ named_for R → x ≡ Ok (a, b) → None ≡ long_after m R
long_none m x a b (read n) e h k = sym e
long_none m x a b (refused w q) e h k = let z : ◌≡◌ {A = ℕ} 0 1 = cc in absurd (omega arith)

pub long_new : (m : Option ℕ) (x : NamedAt) (w : Why) (p : ℕ) (R : Reading Named) → m ≡ None → x ≡ named_for R → x ≡ Err (w, p) → Some p ≡ long_after m R
long_new m x w p (read n) e h k = let z : ◌≡◌ {A = ℕ} 0 1 = cc in absurd (omega arith)
long_new m x w p (refused v q) e h k = let z : (w, p) ≡ (v, q) = cc in let y : (w ≡ v) × (p ≡ q) = parts z in rw (e, y.1)

first_more : (ls : List ℕ) (p : ℕ) → first_of (first_long ls) p ≡ first_long (ls ++ p ∷ [])
first_more [] p = refl
first_more (x ∷ ls) p = refl

-- ---- what a label at a place says
abbrev is_labelled : List ℕ → ℕ → Bool
is_labelled s at = D.is_name (token_at mixed s at).token && Tk.is_sign ":" (token_at mixed s (token_at mixed s at).to).token

abbrev behind_label : List ℕ → ℕ → ℕ
behind_label s at = (token_at mixed s (token_at mixed s at).to).to

past_holds : (g : Bool) (q e : ℕ) → Some e ≡ cond g (Some q) None → g ≡ true
past_holds true q e h = refl
past_holds false q e h = let z : ◌≡◌ {A = ℕ} 0 1 = cc in absurd (omega arith)

past_place : (g : Bool) (q e : ℕ) → Some e ≡ cond g (Some q) None → q ≡ e
past_place true q e h = cc
past_place false q e h = let z : ◌≡◌ {A = ℕ} 0 1 = cc in absurd (omega arith)

past_none : (g : Bool) (q : ℕ) → None ≡ cond g (Some q) None → g ≡ false
past_none true q h = let z : ◌≡◌ {A = ℕ} 0 1 = cc in absurd (omega arith)
past_none false q h = refl

module _ (s : List ℕ) (at : ℕ) (m : Option ℕ) (h : m ≡ label_past s at) where
  label_holds : (e : ℕ) → m ≡ Some e → is_labelled s at ≡ true
  unfolding label_past
  label_holds e k = past_holds (is_labelled s at) (behind_label s at) e (sym k ∙ h)

  label_place : (e : ℕ) → m ≡ Some e → behind_label s at ≡ e
  unfolding label_past
  label_place e k = past_place (is_labelled s at) (behind_label s at) e (sym k ∙ h)

  label_none : m ≡ None → is_labelled s at ≡ false
  unfolding label_past
  label_none k = past_none (is_labelled s at) (behind_label s at) (sym k ∙ h)

-- ---- one label after the other
pub record Labelling (s : List ℕ) (from at count : ℕ) (long : Option ℕ) : Type 0 where
  pub names : List Named
  pub longs : List ℕ
  pub turns : ℕ
  pub left : D.labels_from mixed s turns names longs at ≡ D.labels mixed s from
  pub first : long ≡ first_long longs
  pub size : count ≡ length names + length longs
  pub sum : count + turns ≡ length s

pub labelling_start : (s : List ℕ) (from : ℕ) → Labelling s from from 0 None
labelling_start s from = record { names = []; longs = []; turns = length s; left = refl; first = refl; size = refl; sum = omega arith }

abbrev read_so_far : List ℕ → List Named → List ℕ → ℕ → D.Labelled
read_so_far s ns ls at = record { labels = ns; long = ls; behind = token_at mixed s at }

labels_turn : (s : List ℕ) (f : ℕ) (ns : List Named) (ls : List ℕ) (at : ℕ) → 0 < f → D.labels_from mixed s f ns ls at
    ≡ when (is_labelled s at) (λ _. D.add_label (name_at mixed s at) ns ls (λ ms more. D.labels_from mixed s (f - 1) ms more (behind_label s at))) (λ _. read_so_far s ns ls at)
unfolding D.labels_from name_at
labels_turn s zero ns ls at h = absurd (omega arith)
labels_turn s (suc f) ns ls at h = rw sub-one

labels_none : (s : List ℕ) (f : ℕ) (ns : List Named) (ls : List ℕ) (at : ℕ) → is_labelled s at ≡ false → D.labels_from mixed s f ns ls at ≡ read_so_far s ns ls at
unfolding D.labels_from
labels_none s zero ns ls at h = refl
labels_none s (suc f) ns ls at h = rw h

labels_over : (s : List ℕ) (f : ℕ) (ns : List Named) (ls : List ℕ) (at : ℕ) → f ≤ 0 → D.labels_from mixed s f ns ls at ≡ read_so_far s ns ls at
unfolding D.labels_from
labels_over s zero ns ls at h = refl
labels_over s (suc f) ns ls at h = absurd (omega arith)

module _ (s : List ℕ) (from at count : ℕ) (long : Option ℕ) (h : Labelling s from at count long) where
  ended : D.labels_from mixed s h.turns h.names h.longs at ≡ read_so_far s h.names h.longs at → LabelsAt s from (record { count = count; long = long; to = at })
  ended e =
      let z : D.labels mixed s from ≡ read_so_far s h.names h.longs at = sym h.left ∙ e in
      record {
        behind = ap (λ (x : D.Labelled). x.behind) z;
        long = h.first ∙ ap (λ (x : D.Labelled). first_long x.long) (sym z);
        count = h.size ∙ ap (λ (x : D.Labelled). length x.labels + length x.long) (sym z);
      }

  pub labelling_over : length s ≤ count → LabelsAt s from (record { count = length s; long = long; to = at })
  labelling_over k = let e : count ≡ length s = omega (arith, h.sum, k) in rw e at (ended (labels_over s h.turns h.names h.longs at (omega (arith, h.sum, k))))

  module _ (m : Option ℕ) (f : m ≡ label_past s at) where
    pub labelling_none : m ≡ None → LabelsAt s from (record { count = count; long = long; to = at })
    labelling_none k = ended (labels_none s h.turns h.names h.longs at (label_none s at m f k))

    module _ (k : count < length s) (e : ℕ) (g : m ≡ Some e) (y : Option ℕ) where
      more_by : (R : Reading Named) → D.add_label R h.names h.longs (λ ms more. D.labels_from mixed s (h.turns - 1) ms more e) ≡ D.labels mixed s from → y ≡ long_after long R → Labelling s from e (count + 1) y
      more_by (read n) l i = record {
        names = h.names ++ n ∷ [];
        longs = h.longs;
        turns = h.turns - 1;
        left = l;
        first = i ∙ h.first;
        size = omega (arith, h.size, length-append h.names (n ∷ []));
        sum = omega (arith, h.sum, k);
      }
      more_by (refused w p) l i = record {
        names = h.names;
        longs = h.longs ++ p ∷ [];
        turns = h.turns - 1;
        left = l;
        first = i ∙ ap (λ (z : Option ℕ). first_of z p) h.first ∙ first_more h.longs p;
        size = omega (arith, h.size, length-append h.longs (p ∷ []));
        sum = omega (arith, h.sum, k);
      }

      turned : D.add_label (name_at mixed s at) h.names h.longs (λ ms more. D.labels_from mixed s (h.turns - 1) ms more (behind_label s at)) ≡ D.labels mixed s from
      turned =
          ap (λ (b : Bool). when b (λ _. D.add_label (name_at mixed s at) h.names h.longs (λ ms more. D.labels_from mixed s (h.turns - 1) ms more (behind_label s at))) (λ _. read_so_far s h.names h.longs at)) (sym (label_holds s at m f e g))
          ∙ sym (labels_turn s h.turns h.names h.longs at (omega (arith, h.sum, k))) ∙ h.left

      pub labelling_more : y ≡ long_after long (name_at mixed s at) → Labelling s from e (count + 1) y
      labelling_more i =
          more_by (name_at mixed s at)
          (ap (λ (q : ℕ). D.add_label (name_at mixed s at) h.names h.longs (λ ms more. D.labels_from mixed s (h.turns - 1) ms more q)) (sym (label_place s at m f e g)) ∙ turned) i

-- labels of which none is too long: whether there are any
none_counted : (ns : List Named) → ltb 0 (length ns) ≡ not (D.is_none ns)
none_counted [] = refl
none_counted (n ∷ ns) = lt-ltb 0 (suc (length ns)) (omega arith)

pub labels_counted : (s : List ℕ) (from : ℕ) (r : Labels) → LabelsAt s from r → (D.labels mixed s from).long ≡ [] → ltb 0 r.count ≡ not (D.is_none (D.labels mixed s from).labels)
labels_counted s from r h e =
    let z : r.count ≡ length (D.labels mixed s from).labels = omega (arith, h.count, ap (λ (l : List ℕ). length l) e) in
    ap (ltb 0) z ∙ none_counted (D.labels mixed s from).labels

-- ---- spellings
module _ (s : List ℕ) (t : Lexeme) (from to n a : ℕ) (hn : n ≡ to - from) (ha : a ≡ t.to - t.from) where
  pub spelled_so : a ≡ n → (b : Bool) → b ≡ same (folded mixed (part n t.from s)) (folded mixed (part n from s)) → b ≡ same (spelling s t) (folded mixed (part (to - from) from s))
  unfolding written
  spelled_so e b f = f ∙ ap (λ (k : ℕ). same (folded mixed (part k t.from s)) (folded mixed (part n from s))) (sym e ∙ ha) ∙ ap (λ (k : ℕ). same (folded mixed (part (t.to - t.from) t.from s)) (folded mixed (part k from s))) hn

  pub spelled_not : (a ≡ n → ⊥) → eqb a n ≡ same (spelling s t) (folded mixed (part (to - from) from s))
  unfolding written
  spelled_not e = ne_eqb a n e ∙ same_length (folded mixed (part (t.to - t.from) t.from s)) (folded mixed (part (to - from) from s))
      (λ z. e (ha ∙ sym (length_folded mixed (part (t.to - t.from) t.from s) ∙ length_part (t.to - t.from) t.from s) ∙ z ∙ length_folded mixed (part (to - from) from s) ∙ length_part (to - from) from s ∙ sym hn))

module _ (s w : List ℕ) (at : ℕ) (x : NamedAt) (h : x ≡ named_for (name_at mixed s at)) where
  pub named_so : (from to : ℕ) (b : Bool) → x ≡ Ok (from, to) → b ≡ same w (folded mixed (part (to - from) from s)) → b ≡ names_as w (name_at mixed s at)
  named_so from to b e f = f ∙ ap (names_as w) (sym (named_is s at x from to h e).is)

  unnamed : (y : Why) (p : ℕ) (R : Reading Named) → x ≡ named_for R → x ≡ Err (y, p) → false ≡ names_as w R
  unnamed y p (read n) f e = let z : ◌≡◌ {A = ℕ} 0 1 = cc in absurd (omega arith)
  unnamed y p (refused v q) f e = refl

  pub named_not : (y : Why) (p : ℕ) → x ≡ Err (y, p) → false ≡ names_as w (name_at mixed s at)
  named_not y p e = unnamed y p (name_at mixed s at) h e

-- ---- whether one of the labels from a place on is spelled w
unfoldable pub has_label : List ℕ → List ℕ → ℕ → ℕ → Bool
has_label w s zero at = false
has_label w s (suc f) at = when (is_labelled s at) (λ _. names_as w (name_at mixed s at) || has_label w s f (behind_label s at)) (λ _. false)

or_false : (a : Bool) → a ≡ (a || false)
or_false true = refl
or_false false = refl

or_assoc : (a b c : Bool) → ((a || b) || c) ≡ (a || (b || c))
or_assoc true b c = refl
or_assoc false b c = refl

module _ (w : List ℕ) where
  one_more : (ns : List Named) (n : Named) → is_one_of w (D.spelled (ns ++ n ∷ [])) ≡ (is_one_of w (D.spelled ns) || same w n.spelling)
  one_more [] n = sym (or_false (same w n.spelling))
  one_more (x ∷ ns) n = ap (λ (b : Bool). same w x.spelling || b) (one_more ns n) ∙ sym (or_assoc (same w x.spelling) (is_one_of w (D.spelled ns)) (same w n.spelling))

  module _ (s : List ℕ) (at q : ℕ) (F : List Named → List ℕ → D.Labelled) (c : Bool) (h : (ns : List Named) (ls : List ℕ) → is_one_of w (D.spelled (F ns ls).labels) ≡ (is_one_of w (D.spelled ns) || c)) (ns : List Named) (ls : List ℕ) where
    one_by : (g : Bool) (R : Reading Named) → is_one_of w (D.spelled (when g (λ _. D.add_label R ns ls F) (λ _. read_so_far s ns ls at)).labels) ≡ (is_one_of w (D.spelled ns) || when g (λ _. names_as w R || c) (λ _. false))
    one_by false R = or_false (is_one_of w (D.spelled ns))
    one_by true (read n) = h (ns ++ n ∷ []) ls ∙ ap (λ (b : Bool). b || c) (one_more ns n) ∙ or_assoc (is_one_of w (D.spelled ns)) (same w n.spelling) c
    one_by true (refused y p) = h ns (ls ++ p ∷ [])

  one_of : (s : List ℕ) (f : ℕ) (ns : List Named) (ls : List ℕ) (at : ℕ) → is_one_of w (D.spelled (D.labels_from mixed s f ns ls at).labels) ≡ (is_one_of w (D.spelled ns) || has_label w s f at)
  unfolding D.labels_from has_label name_at
  one_of s zero ns ls at = or_false (is_one_of w (D.spelled ns))
  one_of s (suc f) ns ls at =
      one_by s at (behind_label s at) (λ ms more. D.labels_from mixed s f ms more (behind_label s at)) (has_label w s f (behind_label s at))
      (λ ms more. one_of s f ms more (behind_label s at)) ns ls (is_labelled s at) (name_at mixed s at)

  labelled_is : (s : List ℕ) (from : ℕ) → has_label w s (length s) from ≡ is_one_of w (labelled s from)
  labelled_is s from = sym (one_of s (length s) [] [] from)

  has_turn : (s : List ℕ) (f at : ℕ) → 0 < f → has_label w s f at ≡ when (is_labelled s at) (λ _. names_as w (name_at mixed s at) || has_label w s (f - 1) (behind_label s at)) (λ _. false)
  unfolding has_label
  has_turn s zero at h = absurd (omega arith)
  has_turn s (suc f) at h = rw sub-one

pub record Seeking (w s : List ℕ) (from turns at : ℕ) : Type 0 where
  pub same : has_label w s turns at ≡ has_label w s (length s) from

module _ (w s : List ℕ) (from : ℕ) where
  pub seeking_start : Seeking w s from (length s) from
  seeking_start = record { same = refl }

  module _ (turns at : ℕ) (h : Seeking w s from turns at) where
    pub seeking_over : turns ≤ 0 → false ≡ is_one_of w (labelled s from)
    unfolding has_label
    seeking_over k = let z : 0 ≡ turns = omega (arith, k) in ap (λ (n : ℕ). has_label w s n at) z ∙ h.same ∙ labelled_is w s from

    module _ (k : 0 < turns) (m : Option ℕ) (f : m ≡ label_past s at) where
      by_test : (g : Bool) → is_labelled s at ≡ g → when g (λ _. names_as w (name_at mixed s at) || has_label w s (turns - 1) (behind_label s at)) (λ _. false) ≡ has_label w s (length s) from
      by_test g e = ap (λ (b : Bool). when b (λ _. names_as w (name_at mixed s at) || has_label w s (turns - 1) (behind_label s at)) (λ _. false)) (sym e) ∙ sym (has_turn w s turns at k) ∙ h.same

      pub seeking_none : m ≡ None → false ≡ is_one_of w (labelled s from)
      seeking_none e = by_test false (label_none s at m f e) ∙ labelled_is w s from

      module _ (e : ℕ) (g : m ≡ Some e) (b : Bool) (i : b ≡ names_as w (name_at mixed s at)) where
        onward : (b || has_label w s (turns - 1) e) ≡ has_label w s (length s) from
        onward = ap (λ (c : Bool). c || has_label w s (turns - 1) e) i ∙ ap (λ (q : ℕ). names_as w (name_at mixed s at) || has_label w s (turns - 1) q) (sym (label_place s at m f e g)) ∙ by_test true (label_holds s at m f e g)

        pub seeking_found : b ≡ true → true ≡ is_one_of w (labelled s from)
        seeking_found j = ap (λ (c : Bool). c || has_label w s (turns - 1) e) (sym j) ∙ onward ∙ labelled_is w s from

        pub seeking_more : b ≡ false → Seeking w s from (turns - 1) e
        seeking_more j = record { same = ap (λ (c : Bool). c || has_label w s (turns - 1) e) (sym j) ∙ onward }
