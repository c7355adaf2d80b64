-- WHAT THE NAMES OF A MEMBER MEAN: a body is the row of a procedure, a label leads to a row; and the parameters of a procedure are
-- listed one behind the other.
-- Assumes nothing.
use mathlib.Core.Path.{◌≡◌, refl, sym, ap, ◌∙◌}
use mathlib.Core.List.{List, [], ◌∷◌, ◌++◌, append_assoc, append-nil}
use Prim.Native.Nat.{ℕ, zero, suc, ◌<◌}
use native.Mathlib.Omega.{arith}
use lib.ListN.{length}
use Rattle.definition.specs.Bytes.{mixed}
use Rattle.definition.specs.Tokens.{Token, is_word, is_sign, token_at}
use Rattle.definition.specs.Expressions.{Reading, read, refused, Named, name_at, expect_sign, expect_word}
use Rattle.definition.specs.Program as P
use Rattle.definition.specs.Statements as St
use Rattle.definition.specs.Reading.{spelled}
use Rattle.definition.specs.World.{row_of}
use Rattle.definition.specs.declared.ValueType.{ValueType}
use Rattle.definition.specs.declared.ValueType.TheVariants.{FixedType, CharacterType}
use Rattle.definition.proofs.Choices.{when_has}
use Rattle.showing.specs.Worlds.{IsProcedure}
use Rattle.showing.proofs.Linking.{Grows}

-- ---- the rows that names mean
abbrev pub MeansRow : List P.Row → P.Meaning → Type 0
MeansRow rs (P.variable v) = Unit {0}
MeansRow rs P.entry = Unit {0}
MeansRow rs (P.body r) = (r < length rs) × IsProcedure (row_of rs r).statement
MeansRow rs (P.label r) = r < length rs
MeansRow rs (P.end_label r) = r < length rs
MeansRow rs P.builtin = Unit {0}
MeansRow rs P.parameter = Unit {0}

abbrev pub AllMean : List P.Row → List P.Declared → Type 0
AllMean rs [] = Unit {0}
AllMean rs (d ∷ ds) = MeansRow rs d.meaning × AllMean rs ds

procedure_by : (x y : P.Statement) → y ≡ x → IsProcedure x → IsProcedure y
procedure_by x y e h = (h.0, h.1, e ∙ h.2)

module _ (rs qs : List P.Row) (g : Grows rs qs) where
  means_grows : (m : P.Meaning) → MeansRow rs m → MeansRow qs m
  means_grows (P.variable v) h = tt
  means_grows P.entry h = tt
  means_grows (P.body r) h = (omega (arith, h.0, g.size), procedure_by (row_of rs r).statement (row_of qs r).statement (g.statement r h.0) h.1)
  means_grows (P.label r) h = omega (arith, h, g.size)
  means_grows (P.end_label r) h = omega (arith, h, g.size)
  means_grows P.builtin h = tt
  means_grows P.parameter h = tt

  pub all_grows : (ds : List P.Declared) → AllMean rs ds → AllMean qs ds
  all_grows [] h = tt
  all_grows (d ∷ ds) h = (means_grows d.meaning h.0, all_grows ds h.1)

module _ (rs : List P.Row) where
  pub all_append : (ds es : List P.Declared) → AllMean rs ds → AllMean rs es → AllMean rs (ds ++ es)
  all_append [] es h i = i
  all_append (d ∷ ds) es h i = (h.0, all_append ds es h.1 i)

  pub all_means : (k : P.Scope) (m : P.Meaning) (ns : List Named) → MeansRow rs m → AllMean rs (St.means k m ns)
  all_means k m [] h = tt
  all_means k m (n ∷ ns) h = (h, all_means k m ns h)

  -- ---- DECLARE names no row
  abbrev pub MeanSo : St.Declaring → Type 0
  MeanSo (St.declared c es) = AllMean rs es
  MeanSo (St.undeclared w p es) = Unit {0}

  after_mean : {A : Type 0} (ds : List P.Declared) (R : Reading A) (F : A → St.Declaring) → ((a : A) → MeanSo (F a)) → MeanSo (St.then_declare ds R F)
  after_mean ds (read a) F h = h a
  after_mean ds (refused w p) F h = tt

  module _ (s : List ℕ) where
    names_mean : (k : P.Scope) (m : P.Meaning) (ds : List P.Declared) (f : ℕ) (ns : List Named) (at : ℕ) (K : List Named → ℕ → St.Declaring) → ((ms : List Named) (e : ℕ) → MeanSo (K ms e)) → MeanSo (St.names_at mixed k m s ds f ns at K)
    unfolding St.names_at
    names_mean k m ds zero ns at K h = tt
    names_mean k m ds (suc f) ns at K h =
        after_mean (ds ++ St.means k m ns) (name_at mixed s at) _ λ x.
        when_has MeanSo (is_sign "," (token_at mixed s x.to).token) (λ _. St.names_at mixed k m s ds f (ns ++ x ∷ []) (token_at mixed s x.to).to K) _
        (λ _. names_mean k m ds f (ns ++ x ∷ []) (token_at mixed s x.to).to K h) λ _.
        after_mean (ds ++ St.means k m (ns ++ x ∷ [])) (expect_sign mixed ")" s x.to) (λ e. K (ns ++ x ∷ []) e) λ e. h (ns ++ x ∷ []) e

    attribute_mean : (k : P.Scope) (t : Token) (from to : ℕ) (F : P.Meaning → ℕ → St.Declaring) (G : Unit {0} → St.Declaring) → ((m : P.Meaning) → MeansRow rs m → MeanSo (F m to)) → MeanSo (G tt) → MeanSo (St.attribute k t from to F G)
    unfolding St.attribute
    attribute_mean P.global t from to F G h i =
        when_has MeanSo (St.is_character t) _ _ (λ _. h (P.variable CharacterType) tt) λ _. when_has MeanSo (is_word "FIXED" t) _ _ (λ _. h (P.variable FixedType) tt) λ _.
        when_has MeanSo (is_word "ENTRY" t) _ _ (λ _. h P.entry tt) λ _. i
    attribute_mean (P.inside r) t from to F G h i =
        when_has MeanSo (St.is_character t) _ _ (λ _. h (P.variable CharacterType) tt) λ _. when_has MeanSo (is_word "FIXED" t) _ _ (λ _. h (P.variable FixedType) tt) λ _.
        when_has MeanSo (is_word "BUILTIN" t) _ _ (λ _. h P.builtin tt) λ _. i

    abbrev Next : (List P.Declared → ℕ → St.Declaring) → Type 0
    Next F = (es : List P.Declared) (q : ℕ) → AllMean rs es → MeanSo (F es q)

    item_mean : (k : P.Scope) (ds : List P.Declared) (ns : List Named) (e : ℕ) (F : List P.Declared → ℕ → St.Declaring) → AllMean rs ds → Next F → MeanSo (St.declare_names mixed k s ds ns e F)
    unfolding St.declare_names
    item_mean k ds ns e F h i =
        attribute_mean k (token_at mixed s e).token (token_at mixed s e).from (token_at mixed s e).to (λ m to. F (ds ++ St.means k m ns) to) _
        (λ m z. i (ds ++ St.means k m ns) (token_at mixed s e).to (all_append ds (St.means k m ns) h (all_means k m ns z))) tt

    next_mean : (F : List P.Declared → ℕ → St.Declaring) → Next F → Next (St.declare_next mixed s F)
    unfolding St.declare_next
    next_mean F i ds e h = when_has MeanSo (is_sign "," (token_at mixed s e).token) _ _ (λ _. i ds (token_at mixed s e).to h) λ _. after_mean ds (expect_sign mixed ";" s e) (λ q. St.declared (St.clause (P.declare (St.spellings ds)) St.opens_nothing q) ds) λ q. h

    pub declare_mean : (k : P.Scope) (f : ℕ) (ds : List P.Declared) (at : ℕ) → AllMean rs ds → MeanSo (St.declare_from mixed k s f ds at)
    unfolding St.declare_from
    declare_mean k zero ds at h = tt
    declare_mean k (suc f) ds at h =
        when_has MeanSo (is_sign "(" (token_at mixed s at).token) _ _
        (λ _. names_mean k (P.variable FixedType) ds (length s) [] (token_at mixed s at).to (λ ns e. St.declare_names mixed k s ds ns e (St.declare_next mixed s (St.declare_from mixed k s f))) λ ns e.
        item_mean k ds ns e (St.declare_next mixed s (St.declare_from mixed k s f)) h (next_mean (St.declare_from mixed k s f) (λ es q. declare_mean k f es q))) λ _.
        after_mean ds (name_at mixed s at) (λ n. St.declare_names mixed k s ds (n ∷ []) n.to (St.declare_next mixed s (St.declare_from mixed k s f))) λ n.
        item_mean k ds (n ∷ []) n.to (St.declare_next mixed s (St.declare_from mixed k s f)) h (next_mean (St.declare_from mixed k s f) (λ es q. declare_mean k f es q))

-- ---- PROCEDURE lists its parameters, in its own scope
abbrev pub HeadSo : P.Scope → St.Declaring → Type 0
HeadSo k (St.declared c es) = (ms : List Named) × (v : ValueType) × (es ≡ St.means k P.parameter ms) × (c.statement ≡ P.procedure (spelled ms) v)
HeadSo k (St.undeclared w p es) = Unit {0}

pub spelled_means : (k : P.Scope) (m : P.Meaning) (ns : List Named) → St.spellings (St.means k m ns) ≡ spelled ns
spelled_means k m [] = refl
spelled_means k m (n ∷ ns) = ap (λ (l : List (List ℕ)). n.spelling ∷ l) (spelled_means k m ns)

module _ (s : List ℕ) (k : P.Scope) where
  after_head : {A : Type 0} (ds : List P.Declared) (R : Reading A) (F : A → St.Declaring) → ((a : A) → HeadSo k (F a)) → HeadSo k (St.then_declare ds R F)
  after_head ds (read a) F h = h a
  after_head ds (refused w p) F h = tt

  names_head : (f : ℕ) (ns : List Named) (at : ℕ) (K : List Named → ℕ → St.Declaring) → ((ms : List Named) (e : ℕ) → HeadSo k (K ms e)) → HeadSo k (St.names_at mixed k P.parameter s [] f ns at K)
  unfolding St.names_at
  names_head zero ns at K h = tt
  names_head (suc f) ns at K h =
      after_head ([] ++ St.means k P.parameter ns) (name_at mixed s at) _ λ x.
      when_has (HeadSo k) (is_sign "," (token_at mixed s x.to).token) (λ _. St.names_at mixed k P.parameter s [] f (ns ++ x ∷ []) (token_at mixed s x.to).to K) _
      (λ _. names_head f (ns ++ x ∷ []) (token_at mixed s x.to).to K h) λ _.
      after_head ([] ++ St.means k P.parameter (ns ++ x ∷ [])) (expect_sign mixed ")" s x.to) (λ e. K (ns ++ x ∷ []) e) λ e. h (ns ++ x ∷ []) e

  head_head : (ns : List Named) (at : ℕ) → HeadSo k (St.procedure_head mixed k s ns at)
  unfolding St.procedure_head St.returns_type
  head_head ns at =
      let ds : List P.Declared = St.means k P.parameter ns in
      let last : (v : ValueType) (z : ℕ) → HeadSo k (St.then_declare ds (expect_sign mixed ")" s z) λ q. St.then_declare ds (expect_sign mixed ";" s q) λ y. St.declared (St.clause (P.procedure (St.spellings ds) v) St.opens_body y) ds) = λ v z.
      after_head ds (expect_sign mixed ")" s z) _ λ q. after_head ds (expect_sign mixed ";" s q) (λ y. St.declared (St.clause (P.procedure (St.spellings ds) v) St.opens_body y) ds) λ y.
      (ns, v, refl, ap (λ (l : List (List ℕ)). P.procedure l v) (spelled_means k P.parameter ns)) in
      after_head ds (expect_word mixed "RETURNS" s at) _ λ e. after_head ds (expect_sign mixed "(" s e) _ λ q.
      when_has (HeadSo k) (St.is_character (token_at mixed s q).token) _ _ (λ _. last CharacterType (token_at mixed s q).to) λ _.
      after_head ds (expect_word mixed "FIXED" s q) _ λ z. last FixedType z

  pub procedure_head_lem : (at : ℕ) → HeadSo k (St.procedure_clause mixed k s at)
  unfolding St.procedure_clause
  procedure_head_lem at =
      when_has (HeadSo k) (is_sign "(" (token_at mixed s at).token) _ _
      (λ _. names_head (length s) [] (token_at mixed s at).to (St.procedure_head mixed k s) head_head) λ _. head_head [] at

-- ---- among the names of a member stand the parameters ns of the scope k
pub record HeadIn (k : P.Scope) (ns : List (List ℕ)) (ds : List P.Declared) : Type 0 where
  pub before : List P.Declared
  pub names : List Named
  pub behind : List P.Declared
  pub is : ds ≡ before ++ (St.means k P.parameter names ++ behind)
  pub spelling : spelled names ≡ ns

pub head_more : (k : P.Scope) (ns : List (List ℕ)) (ds es : List P.Declared) → HeadIn k ns ds → HeadIn k ns (ds ++ es)
head_more k ns ds es h = record {
  before = h.before;
  names = h.names;
  behind = h.behind ++ es;
  is = ap (λ (l : List P.Declared). l ++ es) h.is ∙ append_assoc h.before (St.means k P.parameter h.names ++ h.behind) es ∙ ap (λ (l : List P.Declared). h.before ++ l) (append_assoc (St.means k P.parameter h.names) h.behind es);
  spelling = h.spelling;
}

pub head_behind : (k : P.Scope) (ns : List (List ℕ)) (ds es : List P.Declared) → HeadIn k ns es → HeadIn k ns (ds ++ es)
head_behind k ns ds es h = record {
  before = ds ++ h.before;
  names = h.names;
  behind = h.behind;
  is = ap (λ (l : List P.Declared). ds ++ l) h.is ∙ sym (append_assoc ds h.before (St.means k P.parameter h.names ++ h.behind));
  spelling = h.spelling;
}

pub head_all : (k : P.Scope) (ms : List Named) (es : List P.Declared) → es ≡ St.means k P.parameter ms → HeadIn k (spelled ms) es
head_all k ms es e = record { before = []; names = ms; behind = []; is = e ∙ sym (append-nil (St.means k P.parameter ms)); spelling = refl }
