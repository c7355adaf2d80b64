-- What a DECLARE or a PROCEDURE statement says does not depend on the scope that its names get, so that it can be read again without
-- knowing it.
-- Assumes nothing.
use mathlib.Core.Path.{◌≡◌, refl, sym, ap, subst, ◌∙◌}
use mathlib.Core.Bool.{Bool, true, false}
use mathlib.Core.List.{List, [], ◌∷◌, ◌++◌}
use Prim.Native.Nat.{ℕ, zero, suc}
use native.Mathlib.Omega.{arith}
use lib.ListN.{length}
use Rattle.definition.specs.Bytes.{mixed}
use Rattle.definition.specs.Choice.{when}
use Rattle.definition.specs.Tokens.{Token, is_word, is_sign, token_at}
use Rattle.definition.specs.Expressions.{Reading, read, refused, Named, name_at, expect_sign, expect_word}
use Rattle.definition.specs.Program as P
use Rattle.definition.specs.Statements as St
use Rattle.definition.specs.declared.Why.{Why}
use Rattle.definition.specs.declared.Why.TheVariants.{Syntax}
use Rattle.definition.specs.declared.ValueType.{ValueType}
use Rattle.definition.specs.declared.ValueType.TheVariants.{FixedType, CharacterType}
use Rattle.rows.specs.declared.Statement.TheVariants as S
use Rattle.names.specs.declared.Owner.{Owner}
use Rattle.names.specs.declared.Owner.TheVariants.{Everyone, Procedure}
use Rattle.statements.specs.Clauses.{clause_in, scope_of}
use Rattle.statements.specs.Again.{statement_in, or_else, declare_again, statement_at}
use Rattle.statements.proofs.Rereading.{again_declare}

-- ---- spellings
spell_append : (ds es : List P.Declared) → St.spellings (ds ++ es) ≡ St.spellings ds ++ St.spellings es
spell_append [] es = refl
spell_append (d ∷ ds) es = ap (λ (z : List (List ℕ)). d.spelling ∷ z) (spell_append ds es)

spell_means : (k j : P.Scope) (m l : P.Meaning) (ns : List Named) → St.spellings (St.means k m ns) ≡ St.spellings (St.means j l ns)
spell_means k j m l [] = refl
spell_means k j m l (n ∷ ns) = ap (λ (z : List (List ℕ)). n.spelling ∷ z) (spell_means k j m l ns)

spell_more : (k j : P.Scope) (m l : P.Meaning) (ds es : List P.Declared) (ns : List Named) → St.spellings ds ≡ St.spellings es → St.spellings (ds ++ St.means k m ns) ≡ St.spellings (es ++ St.means j l ns)
spell_more k j m l ds es ns e = spell_append ds (St.means k m ns) ∙ ap (λ (z : List (List ℕ)). z ++ St.spellings (St.means k m ns)) e ∙ ap (λ (z : List (List ℕ)). St.spellings es ++ z) (spell_means k j m l ns) ∙ sym (spell_append es (St.means j l ns))

-- ---- two statements that were read with different scopes, by any relation E that asks for the clauses alone
module _ (E : St.Declaring → St.Declaring → Type 0) (same : (c : St.Clause) (ds es : List P.Declared) → E (St.declared c ds) (St.declared c es)) (none : (w : Why) (p : ℕ) (ds es : List P.Declared) → E (St.undeclared w p ds) (St.undeclared w p es)) where
  by_then : {A : Type 0} (ds es : List P.Declared) (R : Reading A) (f g : A → St.Declaring) → ((a : A) → E (f a) (g a)) → E (St.then_declare ds R f) (St.then_declare es R g)
  by_then ds es (read a) f g h = h a
  by_then ds es (refused w p) f g h = none w p ds es

  by_when : (b : Bool) (f g f' g' : Unit {0} → St.Declaring) → E (f tt) (f' tt) → E (g tt) (g' tt) → E (when b f g) (when b f' g')
  by_when true f g f' g' h i = h
  by_when false f g f' g' h i = i

  by_names : (k j : P.Scope) (m l : P.Meaning) (s : List ℕ) (ds es : List P.Declared) (n : ℕ) (ns : List Named) (at : ℕ) (f g : List Named → ℕ → St.Declaring) → ((ms : List Named) (e : ℕ) → E (f ms e) (g ms e))
      → E (St.names_at mixed k m s ds n ns at f) (St.names_at mixed j l s es n ns at g)
  unfolding St.names_at
  by_names k j m l s ds es zero ns at f g h = none Syntax at ds es
  by_names k j m l s ds es (suc n) ns at f g h =
      by_then (ds ++ St.means k m ns) (es ++ St.means j l ns) (name_at mixed s at) _ _ λ x.
      by_when (is_sign "," (token_at mixed s x.to).token) _ _ _ _ (by_names k j m l s ds es n (ns ++ x ∷ []) (token_at mixed s x.to).to f g h)
      (by_then (ds ++ St.means k m (ns ++ x ∷ [])) (es ++ St.means j l (ns ++ x ∷ [])) (expect_sign mixed ")" s x.to) _ _ λ e. h (ns ++ x ∷ []) e)

  by_next : (s : List ℕ) (f g : List P.Declared → ℕ → St.Declaring) → ((ds es : List P.Declared) (e : ℕ) → St.spellings ds ≡ St.spellings es → E (f ds e) (g es e))
      → (ds es : List P.Declared) (e : ℕ) → St.spellings ds ≡ St.spellings es → E (St.declare_next mixed s f ds e) (St.declare_next mixed s g es e)
  unfolding St.declare_next
  by_next s f g h ds es e z =
      by_when (is_sign "," (token_at mixed s e).token) _ _ _ _ (h ds es (token_at mixed s e).to z)
      (by_then ds es (expect_sign mixed ";" s e) _ _ λ q. subst (λ (y : List (List ℕ)). E (St.declared (St.clause (P.declare (St.spellings ds)) St.opens_nothing q) ds) (St.declared (St.clause (P.declare y) St.opens_nothing q) es)) z (same (St.clause (P.declare (St.spellings ds)) St.opens_nothing q) ds es))

  module _ (k j : P.Scope) where
    module _ (attribute : (t : Token) (from to : ℕ) (f g : P.Meaning → ℕ → St.Declaring) (w : Why) (p : ℕ) (xs ys : List P.Declared) → ((m l : P.Meaning) → E (f m to) (g l to)) → E (St.attribute k t from to f (λ _. St.undeclared w p xs)) (St.attribute j t from to g (λ _. St.undeclared w p ys))) where
      by_item : (s : List ℕ) (ds es : List P.Declared) (ns : List Named) (e : ℕ) (f g : List P.Declared → ℕ → St.Declaring) → St.spellings ds ≡ St.spellings es
          → ((cs bs : List P.Declared) (q : ℕ) → St.spellings cs ≡ St.spellings bs → E (f cs q) (g bs q)) → E (St.declare_names mixed k s ds ns e f) (St.declare_names mixed j s es ns e g)
      unfolding St.declare_names
      by_item s ds es ns e f g z h =
          attribute (token_at mixed s e).token (token_at mixed s e).from (token_at mixed s e).to (λ m to. f (ds ++ St.means k m ns) to) (λ m to. g (es ++ St.means j m ns) to) Syntax (token_at mixed s e).from (ds ++ St.means k (P.variable FixedType) ns) (es ++ St.means j (P.variable FixedType) ns)
          (λ m l. h (ds ++ St.means k m ns) (es ++ St.means j l ns) (token_at mixed s e).to (spell_more k j m l ds es ns z))

      by_declare : (s : List ℕ) (f : ℕ) (ds es : List P.Declared) (at : ℕ) → St.spellings ds ≡ St.spellings es → E (St.declare_from mixed k s f ds at) (St.declare_from mixed j s f es at)
      unfolding St.declare_from
      by_declare s zero ds es at z = none Syntax at ds es
      by_declare s (suc f) ds es at z =
          by_when (is_sign "(" (token_at mixed s at).token) _ _ _ _
          (by_names k j (P.variable FixedType) (P.variable FixedType) s ds es (length s) [] (token_at mixed s at).to _ _ λ ns e.
          by_item s ds es ns e (St.declare_next mixed s (St.declare_from mixed k s f)) (St.declare_next mixed s (St.declare_from mixed j s f)) z (by_next s (St.declare_from mixed k s f) (St.declare_from mixed j s f) (λ cs bs q y. by_declare s f cs bs q y)))
          (by_then ds es (name_at mixed s at) _ _ λ n.
          by_item s ds es (n ∷ []) n.to (St.declare_next mixed s (St.declare_from mixed k s f)) (St.declare_next mixed s (St.declare_from mixed j s f)) z (by_next s (St.declare_from mixed k s f) (St.declare_from mixed j s f) (λ cs bs q y. by_declare s f cs bs q y)))

    by_head : (s : List ℕ) (ns : List Named) (at : ℕ) → E (St.procedure_head mixed k s ns at) (St.procedure_head mixed j s ns at)
    unfolding St.procedure_head St.returns_type
    by_head s ns at =
        by_then ds es (expect_word mixed "RETURNS" s at) _ _ λ e. by_then ds es (expect_sign mixed "(" s e) _ _ λ q.
        by_when (St.is_character (token_at mixed s q).token) _ _ _ _ (last CharacterType (token_at mixed s q).to)
        (by_then ds es (expect_word mixed "FIXED" s q) _ _ (last FixedType))
      where
        ds : List P.Declared
        ds = St.means k P.parameter ns

        es : List P.Declared
        es = St.means j P.parameter ns

        last : (t : ValueType) (e : ℕ) → E (St.then_declare ds (expect_sign mixed ")" s e) λ q. St.then_declare ds (expect_sign mixed ";" s q) λ z. St.declared (St.clause (P.procedure (St.spellings ds) t) St.opens_body z) ds) (St.then_declare es (expect_sign mixed ")" s e) λ q. St.then_declare es (expect_sign mixed ";" s q) λ z. St.declared (St.clause (P.procedure (St.spellings es) t) St.opens_body z) es)
        last t e =
            by_then ds es (expect_sign mixed ")" s e) _ _ λ q. by_then ds es (expect_sign mixed ";" s q) _ _ λ z.
            subst (λ (y : List (List ℕ)). E (St.declared (St.clause (P.procedure (St.spellings ds) t) St.opens_body z) ds) (St.declared (St.clause (P.procedure y t) St.opens_body z) es)) (spell_means k j P.parameter P.parameter ns) (same (St.clause (P.procedure (St.spellings ds) t) St.opens_body z) ds es)

    by_procedure : (s : List ℕ) (at : ℕ) → E (St.procedure_clause mixed k s at) (St.procedure_clause mixed j s at)
    unfolding St.procedure_clause
    by_procedure s at =
        by_when (is_sign "(" (token_at mixed s at).token) _ _ _ _ (by_names k j P.parameter P.parameter s [] [] (length s) [] (token_at mixed s at).to (St.procedure_head mixed k s) (St.procedure_head mixed j s) (by_head s)) (by_head s [] at)

-- ---- of any procedure all is the same
abbrev Alike : St.Declaring → St.Declaring → Type 0
Alike x y = clause_in x ≡ clause_in y

inside_alike : (r q : ℕ) (t : Token) (from to : ℕ) (f g : P.Meaning → ℕ → St.Declaring) (w : Why) (p : ℕ) (xs ys : List P.Declared) → ((m l : P.Meaning) → Alike (f m to) (g l to))
    → Alike (St.attribute (P.inside r) t from to f (λ _. St.undeclared w p xs)) (St.attribute (P.inside q) t from to g (λ _. St.undeclared w p ys))
unfolding St.attribute
inside_alike r q t from to f g w p xs ys h =
    by_when Alike (λ c ds es. refl) (λ v z ds es. refl) (St.is_character t) _ _ _ _ (h _ _)
    (by_when Alike (λ c ds es. refl) (λ v z ds es. refl) (is_word "FIXED" t) _ _ _ _ (h _ _)
    (by_when Alike (λ c ds es. refl) (λ v z ds es. refl) (is_word "BUILTIN" t) _ _ _ _ (h _ _) refl))

-- ---- outside and inside, what is read in both is the same
abbrev Agree : St.Declaring → St.Declaring → Type 0
Agree (St.declared c ds) (St.declared b es) = c ≡ b
Agree (St.declared c ds) (St.undeclared w p es) = Unit {0}
Agree (St.undeclared v q ds) y = Unit {0}

agree_none : (x : St.Declaring) (w : Why) (p : ℕ) (es : List P.Declared) → Agree x (St.undeclared w p es)
agree_none (St.declared c ds) w p es = tt
agree_none (St.undeclared v q ds) w p es = tt

agree_either : (a b : Bool) (x y : Unit {0} → St.Declaring) (w : Why) (p : ℕ) (xs ys : List P.Declared) → Agree (x tt) (y tt) → Agree (when a x (λ _. St.undeclared w p xs)) (when b y (λ _. St.undeclared w p ys))
agree_either true true x y w p xs ys h = h
agree_either true false x y w p xs ys h = agree_none (x tt) w p ys
agree_either false b x y w p xs ys h = tt

scopes_agree : (r : ℕ) (t : Token) (from to : ℕ) (f g : P.Meaning → ℕ → St.Declaring) (w : Why) (p : ℕ) (xs ys : List P.Declared) → ((m l : P.Meaning) → Agree (f m to) (g l to))
    → Agree (St.attribute P.global t from to f (λ _. St.undeclared w p xs)) (St.attribute (P.inside r) t from to g (λ _. St.undeclared w p ys))
unfolding St.attribute
scopes_agree r t from to f g w p xs ys h =
    by_when Agree (λ c ds es. refl) (λ v z ds es. tt) (St.is_character t) _ _ _ _ (h _ _)
    (by_when Agree (λ c ds es. refl) (λ v z ds es. tt) (is_word "FIXED" t) _ _ _ _ (h _ _)
    (agree_either (is_word "ENTRY" t) (is_word "BUILTIN" t) _ _ w p xs ys (h P.entry P.builtin)))

-- ---- so they are read again
agreed : (x : St.Clause) (a b : St.Declaring) (c : Reading St.Clause) → Agree a b → clause_in b ≡ read x → clause_in b ≡ c → statement_in (or_else (clause_in a) c) ≡ x.statement
agreed x (St.declared y ds) (St.declared z es) c h e f = ap (λ (u : St.Clause). u.statement) h ∙ ap statement_in e
agreed x (St.declared y ds) (St.undeclared w p es) c h e f = let z : ◌≡◌ {A = ℕ} 0 1 = cc in absurd (omega arith)
agreed x (St.undeclared w p ds) b c h e f = ap statement_in (sym f ∙ e)

module _ (s : List ℕ) (at : ℕ) (x : St.Clause) where
  again_inside : (r : ℕ) → clause_in (St.declare_from mixed (P.inside r) s (length s) [] at) ≡ read x → statement_at s S.Declare at ≡ x.statement
  unfolding statement_at declare_again
  again_inside r e =
      agreed x (St.declare_from mixed P.global s (length s) [] at) (St.declare_from mixed (P.inside r) s (length s) [] at) (clause_in (St.declare_from mixed (P.inside 0) s (length s) [] at))
      (by_declare Agree (λ c ds es. refl) (λ v z ds es. tt) P.global (P.inside r) (scopes_agree r) s (length s) [] [] at refl) e
      (by_declare Alike (λ c ds es. refl) (λ v z ds es. refl) (P.inside r) (P.inside 0) (inside_alike r 0) s (length s) [] [] at refl)

  pub again_declare_in : (o : Owner) → clause_in (St.declare_from mixed (scope_of o) s (length s) [] at) ≡ read x → statement_at s S.Declare at ≡ x.statement
  again_declare_in Everyone e = again_declare s at x e
  again_declare_in (Procedure p) e = again_inside p.row e

  pub again_procedure : (k : P.Scope) → clause_in (St.procedure_clause mixed k s at) ≡ read x → statement_at s S.Procedure at ≡ x.statement
  unfolding statement_at
  again_procedure k e = ap statement_in (by_procedure Alike (λ c ds es. refl) (λ v z ds es. refl) (P.inside 0) k s at ∙ e)
