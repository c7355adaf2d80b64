-- The members that an INCLUDE names, one after the other.
-- Assumes nothing.
use mathlib.Core.Path.{◌≡◌, refl, sym, ap, subst, ◌∙◌}
use mathlib.Core.Bool.{Bool, true, false, false≢true}
use mathlib.Core.List.{List, [], ◌∷◌, ◌++◌, append_assoc}
use Prim.Native.Nat.{ℕ, zero, suc, ◌+◌, ◌≤◌}
use native.Mathlib.Omega.{arith}
use lib.ListN.{length}
use Rattle.definition.specs.Bytes.{mixed}
use Rattle.definition.specs.Choice.{when}
use Rattle.definition.specs.Tokens as Tk
use Rattle.definition.specs.Tokens.{Token, is_sign, token_at}
use Rattle.definition.specs.Expressions as E
use Rattle.definition.specs.Expressions.{Reading, read, refused, then, name_of, name_at, expect_sign}
use Rattle.definition.specs.Deck.{Sought, bare, in_library}
use Rattle.definition.specs.Program as P
use Rattle.definition.specs.Statements as St
use Rattle.definition.proofs.Choices.{when_has}
use Rattle.definition.proofs.Ends.{Past, Real, Lies, token_at_lies, reads_it, expect_sign_past, name_at_past}
use Rattle.callees.proofs.Listing.{name_is}
use Rattle.operands.proofs.Trees.{expect_is}
use Rattle.reading.proofs.Places.{On, token_on}
use Rattle.showing.specs.Listed.{behind_open, sought_at, item_end, Spells, Named}

-- ---- a name is a token with bytes
name_real : (t : Token) (from to : ℕ) (n : E.Named) → name_of t from to ≡ read n → Real t
name_real (Tk.word w) from to n e = tt
name_real (Tk.integer w) from to n e = tt
name_real (Tk.string w) from to n e = tt
name_real (Tk.bits w) from to n e = tt
name_real (Tk.sign w) from to n e = tt
name_real Tk.nothing from to n e = absurd (let z : ◌≡◌ {A = ℕ} 0 1 = cc in omega arith)
name_real Tk.wrong from to n e = absurd (let z : ◌≡◌ {A = ℕ} 0 1 = cc in omega arith)

module _ (s : List ℕ) where
  -- ---- the item that was read, up to e
  record Ends (at : ℕ) (x : Sought) (e : ℕ) : Type 0 where
    spells : Spells s at x
    to : item_end s at ≡ e

  module _ (at : ℕ) (n : E.Named) (e : name_at mixed s at ≡ read n) where
    first_to : n.to ≡ (token_at mixed s at).to
    first_to = (name_is s at n e).to

    first_past : Past s at n.to
    unfolding name_at
    first_past =
        let on : On s at (token_at mixed s at) = token_on s at in
        let real : Real (token_at mixed s at).token = name_real (token_at mixed s at).token (token_at mixed s at).from (token_at mixed s at).to n e in
        record { above = omega (arith, on.low, (on.some real).0, first_to); within = omega (arith, (on.some real).1, first_to) }

    -- whether `(` stands behind the name
    open_is : (b : Bool) → is_sign "(" (token_at mixed s n.to).token ≡ b → is_sign "(" (token_at mixed s (token_at mixed s at).to).token ≡ b
    open_is b f = subst (λ (q : ℕ). is_sign "(" (token_at mixed s q).token ≡ b) first_to f

    bare_ends : is_sign "(" (token_at mixed s n.to).token ≡ false → Ends at (bare n.spelling) n.to
    unfolding sought_at item_end
    bare_ends f =
        let to : item_end s at ≡ n.to = rw (open_is false f) (sym first_to) in
        record {
          spells = record { is = rw (open_is false f) (ap bare (sym (name_is s at n e).spelling)); above = omega (arith, to, first_past.above); within = omega (arith, to, first_past.within) };
          to = to;
        }

    module _ (f : is_sign "(" (token_at mixed s n.to).token ≡ true) (m : E.Named) (g : name_at mixed s (token_at mixed s n.to).to ≡ read m) (q : ℕ) (h : expect_sign mixed ")" s m.to ≡ read q) where
      inner : name_at mixed s (behind_open s at) ≡ read m
      inner = subst (λ (i : ℕ). name_at mixed s (token_at mixed s i).to ≡ read m) first_to g

      close_to : item_end s at ≡ q
      unfolding item_end
      close_to = rw (open_is true f) (ap (λ (i : ℕ). (token_at mixed s i).to) (sym (name_is s (behind_open s at) m inner).to) ∙ sym (expect_is ")" s m.to q h))

      sought_is : sought_at s at ≡ in_library n.spelling m.spelling
      unfolding sought_at
      sought_is = rw (open_is true f, (name_is s at n e).spelling, (name_is s (behind_open s at) m inner).spelling)

      library_ends : Ends at (in_library n.spelling m.spelling) q
      library_ends =
          let opened : Lies s n.to (token_at mixed s n.to) = token_at_lies s n.to first_past.within in
          let name : Past s (token_at mixed s n.to).to m.to = reads_it (name_at_past s (token_at mixed s n.to).to opened.high) g in
          let close : Past s m.to q = reads_it (expect_sign_past s ")" m.to name.within) h in
          record {
            spells = record { is = sought_is; above = omega (arith, close_to, first_past.above, opened.low, opened.order, name.above, close.above); within = omega (arith, close_to, close.within) };
            to = close_to;
          }

  -- ---- a list that goes on, and one that ends
  module _ (at : ℕ) (n : Sought) where
    named_behind : (ns : List Sought) → Spells s at n → is_sign "," (token_at mixed s (item_end s at)).token ≡ true → Named s (token_at mixed s (item_end s at)).to ns → Named s at (n ∷ ns)
    named_behind [] h c k = absurd k
    named_behind (m ∷ ns) h c k = (h, c, k)

    pub named_first : (ns : List Sought) → Named s at (n ∷ ns) → Spells s at n
    named_first [] k = k.0
    named_first (m ∷ ns) k = k.0

    pub named_more : (ns : List Sought) → Named s at (n ∷ ns) → is_sign "," (token_at mixed s (item_end s at)).token ≡ true → Named s (token_at mixed s (item_end s at)).to ns
    named_more [] k c = absurd (false≢true (sym k.1 ∙ c))
    named_more (m ∷ ns) k c = k.2

    pub named_last : (ns : List Sought) → Named s at (n ∷ ns) → is_sign "," (token_at mixed s (item_end s at)).token ≡ false → ns ≡ []
    named_last [] k c = refl
    named_last (m ∷ ns) k c = absurd (false≢true (sym c ∙ k.1))

  -- each name has a byte
  pub named_short : (at : ℕ) (ns : List Sought) → Named s at ns → at + length ns ≤ length s
  named_short at [] k = absurd k
  named_short at (n ∷ []) k = omega (arith, k.0.above, k.0.within)
  named_short at (n ∷ m ∷ ns) k =
      let comma : On s (item_end s at) (token_at mixed s (item_end s at)) = token_on s (item_end s at) in
      omega (arith, k.0.above, comma.low, comma.order, named_short (token_at mixed s (item_end s at)).to (m ∷ ns) k.2)

  pub named_few : (at : ℕ) (ns : List Sought) → Named s at ns → length ns ≤ length s
  named_few at ns k = omega (arith, named_short at ns k)

  -- ---- what a reading says of its statement: behind the members xs it names those from `at` on
  abbrev Includes : List Sought → ℕ → Reading St.Clause → Type 0
  Includes xs at (refused w p) = Unit {0}
  Includes xs at (read c) = (ns : List Sought) × (c.statement ≡ P.include (xs ++ ns)) × Named s at ns

  after : {A : Type 0} (xs : List Sought) (at : ℕ) (R : Reading A) (F : A → Reading St.Clause) → ((a : A) → R ≡ read a → Includes xs at (F a)) → Includes xs at (then R F)
  after xs at (read a) F h = h a refl
  after xs at (refused w p) F h = tt

  module _ (xs : List Sought) (at : ℕ) (n : Sought) (h : Spells s at n) where
    includes_more : (R : Reading St.Clause) → is_sign "," (token_at mixed s (item_end s at)).token ≡ true → Includes (xs ++ n ∷ []) (token_at mixed s (item_end s at)).to R → Includes xs at R
    includes_more (refused w p) c k = tt
    includes_more (read x) c (ns, e, k) = (n ∷ ns, e ∙ ap P.include (append_assoc xs (n ∷ []) ns), named_behind at n ns h c k)

    includes_last : is_sign "," (token_at mixed s (item_end s at)).token ≡ false → Includes xs at (St.ended mixed s (P.include (xs ++ n ∷ [])) (item_end s at))
    unfolding St.ended
    includes_last c = after xs at (expect_sign mixed ";" s (item_end s at)) (λ e. read (St.clause (P.include (xs ++ n ∷ [])) St.opens_nothing e)) λ e f. (n ∷ [], refl, (h, c))

    includes_one : (R : Reading St.Clause) (e : ℕ) → item_end s at ≡ e → Includes (xs ++ n ∷ []) (token_at mixed s e).to R
        → Includes xs at (when (is_sign "," (token_at mixed s e).token) (λ _. R) (λ _. St.ended mixed s (P.include (xs ++ n ∷ [])) e))
    includes_one R e q k =
        subst (λ (z : ℕ). Includes (xs ++ n ∷ []) (token_at mixed s z).to R → Includes xs at (when (is_sign "," (token_at mixed s z).token) (λ _. R) (λ _. St.ended mixed s (P.include (xs ++ n ∷ [])) z))) q
        (λ j. when_has (Includes xs at) (is_sign "," (token_at mixed s (item_end s at)).token) (λ _. R) (λ _. St.ended mixed s (P.include (xs ++ n ∷ [])) (item_end s at)) (λ c. includes_more R c j) includes_last) k

  includes_item : (f : ℕ) (xs : List Sought) (at : ℕ) (x : Sought) (e : ℕ) → Ends at x e → ((ys : List Sought) (q : ℕ) → Includes ys q (St.list_of mixed (St.each_member mixed) P.include s f ys q))
      → Includes xs at (when (is_sign "," (token_at mixed s e).token) (λ _. St.list_of mixed (St.each_member mixed) P.include s f (xs ++ x ∷ []) (token_at mixed s e).to) (λ _. St.ended mixed s (P.include (xs ++ x ∷ [])) e))
  includes_item f xs at x e i again = includes_one xs at x i.spells (St.list_of mixed (St.each_member mixed) P.include s f (xs ++ x ∷ []) (token_at mixed s e).to) e i.to (again (xs ++ x ∷ []) (token_at mixed s e).to)

  includes : (f : ℕ) (xs : List Sought) (at : ℕ) → Includes xs at (St.list_of mixed (St.each_member mixed) P.include s f xs at)
  unfolding St.list_of
  includes zero xs at = tt
  includes (suc f) xs at =
      after xs at (name_at mixed s at) _ λ n e.
      when_has (Includes xs at) (is_sign "(" (token_at mixed s n.to).token) _ _
      (λ b. after xs at (name_at mixed s (token_at mixed s n.to).to) _ λ m g. after xs at (expect_sign mixed ")" s m.to) _ λ q h. includes_item f xs at (in_library n.spelling m.spelling) q (library_ends at n e b m g q h) (includes f))
      (λ b. includes_item f xs at (bare n.spelling) n.to (bare_ends at n e b) (includes f))

include_same : (a b : List Sought) → P.include a ≡ P.include b → a ≡ b
include_same a b e = let z : a ≡ b = cc in z

-- THE MEMBERS of an INCLUDE that is read at a place
pub include_named : (s : List ℕ) (at : ℕ) (c : St.Clause) (ns : List Sought) → St.include_clause mixed s at ≡ read c → c.statement ≡ P.include ns → Named s at ns
unfolding St.include_clause
include_named s at c ns e f =
    let k : Includes s [] at (read c) = subst (Includes s [] at) e (includes s (length s) [] at) in
    subst (Named s at) (include_same k.0 ns (sym k.1 ∙ f)) k.2
