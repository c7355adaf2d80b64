-- The names of a DECLARE are entered while it is read, and they are those that the definition lists.
-- Assumes nothing.
use Rattle.std.proofs.Common.{Ok, Err}
use Rattle.expressions.specs.Types.{NamedAt}
use mathlib.Core.Path.{◌≡◌, refl, sym, ap, ◌∙◌}
use mathlib.Core.Bool.{Bool, true, false, cond}
use mathlib.Core.List.{List, [], ◌∷◌, ◌++◌, append_assoc, append-nil}
use Prim.Native.Nat.{ℕ, zero, suc, ◌+◌, ◌-◌, ◌<◌, ◌≤◌}
use native.Mathlib.Omega.{arith}
use native.Mathlib.Numerals.{sub-one}
use lib.ListN.{length}
use Rattle.definition.specs.Bytes.{mixed, folded}
use Rattle.definition.specs.Choice.{when}
use Rattle.definition.specs.Tokens.{Token, token_at}
use Rattle.definition.specs.Expressions.{Reading, read, refused, Named, name_at}
use Rattle.definition.specs.Program as P
use Rattle.definition.specs.Statements as D
use Rattle.definition.specs.declared.Why.{Why}
use Rattle.definition.specs.declared.Why.TheVariants.{OverLimit}
use Rattle.tokens.specs.declared.Kind.{Kind}
use Rattle.tokens.specs.declared.Kind.TheVariants as Kd
use Rattle.tokens.specs.declared.Lexeme.{Lexeme}
use Rattle.tokens.specs.Answer.{Lexed, written, spelling, content, is_sign_in, token_for}
use Rattle.tokens.proofs.Lexemes.{token_is}
use Rattle.expressions.specs.Check.{named_for}
use Rattle.expressions.proofs.Laws.{parts}
use Rattle.entering.specs.declared.Meaning.{Meaning}
use Rattle.entering.specs.declared.Meaning.TheVariants as M
use Rattle.statements.specs.Clauses.{names_next, names_read, scope_of, Lies, Own, Ready, NamedIf}
use borrow.Author.Tests.{leb-true}
use lib.Dec.{leb}
use lib.ListN.{get_or}
use Rattle.definition.specs.Lists.{part}
use Rattle.definition.specs.Expressions.{name_of}
use Rattle.definition.specs.Names as Nm
use Rattle.definition.proofs.Folded.{length_folded}
use Rattle.definition.proofs.Parts.{length_part}
use Rattle.tokens.specs.Answer.{lexeme_for, is_token}
use Rattle.tokens.proofs.Reach.{token_low, token_past, token_inside}
use Rattle.names.specs.Table.{owner_of, denotation_of}
use Rattle.names.specs.declared.Owner.{Owner}
use Rattle.names.specs.declared.Owner.TheVariants.{Everyone, Procedure}
use Rattle.entering.specs.declared.Tally.{Tally}
use Rattle.entering.specs.Book.{Book, book_one, book_new, book_all, book_of, Roomy, Spelled, Declarable, identifier_at, Entered, EnteredIf, new_denotation, meaning_of}
use Rattle.statements.proofs.Laws.{sign_in_lem}

-- ---- books
module _ (m : ℕ) where
  pub all_append : (xs ys : List P.Declared) (b : Book) → book_all m (xs ++ ys) b ≡ book_all m ys (book_all m xs b)
  unfolding book_all
  all_append [] ys b = refl
  all_append (x ∷ xs) ys b = all_append xs ys (book_new (Nm.new_of m x.meaning) (Nm.identifier_of m x) x.place b)

  new_is : (g : Meaning) → Nm.new_of m (meaning_of g) ≡ Nm.new (denotation_of (new_denotation m g))
  new_is (M.Variable t) = refl
  new_is M.EntryOnly = refl
  new_is (M.BodyAt r) = refl
  new_is (M.LabelAt r) = refl
  new_is (M.EndLabelAt r) = refl
  new_is M.BuiltinName = refl

  owner_is : (o : Owner) → Own m o → Nm.owner_of m (scope_of o) ≡ owner_of o
  owner_is Everyone h = refl
  owner_is (Procedure p) h = rw h

pub means_append : (k : P.Scope) (g : P.Meaning) (ns ms : List Named) → D.means k g (ns ++ ms) ≡ D.means k g ns ++ D.means k g ms
means_append k g [] ms = refl
means_append k g (n ∷ ns) ms = rw (means_append k g ns ms)

pub entered_none : (d t : List ℕ) (x : Tally) → Roomy t x → Entered d t x (book_all x.member []) t x
unfolding book_all
entered_none d t x r = record { book = refl; roomy = r; member = refl; base = refl }

pub entered_more : (d t₀ t u : List ℕ) (x₀ x y : Tally) (xs ys : List P.Declared) → Entered d t₀ x₀ (book_all x₀.member xs) t x → Entered d t x (book_all x.member ys) u y → Entered d t₀ x₀ (book_all x₀.member (xs ++ ys)) u y
unfolding book_of book_all
entered_more d t₀ t u x₀ x y xs ys a b = record {
  book = rw (a.member, a.book) at b.book ∙ sym (all_append x₀.member xs ys (book_of d t₀ x₀));
  roomy = b.roomy;
  member = b.member ∙ a.member;
  base = b.base ∙ a.base;
}

-- ---- a name
pub record Names (s : List ℕ) (at from to : ℕ) : Type 0 where
  pub is : name_at mixed s at ≡ read (record { spelling = folded mixed (part (to - from) from s); place = from; to = to })
  pub past : at ≤ from
  pub low : from < to
  pub high : to ≤ length s
  pub short : to - from ≤ 31

module _ (x : NamedAt) (from to : ℕ) (k : x ≡ Ok (from, to)) where
  record Word (t : Kind) (w : List ℕ) (p q : ℕ) (R : Reading Named) : Type 0 where
    real : is_token t ≡ true
    first : p ≡ from
    last : q ≡ to
    is : R ≡ read (record { spelling = w; place = from; to = to })
    size : length w ≤ 31

  short_word : (w : List ℕ) (p q : ℕ) (b : Bool) → leb (length w) 31 ≡ b → x ≡ named_for (cond b (read (record { spelling = w; place = p; to = q })) (refused OverLimit p)) → Word Kd.Word w p q (cond b (read (record { spelling = w; place = p; to = q })) (refused OverLimit p))
  short_word w p q true e h = let z : (from, to) ≡ (p, q) = cc in let a : p ≡ from = sym (parts z).0 in let b : q ≡ to = sym (parts z).1 in record { real = refl; first = a; last = b; is = rw (a, b); size = leb-true (length w) 31 e }
  short_word w p q false e h = let z : ◌≡◌ {A = ℕ} 0 1 = cc in absurd (omega arith)

  by_kind : (t : Kind) (w c : List ℕ) (p q : ℕ) → x ≡ named_for (name_of (token_for t w c) p q) → Word t (folded mixed w) p q (name_of (token_for t w c) p q)
  by_kind Kd.Word w c p q h = short_word (folded mixed w) p q (leb (length (folded mixed w)) 31) refl h
  by_kind Kd.Integer w c p q h = let z : ◌≡◌ {A = ℕ} 0 1 = cc in absurd (omega arith)
  by_kind Kd.String w c p q h = let z : ◌≡◌ {A = ℕ} 0 1 = cc in absurd (omega arith)
  by_kind Kd.Bits w c p q h = let z : ◌≡◌ {A = ℕ} 0 1 = cc in absurd (omega arith)
  by_kind Kd.Sign w c p q h = let z : ◌≡◌ {A = ℕ} 0 1 = cc in absurd (omega arith)
  by_kind Kd.Nothing w c p q h = let z : ◌≡◌ {A = ℕ} 0 1 = cc in absurd (omega arith)
  by_kind Kd.Wrong w c p q h = let z : ◌≡◌ {A = ℕ} 0 1 = cc in absurd (omega arith)

lexed : (s : List ℕ) (at : ℕ) → Lexed s at (lexeme_for (token_at mixed s at))
lexed s at = record { kind = refl; from = refl; to = refl }

pub named_is : (s : List ℕ) (at : ℕ) (x : NamedAt) (from to : ℕ) → x ≡ named_for (name_at mixed s at) → x ≡ Ok (from, to) → Names s at from to
unfolding name_at written
named_is s at x from to h k =
    let l : Lexeme = lexeme_for (token_at mixed s at) in
    let t : (token_at mixed s at).token ≡ token_for l.kind (written s l) (content s l.from) = token_is s at l (lexed s at) in
    let w : Word x from to k l.kind (spelling s l) l.from l.to (name_of (token_for l.kind (written s l) (content s l.from)) l.from l.to) = by_kind x from to k l.kind (written s l) (content s l.from) l.from l.to (h ∙ ap (λ (z : Token). named_for (name_of z l.from l.to)) t) in
    let a : l.from ≡ from = w.first in
    let b : l.to ≡ to = w.last in
    record {
      is = ap (λ (z : Token). name_of z l.from l.to) t ∙ w.is ∙ rw (a, b);
      past = omega (arith, token_low s at l (lexed s at), a);
      low = omega (arith, token_past s at l (lexed s at) w.real, a, b);
      high = omega (arith, token_inside s at l (lexed s at) w.real, b);
      short = omega (arith, w.size, length_folded mixed (part (l.to - l.from) l.from s), length_part (l.to - l.from) l.from s, a, b);
    }

-- the bytes of a body lie in the deck
get_d_part : (n i base : ℕ) (d : List ℕ) → i < n → get_or (part n base d) i 0 ≡ get_or d (base + i) 0
get_d_part zero i base d h = absurd (omega arith)
get_d_part (suc n) zero base d h = let e : base + 0 ≡ base = omega arith in rw e
get_d_part (suc n) (suc i) base d h = let e : base + suc i ≡ suc base + i = omega arith in rw e (get_d_part n i (suc base) d (omega arith))

part_part : (n at k base : ℕ) (d : List ℕ) → at + n ≤ k → part n (base + at) d ≡ part n at (part k base d)
part_part zero at k base d h = refl
part_part (suc n) at k base d h =
    let e : suc (base + at) ≡ base + suc at = omega arith in
    rw (get_d_part k at base d (omega arith), e, part_part n (suc at) k base d (omega arith))

pub spelled_in : (d s : List ℕ) (base at from to : ℕ) → Lies d s base → Names s at from to → Spelled d s base (record { from = from; to = to })
spelled_in d s base at from to l n = record {
  low = n.low;
  short = omega (arith, n.short);
  inside = omega (arith, n.high, l.size);
  same = part_part (to - from) from (length s) base d (omega (arith, n.low, n.high)) ∙ ap (λ (z : List ℕ). part (to - from) from z) (sym l.same);
}

-- ---- the names of an item, one after the other
pub record Naming (d s t₀ : List ℕ) (o : Owner) (g : Meaning) (x₀ : Tally) (at₀ most : ℕ) (t : List ℕ) (x : Tally) (at turns : ℕ) : Type 0 where
  pub done : List Named
  pub entered : Entered d t₀ x₀ (book_all x₀.member (D.means (scope_of o) (meaning_of g) done)) t x
  pub left : done ++ names_read s turns at ≡ names_read s most at₀
  pub size : length t ≡ length t₀

names_turn : (s : List ℕ) (n at : ℕ) → 0 < n → names_read s n at ≡ names_next s (name_at mixed s at) (names_read s (n - 1))
unfolding names_read
names_turn s zero at h = absurd (omega arith)
names_turn s (suc n) at h = rw sub-one

module _ (d s t₀ : List ℕ) (o : Owner) (g : Meaning) (x₀ : Tally) (r : Ready d s t₀ x₀ o) where
  pub naming_start : (at most : ℕ) → Naming d s t₀ o g x₀ at most t₀ x₀ at most
  naming_start at most = record { done = []; entered = entered_none d t₀ x₀ r.roomy; left = refl; size = refl }

  module _ (at₀ most : ℕ) (t : List ℕ) (x : Tally) (at turns : ℕ) (h : Naming d s t₀ o g x₀ at₀ most t x at turns) where
    pub naming_none : turns ≤ 0 → Entered d t₀ x₀ (book_all x₀.member (D.means (scope_of o) (meaning_of g) (names_read s most at₀))) t x
    unfolding names_read
    naming_none k = let z : turns ≡ 0 = omega arith in rw (← rw (z, append-nil) at h.left) h.entered

    module _ (k : 0 < turns) (n : NamedAt) (hn : n ≡ named_for (name_at mixed s at)) where
      no_name : (w : Why) (p : ℕ) (R : Reading Named) → n ≡ named_for R → n ≡ Err (w, p) → (again : ℕ → List Named) → names_next s R again ≡ []
      no_name w p (read v) e f again = let z : ◌≡◌ {A = ℕ} 0 1 = cc in absurd (omega arith)
      no_name w p (refused v q) e f again = refl

      pub naming_refused : (w : Why) (p : ℕ) → n ≡ Err (w, p) → Entered d t₀ x₀ (book_all x₀.member (D.means (scope_of o) (meaning_of g) (names_read s most at₀))) t x
      naming_refused w p e = rw (← rw (names_turn s turns at k, no_name w p (name_at mixed s at) hn e (names_read s (turns - 1)), append-nil) at h.left) h.entered

      module _ (from to : ℕ) (e : n ≡ Ok (from, to)) where
        name : Names s at from to
        name = named_is s at n from to hn e

        pub naming_declarable : Declarable d s t x (record { from = from; to = to })
        naming_declarable = record { roomy = h.entered.roomy; spelled = rw h.entered.base (spelled_in d s x₀.base at from to r.lies name) }

        module _ (u : List ℕ) (y : Tally) (size : length u ≡ length t) (b : Entered d t x (book_one (identifier_at s (record { from = from; to = to }) o) (denotation_of (new_denotation x.member g)) from) u y)
            (l : Lexeme) (lex : Lexed s to l) (v : Bool) (c : v ≡ is_sign_in s l (44 ∷ [])) where
          abbrev one : Named
          one = record { spelling = folded mixed (part (to - from) from s); place = from; to = to }

          one_more : Entered d t x (book_all x.member (D.means (scope_of o) (meaning_of g) (one ∷ []))) u y
          unfolding book_all
          one_more = record {
            book = b.book ∙ sym (rw (new_is x.member g, owner_is x.member o (rw h.entered.member r.own)));
            roomy = b.roomy;
            member = b.member;
            base = b.base;
          }

          more : Entered d t₀ x₀ (book_all x₀.member (D.means (scope_of o) (meaning_of g) (h.done ++ one ∷ []))) u y
          more = rw (means_append (scope_of o) (meaning_of g) h.done (one ∷ [])) (entered_more d t₀ t u x₀ x y (D.means (scope_of o) (meaning_of g) h.done) (D.means (scope_of o) (meaning_of g) (one ∷ [])) h.entered one_more)

          rest : h.done ++ (one ∷ when v (λ _. names_read s (turns - 1) l.to) (λ _. [])) ≡ names_read s most at₀
          rest = rw (c, sign_in_lem s to l lex (44 ∷ []), lex.to) (rw (names_turn s turns at k, name.is) at h.left)

          pub naming_more : v ≡ true → Naming d s t₀ o g x₀ at₀ most u y l.to (turns - 1)
          naming_more f = record { done = h.done ++ one ∷ []; entered = more; left = append_assoc h.done (one ∷ []) (names_read s (turns - 1) l.to) ∙ (rw f at rest); size = size ∙ h.size }

          pub naming_done : v ≡ false → Entered d t₀ x₀ (book_all x₀.member (D.means (scope_of o) (meaning_of g) (names_read s most at₀))) u y
          naming_done f = rw (← rw f at rest) more

-- ---- the same, where all is in its place
pub record NamingIf (d s t₀ : List ℕ) (o : Owner) (g : Meaning) (x₀ : Tally) (at₀ most : ℕ) (t : List ℕ) (x : Tally) (at turns : ℕ) : Type 0 where
  pub is : Ready d s t₀ x₀ o → Naming d s t₀ o g x₀ at₀ most t x at turns
  pub size : length t ≡ length t₀

module _ (d s t₀ : List ℕ) (o : Owner) (g : Meaning) (x₀ : Tally) where
  pub if_start : (at most : ℕ) → NamingIf d s t₀ o g x₀ at most t₀ x₀ at most
  if_start at most = record { is = λ r. naming_start d s t₀ o g x₀ r at most; size = refl }

  module _ (at₀ most : ℕ) (t : List ℕ) (x : Tally) (at turns : ℕ) (h : NamingIf d s t₀ o g x₀ at₀ most t x at turns) where
    pub if_none : turns ≤ 0 → NamedIf d s t₀ x₀ o (book_all x₀.member (D.means (scope_of o) (meaning_of g) (names_read s most at₀))) t x
    if_none k = record { is = λ r. naming_none d s t₀ o g x₀ r at₀ most t x at turns (h.is r) k }

    module _ (k : 0 < turns) (n : NamedAt) (hn : n ≡ named_for (name_at mixed s at)) where
      pub if_refused : (w : Why) (p : ℕ) → n ≡ Err (w, p) → NamedIf d s t₀ x₀ o (book_all x₀.member (D.means (scope_of o) (meaning_of g) (names_read s most at₀))) t x
      if_refused w p e = record { is = λ r. naming_refused d s t₀ o g x₀ r at₀ most t x at turns (h.is r) k n hn w p e }

      module _ (from to : ℕ) (e : n ≡ Ok (from, to)) (u : List ℕ) (y : Tally) (size : length u ≡ length t)
          (b : EnteredIf d s t x (record { from = from; to = to }) (book_one (identifier_at s (record { from = from; to = to }) o) (denotation_of (new_denotation x.member g)) from) u y)
          (l : Lexeme) (lex : Lexed s to l) (v : Bool) (c : v ≡ is_sign_in s l (44 ∷ [])) where
        pub if_more : v ≡ true → NamingIf d s t₀ o g x₀ at₀ most u y l.to (turns - 1)
        if_more f = record { is = λ r. naming_more d s t₀ o g x₀ r at₀ most t x at turns (h.is r) k n hn from to e u y size (b.is (naming_declarable d s t₀ o g x₀ r at₀ most t x at turns (h.is r) k n hn from to e)) l lex v c f; size = size ∙ h.size }

        pub if_done : v ≡ false → NamedIf d s t₀ x₀ o (book_all x₀.member (D.means (scope_of o) (meaning_of g) (names_read s most at₀))) u y
        if_done f = record { is = λ r. naming_done d s t₀ o g x₀ r at₀ most t x at turns (h.is r) k n hn from to e u y size (b.is (naming_declarable d s t₀ o g x₀ r at₀ most t x at turns (h.is r) k n hn from to e)) l lex v c f }
