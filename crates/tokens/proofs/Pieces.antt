-- The laws of the tokens of a text: one for each way out.
-- Assumes nothing.
use mathlib.Core.Path.{◌≡◌, refl, sym, ap, ◌∙◌}
use mathlib.Core.Bool.{Bool, true, false, ◌&&◌}
use mathlib.Core.List.{List}
use Prim.Native.Nat.{ℕ, zero, suc, ◌+◌, ◌-◌, ◌<◌, ◌≤◌}
use native.Mathlib.Omega.{arith}
use borrow.Author.Tests.{leb-false, le-leb, lt-leb, eq-eqb, ne_eqb, eqb-true}
use lib.Dec.{eqb, leb}
use lib.ListN.{length, get_or, drop}
use Rattle.definition.specs.Choice.{when}
use Rattle.definition.specs.Lists.{part, leading}
use Rattle.definition.specs.Bytes.{mixed, class_of, is_letter, is_digit, is_blank, is_mark, is_alphameric, is_small, folded}
use Rattle.definition.specs.declared.Class.{Class}
use Rattle.definition.specs.declared.Class.TheVariants.{Letter, Digit, Break, Blank, LineFeed, Percent, Quote, Mark, Other}
use Rattle.definition.specs.Tokens as T
use Rattle.tokens.specs.Answer.{closed_for, piece_kind, cut_of, piece_for, closed_piece, piece_of, Cuts, is_unclosed, ending_for}
use Rattle.std.proofs.Common.{Option, ◌⊎◌, inl, inr}
use Rattle.tokens.specs.declared.PieceKind.TheVariants.{Name, Plain, Unclosed}
use Rattle.tokens.specs.declared.Piece.{Piece}
use Rattle.tokens.specs.declared.Ending as E
use Rattle.tokens.proofs.Laws.{comment_further, quote_further}
use Rattle.tokens.proofs.Lexemes.{run_part}
use Rattle.tokens.proofs.Reach.{run_past, letter_goes_on, digit_goes_on}

closed_is : (s : List ℕ) (x : T.Closed) → closed_piece (length s) (closed_for x) ≡ piece_for (T.closed_cut s x)
closed_is s (T.closed_at q) = refl
closed_is s T.never_closed = refl

-- ---- the piece at a place, by the class of its first byte
pub piece_past : (s : List ℕ) (p : ℕ) (r : Piece) → length s ≤ p → Cuts s p r
piece_past s p r h = record { is = λ k. absurd (omega arith) }

and_first : (a b : Bool) → (a && b) ≡ true → a ≡ true
and_first true b e = refl
and_first false b e = e

slash : (b : ℕ) → b ≡ 47 → class_of mixed b ≡ Mark
unfolding class_of is_letter is_small is_digit is_blank is_mark
slash b e = rw e

commented : (s : List ℕ) (p : ℕ) → T.is_comment s p ≡ true → class_of mixed (get_or s p 0) ≡ Mark
unfolding T.is_comment
commented s p e = slash (get_or s p 0) (eqb-true (get_or s p 0) 47 (and_first (eqb (get_or s p 0) 47) (eqb (get_or s (p + 1) 0) 42) e))

module _ (s : List ℕ) (p : ℕ) (t : Bool) (r : Piece) (i : t ≡ T.is_comment s p) where
  pub piece_comment : (c : Option ℕ) → t ≡ true → c ≡ closed_for (T.past_comment s p) → r ≡ closed_piece (length s) c → Cuts s p r
  unfolding T.piece_at T.piece_of
  piece_comment c f g h =
      let e : T.closed_cut s (T.past_comment s p) ≡ T.piece_at mixed s p = rw (commented s p (sym i ∙ f), ← i, f) in
      record { is = λ _. h ∙ ap (closed_piece (length s)) g ∙ closed_is s (T.past_comment s p) ∙ ap piece_for e }

  module _ (c : Class) (j : t ≡ false) (k : c ≡ class_of mixed (get_or s p 0)) where
    cutting : (d : Class) → c ≡ d → T.piece_of mixed d s p ≡ T.piece_at mixed s p
    unfolding T.piece_at
    cutting d f = rw (← k, f)

    pub piece_name : (w : ℕ) → c ≡ Letter → w ≡ p + length (leading (is_alphameric mixed) (drop p s)) → r ≡ cut_of Name w → Cuts s p r
    unfolding T.piece_of
    piece_name w f g h = record { is = λ _. h ∙ ap (cut_of Name) g ∙ ap piece_for (cutting Letter f) }

    pub piece_digits : (w : ℕ) → c ≡ Digit → w ≡ p + length (leading (is_alphameric mixed) (drop p s)) → r ≡ cut_of Plain w → Cuts s p r
    unfolding T.piece_of
    piece_digits w f g h = record { is = λ _. h ∙ ap (cut_of Plain) g ∙ ap piece_for (cutting Digit f) }

    pub piece_string : (x : Option ℕ) → c ≡ Quote → x ≡ closed_for (T.quote_end (drop (p + 1) s) (p + 1)) → r ≡ closed_piece (length s) x → Cuts s p r
    unfolding T.piece_of
    piece_string x f g h = record { is = λ _. h ∙ ap (closed_piece (length s)) g ∙ closed_is s (T.quote_end (drop (p + 1) s) (p + 1)) ∙ ap piece_for (cutting Quote f) }

    -- a single byte
    pub piece_plain : (c ≡ Mark) ⊎ ((c ≡ Percent) ⊎ ((c ≡ Break) ⊎ ((c ≡ Blank) ⊎ ((c ≡ LineFeed) ⊎ (c ≡ Other))))) → r ≡ cut_of Plain (p + 1) → Cuts s p r
    unfolding T.piece_of
    piece_plain f h = record { is = λ _. h ∙ ap piece_for (sym (single f) ∙ cutting c refl) }
      where
        single : (c ≡ Mark) ⊎ ((c ≡ Percent) ⊎ ((c ≡ Break) ⊎ ((c ≡ Blank) ⊎ ((c ≡ LineFeed) ⊎ (c ≡ Other))))) → T.piece_of mixed c s p ≡ T.cut T.plain (p + 1)
        single (inl e) = rw (e, ← i, j)
        single (inr (inl e)) = rw e
        single (inr (inr (inl e))) = rw e
        single (inr (inr (inr (inl e)))) = rw e
        single (inr (inr (inr (inr (inl e))))) = rw e
        single (inr (inr (inr (inr (inr e))))) = rw e

-- ---- a piece is what its kind and its bytes say
record Stands (s : List ℕ) (p : ℕ) (x : T.Cut) : Type 0 where
  is : x.piece ≡ piece_of (piece_kind x.piece) (part (x.to - p) p s)

module _ (s : List ℕ) (p : ℕ) where
  stands_plain : (q : ℕ) → Stands s p (T.cut T.plain q)
  stands_plain q = record { is = refl }

  stands_closed : (x : T.Closed) → Stands s p (T.closed_cut s x)
  stands_closed (T.closed_at q) = record { is = refl }
  stands_closed T.never_closed = record { is = refl }

  stands_mark : (b : Bool) (x : T.Closed) → Stands s p (when b (λ _. T.closed_cut s x) (λ _. T.cut T.plain (p + 1)))
  stands_mark true x = stands_closed x
  stands_mark false x = stands_plain (p + 1)

  stands_of : (c : Class) → Stands s p (T.piece_of mixed c s p)
  unfolding T.piece_of
  stands_of Letter = record { is = ap (λ (w : List ℕ). T.name (folded mixed w)) (run_part s (is_alphameric mixed) p) }
  stands_of Digit = stands_plain (p + length (leading (is_alphameric mixed) (drop p s)))
  stands_of Quote = stands_closed (T.quote_end (drop (p + 1) s) (p + 1))
  stands_of Mark = stands_mark (T.is_comment s p) (T.past_comment s p)
  stands_of Percent = stands_plain (p + 1)
  stands_of Break = stands_plain (p + 1)
  stands_of Blank = stands_plain (p + 1)
  stands_of LineFeed = stands_plain (p + 1)
  stands_of Other = stands_plain (p + 1)

  -- THE PIECE AT A PLACE, by its kind, its bytes and its end
  pub piece_is : (r : Piece) → Cuts s p r → p < length s → T.piece_at mixed s p ≡ T.cut (piece_of r.kind (part (r.to - p) p s)) r.to
  unfolding T.piece_at
  piece_is r f h = rw (f.is h) (ap (λ (x : T.Piece). T.cut x (T.piece_at mixed s p).to) (stands_of (class_of mixed (get_or s p 0))).is)

-- ---- a piece that is closed ends past its place
module _ (s : List ℕ) (p : ℕ) (h : p < length s) where
  closed_further : (x : T.Closed) → ((q : ℕ) → x ≡ T.closed_at q → p < q) → is_unclosed (piece_kind (T.closed_cut s x).piece) ≡ false → p < (T.closed_cut s x).to
  closed_further (T.closed_at q) f e = f q refl
  closed_further T.never_closed f e = let z : ◌≡◌ {A = ℕ} 0 1 = cc in absurd (omega arith)

  comment_or_mark : (b : Bool) (x : T.Closed) → ((q : ℕ) → x ≡ T.closed_at q → p < q)
      → is_unclosed (piece_kind (when b (λ _. T.closed_cut s x) (λ _. T.cut T.plain (p + 1))).piece) ≡ false → p < (when b (λ _. T.closed_cut s x) (λ _. T.cut T.plain (p + 1))).to
  comment_or_mark true x f e = closed_further x f e
  comment_or_mark false x f e = omega arith

  piece_further_of : (c : Class) → class_of mixed (get_or s p 0) ≡ c → is_unclosed (piece_kind (T.piece_of mixed c s p).piece) ≡ false → p < (T.piece_of mixed c s p).to
  unfolding T.piece_of
  piece_further_of Letter e f = run_past s p h (is_alphameric mixed) (letter_goes_on (get_or s p 0) e)
  piece_further_of Digit e f = run_past s p h (is_alphameric mixed) (digit_goes_on (get_or s p 0) e)
  piece_further_of Quote e f = closed_further (T.quote_end (drop (p + 1) s) (p + 1)) (λ q g. let z : p + 1 < q = quote_further (drop (p + 1) s) (p + 1) q g in omega arith) f
  piece_further_of Mark e f =
      comment_or_mark (T.is_comment s p) (T.past_comment s p) (λ q g. let z : p + 2 < q = comment_further false (drop (p + 2) s) (p + 2) q g in omega arith) f
  piece_further_of Percent e f = omega arith
  piece_further_of Break e f = omega arith
  piece_further_of Blank e f = omega arith
  piece_further_of LineFeed e f = omega arith
  piece_further_of Other e f = omega arith

  pub piece_further : is_unclosed (piece_kind (T.piece_at mixed s p).piece) ≡ false → p < (T.piece_at mixed s p).to
  unfolding T.piece_at
  piece_further f = piece_further_of (class_of mixed (get_or s p 0)) refl f

-- ---- the end of a text
on_open : (x : T.Piece) (p q : ℕ) (f : ℕ → T.TextEnd) → is_unclosed (piece_kind x) ≡ true → T.open_at p ≡ T.text_on x p q f
on_open (T.name w) p q f e = let z : ◌≡◌ {A = ℕ} 0 1 = cc in absurd (omega arith)
on_open T.plain p q f e = let z : ◌≡◌ {A = ℕ} 0 1 = cc in absurd (omega arith)
on_open T.unclosed p q f e = refl

on_more : (x : T.Piece) (p q : ℕ) (f : ℕ → T.TextEnd) → is_unclosed (piece_kind x) ≡ false → f q ≡ T.text_on x p q f
on_more (T.name w) p q f e = refl
on_more T.plain p q f e = refl
on_more T.unclosed p q f e = let z : ◌≡◌ {A = ℕ} 0 1 = cc in absurd (omega arith)

text_past : (n : ℕ) (s : List ℕ) (p : ℕ) → length s ≤ p → T.at_end ≡ T.text_end mixed n s p
unfolding T.text_end
text_past zero s p h = refl
text_past (suc n) s p h = rw (le-leb (length s) p h)

-- the turns that are left reach past the end
pub record Texting (s : List ℕ) (p i : ℕ) : Type 0 where
  pub turns : ℕ
  pub enough : length s < i + turns
  pub is : T.text_end mixed turns s i ≡ T.text_end mixed (suc (length s)) s p

pub texting_start : (s : List ℕ) (p : ℕ) → Texting s p p
texting_start s p = record { turns = suc (length s); enough = omega arith; is = refl }

module _ (s : List ℕ) (p i : ℕ) (k : Texting s p i) where
  pub texting_end : length s ≤ i → E.TheVariants.AtEnd ≡ ending_for (T.text_end mixed (suc (length s)) s p)
  texting_end h = ap ending_for (text_past k.turns s i h ∙ k.is)

  module _ (h : i < length s) where
    turn : (n : ℕ) → k.turns ≡ suc n
        → when (eqb (get_or s i 0) 37) (λ _. T.percent_at i) (λ _. T.text_on (T.piece_at mixed s i).piece i (T.piece_at mixed s i).to (T.text_end mixed n s)) ≡ T.text_end mixed (suc (length s)) s p
    unfolding T.text_end
    turn n e = rw (e, lt-leb (length s) i h) at k.is

    left : k.turns ≡ suc (k.turns - 1)
    left = omega (arith, k.enough)

    pub texting_percent : get_or s i 0 ≡ 37 → E.TheVariants.Percent i ≡ ending_for (T.text_end mixed (suc (length s)) s p)
    texting_percent e = ap ending_for (rw (eq-eqb (get_or s i 0) 37 e) at (turn (k.turns - 1) left))

    module _ (e : get_or s i 0 ≡ 37 → ⊥) (r : Piece) (f : Cuts s i r) where
      goes : T.text_on (T.piece_at mixed s i).piece i (T.piece_at mixed s i).to (T.text_end mixed (k.turns - 1) s) ≡ T.text_end mixed (suc (length s)) s p
      goes = rw (ne_eqb (get_or s i 0) 37 e) at (turn (k.turns - 1) left)

      open_is : is_unclosed r.kind ≡ is_unclosed (piece_kind (T.piece_at mixed s i).piece)
      open_is = ap (λ (x : Piece). is_unclosed x.kind) (f.is h)

      pub texting_open : r.kind ≡ Unclosed → E.TheVariants.OpenAt i ≡ ending_for (T.text_end mixed (suc (length s)) s p)
      texting_open j = ap ending_for (on_open (T.piece_at mixed s i).piece i (T.piece_at mixed s i).to (T.text_end mixed (k.turns - 1) s) (sym open_is ∙ ap is_unclosed j) ∙ goes)

      module _ (j : (r.kind ≡ Name) ⊎ (r.kind ≡ Plain)) where
        closed_is_lem : is_unclosed (piece_kind (T.piece_at mixed s i).piece) ≡ false
        closed_is_lem = sym open_is ∙ elim j [ inl z ↦ ap is_unclosed z | inr z ↦ ap is_unclosed z ]

        pub texting_further : i < r.to
        texting_further = let z : r.to ≡ (T.piece_at mixed s i).to = ap (λ (x : Piece). x.to) (f.is h) in omega (arith, piece_further s i h closed_is_lem)

        pub texting_more : Texting s p r.to
        texting_more = record {
          turns = k.turns - 1;
          enough = omega (arith, k.enough, texting_further);
          is = rw (ap (λ (x : Piece). x.to) (f.is h)) (on_more (T.piece_at mixed s i).piece i (T.piece_at mixed s i).to (T.text_end mixed (k.turns - 1) s) closed_is_lem ∙ goes);
        }

-- ---- where the ends of texts lie
-- the `%` that ends a text that begins at p
pub record Percents (s : List ℕ) (p q : ℕ) : Type 0 where
  pub low : p ≤ q
  pub inside : q < length s
  pub is : get_or s q 0 ≡ 37

module _ (s : List ℕ) (p q : ℕ) (f : ℕ → T.TextEnd) (rest : (r : ℕ) → f r ≡ T.percent_at q → Percents s r q) (x : T.Cut) where
  percent_on : (b : Bool) → is_unclosed (piece_kind x.piece) ≡ b → (b ≡ false → p < x.to) → T.text_on x.piece p x.to f ≡ T.percent_at q → Percents s p q
  percent_on true e h g = let o : T.open_at p ≡ T.percent_at q = on_open x.piece p x.to f e ∙ g in let z : ◌≡◌ {A = ℕ} 0 1 = cc in absurd (omega arith)
  percent_on false e h g =
      let o : Percents s x.to q = rest x.to (on_more x.piece p x.to f e ∙ g) in
      record { low = omega (arith, o.low, h refl); inside = o.inside; is = o.is }

  percent_next : (a b : Bool) → leb (length s) p ≡ a → eqb (get_or s p 0) 37 ≡ b → (p < length s → is_unclosed (piece_kind x.piece) ≡ false → p < x.to)
      → when a (λ _. T.at_end) (λ _. when b (λ _. T.percent_at p) (λ _. T.text_on x.piece p x.to f)) ≡ T.percent_at q → Percents s p q
  percent_next true b i j h g = let z : ◌≡◌ {A = ℕ} 0 1 = cc in absurd (omega arith)
  percent_next false true i j h g =
      let z : p ≡ q = cc in
      record { low = omega arith; inside = rw (← z) (leb-false (length s) p i); is = rw (← z) (eqb-true (get_or s p 0) 37 j) }
  percent_next false false i j h g = percent_on (is_unclosed (piece_kind x.piece)) refl (h (leb-false (length s) p i)) g

pub percent_there : (n : ℕ) (s : List ℕ) (p q : ℕ) → T.text_end mixed n s p ≡ T.percent_at q → Percents s p q
unfolding T.text_end
percent_there zero s p q e = let z : ◌≡◌ {A = ℕ} 0 1 = cc in absurd (omega arith)
percent_there (suc n) s p q e =
    percent_next s p q (T.text_end mixed n s) (λ r. percent_there n s r q) (T.piece_at mixed s p) (leb (length s) p) (eqb (get_or s p 0) 37) refl refl (piece_further s p) e
