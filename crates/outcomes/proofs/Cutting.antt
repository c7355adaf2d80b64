-- Argument lists.
-- Assumes nothing.
use Rattle.std.proofs.Common.{Some, None}
use Rattle.outcomes.specs.Types.{Listing}
use mathlib.Core.Path.{◌≡◌, refl, sym, ap, ◌∙◌}
use mathlib.Core.Bool.{Bool, true, false, ◌&&◌}
use mathlib.Core.List.{List, [], ◌∷◌, ◌++◌}
use Prim.Native.Nat.{ℕ, zero, suc, ◌+◌, ◌-◌, ◌<◌, ◌≤◌}
use native.Mathlib.Nat.{add-zero}
use native.Mathlib.Numerals.{add-one}
use native.Mathlib.Omega.{arith}
use borrow.Author.Tests.{le-leb, lt-leb, leb-false, eq-eqb, ne_eqb, eqb-true}
use lib.Dec.{leb, eqb}
use lib.ListN.{length, get_or, drop}
use Rattle.definition.specs.Choice.{when}
use Rattle.definition.specs.Lists.{leading}
use Rattle.definition.specs.Bytes.{mixed, is_blank}
use Rattle.definition.specs.Tokens.{piece_at}
use Rattle.definition.specs.Scan as D
use Rattle.definition.specs.Scan.{Argument, list_up_to, no_list, cut_on, list_at}
use Rattle.definition.proofs.Ends.{piece_at_past}
use Rattle.tokens.specs.declared.Piece.{Piece}
use Rattle.tokens.specs.Answer.{Cuts}
use Rattle.tokens.proofs.Laws.{inside, Passing, passing_stop, passing_end}
use Rattle.sums.specs.Numbers.{greatest, sum_to}
use Rattle.sums.proofs.Laws.{sum_fits}
use Rattle.outcomes.specs.declared.Ending.{Ending}
use Rattle.outcomes.specs.declared.Ending.TheVariants as E
use Rattle.outcomes.specs.Texts.{stretch_of, Within}
use Rattle.outcomes.specs.Arguments.{cut_from, argument, before, EndWithin, EndIs, end_place, listing_for, ListingIs, past_blanks, ListIn, Ends, EndIn}
use Rattle.outcomes.proofs.Sources.{stretch_length}
use Rattle.outcomes.proofs.Naming.{never}

-- ---- choices
when_same : {A : Type 0} (t : Bool) (a b c d : A) → a ≡ c → b ≡ d → when t (λ _. a) (λ _. b) ≡ when t (λ _. c) (λ _. d)
when_same true a b c d e f = e
when_same false a b c d e f = f

when_before : (xs : List Argument) (t : Bool) (a b c d : D.Arguments) → a ≡ before xs c → b ≡ before xs d → when t (λ _. a) (λ _. b) ≡ before xs (when t (λ _. c) (λ _. d))
when_before xs true a b c d e f = e
when_before xs false a b c d e f = f

append_assoc : (xs ys zs : List Argument) → xs ++ (ys ++ zs) ≡ (xs ++ ys) ++ zs
append_assoc [] ys zs = refl
append_assoc (x ∷ xs) ys zs = ap (λ (l : List Argument). x ∷ l) (append_assoc xs ys zs)

append_nil : (xs : List Argument) → xs ++ [] ≡ xs
append_nil [] = refl
append_nil (x ∷ xs) = ap (λ (l : List Argument). x ∷ l) (append_nil xs)

before_before : (xs ys : List Argument) (a : D.Arguments) → before xs (before ys a) ≡ before (xs ++ ys) a
before_before xs ys (list_up_to zs q) = ap (λ (l : List Argument). list_up_to l q) (append_assoc xs ys zs)
before_before xs ys no_list = refl

before_nil : (a : D.Arguments) → before [] a ≡ a
before_nil (list_up_to zs q) = refl
before_nil no_list = refl

append_length : (xs : List Argument) (x : Argument) → length (xs ++ x ∷ []) ≡ length xs + 1
append_length [] x = refl
append_length (y ∷ xs) x = let e : length (xs ++ x ∷ []) ≡ length xs + 1 = append_length xs x in omega arith

-- ---- turns enough
cut_past : (f : ℕ) (t : List ℕ) (d from : ℕ) (xs : List Argument) (p : ℕ) → length t ≤ p → cut_on mixed f t d from xs p ≡ no_list
unfolding cut_on
cut_past zero t d from xs p h = refl
cut_past (suc f) t d from xs p h = rw (le-leb (length t) p h)

-- one turn, with what follows
abbrev turn : List ℕ → ℕ → ℕ → List Argument → ℕ → (ℕ → ℕ → List Argument → ℕ → D.Arguments) → D.Arguments
turn t d from xs p on =
    when (leb (length t) p) (λ _. no_list)
    (λ _. when (eqb (get_or t p 0) 40) (λ _. on (suc d) from xs (p + 1))
    (λ _. when (eqb (get_or t p 0) 41 && eqb d 0) (λ _. list_up_to (xs ++ argument from p ∷ []) (p + 1))
    (λ _. when (eqb (get_or t p 0) 41) (λ _. on (d - 1) from xs (p + 1))
    (λ _. when (eqb (get_or t p 0) 44 && eqb d 0) (λ _. on d (p + 1) (xs ++ argument from p ∷ []) (p + 1))
    (λ _. on d from xs (piece_at mixed t p).to)))))

cut_turn : (f : ℕ) (t : List ℕ) (d from : ℕ) (xs : List Argument) (p : ℕ) → cut_on mixed (suc f) t d from xs p ≡ turn t d from xs p (cut_on mixed f t)
unfolding cut_on
cut_turn f t d from xs p = refl

turn_same : (t : List ℕ) (d from : ℕ) (xs : List Argument) (p : ℕ) (f g : ℕ → ℕ → List Argument → ℕ → D.Arguments)
    → ((e b : ℕ) (ys : List Argument) (q : ℕ) → p < length t → p < q → f e b ys q ≡ g e b ys q) → turn t d from xs p f ≡ turn t d from xs p g
turn_same t d from xs p f g h = by (leb (length t) p) refl
  where
    by : (b : Bool) → leb (length t) p ≡ b → turn t d from xs p f ≡ turn t d from xs p g
    by true e = rw e
    by false e =
        let l : p < length t = leb-false (length t) p e in
        let s : (a b : ℕ) (ys : List Argument) (q : ℕ) → p < q → f a b ys q ≡ g a b ys q = λ a b ys q. h a b ys q l in
        when_same (leb (length t) p) _ _ _ _ refl
        (when_same (eqb (get_or t p 0) 40) _ _ _ _ (s (suc d) from xs (p + 1) (omega arith))
        (when_same (eqb (get_or t p 0) 41 && eqb d 0) _ _ _ _ refl
        (when_same (eqb (get_or t p 0) 41) _ _ _ _ (s (d - 1) from xs (p + 1) (omega arith))
        (when_same (eqb (get_or t p 0) 44 && eqb d 0) _ _ _ _ (s d (p + 1) (xs ++ argument from p ∷ []) (p + 1) (omega arith))
        (s d from xs (piece_at mixed t p).to (piece_at_past t p l).above)))))

cut_enough : (f g : ℕ) (t : List ℕ) (d from : ℕ) (xs : List Argument) (p : ℕ) → length t < p + f → length t < p + g → cut_on mixed f t d from xs p ≡ cut_on mixed g t d from xs p
cut_enough zero g t d from xs p h k = cut_past 0 t d from xs p (omega arith) ∙ sym (cut_past g t d from xs p (omega arith))
cut_enough (suc f) zero t d from xs p h k = cut_past (suc f) t d from xs p (omega arith) ∙ sym (cut_past 0 t d from xs p (omega arith))
cut_enough (suc f) (suc g) t d from xs p h k =
    cut_turn f t d from xs p ∙ turn_same t d from xs p (cut_on mixed f t) (cut_on mixed g t) (λ e b ys q l m. cut_enough f g t e b ys q (omega arith) (omega arith)) ∙ sym (cut_turn g t d from xs p)

-- what was cut before stays before
turn_before : (t : List ℕ) (d from : ℕ) (xs ys : List Argument) (p : ℕ) (f : ℕ → ℕ → List Argument → ℕ → D.Arguments)
    → ((e b : ℕ) (zs : List Argument) (q : ℕ) → f e b (xs ++ zs) q ≡ before xs (f e b zs q)) → turn t d from (xs ++ ys) p f ≡ before xs (turn t d from ys p f)
turn_before t d from xs ys p f h =
    let e : (xs ++ ys) ++ argument from p ∷ [] ≡ xs ++ (ys ++ argument from p ∷ []) = sym (append_assoc xs ys (argument from p ∷ [])) in
    when_before xs (leb (length t) p) _ _ _ _ refl
    (when_before xs (eqb (get_or t p 0) 40) _ _ _ _ (h (suc d) from ys (p + 1))
    (when_before xs (eqb (get_or t p 0) 41 && eqb d 0) _ _ _ _ (ap (λ (l : List Argument). list_up_to l (p + 1)) e)
    (when_before xs (eqb (get_or t p 0) 41) _ _ _ _ (h (d - 1) from ys (p + 1))
    (when_before xs (eqb (get_or t p 0) 44 && eqb d 0) _ _ _ _ (ap (λ (l : List Argument). f d (p + 1) l (p + 1)) e ∙ h d (p + 1) (ys ++ argument from p ∷ []) (p + 1))
    (h d from ys (piece_at mixed t p).to)))))

cut_before : (f : ℕ) (t : List ℕ) (d from : ℕ) (xs ys : List Argument) (p : ℕ) → cut_on mixed f t d from (xs ++ ys) p ≡ before xs (cut_on mixed f t d from ys p)
unfolding cut_on
cut_before zero t d from xs ys p = refl
cut_before (suc f) t d from xs ys p = turn_before t d from xs ys p (cut_on mixed f t) (λ e b zs q. cut_before f t e b xs zs q)

-- ---- one turn at a place of the text, with d parentheses open
module _ (t : List ℕ) (d from p : ℕ) (h : p < length t) where
  abbrev most : ℕ
  most = suc (length t)

  more : (e b : ℕ) (xs : List Argument) (q : ℕ) → p < q → cut_on mixed (length t) t e b xs q ≡ cut_on mixed most t e b xs q
  more e b xs q l = cut_enough (length t) most t e b xs q (omega arith) (omega arith)

  unfold_turn : cut_on mixed most t d from [] p ≡ turn t d from [] p (cut_on mixed most t)
  unfold_turn = cut_turn (length t) t d from [] p ∙ turn_same t d from [] p (cut_on mixed (length t) t) (cut_on mixed most t) (λ e b xs q l m. more e b xs q m)

  in_text : leb (length t) p ≡ false
  in_text = lt-leb (length t) p h

  turn_open : get_or t p 0 ≡ 40 → cut_on mixed most t d from [] p ≡ cut_on mixed most t (suc d) from [] (p + 1)
  turn_open e = unfold_turn ∙ rw (in_text, eq-eqb (get_or t p 0) 40 e)

  turn_close : get_or t p 0 ≡ 41 → d ≡ 0 → cut_on mixed most t d from [] p ≡ list_up_to (argument from p ∷ []) (p + 1)
  turn_close e z = unfold_turn ∙ rw (in_text, e, z)

  turn_less : get_or t p 0 ≡ 41 → 0 < d → cut_on mixed most t d from [] p ≡ cut_on mixed most t (d - 1) from [] (p + 1)
  turn_less e z = let n : eqb d 0 ≡ false = ne_eqb d 0 (λ y. omega arith) in unfold_turn ∙ rw (in_text, e, n)

  turn_comma : get_or t p 0 ≡ 44 → d ≡ 0 → cut_on mixed most t d from [] p ≡ before (argument from p ∷ []) (cut_from t (p + 1))
  unfolding cut_from
  turn_comma e z = unfold_turn ∙ rw (in_text, e, z) (cut_before most t 0 (p + 1) (argument from p ∷ []) [] (p + 1))

  turn_piece : (get_or t p 0 ≡ 40 → ⊥) → (get_or t p 0 ≡ 41 → ⊥) → (eqb (get_or t p 0) 44 && eqb d 0) ≡ false → cut_on mixed most t d from [] p ≡ cut_on mixed most t d from [] (piece_at mixed t p).to
  turn_piece e f g = unfold_turn ∙ rw (in_text, ne_eqb (get_or t p 0) 40 e, ne_eqb (get_or t p 0) 41 f, g)

-- ---- where an argument ends
pub record Cut (t : List ℕ) (from p d turn : ℕ) : Type 0 where
  pub is : cut_on mixed (suc (length t)) t d from [] p ≡ cut_from t from
  pub far : turn ≤ p
  pub low : from ≤ p
  pub few : d ≤ p

pub record Ending' (t : List ℕ) (from p d turn : ℕ) : Type 0 where
  pub so : length t ≤ 4294967295 → Cut t from p d turn

pub ending_start : (t : List ℕ) (from : ℕ) → Ending' t from from 0 0
unfolding cut_from
ending_start t from = record { so = λ _. record { is = refl; far = omega arith; low = omega arith; few = omega arith } }

no_comma : (b d : ℕ) → (b ≡ 44 → 1 ≤ d) → (eqb b 44 && eqb d 0) ≡ false
no_comma b d f = by (eqb b 44) refl
  where
    by : (x : Bool) → eqb b 44 ≡ x → (x && eqb d 0) ≡ false
    by true e = ne_eqb d 0 (λ z. omega (arith, z, f (eqb-true b 44 e)))
    by false e = refl

module _ (t : List ℕ) (from p d turn : ℕ) (k : Ending' t from p d turn) where
  pub ending_past : length t ≤ p → EndIs t from E.Open
  ending_past h = record { is = λ l. sym (k.so l).is ∙ cut_past (suc (length t)) t d from [] p h; within = λ _. tt }

  pub ending_none : length t ≤ turn → EndIs t from E.Open
  ending_none h = record { is = λ l. sym (k.so l).is ∙ cut_past (suc (length t)) t d from [] p (omega (arith, (k.so l).far)); within = λ _. tt }

  module _ (h : p < length t) where
    pub ending_close : get_or t p 0 ≡ 41 → d < 1 → EndIs t from (E.Close p)
    ending_close e z = record { is = λ l. sym (k.so l).is ∙ turn_close t d from p h e (omega arith); within = λ l. ((k.so l).low, h) }

    pub ending_comma : get_or t p 0 ≡ 44 → d < 1 → EndIs t from (E.Comma p)
    ending_comma e z = record { is = λ l. sym (k.so l).is ∙ turn_comma t d from p h e (omega arith); within = λ l. ((k.so l).low, h) }

    pub ending_opened : (q e : ℕ) → get_or t p 0 ≡ 40 → e ≡ sum_to greatest d 1 → q ≡ sum_to greatest p 1 → Ending' t from q e (turn + 1)
    ending_opened q e g i j = record {
      so = λ l.
          let c = k.so l in
          let u : q ≡ p + 1 = j ∙ sum_fits p 1 (omega arith) in
          let v : e ≡ suc d = i ∙ sum_fits d 1 (omega (arith, c.few)) ∙ add-one d in
          record { is = rw (u, v) (sym (turn_open t d from p h g) ∙ c.is); far = omega (arith, c.far); low = omega (arith, c.low); few = omega (arith, c.few) };
    }

    pub ending_closed : (q : ℕ) → get_or t p 0 ≡ 41 → 1 ≤ d → q ≡ sum_to greatest p 1 → Ending' t from q (d - 1) (turn + 1)
    ending_closed q g i j = record {
      so = λ l.
          let c = k.so l in
          let u : q ≡ p + 1 = j ∙ sum_fits p 1 (omega arith) in
          record { is = rw u (sym (turn_less t d from p h g (omega arith)) ∙ c.is); far = omega (arith, c.far); low = omega (arith, c.low); few = omega (arith, c.few) };
    }

    pub ending_piece : (x : Piece) → (get_or t p 0 ≡ 40 → ⊥) → (get_or t p 0 ≡ 41 → ⊥) → (get_or t p 0 ≡ 44 → 1 ≤ d) → Cuts t p x → Ending' t from x.to d (turn + 1)
    ending_piece x e f g j = record {
      so = λ l.
          let c = k.so l in
          let u : x.to ≡ (piece_at mixed t p).to = ap (λ (y : Piece). y.to) (j.is h) in
          let v : p < (piece_at mixed t p).to = (piece_at_past t p h).above in
          record { is = rw u (sym (turn_piece t d from p h e f (no_comma (get_or t p 0) d g)) ∙ c.is); far = omega (arith, c.far); low = omega (arith, c.low); few = omega (arith, c.few) };
    }

-- ---- how many arguments
pub record Counts (t : List ℕ) (first n from : ℕ) : Type 0 where
  pub cut : List Argument
  pub size : length cut ≡ n
  pub is : cut_from t first ≡ before cut (cut_from t from)
  pub far : n ≤ from

pub record Counting (t : List ℕ) (first n from : ℕ) : Type 0 where
  pub low : n ≤ length t
  pub so : length t ≤ 4294967295 → Counts t first n from

pub counting_start : (t : List ℕ) (first : ℕ) → Counting t first 0 first
counting_start t first = record { low = omega arith; so = λ _. record { cut = []; size = refl; is = sym (before_nil (cut_from t first)); far = omega arith } }

module _ (t : List ℕ) (first n from : ℕ) (k : Counting t first n from) where
  pub counting_end : length t ≤ n → ListingIs t first (cut_from t first) None
  unfolding cut_from
  counting_end h = record {
    is = λ l.
        let c = k.so l in
        let e : cut_from t from ≡ no_list = cut_past (suc (length t)) t 0 from [] from (omega (arith, c.far)) in
        sym (ap (listing_for first) (c.is ∙ ap (before c.cut) e));
  }

  module _ (e : Ending) (g : EndIs t from e) where
    pub counting_open : e ≡ E.Open → ListingIs t first (cut_from t first) None
    counting_open f = record { is = λ l. let c = k.so l in sym (ap (listing_for first) (c.is ∙ ap (before c.cut) (rw f at (g.is l)))) }

    pub counting_close : (p q m : ℕ) → e ≡ E.Close p → q ≡ sum_to greatest p 1 → m ≡ n + 1 → ListingIs t first (cut_from t first) (Some (m, first, q))
    counting_close p q m f j i = record {
      is = λ l.
          let c = k.so l in
          let w : EndWithin t from (E.Close p) = rw f at (g.within l) in
          let u : q ≡ p + 1 = j ∙ sum_fits p 1 (omega (arith, w.1)) in
          let z : cut_from t first ≡ list_up_to (c.cut ++ argument from p ∷ []) (p + 1) = c.is ∙ ap (before c.cut) (rw f at (g.is l)) in
          let v : m ≡ length (c.cut ++ argument from p ∷ []) = omega (arith, append_length c.cut (argument from p), c.size) in
          rw (z, v, u);
    }

    pub counting_more : (p q m : ℕ) → e ≡ E.Comma p → q ≡ sum_to greatest p 1 → m ≡ n + 1 → n < length t → Counting t first m q
    counting_more p q m f j i h = record {
      low = omega arith;
      so = λ l.
          let c = k.so l in
          let w : EndWithin t from (E.Comma p) = rw f at (g.within l) in
          let u : q ≡ p + 1 = j ∙ sum_fits p 1 (omega (arith, w.1)) in
          record {
            cut = c.cut ++ argument from p ∷ [];
            size = omega (arith, append_length c.cut (argument from p), c.size);
            is = rw u (c.is ∙ ap (before c.cut) (rw f at (g.is l)) ∙ before_before c.cut (argument from p ∷ []) (cut_from t (p + 1)));
            far = omega (arith, c.far, w.0);
          };
    }

-- ---- the list behind a name
pub list_some : (t : List ℕ) (p q b z : ℕ) (r : Listing) → q ≡ past_blanks t p → b ≡ get_or t (q + 0) 0 → b ≡ 40 → z ≡ sum_to greatest q 1 → ListingIs t z (cut_from t z) r
    → ListingIs t (past_blanks t p + 1) (list_at mixed t p) r
unfolding past_blanks list_at cut_from
list_some t p q b z r e f g i h = record {
  is = λ l.
      let v : get_or t q 0 ≡ 40 = rw add-zero at (sym f ∙ g) in
      let n : q < length t = inside t q (λ y. let a : ◌≡◌ {A = ℕ} 40 0 = sym v ∙ y in omega arith) in
      let u : z ≡ q + 1 = i ∙ sum_fits q 1 (omega arith) in
      let x : list_at mixed t p ≡ cut_on mixed (length t) t 0 (q + 1) [] (q + 1) = rw (← e, v) in
      let y : cut_on mixed (suc (length t)) t 0 (q + 1) [] (q + 1) ≡ cut_on mixed (length t) t 0 (q + 1) [] (q + 1) = cut_enough (suc (length t)) (length t) t 0 (q + 1) [] (q + 1) (omega arith) (omega arith) in
      let v₂ : listing_for z (cut_from t z) ≡ listing_for (q + 1) (cut_from t (q + 1)) = ap (λ (n : ℕ). listing_for n (cut_from t n)) u in
      let w : cut_from t (q + 1) ≡ list_at mixed t p = y ∙ sym x in
      h.is l ∙ v₂ ∙ ap (listing_for (q + 1)) w ∙ ap (λ (n : ℕ). listing_for (n + 1) (list_at mixed t p)) e;
}

pub list_none : (t : List ℕ) (p q b : ℕ) → q ≡ past_blanks t p → b ≡ get_or t (q + 0) 0 → (b ≡ 40 → ⊥) → ListingIs t (past_blanks t p + 1) (list_at mixed t p) None
unfolding past_blanks list_at
list_none t p q b e f g = record {
  is = λ l.
      let v : eqb (get_or t q 0) 40 ≡ false = ne_eqb (get_or t q 0) 40 (λ y. g (f ∙ rw add-zero y)) in
      rw (← e, v);
}

-- ---- in a stretch
module _ (t : List ℕ) (from to p : ℕ) where
  pub list_in : (k : List ℕ) (r : Listing) → k ≡ stretch_of t from to → ListingIs k (past_blanks k p + 1) (list_at mixed k p) r → ListIn t from to p r
  list_in k r f g = record { is = λ w. (rw f at g).is (omega (arith, stretch_length t from to, w.short)) }

  pub list_out : (r : Listing) → (Within t from to → ⊥) → ListIn t from to p r
  list_out r h = record { is = λ w. absurd (h w) }

  pub end_out : (r : ℕ) → (Within t from to → ⊥) → EndIn t from to p r
  end_out r h = record { is = λ w. absurd (h w) }

ends_first : (t : List ℕ) (p z q : ℕ) (a : D.Arguments) (xs : List Argument) → p ≤ z → z < length t → a ≡ cut_from t (z + 1) → before (argument p z ∷ []) a ≡ list_up_to xs q → Ends t p z xs q
ends_first t p z q no_list xs h l e f = never _ (cc)
ends_first t p z q (list_up_to ys r) xs h l e f = by ys e f
  where
    by : (zs : List Argument) → list_up_to zs r ≡ cut_from t (z + 1) → list_up_to (argument p z ∷ zs) r ≡ list_up_to xs q → Ends t p z xs q
    by [] i j = let u : argument p z ∷ [] ≡ xs = cc in rw (← u) (refl, h, l)
    by (y ∷ zs) i j = let u : argument p z ∷ y ∷ zs ≡ xs = cc in let v : r ≡ q = cc in rw (← u, ← v) (refl, h, l, sym i)

ends_last : (t : List ℕ) (p z q n : ℕ) (xs : List Argument) → p ≤ z → z < length t → list_up_to (argument p z ∷ []) n ≡ list_up_to xs q → Ends t p z xs q
ends_last t p z q n xs h l e = let u : argument p z ∷ [] ≡ xs = cc in rw (← u) (refl, h, l)

ends_are : (t : List ℕ) (p : ℕ) (e : Ending) → EndIs t p e → length t ≤ 4294967295 → (xs : List Argument) (q : ℕ) → cut_from t p ≡ list_up_to xs q → Ends t p (end_place e p) xs q
ends_are t p (E.Comma z) k l xs q c = ends_first t p z q (cut_from t (z + 1)) xs (k.within l).0 (k.within l).1 refl (sym (k.is l) ∙ c)
ends_are t p (E.Close z) k l xs q c = ends_last t p z q (z + 1) xs (k.within l).0 (k.within l).1 (sym (k.is l) ∙ c)
ends_are t p E.Open k l xs q c = let z : no_list ≡ list_up_to xs q = sym (k.is l) ∙ c in never _ (cc)

pub end_in : (t : List ℕ) (from to p : ℕ) (k : List ℕ) (e : Ending) (r : ℕ) → k ≡ stretch_of t from to → EndIs k p e → r ≡ end_place e p → EndIn t from to p r
end_in t from to p k e r f g j = record { is = λ w xs q c. rw j (ends_are (stretch_of t from to) p e (rw f at g) (omega (arith, stretch_length t from to, w.short)) xs q c) }

module _ (t : List ℕ) (p i : ℕ) (k : Passing t p is_blank i) where
  pub blanks_stop : (b : Bool) → i < length t → b ≡ is_blank (get_or t i 0) → b ≡ false → i ≡ past_blanks t p
  unfolding past_blanks
  blanks_stop b h e f = passing_stop t p is_blank i k b h e f

  pub blanks_end : length t ≤ i → i ≡ past_blanks t p
  unfolding past_blanks
  blanks_end h = passing_end t p is_blank i k h

-- the arguments of a list are cut from behind its parenthesis on
pub list_cut : (t : List ℕ) (p : ℕ) (xs : List Argument) (q : ℕ) → list_at mixed t p ≡ list_up_to xs q → cut_from t (past_blanks t p + 1) ≡ list_up_to xs q
unfolding past_blanks list_at cut_from
list_cut t p xs q e = by (p + length (leading is_blank (drop p t))) (eqb (get_or t (p + length (leading is_blank (drop p t))) 0) 40) e
  where
    by : (r : ℕ) (b : Bool) → when b (λ _. cut_on mixed (length t) t 0 (r + 1) [] (r + 1)) (λ _. no_list) ≡ list_up_to xs q → cut_on mixed (suc (length t)) t 0 (r + 1) [] (r + 1) ≡ list_up_to xs q
    by r true f = cut_enough (suc (length t)) (length t) t 0 (r + 1) [] (r + 1) (omega arith) (omega arith) ∙ f
    by r false f = never _ (cc)
