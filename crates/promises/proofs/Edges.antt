-- The lines of a card expansion cut its text, by the bodies as given, and none crosses a record edge.
-- Assumes nothing.
use Prim.Native.Nat.{ℕ, zero, suc, ◌+◌, ◌-◌, ◌%◌, ◌≤◌, ◌<◌}
use native.Mathlib.Nat.{not-suc-le-zero}
use native.Mathlib.Omega.{arith}
use mathlib.Core.Bool.{Bool, true, false, cond}
use mathlib.Core.List.{List, [], ◌∷◌, ◌++◌, append_assoc, append-nil}
use mathlib.Core.Path.{◌≡◌, refl, sym, ap, subst, ◌∙◌}
use lib.Dec.{eqb}
use lib.ListN.{length, get_or, length-append}
use borrow.Author.Tests.{eqb-true, eqb-false}
use Rattle.definition.specs.declared.Layout.TheVariants.{Cards as cards}
use Rattle.definition.specs.Bytes.{mixed}
use Rattle.definition.specs.Lists.{part}
use Rattle.definition.specs.Deck as Deck
use Rattle.definition.specs.Deck.{count, line_at, is_sound}
use Rattle.definition.specs.Reading.{read_member}
use Rattle.definition.specs.Events.{Line, line, longer}
use Rattle.definition.specs.Cards.{uneven, joined, column, given, is_first, goes_over, cut, as_given}
use Rattle.definition.specs.Names.{enter}
use Rattle.definition.specs.Run.{body_of}
use Rattle.definition.specs.Expansion.{Expansion, run_main, world_for, size_in, told, cards_in, expansion_of}
use Rattle.definition.proofs.Choices.{when_has}
use Rattle.definition.proofs.Parts.{length_part, part_more}
use Rattle.definition.proofs.Joined.{sound_parts, sound_joined, count_joined, length_body, byte_joined}
use Rattle.promises.specs.Origin.{Origin}
use Rattle.promises.specs.Cards.{InRecords, CutAsGiven, AsGiven}
use Rattle.promises.proofs.Cutting.{Next, Cut, own, not_next, next_longer, next_as, of_cut, run_cut}

-- ---- the newest line is a piece of a stretch of member m whose newest byte is byte q of the joined body
abbrev Piece : ℕ → ℕ → List Line → Type 0
Piece m q [] = ⊥
Piece m q (a ∷ ls) = (a.kind ≡ 2) × (a.member ≡ m) × (a.offset + a.size ≡ suc (column q))

abbrev one : ℕ → ℕ → List Line → List Line
one m p ls = cond (is_first p) (line 2 m (column p) 1 ∷ ls) (longer 1 ls)

one_piece : (m q : ℕ) (ls : List Line) → Piece m q ls → Piece m (suc q) (one m (suc q) ls)
one_piece m q [] h = absurd h
one_piece m q (a ∷ ls) h = go (is_first (suc q)) refl
  where
    go : (t : Bool) → is_first (suc q) ≡ t → Piece m (suc q) (cond t (line 2 m (column (suc q)) 1 ∷ a ∷ ls) (longer 1 (a ∷ ls)))
    go true e = (refl, refl, omega arith)
    go false e = (h.0, h.1, omega (arith, h.2, eqb-false (suc q % 71) 0 e))

over_piece : (m q n : ℕ) (ls : List Line) → Piece m q ls → Piece m (q + n) (goes_over m (suc q) n ls)
unfolding goes_over
over_piece m q zero ls h = let e : q ≡ q + 0 = omega arith in subst (λ (p : ℕ). Piece m p ls) e h
over_piece m q (suc n) ls h =
    let e : suc q + n ≡ q + suc n = omega arith in
    subst (λ (p : ℕ). Piece m p (goes_over m (suc (suc q)) n (one m (suc q) ls))) e (over_piece m (suc q) n (one m (suc q) ls) (one_piece m q ls h))

cut_piece : (m p n : ℕ) (ls : List Line) → 1 ≤ n → Piece m (p + n - 1) (cut m p n ls)
cut_piece m p zero ls h = absurd (not-suc-le-zero h)
cut_piece m p (suc n) ls h =
    let e : p + n ≡ p + suc n - 1 = omega arith in
    subst (λ (q : ℕ). Piece m q (cut m p (suc n) ls)) e (over_piece m p n (line 2 m (column p) 1 ∷ ls) (refl, refl, omega arith))

-- a stretch that goes on with a piece as given goes on in the joined body
piece_next : (m q k p n : ℕ) (ls : List Line) → Piece m q ls → Next ls (line 2 k (column p) n) → (m ≡ k) × (suc q ≡ p)
piece_next m q k p n [] h g = absurd h
piece_next m q k p n (a ∷ ls) h g = (sym h.1 ∙ g.member, let e : suc (column q) ≡ column p = sym h.2 ∙ g.place in omega arith)

module _ (d : List ℕ) (sound : is_sound mixed d ≡ true) where
  inside : (m p : ℕ) → m < count d → p < length (body_of (joined d) m) → column p + 1 ≤ length (body_of d m)
  unfolding body_of
  inside m p h i = omega (arith, length_body d sound m h, length_part (line_at d m).size (line_at d m).offset d)

  one_origin : (m p : ℕ) → m < count d → p < length (body_of (joined d) m) → Origin d (line 2 m (column p) 1) (get_or (body_of (joined d) m) p 0 ∷ [])
  one_origin m p h i = record { sized = refl; kinds = omega arith; blank = λ (e : ◌≡◌ {A = ℕ} 2 1). absurd (omega arith); stretch = λ _. (omega arith, inside m p h i, ap (λ (b : ℕ). b ∷ []) (byte_joined d sound m h p i)) }

  -- ---- one byte more
  one_cut : (m q : ℕ) (ls : List Line) (t : List ℕ) → m < count d → suc q < length (body_of (joined d) m) → Piece m q ls → Cut d ls t → InRecords ls → Cut d (one m (suc q) ls) (t ++ get_or (body_of (joined d) m) (suc q) 0 ∷ []) × InRecords (one m (suc q) ls)
  one_cut m q [] t h i k c r = absurd k
  one_cut m q (a ∷ ls) t h i k c r = go (is_first (suc q)) refl
    where
      go : (f : Bool) → is_first (suc q) ≡ f → Cut d (cond f (line 2 m (column (suc q)) 1 ∷ a ∷ ls) (longer 1 (a ∷ ls))) (t ++ get_or (body_of (joined d) m) (suc q) 0 ∷ []) × InRecords (cond f (line 2 m (column (suc q)) 1 ∷ a ∷ ls) (longer 1 (a ∷ ls)))
      go true e =
          let z : suc q % 71 ≡ 0 = eqb-true (suc q % 71) 0 e in (
            own d (line 2 m (column (suc q)) 1) (a ∷ ls) t (get_or (body_of (joined d) m) (suc q) 0 ∷ []) (one_origin m (suc q) h i) h (λ g. let y : suc (column q) ≡ column (suc q) = sym k.2 ∙ g.place in absurd (omega arith)) c,
            (λ _. omega arith, r),
          )
      go false e =
          let place : a.offset + a.size ≡ column (suc q) = omega (arith, k.2, eqb-false (suc q % 71) 0 e) in
          let o : Origin d a c.1.bytes = c.1.origin in
          let byte : get_or (body_of (joined d) m) (suc q) 0 ≡ get_or (body_of d a.member) (a.offset + a.size) 0 = byte_joined d sound m h (suc q) i ∙ (λ z. get_or (body_of d (sym k.1 z)) (sym place z) 0) in
          let bytes : c.1.bytes ++ get_or (body_of (joined d) m) (suc q) 0 ∷ [] ≡ part (a.size + 1) a.offset (body_of d a.member) =
          (λ z. (o.stretch k.0).2 z ++ byte z ∷ []) ∙ sym (part_more a.size a.offset (body_of d a.member)) in (
            (
              c.0,
              record {
                bytes = c.1.bytes ++ get_or (body_of (joined d) m) (suc q) 0 ∷ [];
                joined = ap (λ (y : List ℕ). y ++ get_or (body_of (joined d) m) (suc q) 0 ∷ []) c.1.joined ∙ append_assoc c.0 c.1.bytes (get_or (body_of (joined d) m) (suc q) 0 ∷ []);
                origin = record { sized = length-append c.1.bytes (get_or (body_of (joined d) m) (suc q) 0 ∷ []) ∙ omega (arith, o.sized); kinds = o.kinds; blank = λ (e : a.kind ≡ 1). absurd (omega (arith, k.0)); stretch = λ _. (omega arith, rw k.1 (omega (arith, place, inside m (suc q) h i)), bytes) };
                listed = c.1.listed;
                longest = λ g. c.1.longest (next_longer d ls a (a.size + 1) g);
              },
              c.2,
            ),
            (λ _. omega (arith, r.0 k.0, place), r.1),
          )

  -- ---- a stretch
  over_cut : (m q n : ℕ) (ls : List Line) (t : List ℕ) → m < count d → suc q + n ≤ length (body_of (joined d) m) → Piece m q ls → Cut d ls t → InRecords ls → Cut d (goes_over m (suc q) n ls) (t ++ part n (suc q) (body_of (joined d) m)) × InRecords (goes_over m (suc q) n ls)
  unfolding goes_over
  over_cut m q zero ls t h i k c r = (subst (λ (u : List ℕ). Cut d ls u) (sym (append-nil t)) c, r)
  over_cut m q (suc n) ls t h i k c r =
      let b : List ℕ = get_or (body_of (joined d) m) (suc q) 0 ∷ [] in
      let x : Cut d (one m (suc q) ls) (t ++ b) × InRecords (one m (suc q) ls) = one_cut m q ls t h (omega arith) k c r in
      let y : Cut d (goes_over m (suc (suc q)) n (one m (suc q) ls)) (t ++ b ++ part n (suc (suc q)) (body_of (joined d) m)) × InRecords (goes_over m (suc (suc q)) n (one m (suc q) ls)) = over_cut m (suc q) n (one m (suc q) ls) (t ++ b) h (omega arith) (one_piece m q ls k) x.0 x.1 in
      (subst (λ (u : List ℕ). Cut d (goes_over m (suc (suc q)) n (one m (suc q) ls)) u) (append_assoc t b (part n (suc (suc q)) (body_of (joined d) m))) y.0, y.1)

  cut_cut : (m p n : ℕ) (ls : List Line) (t : List ℕ) → m < count d → 1 ≤ n → p + n ≤ length (body_of (joined d) m) → (Next ls (line 2 m (column p) 1) → ⊥) → Cut d ls t → InRecords ls → Cut d (cut m p n ls) (t ++ part n p (body_of (joined d) m)) × InRecords (cut m p n ls)
  cut_cut m p zero ls t h j i k c r = absurd (not-suc-le-zero j)
  cut_cut m p (suc n) ls t h j i k c r =
      let b : List ℕ = get_or (body_of (joined d) m) p 0 ∷ [] in
      let x : Cut d (line 2 m (column p) 1 ∷ ls) (t ++ b) = own d (line 2 m (column p) 1) ls t b (one_origin m p h (omega arith)) h k c in
      let y : Cut d (goes_over m (suc p) n (line 2 m (column p) 1 ∷ ls)) (t ++ b ++ part n (suc p) (body_of (joined d) m)) × InRecords (goes_over m (suc p) n (line 2 m (column p) 1 ∷ ls)) = over_cut m p n (line 2 m (column p) 1 ∷ ls) (t ++ b) h (omega arith) (refl, refl, omega arith) x (λ _. omega arith, r) in
      (subst (λ (u : List ℕ). Cut d (goes_over m (suc p) n (line 2 m (column p) 1 ∷ ls)) u) (append_assoc t b (part n (suc p) (body_of (joined d) m))) y.0, y.1)

  -- ---- the lines as given
  module _ (s : ℕ → ℕ) where
    given_apart : (ls : List Line) (t : List ℕ) → Cut (joined d) ls t → (m p : ℕ) → (Next ls (line 2 m p 1) → ⊥) → Next (as_given s ls) (line 2 m (column p) 1) → ⊥
    unfolding as_given
    given_apart [] t c m p h g = g
    given_apart (a ∷ ls) t c m p h g = go (eqb a.kind 2) refl g
      where
        go : (f : Bool) → eqb a.kind 2 ≡ f → Next (cond f (cut a.member a.offset a.size (as_given s ls)) (line a.kind a.member (given (s a.member) a.offset) a.size ∷ as_given s ls)) (line 2 m (column p) 1) → ⊥
        go false e g = eqb-false a.kind 2 e g.first
        go true e g =
            let k : a.kind ≡ 2 = eqb-true a.kind 2 e in
            let n : 1 ≤ a.size = (c.1.origin.stretch k).0 in
            let x : (a.member ≡ m) × (suc (a.offset + a.size - 1) ≡ p) = piece_next a.member (a.offset + a.size - 1) m p 1 (cut a.member a.offset a.size (as_given s ls)) (cut_piece a.member a.offset a.size (as_given s ls) n) g in
            h (record { first = k; second = refl; member = x.0; place = omega (arith, x.1) })

    pub given_cut : (ls : List Line) (t : List ℕ) → Cut (joined d) ls t → Cut d (as_given s ls) t × InRecords (as_given s ls)
    unfolding as_given
    given_cut [] t c = (c, tt)
    given_cut (l ∷ ls) t c = go (eqb l.kind 2) refl (given_cut ls c.0 c.2)
      where
        go : (f : Bool) → eqb l.kind 2 ≡ f → Cut d (as_given s ls) c.0 × InRecords (as_given s ls) → Cut d (cond f (cut l.member l.offset l.size (as_given s ls)) (line l.kind l.member (given (s l.member) l.offset) l.size ∷ as_given s ls)) t × InRecords (cond f (cut l.member l.offset l.size (as_given s ls)) (line l.kind l.member (given (s l.member) l.offset) l.size ∷ as_given s ls))
        go false e h =
            let o : Origin (joined d) l c.1.bytes = c.1.origin in
            let a : Line = line l.kind l.member (given (s l.member) l.offset) l.size in (
              subst (λ (u : List ℕ). Cut d (a ∷ as_given s ls) u) (sym c.1.joined) (own d a (as_given s ls) c.0 c.1.bytes (record { sized = o.sized; kinds = o.kinds; blank = o.blank; stretch = λ k. absurd (eqb-false l.kind 2 e k) }) (rw (count_joined d sound) at c.1.listed) (not_next d (as_given s ls) a (eqb-false l.kind 2 e)) h.0),
              (λ k. absurd (eqb-false l.kind 2 e k), h.1),
            )
        go true e h =
            let k : l.kind ≡ 2 = eqb-true l.kind 2 e in
            let o : (1 ≤ l.size) × (l.offset + l.size ≤ length (body_of (joined d) l.member)) × (c.1.bytes ≡ part l.size l.offset (body_of (joined d) l.member)) = c.1.origin.stretch k in
            let x : Cut d (cut l.member l.offset l.size (as_given s ls)) (c.0 ++ part l.size l.offset (body_of (joined d) l.member)) × InRecords (cut l.member l.offset l.size (as_given s ls)) =
            cut_cut l.member l.offset l.size (as_given s ls) c.0 (rw (count_joined d sound) at c.1.listed) o.0 o.1 (given_apart ls c.0 c.2 l.member l.offset λ g. c.1.longest (next_as d ls l 1 k g)) h.0 h.1 in
            (subst (λ (u : List ℕ). Cut d (cut l.member l.offset l.size (as_given s ls)) u) (sym (c.1.joined ∙ ap (λ (u : List ℕ). c.0 ++ u) o.2)) x.0, x.1)

-- DEMAND 3 AS GIVEN
none_given : (d : List ℕ) (n m p u : ℕ) → CutAsGiven d (record { number = n; member = m; offset = p; steps = u; text = []; lines = [] })
none_given d n m p u = record { partition = record { cut = refl; longest = tt }; records = tt }

pub as_given_lem : (d : List ℕ) → AsGiven d
unfolding expansion_of
as_given_lem d roomy t l s = when_has (CutAsGiven d) (is_sound mixed d) _ _ (λ e. go e (uneven 0 (Deck.lines d))) λ _. none_given d _ _ _ _
  where
    go : is_sound mixed d ≡ true → (f : Deck.Found) → CutAsGiven d (cards_in mixed f roomy d t l s)
    go e (Deck.line k) = none_given d _ _ _ _
    go e Deck.none =
        when_has (CutAsGiven d) roomy _ _
        (λ _.
        let x : Expansion = run_main mixed (enter 0 (read_member mixed (body_of (joined d) 0)) (world_for cards t l s)) (joined d) in
        let c : Cut d (as_given (size_in (joined d)) x.lines) x.text × InRecords (as_given (size_in (joined d)) x.lines) = given_cut d e (size_in (joined d)) x.lines x.text (run_cut (joined d) cards t l s (sound_parts (joined d) (sound_joined d e)).some) in
        record { partition = of_cut d (told (joined d) x) c.0; records = c.1 })
        λ _. none_given d _ _ _ _
