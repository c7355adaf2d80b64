-- A deck of 01's layout is looked at as 01 says, and INCLUDE is read as 01 says but for a `(` behind a name.
-- Assumes nothing.
use Prim.Native.Nat.{ℕ, zero, suc, ◌+◌, ◌≤◌}
use native.Mathlib.Omega.{arith}
use mathlib.Core.Bool.{Bool, true, false, false≢true}
use mathlib.Core.List.{List, [], ◌∷◌, ◌++◌}
use mathlib.Core.Path.{◌≡◌, refl, sym, ap, subst, ◌∙◌}
use borrow.Author.Tests.{lt-leb, ne_eqb, eqb-true}
use lib.Dec.{eqb}
use lib.ListN.{length}
use Rattle.definition.specs.declared.Why.TheVariants.{Syntax as syntax}
use Rattle.definition.specs.Bytes.{capitals}
use Rattle.definition.specs.Choice.{when}
use Rattle.definition.proofs.Folded.{folded_capitals}
use Rattle.definition.proofs.Joined.{padded_none}
use Rattle.definition.proofs.Keeping.{and_left}
use Rattle.definition.specs.Lists.{part, number, same}
use Rattle.definition.specs.Tokens as Tk
use Rattle.definition.specs.Tokens.{Token, is_sign, token_at}
use Rattle.definition.specs.Expressions.{Reading, read, refused, then, Named, name_at, expect_sign}
use Rattle.definition.specs.Deck as Deck
use Rattle.definition.specs.Deck.{Line, has_libraries, library_length, bare, in_library, none}
use Rattle.definition.specs.Program.{include}
use Rattle.definition.specs.Statements as St
use Rattle.promises.specs.FirstLayout as F
use Rattle.promises.specs.FirstLayout.{bare_all, named, ReadSo, alike, opened}

-- ---- the lines of a deck without libraries
module _ (d : List ℕ) (few : F.count d ≤ 256) where
  without : has_libraries d ≡ false
  unfolding has_libraries
  without = lt-leb 257 (F.count d) (omega arith)

  counted : Deck.count d ≡ F.count d
  unfolding Deck.count
  counted = rw without

  place : (k : ℕ) → Deck.line_place d k ≡ F.line_place k
  unfolding Deck.line_place
  place k = rw without

  none_long : library_length d ≡ 0
  unfolding library_length
  none_long = rw without

  line_stays : (k : ℕ) → Deck.line_at d k ≡ F.line_at d k
  unfolding Deck.line_at F.line_at
  line_stays k =
      let e : F.line_place k + 0 ≡ F.line_place k = omega arith in
      let f : F.line_place k + (0 + 8) ≡ F.line_place k + 8 = omega arith in
      let g : F.line_place k + (0 + (8 + 4)) ≡ F.line_place k + (8 + 4) = omega arith in
      rw (place k, none_long) (λ i. record { library = []; name = part 8 (e i) d; offset = number (part 4 (f i) d); size = number (part 4 (g i) d) })

  lines_from_lem : (k n : ℕ) → Deck.lines_from d k n ≡ F.lines_from d k n
  unfolding Deck.lines_from F.lines_from
  lines_from_lem k zero = refl
  lines_from_lem k (suc n) = λ i. line_stays k i ∷ lines_from_lem (suc k) n i

  lines_stay : Deck.lines d ≡ F.lines d
  lines_stay = rw counted (lines_from_lem 0 (F.count d))

  -- ---- what is asked of them
  named_stay : (k n : ℕ) → Deck.are_named capitals false (F.lines_from d k n) ≡ F.are_named (F.lines_from d k n)
  unfolding Deck.are_named F.are_named F.lines_from
  named_stay k zero = refl
  named_stay k (suc n) = rw (named_stay (suc k) n)

  repeated_stay : (j k n : ℕ) → Deck.is_repeated capitals (F.line_at d j) (F.lines_from d k n) ≡ F.is_repeated (F.line_at d j).name (F.lines_from d k n)
  unfolding Deck.is_repeated F.is_repeated F.lines_from F.line_at
  repeated_stay j k zero = refl
  repeated_stay j k (suc n) = rw (folded_capitals [], folded_capitals (part 8 (F.line_place k) d), folded_capitals (part 8 (F.line_place j) d), repeated_stay j (suc k) n)

  distinct_stay : (k n : ℕ) → Deck.are_distinct capitals (F.lines_from d k n) ≡ F.are_distinct (F.lines_from d k n)
  unfolding Deck.are_distinct F.are_distinct F.lines_from
  distinct_stay k zero = refl
  distinct_stay k (suc n) = rw (repeated_stay k (suc k) n, distinct_stay (suc k) n)

  sound_stays : Deck.is_sound capitals d ≡ F.is_sound d
  unfolding Deck.is_sound F.is_sound
  sound_stays = rw (counted, lines_from_lem 0 (F.count d), without, place (F.count d), named_stay 0 (F.count d), distinct_stay 0 (F.count d))

  -- ---- and how a member is found
  bare_stays : (w : List ℕ) (k i n : ℕ) → Deck.find capitals (bare w) k (F.lines_from d i n) ≡ F.find w k (F.lines_from d i n)
  unfolding Deck.find Deck.is_called F.find F.lines_from
  bare_stays w k i zero = refl
  bare_stays w k i (suc n) = rw (bare_stays w (suc k) (suc i) n)

  library_unmet : (l w : List ℕ) (k i n : ℕ) → Deck.find capitals (in_library l w) k (F.lines_from d i n) ≡ none
  unfolding Deck.find Deck.is_called F.lines_from F.line_at
  library_unmet l w k i zero = refl
  library_unmet l w k i (suc n) = rw (padded_none capitals l, library_unmet l w (suc k) (suc i) n)

pub deck_stays : F.DeckStays
deck_stays d few = record {
  sound = sound_stays d few;
  counted = counted d few;
  line = line_stays d few;
  lined = lines_stay d few;
  found = λ w. rw (lines_stay d few) (bare_stays d few w 0 0 (F.count d));
  unmet = λ l w. rw (lines_stay d few) (library_unmet d few l w 0 0 (F.count d));
}

-- ---- INCLUDE
bare_more : (xs : List (List ℕ)) (w : List ℕ) → bare_all (xs ++ w ∷ []) ≡ bare_all xs ++ bare w ∷ []
bare_more [] w = refl
bare_more (x ∷ xs) w = ap (λ (t : List Deck.Sought). bare x ∷ t) (bare_more xs w)

-- a `(` is neither a comma nor a semicolon
same_first : (x y : ℕ) (xs : List ℕ) → same xs (x ∷ []) ≡ true → (x ≡ y → ⊥) → same xs (y ∷ []) ≡ false
same_first x y [] h n = absurd (false≢true h)
same_first x y (z ∷ zs) h n = rw (ne_eqb z y (λ e. n (sym (eqb-true z x (and_left (eqb z x) (same zs []) h)) ∙ e)))

opens_only : (t : Token) → is_sign "(" t ≡ true → (is_sign "," t ≡ false) × (is_sign ";" t ≡ false)
opens_only (Tk.word w) h = absurd (false≢true h)
opens_only (Tk.integer w) h = absurd (false≢true h)
opens_only (Tk.string w) h = absurd (false≢true h)
opens_only (Tk.bits w) h = absurd (false≢true h)
opens_only (Tk.sign w) h = (same_first 40 44 w h (λ e. omega (arith, e)), same_first 40 59 w h (λ e. omega (arith, e)))
opens_only Tk.nothing h = absurd (false≢true h)
opens_only Tk.wrong h = absurd (false≢true h)

-- one turn of the two readers, behind the names xs; `again` has the turns that follow
module _ (s : List ℕ) (f : ℕ) (xs : List (List ℕ)) (again : (ys : List (List ℕ)) (at : ℕ) → ReadSo s (St.list_of capitals (St.each_member capitals) include s f (bare_all ys) at) (St.list_of capitals (St.each_name capitals) named s f ys at)) where
  abbrev next : Deck.Sought → ℕ → Reading St.Clause
  next x e = when (is_sign "," (token_at capitals s e).token) (λ _. St.list_of capitals (St.each_member capitals) include s f (bare_all xs ++ x ∷ []) (token_at capitals s e).to) (λ _. St.ended capitals s (include (bare_all xs ++ x ∷ [])) e)

  abbrev next_name : List ℕ → ℕ → Reading St.Clause
  next_name w e = when (is_sign "," (token_at capitals s e).token) (λ _. St.list_of capitals (St.each_name capitals) named s f (xs ++ w ∷ []) (token_at capitals s e).to) (λ _. St.ended capitals s (named (xs ++ w ∷ [])) e)

  abbrev item : Bool → Named → Reading St.Clause
  item b n = when b (λ _. then (name_at capitals s (token_at capitals s n.to).to) λ m. then (expect_sign capitals ")" s m.to) λ e. next (in_library n.spelling m.spelling) e) (λ _. next (bare n.spelling) n.to)

  bare_read : (w : List ℕ) (e : ℕ) (c : Bool) → ReadSo s (when c (λ _. St.list_of capitals (St.each_member capitals) include s f (bare_all xs ++ bare w ∷ []) (token_at capitals s e).to) (λ _. St.ended capitals s (include (bare_all xs ++ bare w ∷ [])) e))
      (when c (λ _. St.list_of capitals (St.each_name capitals) named s f (xs ++ w ∷ []) (token_at capitals s e).to) (λ _. St.ended capitals s (named (xs ++ w ∷ [])) e))
  bare_read w e true = subst (λ (t : List Deck.Sought). ReadSo s (St.list_of capitals (St.each_member capitals) include s f t (token_at capitals s e).to) (St.list_of capitals (St.each_name capitals) named s f (xs ++ w ∷ []) (token_at capitals s e).to)) (bare_more xs w) (again (xs ++ w ∷ []) (token_at capitals s e).to)
  bare_read w e false = subst (λ (t : List Deck.Sought). ReadSo s (St.ended capitals s (include t) e) (St.ended capitals s (named (xs ++ w ∷ [])) e)) (bare_more xs w) alike

  refused_there : (w : List ℕ) (e : ℕ) → is_sign "(" (token_at capitals s e).token ≡ true → next_name w e ≡ refused syntax (token_at capitals s e).from
  unfolding St.ended expect_sign
  refused_there w e h = rw ((opens_only (token_at capitals s e).token h).0, (opens_only (token_at capitals s e).token h).1)

  item_read : (n : Named) (b : Bool) → is_sign "(" (token_at capitals s n.to).token ≡ b → ReadSo s (item b n) (next_name n.spelling n.to)
  item_read n true e = subst (λ (r : Reading St.Clause). ReadSo s (item true n) r) (sym (refused_there n.spelling n.to e)) (opened n.to e)
  item_read n false e = bare_read n.spelling n.to (is_sign "," (token_at capitals s n.to).token)

  turn_read : (R : Reading Named) → ReadSo s (then R λ n. item (is_sign "(" (token_at capitals s n.to).token) n) (then R λ n. next_name n.spelling n.to)
  turn_read (read n) = item_read n (is_sign "(" (token_at capitals s n.to).token) refl
  turn_read (refused w p) = alike

reads : (s : List ℕ) (f : ℕ) (xs : List (List ℕ)) (at : ℕ) → ReadSo s (St.list_of capitals (St.each_member capitals) include s f (bare_all xs) at) (St.list_of capitals (St.each_name capitals) named s f xs at)
unfolding St.list_of
reads s zero xs at = alike
reads s (suc f) xs at = turn_read s f xs (reads s f) (name_at capitals s at)

pub include_stays : F.IncludeStays
unfolding St.include_clause F.include_clause
include_stays s at = reads s (length s) [] at
