-- The rows that the room stands for, under each write of the table.
-- Assumes nothing.
use Rattle.std.proofs.Common.{Some}
use mathlib.Core.Path.{◌≡◌, refl, sym, ap, ◌∙◌}
use mathlib.Core.Bool.{Bool, true, false}
use mathlib.Core.List.{List, [], ◌∷◌, ◌++◌}
use Prim.Native.Nat.{ℕ, zero, suc, ◌+◌, ◌*◌, ◌<◌, ◌≤◌}
use native.Mathlib.Omega.{arith}
use native.Mathlib.Nat.{add-zero}
use borrow.Author.Tests.{ltb-true, ltb-false}
use lib.Dec.{ltb, lit<}
use lib.ListN.{length, get_or}
use Rattle.definition.specs.Room.{over}
use Rattle.definition.proofs.Rooms.{length_over, get_d_over_at, get_d_over_low, get_d_over_high}
use Rattle.definition.specs.Program as P
use Rattle.definition.specs.Reading as D
use Rattle.rows.specs.declared.Stretch.{Stretch}
use Rattle.rows.specs.declared.Statement.{Statement}
use Rattle.rows.specs.declared.Row.{Row}
use Rattle.rows.specs.Tabled.{kind_of}
use Rattle.rows.specs.Table.{link_number, stretch_numbers, numbers_of, statement_in, row_in}
use Rattle.types.specs.Kept.{type_in}
use Rattle.rows.proofs.Laws.{kept, Links, row_back, row_other}
use Rattle.statements.specs.Clauses as Cl
use Rattle.statements.specs.Again.{statement_at}
use Rattle.openings.specs.declared.Opened.{Opened}
use Rattle.reading.specs.State.{stretch_of, row_of, rows_from, RoomFor, Alike, Typed, Marks}

-- a room of the same size holds as many
pub room_as : (e f : ℕ) (t u : List ℕ) → f ≡ e → length u ≡ length t → RoomFor e t → RoomFor f u
room_as e f t u he hu h n a b = omega (arith, h n a (omega (arith, he, b)), hu)

-- ---- lists of rows by number
module _ (s t u : List ℕ) where
  pub rows_kept : (a n : ℕ) → ((i : ℕ) → i < a + n → row_in u i ≡ row_in t i) → rows_from s u a n ≡ rows_from s t a n
  unfolding rows_from
  rows_kept a zero f = refl
  rows_kept a (suc n) f = rw (f a (omega arith), rows_kept (suc a) n (λ i l. f i (omega arith)))

  pub rows_changed : (g : P.Row → P.Row) (k a n : ℕ) → k < n → ((i : ℕ) → (a + k ≡ i → ⊥) → row_in u i ≡ row_in t i)
      → row_of s (row_in u (a + k)) ≡ g (row_of s (row_in t (a + k))) → rows_from s u a n ≡ D.change k g (rows_from s t a n)
  unfolding rows_from D.change
  rows_changed g k a zero l f e = absurd (omega arith)
  rows_changed g zero a (suc n) l f e =
      let h : row_of s (row_in u a) ≡ g (row_of s (row_in t a)) = rw add-zero at e in
      rw (h, behind a n (λ i q. f i (λ z. omega arith)))
    where
      behind : (b m : ℕ) → ((i : ℕ) → b < i → row_in u i ≡ row_in t i) → rows_from s u (suc b) m ≡ rows_from s t (suc b) m
      behind b zero p = refl
      behind b (suc m) p = rw (p (suc b) (omega arith), behind (suc b) m (λ i q. p i (omega arith)))
  rows_changed g (suc k) a (suc n) l f e =
      let c : a + suc k ≡ suc a + k = omega arith in
      rw (f a (λ z. omega arith), rows_changed g k (suc a) n (omega arith) (λ i q. f i (λ z. q (omega arith))) (rw c at e))

pub rows_more : (s t : List ℕ) (a n : ℕ) → rows_from s t a (suc n) ≡ rows_from s t a n ++ row_of s (row_in t (a + n)) ∷ []
unfolding rows_from
rows_more s t a zero = rw add-zero
rows_more s t a (suc n) =
    let c : a + suc n ≡ suc a + n = omega arith in
    ap (λ (x : List P.Row). row_of s (row_in t a) ∷ x) (rw c (rows_more s t (suc a) n))

pub rows_length : (s t : List ℕ) (a n : ℕ) → length (rows_from s t a n) ≡ n
unfolding rows_from
rows_length s t a zero = refl
rows_length s t a (suc n) = ap suc (rows_length s t (suc a) n)

-- ---- a new row
module _ (t : List ℕ) (n : ℕ) (x : Row) where
  pub before_kept : (s : List ℕ) → rows_from s (over t (16 * n) (numbers_of x)) 0 n ≡ rows_from s t 0 n
  before_kept s =
      rows_kept s t (over t (16 * n) (numbers_of x)) 0 n
      (λ i l. rw add-zero at (row_other t (numbers_of x) n i 0 (λ z. omega arith) (omega arith)))

-- ---- a row of which a part is written
module _ (t : List ℕ) (k : ℕ) where
  module _ (j : ℕ) (xs : List ℕ) where
    before : (i : ℕ) → i < j → get_or (over t (16 * k + j) xs) (16 * k + i) 0 ≡ get_or t (16 * k + i) 0
    before i h = get_d_over_low t (16 * k + j) (16 * k + i) xs (omega arith)

    after : (i : ℕ) → j + length xs ≤ i → get_or (over t (16 * k + j) xs) (16 * k + i) 0 ≡ get_or t (16 * k + i) 0
    after i h = get_d_over_high t (16 * k + j) (16 * k + i) xs (omega arith)

  here : (j a : ℕ) (xs : List ℕ) → 16 * k + j < length t → get_or (over t (16 * k + j) (a ∷ xs)) (16 * k + j) 0 ≡ a
  here j a xs h = rw add-zero at (get_d_over_at t (16 * k + j) 0 (a ∷ xs) (omega arith) (omega arith))

  second : (j a b : ℕ) → 16 * k + j + 1 < length t → get_or (over t (16 * k + j) (a ∷ b ∷ [])) (16 * k + (j + 1)) 0 ≡ b
  second j a b h =
      let e : 16 * k + j + 1 ≡ 16 * k + (j + 1) = omega arith in
      rw e at (get_d_over_at t (16 * k + j) 1 (a ∷ b ∷ []) (lit< tt) h)

  module _ (s : List ℕ) (n : ℕ) (l : k < n) (w : 16 * n ≤ length t) where
    -- the rows are those, with a change of row k
    changed : (j : ℕ) (xs : List ℕ) (g : P.Row → P.Row) → j + length xs ≤ 16
        → row_of s (row_in (over t (16 * k + j) xs) k) ≡ g (row_of s (row_in t k)) → rows_from s (over t (16 * k + j) xs) 0 n ≡ D.change k g (rows_from s t 0 n)
    changed j xs g q e =
        rows_changed s t (over t (16 * k + j) xs) g k 0 n l
        (λ i z. row_other t xs k i j (λ y. z (omega arith)) q)
        (let o : 0 + k ≡ k = omega arith in rw o e)

    pub next_set : (m : ℕ) → m < 65535 → rows_from s (over t (16 * k + 7) (link_number (Some m) ∷ [])) 0 n ≡ D.change k (D.set_next m) (rows_from s t 0 n)
    unfolding row_of row_in
    next_set m h = changed 7 (link_number (Some m) ∷ []) (D.set_next m) (omega arith) there
      where
        there : row_of s (row_in (over t (16 * k + 7) (link_number (Some m) ∷ [])) k) ≡ D.set_next m (row_of s (row_in t k))
        there = rw (
          before 7 (link_number (Some m) ∷ []) 0 (lit< tt),
          before 7 (link_number (Some m) ∷ []) 1 (lit< tt),
          before 7 (link_number (Some m) ∷ []) 2 (lit< tt),
          before 7 (link_number (Some m) ∷ []) 5 (lit< tt),
          before 7 (link_number (Some m) ∷ []) 6 (lit< tt),
          here 7 (link_number (Some m)) [] (omega arith),
          after 7 (link_number (Some m) ∷ []) 8 (omega arith),
          after 7 (link_number (Some m) ∷ []) 9 (omega arith),
          after 7 (link_number (Some m) ∷ []) 10 (omega arith),
          after 7 (link_number (Some m) ∷ []) 11 (omega arith),
          after 7 (link_number (Some m) ∷ []) 12 (omega arith),
          after 7 (link_number (Some m) ∷ []) 13 (omega arith),
          kept m h,
        )

    pub child_set : (m : ℕ) → m < 65535 → rows_from s (over t (16 * k + 8) (link_number (Some m) ∷ [])) 0 n ≡ D.change k (D.set_child m) (rows_from s t 0 n)
    unfolding row_of row_in
    child_set m h = changed 8 (link_number (Some m) ∷ []) (D.set_child m) (omega arith) there
      where
        there : row_of s (row_in (over t (16 * k + 8) (link_number (Some m) ∷ [])) k) ≡ D.set_child m (row_of s (row_in t k))
        there = rw (
          before 8 (link_number (Some m) ∷ []) 0 (lit< tt),
          before 8 (link_number (Some m) ∷ []) 1 (lit< tt),
          before 8 (link_number (Some m) ∷ []) 2 (lit< tt),
          before 8 (link_number (Some m) ∷ []) 5 (lit< tt),
          before 8 (link_number (Some m) ∷ []) 6 (lit< tt),
          before 8 (link_number (Some m) ∷ []) 7 (lit< tt),
          here 8 (link_number (Some m)) [] (omega arith),
          after 8 (link_number (Some m) ∷ []) 9 (omega arith),
          after 8 (link_number (Some m) ∷ []) 10 (omega arith),
          after 8 (link_number (Some m) ∷ []) 11 (omega arith),
          after 8 (link_number (Some m) ∷ []) 12 (omega arith),
          after 8 (link_number (Some m) ∷ []) 13 (omega arith),
          kept m h,
        )

    pub other_set : (m : ℕ) → m < 65535 → rows_from s (over t (16 * k + 9) (link_number (Some m) ∷ [])) 0 n ≡ D.change k (D.set_other m) (rows_from s t 0 n)
    unfolding row_of row_in
    other_set m h = changed 9 (link_number (Some m) ∷ []) (D.set_other m) (omega arith) there
      where
        there : row_of s (row_in (over t (16 * k + 9) (link_number (Some m) ∷ [])) k) ≡ D.set_other m (row_of s (row_in t k))
        there = rw (
          before 9 (link_number (Some m) ∷ []) 0 (lit< tt),
          before 9 (link_number (Some m) ∷ []) 1 (lit< tt),
          before 9 (link_number (Some m) ∷ []) 2 (lit< tt),
          before 9 (link_number (Some m) ∷ []) 5 (lit< tt),
          before 9 (link_number (Some m) ∷ []) 6 (lit< tt),
          before 9 (link_number (Some m) ∷ []) 7 (lit< tt),
          before 9 (link_number (Some m) ∷ []) 8 (lit< tt),
          here 9 (link_number (Some m)) [] (omega arith),
          after 9 (link_number (Some m) ∷ []) 10 (omega arith),
          after 9 (link_number (Some m) ∷ []) 11 (omega arith),
          after 9 (link_number (Some m) ∷ []) 12 (omega arith),
          after 9 (link_number (Some m) ∷ []) 13 (omega arith),
          kept m h,
        )

    pub lead_set : (x : Stretch) → rows_from s (over t (16 * k + 10) (stretch_numbers x)) 0 n ≡ D.change k (D.set_lead (stretch_of x)) (rows_from s t 0 n)
    unfolding row_of row_in
    lead_set x = changed 10 (stretch_numbers x) (D.set_lead (stretch_of x)) (omega arith) there
      where
        there : row_of s (row_in (over t (16 * k + 10) (stretch_numbers x)) k) ≡ D.set_lead (stretch_of x) (row_of s (row_in t k))
        there = rw (
          before 10 (stretch_numbers x) 0 (lit< tt),
          before 10 (stretch_numbers x) 1 (lit< tt),
          before 10 (stretch_numbers x) 2 (lit< tt),
          before 10 (stretch_numbers x) 5 (lit< tt),
          before 10 (stretch_numbers x) 6 (lit< tt),
          before 10 (stretch_numbers x) 7 (lit< tt),
          before 10 (stretch_numbers x) 8 (lit< tt),
          before 10 (stretch_numbers x) 9 (lit< tt),
          here 10 x.from (x.to ∷ []) (omega arith),
          second 10 x.from x.to (omega arith),
          after 10 (stretch_numbers x) 12 (omega arith),
          after 10 (stretch_numbers x) 13 (omega arith),
        )

    pub text_set : (x : Stretch) → rows_from s (over t (16 * k + 12) (stretch_numbers x)) 0 n ≡ D.change k (D.set_text (stretch_of x)) (rows_from s t 0 n)
    unfolding row_of row_in
    text_set x = changed 12 (stretch_numbers x) (D.set_text (stretch_of x)) (omega arith) there
      where
        there : row_of s (row_in (over t (16 * k + 12) (stretch_numbers x)) k) ≡ D.set_text (stretch_of x) (row_of s (row_in t k))
        there = rw (
          before 12 (stretch_numbers x) 0 (lit< tt),
          before 12 (stretch_numbers x) 1 (lit< tt),
          before 12 (stretch_numbers x) 2 (lit< tt),
          before 12 (stretch_numbers x) 5 (lit< tt),
          before 12 (stretch_numbers x) 6 (lit< tt),
          before 12 (stretch_numbers x) 7 (lit< tt),
          before 12 (stretch_numbers x) 8 (lit< tt),
          before 12 (stretch_numbers x) 9 (lit< tt),
          before 12 (stretch_numbers x) 10 (lit< tt),
          before 12 (stretch_numbers x) 11 (lit< tt),
          here 12 x.from (x.to ∷ []) (omega arith),
          second 12 x.from x.to (omega arith),
        )

-- ---- depth and type: a link or a text that is written leaves them as they were, of every row
pub alike_self : (x : Row) → Alike x x
alike_self x = record { statement = refl; content = refl; type = refl; depth = refl }

pub alike_then : (x y z : Row) → Alike x y → Alike y z → Alike x z
alike_then x y z a b = record { statement = a.statement ∙ b.statement; content = a.content ∙ b.content; type = a.type ∙ b.type; depth = a.depth ∙ b.depth }

pub alike_over : (t xs : List ℕ) (k j i : ℕ) → 5 ≤ j → j + length xs ≤ 16 → Alike (row_in (over t (16 * k + j) xs) i) (row_in t i)
unfolding row_in
alike_over t xs k j i l w = record { statement = ap statement_in (cell 0 (lit< tt)); content = cell 2 (lit< tt); type = ap type_in (cell 3 (lit< tt)); depth = cell 4 (lit< tt) }
  where
    by : (g : Bool) → ltb k i ≡ g → (c : ℕ) → c < 5 → get_or (over t (16 * k + j) xs) (16 * i + c) 0 ≡ get_or t (16 * i + c) 0
    by true e c q = let z : k < i = ltb-true k i e in get_d_over_high t (16 * k + j) (16 * i + c) xs (omega arith)
    by false e c q = let z : i ≤ k = ltb-false k i e in get_d_over_low t (16 * k + j) (16 * i + c) xs (omega arith)

    cell : (c : ℕ) → c < 5 → get_or (over t (16 * k + j) xs) (16 * i + c) 0 ≡ get_or t (16 * i + c) 0
    cell = by (ltb k i) refl

pub typed_alike : (s : List ℕ) (a b : Row) → Alike a b → Typed s b → Typed s a
typed_alike s a b h e =
    let same : statement_at s a.statement a.content ≡ statement_at s b.statement b.content = ap (λ (z : Statement). statement_at s z a.content) h.statement ∙ ap (statement_at s b.statement) h.content in
    record { kind = h.statement ∙ e.kind ∙ ap kind_of (sym same); type = h.type ∙ e.type ∙ ap Cl.type_in (sym same) }

-- so of a turn that adds no row
pub marks_none : (s t : List ℕ) (k : ℕ) (o : Opened) (n : ℕ) → n ≤ k → Marks s t k o t n
marks_none s t k o n l = record { kept = λ i h. alike_self (row_in t i); depth = λ i h q. absurd (omega arith); type = λ i h q. absurd (omega arith) }

-- and of one after a text
pub marks_after : (s t u : List ℕ) (k : ℕ) (o : Opened) (t' : List ℕ) (n : ℕ) → ((i : ℕ) → Alike (row_in u i) (row_in t i)) → Marks s u k o t' n → Marks s t k o t' n
marks_after s t u k o t' n a m = record { kept = λ i h. alike_then (row_in t' i) (row_in u i) (row_in t i) (m.kept i h) (a i); depth = m.depth; type = m.type }

-- ---- a new row n in the room t, and then a link of row k to it
module _ (s t u : List ℕ) (n : ℕ) (x : Row) (hu : u ≡ over t (16 * n) (numbers_of x)) (ls : Links x) (w : 16 * (n + 1) ≤ length t) where
  pub row_size : length u ≡ length t
  row_size = rw hu (length_over t (16 * n) (numbers_of x))

  pub row_there : row_in u n ≡ x
  row_there = rw hu (row_back t n x ls (omega arith))

  pub row_added : rows_from s u 0 (suc n) ≡ rows_from s t 0 n ++ row_of s x ∷ []
  row_added = let o : 0 + n ≡ n = omega arith in rows_more s u 0 n ∙ rw (o, row_there, hu, before_kept t n x s)

  pub row_linked : (v xs : List ℕ) (j k : ℕ) (g : P.Row → P.Row) → k < n → j + length xs ≤ 16 → v ≡ over u (16 * k + j) xs → rows_from s v 0 n ≡ D.change k g (rows_from s u 0 n)
      → rows_from s v 0 (suc n) ≡ D.change k g (rows_from s t 0 n) ++ row_of s x ∷ []
  row_linked v xs j k g l q hv e =
      let f : row_in v n ≡ row_in u n = rw hv (row_other u xs k n j (λ z. omega arith) q) in
      let b : rows_from s u 0 n ≡ rows_from s t 0 n = rw hu (before_kept t n x s) in
      let o : 0 + n ≡ n = omega arith in
      rows_more s v 0 n ∙ rw (o, f, row_there, e, b)
