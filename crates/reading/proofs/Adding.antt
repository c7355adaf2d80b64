-- A new row: its links, and the state that it makes; and the state under a text. One law for each way out.
-- Assumes nothing.
use Rattle.std.proofs.Common.{Option, Some, None}
use mathlib.Core.Path.{◌≡◌, refl, sym, ap, subst, ◌∙◌}
use mathlib.Core.Logic.{◌⊎◌, inl, inr}
use mathlib.Core.List.{List, [], ◌∷◌, ◌++◌}
use Prim.Native.Nat.{ℕ, zero, suc, ◌+◌, ◌*◌, ◌%◌, ◌<◌, ◌≤◌}
use native.Mathlib.Omega.{arith}
use native.Mathlib.Nat.{mod-eq_of_lt, add-zero}
use lib.ListN.{length}
use Rattle.definition.specs.Room.{over}
use Rattle.definition.proofs.Rooms.{length_over}
use Rattle.definition.specs.Program as P
use Rattle.definition.specs.Reading as D
use Rattle.rows.specs.declared.Role.{Role}
use Rattle.rows.specs.declared.Stretch.{Stretch}
use Rattle.rows.specs.declared.Row.{Row}
use Rattle.rows.specs.Table.{link_number, stretch_numbers, numbers_of, row_in}
use Rattle.rows.proofs.Laws.{Kept, kept, Links, row_other}
use Rattle.names.specs.declared.Owner.{Owner}
use Rattle.names.specs.declared.Owner.TheVariants.{Everyone}
use Rattle.statements.specs.declared.Clause.{Clause}
use Rattle.statements.specs.Clauses.{scope_of}
use Rattle.statements.specs.Again.{statement_at}
use Rattle.openings.specs.declared.Where.{Where}
use Rattle.openings.specs.declared.Where.TheVariants as Wh
use Rattle.openings.specs.declared.Open.{Open}
use Rattle.openings.specs.declared.Opened.{Opened}
use Rattle.openings.specs.Open.{link_of, role_of, where_of, last_of, open_of, open_from, opened_of, top_in, rest_of, last_by, last_in, AtLast, parent_in, role_in, first_in, linked_in, Deep}
use Rattle.openings.proofs.Stacked.{opened_size}
use Rattle.reading.specs.declared.State.{State}
use Rattle.reading.specs.declared.Mode.TheVariants as Md
use Rattle.reading.specs.State.{row_of, rows_from, state_of, mode_of, Within, Inside, Low, Around, Stand, After, stretch_at, Alike, Tells, Typed, Marks, link_at, link_last, link_in, Adds, Leads}
use Rattle.reading.proofs.Rows.{rows_length, row_size, row_added, row_linked, row_there, next_set, child_set, other_set, lead_set, alike_self, alike_over, typed_alike}

-- ---- leaves
pub stretch_is : (a b x y : ℕ) → x ≡ a % 65536 → y ≡ b % 65536 → ◌≡◌ {A = Stretch} (record { from = x; to = y }) (stretch_at a b)
stretch_is a b x y e f = rw (e, f)

pub behind_everyone : (k : Owner) (n : ℕ) → k ≡ Everyone → mode_of (Md.Behind n) ≡ D.behind (scope_of k) n
behind_everyone k n e = rw e

-- ---- the link to a new row
module _ (o : Open) (t u : List ℕ) (n : ℕ) where
  pub listed_first : o.last ≡ None → u ≡ over t (16 * o.row + 8) (link_number (Some n) ∷ []) → u ≡ link_last o.last t n (link_at t o.row 8 n)
  listed_first e f = rw e f

  pub listed_next : (l : ℕ) → o.last ≡ Some l → u ≡ over t (16 * l + 7) (link_number (Some n) ∷ []) → u ≡ link_last o.last t n (link_at t o.row 8 n)
  listed_next l e f = rw e f

  pub program_next : (l : ℕ) → o.last ≡ Some l → u ≡ over t (16 * l + 7) (link_number (Some n) ∷ []) → u ≡ link_last o.last t n t
  program_next l e f = rw e f

  pub link_program : o.kind ≡ Wh.InProgram → u ≡ link_last o.last t n t → u ≡ link_in o.kind t o n
  link_program e f = rw e f

  pub link_list : (o.kind ≡ Wh.InGroup) ⊎ (o.kind ≡ Wh.InBody) → u ≡ link_last o.last t n (link_at t o.row 8 n) → u ≡ link_in o.kind t o n
  link_list (inl e) f = rw e f
  link_list (inr e) f = rw e f

  pub link_then : o.kind ≡ Wh.InThen → u ≡ over t (16 * o.row + 8) (link_number (Some n) ∷ []) → u ≡ link_in o.kind t o n
  link_then e f = rw e f

  pub link_else : o.kind ≡ Wh.InElse → u ≡ over t (16 * o.row + 9) (link_number (Some n) ∷ []) → u ≡ link_in o.kind t o n
  link_else e f = rw e f

-- ---- the rows: one more, to which a link leads
module _ (s t u : List ℕ) (n : ℕ) (x : Row) (hu : u ≡ over t (16 * n) (numbers_of x)) (ls : Links x) (small : n < 1024) (w : 16 * suc n ≤ length t) where
  room : 16 * (n + 1) ≤ length t
  room = omega (arith, w)

  after_room : 16 * n ≤ length u
  after_room = omega (arith, row_size s t u n x hu ls room)

  first_row : (v : List ℕ) → v ≡ u → rows_from s v 0 (suc n) ≡ rows_from s t 0 n ++ row_of s x ∷ []
  first_row v e = rw e (row_added s t u n x hu ls room)

  by_next : (v : List ℕ) (l : ℕ) → l < n → v ≡ link_at u l 7 n → rows_from s v 0 (suc n) ≡ D.change l (D.set_next n) (rows_from s t 0 n) ++ row_of s x ∷ []
  by_next v l h e =
      row_linked s t u n x hu ls room v (link_number (Some n) ∷ []) 7 l (D.set_next n) h (omega arith) e
      (rw e (next_set u l s n h after_room n (omega arith)))

  by_child : (v : List ℕ) (r : ℕ) → r < n → v ≡ link_at u r 8 n → rows_from s v 0 (suc n) ≡ D.change r (D.set_child n) (rows_from s t 0 n) ++ row_of s x ∷ []
  by_child v r h e =
      row_linked s t u n x hu ls room v (link_number (Some n) ∷ []) 8 r (D.set_child n) h (omega arith) e
      (rw e (child_set u r s n h after_room n (omega arith)))

  by_other : (v : List ℕ) (r : ℕ) → r < n → v ≡ link_at u r 9 n → rows_from s v 0 (suc n) ≡ D.change r (D.set_other n) (rows_from s t 0 n) ++ row_of s x ∷ []
  by_other v r h e =
      row_linked s t u n x hu ls room v (link_number (Some n) ∷ []) 9 r (D.set_other n) h (omega arith) e
      (rw e (other_set u r s n h after_room n (omega arith)))

  rows_by : (v : List ℕ) (k : Where) (r : ℕ) (l : Option ℕ) (at : ℕ) → v ≡ link_in k u (record { kind = k; row = r; last = l; labels = at }) n
      → Inside (where_of k) r n → Within (last_of k l) n
      → rows_from s v 0 (suc n) ≡ linked_in (where_of k) (open_of s (record { kind = k; row = r; last = l; labels = at })) n (rows_from s t 0 n) ++ row_of s x ∷ []
  unfolding open_of
  rows_by v Wh.InProgram r None at e h q = first_row v e
  rows_by v Wh.InProgram r (Some l) at e h q = by_next v l q e
  rows_by v Wh.InGroup r None at e h q = by_child v r h e
  rows_by v Wh.InGroup r (Some l) at e h q = by_next v l q e
  rows_by v Wh.InBody r None at e h q = by_child v r h e
  rows_by v Wh.InBody r (Some l) at e h q = by_next v l q e
  rows_by v Wh.InThen r l at e h q = by_child v r h e
  rows_by v Wh.InElse r l at e h q = by_other v r h e

-- a parent's number is kept
parent_kept : (k : Where) (r n : ℕ) (l : Option ℕ) → link_of l ≡ parent_in (where_of k) r → Inside (where_of k) r n → n < 1024 → Kept l
parent_kept k r n None e h q = refl
parent_kept Wh.InProgram r n (Some m) e h q = let z : ◌≡◌ {A = ℕ} 0 1 = cc in absurd (omega arith)
parent_kept Wh.InGroup r n (Some m) e h q = let z : m ≡ r = cc in kept m (omega arith)
parent_kept Wh.InBody r n (Some m) e h q = let z : m ≡ r = cc in kept m (omega arith)
parent_kept Wh.InThen r n (Some m) e h q = let z : m ≡ r = cc in kept m (omega arith)
parent_kept Wh.InElse r n (Some m) e h q = let z : m ≡ r = cc in kept m (omega arith)

-- ---- the state: what the definition adds, by what is open
pub add_in_lem : (w : D.Where) (o : D.Open) (os : List D.Open) (y : P.Statement) (p n : ℕ) (st : D.State) → length st.rows ≡ n
    → D.add_in w o os y p st ≡ D.grown st (first_in w st.first o.last n) (linked_in w o n st.rows ++ D.new_row y p (parent_in w o.row) (role_in w) ∷ []) (last_by w o n ∷ os)
add_in_lem D.in_program o os y p n st e = rw e
add_in_lem D.in_group o os y p n st e = rw e
add_in_lem D.in_body o os y p n st e = rw e
add_in_lem D.in_then o os y p n st e = rw e
add_in_lem D.in_else o os y p n st e = rw e

grown_same : (st : D.State) (f g : P.Link) (rs qs : List P.Row) (os ps : List D.Open) → f ≡ g → rs ≡ qs → os ≡ ps → D.grown st f rs os ≡ D.grown st g qs ps
grown_same st f g rs qs os ps a b c = rw (a, b, c)

-- the innermost of what is open, and the rest
top_by : (s : List ℕ) (os : List Open) (n : ℕ) → 0 < n → open_from s os n ≡ open_of s (top_in os n) ∷ rest_of (open_from s os n)
unfolding open_from
top_by s os zero h = absurd (omega arith)
top_by s os (suc n) h = refl

pub opened_top : (s : List ℕ) (o : Opened) (x : Open) → x ≡ top_in o.items o.count → 0 < o.count → opened_of s o ≡ open_of s x ∷ rest_of (opened_of s o)
unfolding opened_of
opened_top s o x e h = rw e (top_by s o.items o.count h)

pub stand_top : (n : ℕ) (L : List D.Open) (o : D.Open) (os : List D.Open) → Stand n L → L ≡ o ∷ os → Low n o
stand_top n L o os h e = (subst (λ (z : List D.Open). Stand n z) e h).0

-- ---- one more row: what is open leads below it
inside_more : (w : D.Where) (k n : ℕ) → Inside w k n → Inside w k (suc n)
inside_more D.in_program k n h = tt
inside_more D.in_group k n h = omega (arith, h)
inside_more D.in_body k n h = omega (arith, h)
inside_more D.in_then k n h = omega (arith, h)
inside_more D.in_else k n h = omega (arith, h)

within_more : (l : P.Link) (n : ℕ) → Within l n → Within l (suc n)
within_more P.nowhere n h = tt
within_more (P.row k) n h = omega (arith, h)

low_more : (n : ℕ) (o : D.Open) → Low n o → Low (suc n) o
low_more n o h = record { row = inside_more o.kind o.row n h.row; last = within_more o.last n h.last }

around_more : (w : D.Where) (A B : Type 0) → (A → B) → Around w A → Around w B
around_more D.in_program A B f h = tt
around_more D.in_group A B f h = f h
around_more D.in_body A B f h = f h
around_more D.in_then A B f h = f h
around_more D.in_else A B f h = f h

stand_more : (n : ℕ) (L : List D.Open) → Stand n L → Stand (suc n) L
stand_more n [] h = h
stand_more n (o ∷ os) h = (low_more n o h.0, around_more o.kind (Stand n os) (Stand (suc n) os) (stand_more n os) h.1)

pub stand_last : (w : D.Where) (k : ℕ) (l : P.Link) (bs : List (List ℕ)) (os : List D.Open) (n : ℕ) → Stand n (record { kind = w; row = k; last = l; labels = bs } ∷ os)
    → Stand (suc n) (last_by w (record { kind = w; row = k; last = l; labels = bs }) n ∷ os)
stand_last D.in_program k l bs os n h = (record { row = tt; last = omega arith }, tt)
stand_last D.in_group k l bs os n h = (record { row = omega (arith, h.0.row); last = omega arith }, stand_more n os h.1)
stand_last D.in_body k l bs os n h = (record { row = omega (arith, h.0.row); last = omega arith }, stand_more n os h.1)
stand_last D.in_then k l bs os n h = stand_more n (record { kind = D.in_then; row = k; last = l; labels = bs } ∷ os) h
stand_last D.in_else k l bs os n h = stand_more n (record { kind = D.in_else; row = k; last = l; labels = bs } ∷ os) h

-- ---- THE NEW ROW
abbrev row_from : Clause → ℕ → ℕ → ℕ → Option ℕ → Role → Stretch → Stretch → Row
row_from c p e d par ro a b = record { statement = c.statement; place = p; content = e; value_type = c.value_type; depth = d; parent = par; role = ro; next = None; child = None; other = None; lead = a; text = b }

new_row_lem : (s : List ℕ) (c : Clause) (p q e d : ℕ) (par : Option ℕ) (ro : Role) (a b : Stretch) (w : D.Where) (r : ℕ) → q ≡ p % 65536 → e ≡ c.content % 65536 → p < 65536 → c.content < 65536
    → link_of par ≡ parent_in w r → role_of ro ≡ role_in w → a ≡ stretch_at 0 0 → b ≡ stretch_at 0 0
    → row_of s (row_from c q e d par ro a b) ≡ D.new_row (statement_at s c.statement c.content) p (parent_in w r) (role_in w)
unfolding row_of
new_row_lem s c p q e d par ro a b w r hq he lp lc hp hr ha hb =
    let i : q ≡ p = hq ∙ mod-eq_of_lt lp in
    let j : e ≡ c.content = he ∙ mod-eq_of_lt lc in
    rw (i, j, hp, hr, ha, hb)

link_size : (k : Where) (t : List ℕ) (r : ℕ) (l : Option ℕ) (at n : ℕ) → length (link_in k t (record { kind = k; row = r; last = l; labels = at }) n) ≡ length t
link_size Wh.InProgram t r None at n = refl
link_size Wh.InProgram t r (Some l) at n = length_over t (16 * l + 7) (link_number (Some n) ∷ [])
link_size Wh.InGroup t r None at n = length_over t (16 * r + 8) (link_number (Some n) ∷ [])
link_size Wh.InGroup t r (Some l) at n = length_over t (16 * l + 7) (link_number (Some n) ∷ [])
link_size Wh.InBody t r None at n = length_over t (16 * r + 8) (link_number (Some n) ∷ [])
link_size Wh.InBody t r (Some l) at n = length_over t (16 * l + 7) (link_number (Some n) ∷ [])
link_size Wh.InThen t r l at n = length_over t (16 * r + 8) (link_number (Some n) ∷ [])
link_size Wh.InElse t r l at n = length_over t (16 * r + 9) (link_number (Some n) ∷ [])

parent_low : (s : List ℕ) (o : Open) (par : Option ℕ) (n : ℕ) → link_of par ≡ parent_in (where_of o.kind) o.row → Low n (open_of s o) → n < 1024 → Kept par
unfolding open_of
parent_low s o par n e h q = parent_kept o.kind o.row n par e h.row q

-- the rows with it
added_rows : (s t u v : List ℕ) (n m : ℕ) (x : Row) (o : Open) (y : P.Row) → n < 1024 → 16 * suc n ≤ length t → m ≡ suc n → u ≡ over t (16 * n) (numbers_of x) → Kept x.parent → x.next ≡ None → x.child ≡ None → x.other ≡ None
    → v ≡ link_in o.kind u o n → Low n (open_of s o) → row_of s x ≡ y
    → rows_from s v 0 m ≡ linked_in (where_of o.kind) (open_of s o) n (rows_from s t 0 n) ++ y ∷ []
unfolding open_of
added_rows s t u v n m x o y small w hm hu hp hn hc ho hv low hy =
    let ls : Links x = record { parent = hp; next = rw hn; child = rw hc; other = rw ho } in
    ap (λ (z : ℕ). rows_from s v 0 z) hm
    ∙ rows_by s t u n x hu ls small w v o.kind o.row o.last o.labels hv low.row low.last
    ∙ ap (λ (z : P.Row). linked_in (where_of o.kind) (open_of s o) n (rows_from s t 0 n) ++ z ∷ []) hy

-- the state with it
added_state : (s t v : List ℕ) (ds : List P.Declared) (x : State) (m : ℕ) (f : Option ℕ) (q : Opened) (o : Open) (y : P.Statement) (p : ℕ)
    → opened_of s x.opened ≡ open_of s o ∷ rest_of (opened_of s x.opened)
    → link_of f ≡ first_in (where_of o.kind) (link_of x.first) (last_of o.kind o.last) x.rows
    → rows_from s v 0 m ≡ linked_in (where_of o.kind) (open_of s o) x.rows (rows_from s t 0 x.rows) ++ D.new_row y p (parent_in (where_of o.kind) o.row) (role_in (where_of o.kind)) ∷ []
    → opened_of s q ≡ last_in x.rows (opened_of s x.opened)
    → state_of s v ds (record { entered = x.entered; rows = m; first = f; lead = x.lead; opened = q; scope = x.scope; tally = x.tally }) ≡ D.add_row y p (state_of s t ds x)
unfolding state_of D.add_row open_of
added_state s t v ds x m f q o y p top hf hr hq =
    grown_same (state_of s t ds x) (link_of f) (first_in (where_of o.kind) (link_of x.first) (last_of o.kind o.last) x.rows) (rows_from s v 0 m) (linked_in (where_of o.kind) (open_of s o) x.rows (rows_from s t 0 x.rows) ++ D.new_row y p (parent_in (where_of o.kind) o.row) (role_in (where_of o.kind)) ∷ []) (opened_of s q) (last_by (where_of o.kind) (open_of s o) x.rows ∷ rest_of (opened_of s x.opened)) hf hr (hq ∙ ap (last_in x.rows) top)
    ∙ sym (add_in_lem (where_of o.kind) (open_of s o) (rest_of (opened_of s x.opened)) y p x.rows (state_of s t ds x) (rows_length s t 0 x.rows))
    ∙ sym (ap (λ (z : List D.Open). D.add_to z y p (state_of s t ds x)) top)

last_stand : (s : List ℕ) (L M : List D.Open) (o : Open) (n : ℕ) → L ≡ open_of s o ∷ rest_of L → M ≡ last_in n L → Stand n L → Stand (suc n) M
unfolding open_of
last_stand s L M o n top hm h =
    subst (λ (z : List D.Open). Stand (suc n) z) (sym (hm ∙ ap (last_in n) top))
    (stand_last (where_of o.kind) o.row (open_of s o).last (open_of s o).labels (rest_of L) n (subst (λ (z : List D.Open). Stand n z) top h))

-- ---- its depth and its type
counts_low : (w : D.Where) → D.counts w ≤ 1
counts_low D.in_program = omega arith
counts_low D.in_group = omega arith
counts_low D.in_body = omega arith
counts_low D.in_then = omega arith
counts_low D.in_else = omega arith

depth_low : (L : List D.Open) → D.depth L ≤ length L
unfolding D.depth
depth_low [] = omega arith
depth_low (o ∷ os) = omega (arith, counts_low o.kind, depth_low os)

link_alike : (k : Where) (t : List ℕ) (r : ℕ) (l : Option ℕ) (at n i : ℕ) → Alike (row_in (link_in k t (record { kind = k; row = r; last = l; labels = at }) n) i) (row_in t i)
link_alike Wh.InProgram t r None at n i = alike_self (row_in t i)
link_alike Wh.InProgram t r (Some l) at n i = alike_over t (link_number (Some n) ∷ []) l 7 i (omega arith) (omega arith)
link_alike Wh.InGroup t r None at n i = alike_over t (link_number (Some n) ∷ []) r 8 i (omega arith) (omega arith)
link_alike Wh.InGroup t r (Some l) at n i = alike_over t (link_number (Some n) ∷ []) l 7 i (omega arith) (omega arith)
link_alike Wh.InBody t r None at n i = alike_over t (link_number (Some n) ∷ []) r 8 i (omega arith) (omega arith)
link_alike Wh.InBody t r (Some l) at n i = alike_over t (link_number (Some n) ∷ []) l 7 i (omega arith) (omega arith)
link_alike Wh.InThen t r l at n i = alike_over t (link_number (Some n) ∷ []) r 8 i (omega arith) (omega arith)
link_alike Wh.InElse t r l at n i = alike_over t (link_number (Some n) ∷ []) r 9 i (omega arith) (omega arith)

-- the row x is written as row n of t, and then a link to it
marks_added : (s t u v : List ℕ) (n m : ℕ) (x : Row) (o : Open) (b : Opened) → n < 1024 → 16 * suc n ≤ length t → m ≡ suc n → u ≡ over t (16 * n) (numbers_of x) → Links x → v ≡ link_in o.kind u o n
    → x.depth ≡ D.depth (opened_of s b) → Typed s x → Marks s t n b v m
marks_added s t u v n m x o b small w hm hu ls hv hd ht =
    let link : (i : ℕ) → Alike (row_in v i) (row_in u i) = λ i. subst (λ (z : List ℕ). Alike (row_in z i) (row_in u i)) (sym hv) (link_alike o.kind u o.row o.last o.labels n i) in
    let new : row_in u n ≡ x = row_there s t u n x hu ls (omega (arith, w)) in
    let here : Alike (row_in v n) x = subst (λ (z : Row). Alike (row_in v n) z) new (link n) in
    record {
      kept = λ i h.
          let old : row_in u i ≡ row_in t i = ap (λ (z : List ℕ). row_in z i) hu ∙ (rw add-zero at (row_other t (numbers_of x) n i 0 (λ z. omega arith) (omega arith))) in
          subst (λ (z : Row). Alike (row_in v i) z) old (link i);
      depth = λ i h q. let e : n ≡ i = omega (arith, hm) in subst (λ (z : ℕ). (row_in v z).depth ≡ D.depth (opened_of s b)) e (here.depth ∙ hd);
      type = λ i h q. let e : n ≡ i = omega (arith, hm) in subst (λ (z : ℕ). Typed s (row_in v z)) e (typed_alike s (row_in v n) x here ht);
    }

pub adds : (t u v : List ℕ) (x : State) (c : Clause) (p q e d : ℕ) (o : Open) (par : Option ℕ) (ro : Role) (a b : Stretch) (m : ℕ) (f : Option ℕ) (z : Opened) (k : ℕ)
    → u ≡ over t (16 * x.rows) (numbers_of (record { statement = c.statement; place = q; content = e; value_type = c.value_type; depth = d; parent = par; role = ro; next = None; child = None; other = None; lead = a; text = b }))
    → v ≡ link_in o.kind u o x.rows
    → o ≡ top_in x.opened.items x.opened.count
    → q ≡ p % 65536 → e ≡ c.content % 65536 → d ≡ k % 65536 → Deep x.opened k
    → link_of par ≡ parent_in (where_of o.kind) o.row → role_of ro ≡ role_in (where_of o.kind)
    → a ≡ stretch_at 0 0 → b ≡ stretch_at 0 0
    → After x.rows m
    → link_of f ≡ first_in (where_of o.kind) (link_of x.first) (last_of o.kind o.last) x.rows
    → AtLast x.opened x.rows z
    → Adds t x c p v (record { entered = x.entered; rows = m; first = f; lead = x.lead; opened = z; scope = x.scope; tally = x.tally })
adds t u v x c p q e d o par ro a b m f z k hu hv ho hq he hd hk hp hr ha hb hm hf hz = record {
  is = λ s ds g small lp lc.
      let top : opened_of s x.opened ≡ open_of s o ∷ rest_of (opened_of s x.opened) = opened_top s x.opened o ho g.some in
      let low : Low x.rows (open_of s o) = stand_top x.rows (opened_of s x.opened) (open_of s o) (rest_of (opened_of s x.opened)) g.stand top in
      added_state s t v ds x m f z o (statement_at s c.statement c.content) p top hf
      (added_rows s t u v x.rows m (row_from c q e d par ro a b) o (D.new_row (statement_at s c.statement c.content) p (parent_in (where_of o.kind) o.row) (role_in (where_of o.kind))) small.0 (g.room (suc x.rows) small.0 (omega (arith, small.1))) (hm.is (omega (arith, small.0))) hu (parent_low s o par x.rows hp low small.0) refl refl refl hv low
      (new_row_lem s c p q e d par ro a b (where_of o.kind) o.row hq he lp lc hp hr ha hb))
      (hz.is g.some (omega (arith, g.deep)) s);
  stand = λ s g small. last_stand s (opened_of s x.opened) (opened_of s z) o x.rows (opened_top s x.opened o ho g.some) (hz.is g.some (omega (arith, g.deep)) s) g.stand;
  count = λ small. hm.is (omega (arith, small.0));
  deep = λ i j. hz.count i j;
  keeps = record { entered = refl; tally = refl; own = λ h. h };
  size = ap length hv ∙ link_size o.kind u o.row o.last o.labels x.rows ∙ ap length hu ∙ length_over t (16 * x.rows) (numbers_of (row_from c q e d par ro a b));
  marks = λ s g small lc ty.
      let top : opened_of s x.opened ≡ open_of s o ∷ rest_of (opened_of s x.opened) = opened_top s x.opened o ho g.some in
      let low : Low x.rows (open_of s o) = stand_top x.rows (opened_of s x.opened) (open_of s o) (rest_of (opened_of s x.opened)) g.stand top in
      let few : k < 65536 = omega (arith, hk.is s, depth_low (opened_of s x.opened), opened_size s x.opened, g.deep) in
      let same : e ≡ c.content = he ∙ mod-eq_of_lt lc in
      marks_added s t u v x.rows m (row_from c q e d par ro a b) o x.opened small.0 (g.room (suc x.rows) small.0 (omega (arith, small.1))) (hm.is (omega (arith, small.0))) hu
      (record { parent = parent_low s o par x.rows hp low small.0; next = refl; child = refl; other = refl }) hv
      (hd ∙ mod-eq_of_lt few ∙ hk.is s) (subst (λ (i : ℕ). Tells s c.statement i c.value_type) (sym same) ty);
}

-- ---- THE TEXT that the program or a group begins with
abbrev lead_as : D.Where → ℕ → ℕ → ℕ → D.State → D.State
lead_as D.in_program n a b st = D.with_lead (D.stretch a b) st
lead_as D.in_group n a b st = D.with_rows (D.change n (D.set_lead (D.stretch a b)) st.rows) st
lead_as D.in_body n a b st = st
lead_as D.in_then n a b st = st
lead_as D.in_else n a b st = st

lead_as_lem : (w : D.Where) (n : ℕ) (l : P.Link) (bs : List (List ℕ)) (os : List D.Open) (a b : ℕ) (st : D.State) → D.lead_in (record { kind = w; row = n; last = l; labels = bs } ∷ os) a b st ≡ lead_as w n a b st
lead_as_lem D.in_program n l bs os a b st = refl
lead_as_lem D.in_group n l bs os a b st = refl
lead_as_lem D.in_body n l bs os a b st = refl
lead_as_lem D.in_then n l bs os a b st = refl
lead_as_lem D.in_else n l bs os a b st = refl

lead_by_lem : (s : List ℕ) (L : List D.Open) (o : Open) (k : Where) (a b : ℕ) (st : D.State) → L ≡ open_of s o ∷ rest_of L → o.kind ≡ k → D.lead_in L a b st ≡ lead_as (where_of k) o.row a b st
unfolding open_of
lead_by_lem s L o k a b st top hk =
    ap (λ (z : List D.Open). D.lead_in z a b st) top
    ∙ lead_as_lem (where_of o.kind) o.row (open_of s o).last (open_of s o).labels (rest_of L) a b st
    ∙ ap (λ (z : Where). lead_as (where_of z) o.row a b st) hk

low_group : (s : List ℕ) (o : Open) (n : ℕ) → Low n (open_of s o) → o.kind ≡ Wh.InGroup → o.row < n
unfolding open_of
low_group s o n h e = subst (λ (z : Where). Inside (where_of z) o.row n) e h.row

module _ (t : List ℕ) (x : State) (y : Stretch) (o : Open) (ho : o ≡ top_in x.opened.items x.opened.count) where
  pub leads_program : o.kind ≡ Wh.InProgram → Leads t x y t (record { entered = x.entered; rows = x.rows; first = x.first; lead = y; opened = x.opened; scope = x.scope; tally = x.tally })
  unfolding state_of
  leads_program e = record {
    is = λ s ds g few. sym (lead_by_lem s (opened_of s x.opened) o Wh.InProgram y.from y.to (state_of s t ds x) (opened_top s x.opened o ho g.some) e);
    opened = refl;
    rows = refl;
    keeps = record { entered = refl; tally = refl; own = λ h. h };
    size = refl;
    marks = λ i. alike_self (row_in t i);
  }

  pub leads_group : (u : List ℕ) → o.kind ≡ Wh.InGroup → u ≡ over t (16 * o.row + 10) (stretch_numbers y) → Leads t x y u x
  unfolding state_of
  leads_group u e hu = record {
    is = λ s ds g few.
        let top : opened_of s x.opened ≡ open_of s o ∷ rest_of (opened_of s x.opened) = opened_top s x.opened o ho g.some in
        let low : o.row < x.rows = low_group s o x.rows (stand_top x.rows (opened_of s x.opened) (open_of s o) (rest_of (opened_of s x.opened)) g.stand top) e in
        ap (λ (z : List P.Row). D.with_rows z (state_of s t ds x)) (ap (λ (w : List ℕ). rows_from s w 0 x.rows) hu ∙ lead_set t o.row s x.rows low (g.room x.rows g.own few) y)
        ∙ sym (lead_by_lem s (opened_of s x.opened) o Wh.InGroup y.from y.to (state_of s t ds x) top e);
    opened = refl;
    rows = refl;
    keeps = record { entered = refl; tally = refl; own = λ h. h };
    size = rw hu (length_over t (16 * o.row + 10) (stretch_numbers y));
    marks = λ i. subst (λ (z : List ℕ). Alike (row_in z i) (row_in t i)) (sym hu) (alike_over t (stretch_numbers y) o.row 10 i (omega arith) (omega arith));
  }

  leads_none : (k : Where) → o.kind ≡ k → ((n a b : ℕ) (st : D.State) → lead_as (where_of k) n a b st ≡ st) → Leads t x y t x
  leads_none k e f = record {
    is = λ s ds g few. sym (lead_by_lem s (opened_of s x.opened) o k y.from y.to (state_of s t ds x) (opened_top s x.opened o ho g.some) e ∙ f o.row y.from y.to (state_of s t ds x));
    opened = refl;
    rows = refl;
    keeps = record { entered = refl; tally = refl; own = λ h. h };
    size = refl;
    marks = λ i. alike_self (row_in t i);
  }

  pub leads_nowhere : (o.kind ≡ Wh.InBody) ⊎ ((o.kind ≡ Wh.InThen) ⊎ (o.kind ≡ Wh.InElse)) → Leads t x y t x
  leads_nowhere (inl e) = leads_none Wh.InBody e (λ n a b st. refl)
  leads_nowhere (inr (inl e)) = leads_none Wh.InThen e (λ n a b st. refl)
  leads_nowhere (inr (inr e)) = leads_none Wh.InElse e (λ n a b st. refl)
