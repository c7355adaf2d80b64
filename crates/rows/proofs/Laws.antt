-- The laws of rows: a row reads back as it was written, and others stay.
-- Assumes nothing.
use Rattle.std.proofs.Common.{Option, Some}
use mathlib.Core.Path.{◌≡◌, refl}
use mathlib.Core.Bool.{Bool, true, false}
use mathlib.Core.List.{List}
use Prim.Native.Nat.{ℕ, ◌+◌, ◌*◌, ◌-◌, ◌<◌, ◌≤◌}
use native.Mathlib.Omega.{arith}
use borrow.Author.Tests.{ltb-true, ltb-false, lt-ltb, ne_eqb}
use lib.Dec.{ltb, lit<}
use lib.ListN.{length, get_or}
use Rattle.definition.specs.Room.{over}
use Rattle.definition.proofs.Rooms.{get_d_over_at, get_d_over_low, get_d_over_high}
use Rattle.types.proofs.Laws.{type_back}
use Rattle.rows.specs.declared.Statement.{Statement}
use Rattle.rows.specs.declared.Statement.TheVariants.{Null, Declare, Procedure, Assign, Conditional, Group, Iterated, Goto, Include, Activate, Deactivate, Return}
use Rattle.rows.specs.declared.Role.{Role}
use Rattle.rows.specs.declared.Role.TheVariants.{Listed, ThenPart, ElsePart}
use Rattle.rows.specs.declared.Row.{Row}
use Rattle.rows.specs.Table.{statement_number, role_number, link_number, numbers_of, statement_in, role_in, link_in, row_in}

-- ---- a row reads back as it was written, and others stay
statement_back : (x : Statement) → statement_in (statement_number x) ≡ x
statement_back Null = refl
statement_back Declare = refl
statement_back Procedure = refl
statement_back Assign = refl
statement_back Conditional = refl
statement_back Group = refl
statement_back Iterated = refl
statement_back Goto = refl
statement_back Include = refl
statement_back Activate = refl
statement_back Deactivate = refl
statement_back Return = refl

role_back : (x : Role) → role_in (role_number x) ≡ x
role_back Listed = refl
role_back ThenPart = refl
role_back ElsePart = refl

-- a link that a number keeps
abbrev pub Kept : Option ℕ → Type 0
Kept l = link_in (link_number l) ≡ l

pub kept : (n : ℕ) → n < 65535 → Kept (Some n)
kept n h =
    let e : n + 1 - 1 ≡ n = omega arith in
    let z : n + 1 ≡ 0 → ⊥ = λ q. omega arith in
    rw (lt-ltb n 65535 h, ne_eqb (n + 1) 0 z, e)

pub record Links (x : Row) : Type 0 where
  pub parent : Kept x.parent
  pub next : Kept x.next
  pub child : Kept x.child
  pub other : Kept x.other

pub row_back : (t : List ℕ) (n : ℕ) (x : Row) → Links x → 16 * n + 14 ≤ length t → row_in (over t (16 * n) (numbers_of x)) n ≡ x
unfolding row_in
row_back t n x l h =
    let back : (i : ℕ) → i < 14 → get_or (over t (16 * n) (numbers_of x)) (16 * n + i) 0 ≡ get_or (numbers_of x) i 0 = λ i k. get_d_over_at t (16 * n) i (numbers_of x) k (omega arith) in
    rw (
      back 0 (lit< tt),
      back 1 (lit< tt),
      back 2 (lit< tt),
      back 3 (lit< tt),
      back 4 (lit< tt),
      back 5 (lit< tt),
      back 6 (lit< tt),
      back 7 (lit< tt),
      back 8 (lit< tt),
      back 9 (lit< tt),
      back 10 (lit< tt),
      back 11 (lit< tt),
      back 12 (lit< tt),
      back 13 (lit< tt),
      statement_back x.statement,
      type_back x.value_type,
      l.parent,
      role_back x.role,
      l.next,
      l.child,
      l.other,
    )

-- whatever is written within the record of another row
pub row_other : (t xs : List ℕ) (m n k : ℕ) → (m ≡ n → ⊥) → k + length xs ≤ 16 → row_in (over t (16 * m + k) xs) n ≡ row_in t n
unfolding row_in
row_other t xs m n k h w =
    let other : (i : ℕ) → i < 16 → get_or (over t (16 * m + k) xs) (16 * n + i) 0 ≡ get_or t (16 * n + i) 0 = λ i q. apart (ltb m n) refl i q in
    rw (
      other 0 (lit< tt),
      other 1 (lit< tt),
      other 2 (lit< tt),
      other 3 (lit< tt),
      other 4 (lit< tt),
      other 5 (lit< tt),
      other 6 (lit< tt),
      other 7 (lit< tt),
      other 8 (lit< tt),
      other 9 (lit< tt),
      other 10 (lit< tt),
      other 11 (lit< tt),
      other 12 (lit< tt),
      other 13 (lit< tt),
    )
  where
    apart : (g : Bool) → ltb m n ≡ g → (i : ℕ) → i < 16 → get_or (over t (16 * m + k) xs) (16 * n + i) 0 ≡ get_or t (16 * n + i) 0
    apart true e i q = let l : m < n = ltb-true m n e in get_d_over_high t (16 * m + k) (16 * n + i) xs (omega arith)
    apart false e i q =
        let l : n ≤ m = ltb-false m n e in
        let z : n < m = omega arith in
        get_d_over_low t (16 * m + k) (16 * n + i) xs (omega arith)
