-- A member that goes into the world with the names of a book, or is refused.
use Rattle.std.specs.Prelude.{ℕ, ◌≡◌, Result, Ok, Err}
use Rattle.definition.specs.Program as P
use Rattle.definition.specs.World as W
use Rattle.definition.specs.Names as N
use Rattle.definition.specs.declared.Why.{Why}
use Rattle.entering.specs.Book.{Book}

-- a world that has the names of the book
pub record Shows (w : W.World) (b : Book) : Type 0 where
  pub identifiers : w.identifiers ≡ b.identifiers
  pub denotations : w.denotations ≡ b.denotations
  pub activities : w.activities ≡ b.activities

-- the member m, whose source is s, goes into the world x with the names c, or it is refused
pub data Entry (m : ℕ) (s : P.Source) (c : Book) (x : N.Entering) (g : Result (Unit {0}) (Why × ℕ)) : Type 0 where
  goes_in : (v : W.World) → x ≡ N.entered (N.with_member m s v) → Shows v c → g ≡ Ok tt → Entry m s c x g
  stays_out : (e : Why) (p : ℕ) → x ≡ N.unreadable e p → g ≡ Err (e, p) → Entry m s c x g
