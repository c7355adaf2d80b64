-- THE CONTRACT of `read_member`: the member is the definition's, and it is entered, or refused, as there.
use Rattle.std.specs.Prelude.{ℕ, ◌+◌, ◌%◌, ◌≤◌, ◌<◌, List, ◌≡◌, length, None, Ok}
use Rattle.definition.specs.Bytes.{mixed}
use Rattle.definition.specs.Deck.{line_at}
use Rattle.definition.specs.Reading as D
use Rattle.definition.specs.World as W
use Rattle.definition.specs.Names as N
use Rattle.deck.specs.Answer.{body_in}
use Rattle.entering.specs.Book.{Book, tally_of, book_of}
use Rattle.entering.specs.Entry.{Shows, Entry}
use Rattle.statements.specs.Clauses.{Lies}
use Rattle.reading.specs.declared.Source.{Source}
use Rattle.reading.specs.State.{RoomFor, Reads}

-- the first k names of the room n
abbrev pub names_of : List ℕ → List ℕ → ℕ → Book
names_of d n k = book_of d n (tally_of 0 0 k None None)

-- ---- what it needs: the body s lies in the deck at base, and there is room for its rows and names
abbrev pub base_of : List ℕ → ℕ → ℕ
base_of d m = (line_at d m).offset % 65536

pub record Fresh (d s t n : List ℕ) (base entered names : ℕ) : Type 0 where
  pub lies : Lies d s base
  pub short : length s < 65536
  pub rows : RoomFor entered t
  pub room : 4096 ≤ length n
  pub few : names ≤ 256
  pub sentences : entered ≤ 2048

-- where nothing is wrong with it
pub record Whole (d s : List ℕ) (m entered : ℕ) (b : Book) (t' n' : List ℕ) (r : Source) : Type 0 where
  pub reads : Reads s m b t' (names_of d n' r.names) r
  pub few : r.names ≤ 256
  pub sentences : entered + r.rows ≤ 2048

pub record Membered (d s n : List ℕ) (m entered names : ℕ) (t' n' : List ℕ) (r : Source) : Type 0 where
  pub whole : r.fault ≡ Ok tt → Whole d s m entered (names_of d n names) t' n' r
  pub enters : (w : W.World) → Shows w (names_of d n names) → w.sentences ≡ entered → Entry m (D.read_member mixed s) (names_of d n' r.names) (N.enter m (D.read_member mixed s) w) r.fault

pub record Members (d t n : List ℕ) (m entered names : ℕ) (t' n' : List ℕ) (r : Source) : Type 0 where
  pub so : Fresh d (body_in d m) t n (base_of d m) entered names → Membered d (body_in d m) n m entered names t' n' r
