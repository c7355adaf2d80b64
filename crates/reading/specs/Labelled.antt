-- What the labels from a place on do to the names.
use Rattle.std.specs.Prelude.{ℕ, List, [], ◌∷◌, ◌≡◌}
use Rattle.definition.specs.Bytes.{mixed}
use Rattle.definition.specs.Expressions.{Reading, read, refused, Named, name_at}
use Rattle.definition.specs.Statements.{means}
use Rattle.definition.specs.Reading as D
use Rattle.names.specs.declared.Owner.{Owner}
use Rattle.entering.specs.declared.Meaning.{Meaning}
use Rattle.entering.specs.declared.Tally.{Tally}
use Rattle.entering.specs.Book.{book_all, meaning_of}
use Rattle.statements.specs.Clauses.{scope_of, NamedIf}
use Rattle.reading.specs.declared.State.{State}
use Rattle.reading.specs.State.{with_tally}

-- a label over 31 bytes is no name
abbrev pub label_name : Reading Named → List Named
label_name (read n) = n ∷ []
label_name (refused w p) = []

-- the names ns, declared with the meaning g
abbrev pub NamesIf : List ℕ → List ℕ → List ℕ → Tally → Owner → Meaning → List Named → List ℕ → Tally → Type 0
NamesIf d s t x o g ns u y = NamedIf d s t x o (book_all x.member (means (scope_of o) (meaning_of g) ns)) u y

abbrev pub LabelIf : List ℕ → List ℕ → List ℕ → Tally → ℕ → Owner → Meaning → List ℕ → Tally → Type 0
LabelIf d s t x at o g u y = NamesIf d s t x o g (label_name (name_at mixed s at)) u y

pub record LabelsIf (d s t : List ℕ) (x : State) (from : ℕ) (g : Meaning) (u : List ℕ) (y : State) : Type 0 where
  pub names : NamesIf d s t x.tally x.scope g (D.labels mixed s from).labels u y.tally
  pub rest : y ≡ with_tally x y.tally
