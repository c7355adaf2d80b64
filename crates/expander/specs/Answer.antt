-- The six numbers of an answer: of an expansion of the definition, of what is refused before a run, and of what a run answers.
use Rattle.texts.specs.Types.{Ran}
use Rattle.std.specs.Prelude.{ℕ, ◌%◌, Bool, cond, List, length, Result, Ok, Err, Option, Some, None}
use Rattle.std.specs.Result.{result_and}
use Rattle.definition.specs.declared.Layout.{Layout}
use Rattle.definition.specs.Bytes.{mixed}
use Rattle.definition.specs.Refusal.{number_of}
use Rattle.definition.specs.Deck.{is_sound}
use Rattle.definition.specs.Cards.{uneven_in}
use Rattle.definition.specs.Expansion as X
use Rattle.definition.specs.Expansion.{size_in}
use Rattle.deck.specs.Answer.{found_for}
use Rattle.origin.specs.Written.{place_as}
use Rattle.texts.specs.declared.Progress.{Progress}
use Rattle.texts.specs.declared.Stop.{Stop}
use Rattle.expander.specs.declared.Expansion.{Expansion}

-- THE SIX NUMBERS of an expansion x. The count of lines is given modulo 2^32, the size of its number; so many lines need a list room
-- of 48 GiB.
abbrev pub numbers_of : X.Expansion → Expansion
numbers_of x =
    record {
      number = x.number;
      member = x.member;
      offset = x.offset;
      steps = x.steps;
      text = length x.text;
      lines = length x.lines % 4294967296;
    }

-- a refusal: text length and lines are 0
abbrev pub refusal_at : ℕ → ℕ → ℕ → ℕ → Expansion
refusal_at n m p used = record { number = n; member = m; offset = p; steps = used; text = 0; lines = 0 }

-- "1, then 2, both with place 0", before any step
abbrev pub bare : ℕ → Expansion
bare n = refusal_at n 0 0 0

-- ---- what is refused before a run: 1, and C-11's "20, .. after 1 and before 2, place the first such member at offset 0"
abbrev pub malformed_for : Bool → Result (Unit {0}) Expansion
malformed_for sound = cond sound (Ok tt) (Err (bare 1))

abbrev pub uneven_for : Option ℕ → Result (Unit {0}) Expansion
uneven_for (Some k) = Err (refusal_at 20 k 0 0)
uneven_for None = Ok tt

abbrev pub short_for : Bool → Result (Unit {0}) Expansion
short_for roomy = cond roomy (Ok tt) (Err (bare 2))

abbrev pub early_for : Layout → List ℕ → Bool → Result (Unit {0}) Expansion
early_for y d roomy =
    result_and (malformed_for (is_sound mixed d)) (result_and (uneven_for (found_for (uneven_in y d))) (short_for roomy))

-- ---- the numbers for what a run of the deck d answers, as the code makes them of its own
abbrev pub refused_for : Layout → List ℕ → Stop → Progress → Expansion
refused_for y d x g =
    refusal_at (number_of x.why) x.member (place_as y (size_in d x.member) (x.place % 65536)) g.meter.used

abbrev pub finished_for : Progress → Expansion
finished_for g =
    record {
      number = 0;
      member = 0;
      offset = 0;
      steps = g.meter.used;
      text = g.out.text % 4294967296;
      lines = g.out.lines % 4294967296;
    }

abbrev pub answer_for : Layout → List ℕ → Ran → Expansion
answer_for y d (Ok g) = finished_for g
answer_for y d (Err (x, g)) = refused_for y d x g
