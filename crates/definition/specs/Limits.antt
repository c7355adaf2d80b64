-- 01, "Limits are named once, on the type they bound": the numbers themselves, each with the sentence that gives it.
use Rattle.std.specs.Prelude.{ℕ, ℤ, pos, negsuc}

-- "FIXED is a signed whole number from -99,999 to 99,999": negsuc n is -(n + 1)
abbrev pub least_fixed : ℤ
least_fixed = negsuc 99998

abbrev pub most_fixed : ℤ
most_fixed = pos 99999

-- 02, C-12: "a FIXED value into eight characters"
abbrev pub fixed_width : ℕ
fixed_width = 8

-- "CHARACTER and BIT hold 0 to 512 places"
abbrev pub value_length : ℕ
value_length = 512

-- Table, 4: "name in a statement over 31 bytes"
abbrev pub name_length : ℕ
name_length = 31

-- "Deck at most 65,536 bytes"; "the count n, 1 to 32"; "n lines of 16 bytes: name (8, ..), offset (4), length (4)"
abbrev pub deck_bytes : ℕ
deck_bytes = 65536

abbrev pub deck_lines : ℕ
deck_lines = 32

abbrev pub member_name_length : ℕ
member_name_length = 8

-- 02, C-11: "80-column records: source in 2 to 72"
abbrev pub record_columns : ℕ
record_columns = 80

abbrev pub source_columns : ℕ
source_columns = 71

-- Table, 4: "over 1,024 sentences and procedure statements in a member, 2,048 in those entered"
abbrev pub member_sentences : ℕ
member_sentences = 1024

abbrev pub entered_sentences : ℕ
entered_sentences = 2048

-- Table, 4: "over 256 declared names in those entered"
abbrev pub declared_names : ℕ
declared_names = 256

-- Table, 4: "a 17th `(` open in one expression, or a 17th group or alternative open in a member"
abbrev pub open_parentheses : ℕ
open_parentheses = 16

abbrev pub open_groups : ℕ
open_groups = 16

-- Table, 15: "ninth include level (main is level 0), 33rd replacement level, 17th procedure running at once"
abbrev pub include_levels : ℕ
include_levels = 8

abbrev pub replacement_levels : ℕ
replacement_levels = 32

abbrev pub running_procedures : ℕ
running_procedures = 16

-- Table, 17: "the text room at 4,294,967,295 bytes at most"; "Twelve bytes a line"
abbrev pub text_bytes : ℕ
text_bytes = 4294967295

abbrev pub origin_line_bytes : ℕ
origin_line_bytes = 12

-- "The program reads a deck .., with a text room of 65,536 bytes, a list room of 49,152 and 1,000,000 steps"
abbrev pub program_text : ℕ
program_text = 65536

abbrev pub program_list : ℕ
program_list = 49152

abbrev pub program_steps : ℕ
program_steps = 1000000

-- docs/DECISIONS.md, the exception: unfinished values lie in one room, and no working room is over 65,536 bytes
abbrev pub unfinished_bytes : ℕ
unfinished_bytes = 65536
