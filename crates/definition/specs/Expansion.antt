-- 01, "Numbers given back": the six numbers, the text and the lines for a deck, the sizes of the two rooms and the
-- steps; and the whole contents of the two rooms. "1, then 2, both with place 0; then" what reading and the run meet
-- first.
use Rattle.std.specs.Prelude.{ℕ, ◌/◌, Bool, cond, List, [], leb, eqb}
use Rattle.definition.specs.Bytes.{Letters}
use Rattle.definition.specs.Choice.{when}
use Rattle.definition.specs.Limits.{include_levels, text_bytes, origin_line_bytes}
use Rattle.definition.specs.Refusal.{Why, malformed_deck, short_room, uneven_body, number_of}
use Rattle.definition.specs.Room.{over, zeros}
use Rattle.definition.specs.Deck as Deck
use Rattle.definition.specs.Deck.{is_sound}
use Rattle.definition.specs.Reading.{read_member}
use Rattle.definition.specs.Events.{Line, text_of, lines_of, list_bytes}
use Rattle.definition.specs.Cards.{Layout, plain, cards, uneven, joined, given, as_given}
use Rattle.definition.specs.World.{World, new_world, Res, good, bad}
use Rattle.definition.specs.Names.{Entering, entered, unreadable, enter}
use Rattle.definition.specs.Flow.{End, ran, returned, went}
use Rattle.definition.specs.Run.{Stop, line_of, body_of, run_member}

-- the numbers, the text, and the lines newest first
pub record Expansion : Type 0 where
  pub number : ℕ
  pub member : ℕ
  pub offset : ℕ
  pub steps : ℕ
  pub text : List ℕ
  pub lines : List Line

-- "A refusal reports text length and lines 0, rooms all zero, and the steps charged."
abbrev pub refusal : Why → ℕ → ℕ → ℕ → Expansion
refusal e m p used = record { number = number_of e; member = m; offset = p; steps = used; text = []; lines = [] }

abbrev pub finished : World → Expansion
finished w = record {
  number = 0;
  member = 0;
  offset = 0;
  steps = w.used;
  text = text_of w.events;
  lines = lines_of w.events;
}

-- the main program ends with its list: no RETURN and no GOTO leads out of it
abbrev pub result : Res Stop End → Expansion
result (good ran w) = finished w
result (good (returned v) w) = finished w
result (good (went t) w) = finished w
result (bad s u) = refusal s.why s.member s.place u

-- "The main program is read before anything runs"; line 0 is the main program
abbrev pub run_main : Letters → Entering → List ℕ → Expansion
run_main α (unreadable e p) d = refusal e 0 p 0
run_main α (entered w) d = result (run_member α include_levels d 0 [] w)

-- the text room counts "at 4,294,967,295 bytes at most"
abbrev pub capped : ℕ → ℕ
capped n = cond (leb n text_bytes) n text_bytes

abbrev pub world_for : Layout → ℕ → ℕ → ℕ → World
world_for layout text_room list_room steps = new_world layout steps (capped text_room) (list_room / origin_line_bytes)

abbrev pub main_world : ℕ → ℕ → ℕ → World
main_world text_room list_room steps = world_for plain text_room list_room steps

-- THE EXPANSION of the plain deck d; `roomy` says whether the working rooms are long enough
unfoldable pub expansion : Letters → Bool → List ℕ → ℕ → ℕ → ℕ → Expansion
expansion α roomy d text_room list_room steps =
    when (is_sound α d)
    (λ _. when roomy
    (λ _. run_main α (enter 0 (read_member α (body_of d 0)) (main_world text_room list_room steps)) d)
    (λ _. refusal short_room 0 0 0))
    (λ _. refusal malformed_deck 0 0 0)

-- ---- 02, C-11: the expansion of the joined deck d, told by the places of the deck as given
abbrev pub size_in : List ℕ → ℕ → ℕ
size_in d m = (line_of d m).size

abbrev pub told : List ℕ → Expansion → Expansion
told d x = record {
  number = x.number;
  member = x.member;
  offset = cond (eqb x.number 0) 0 (given (size_in d x.member) x.offset);
  steps = x.steps;
  text = x.text;
  lines = as_given (size_in d) x.lines;
}

abbrev pub run_cards : Letters → List ℕ → ℕ → ℕ → ℕ → Expansion
run_cards α d text_room list_room steps =
    told d (run_main α (enter 0 (read_member α (body_of d 0)) (world_for cards text_room list_room steps)) d)

-- "Refusals: 20, .. after 1 and before 2, place the first such member at offset 0"
abbrev pub cards_in : Letters → Deck.Found → Bool → List ℕ → ℕ → ℕ → ℕ → Expansion
cards_in α (Deck.line k) roomy d text_room list_room steps = refusal uneven_body k 0 0
cards_in α Deck.none roomy d text_room list_room steps =
    when roomy (λ _. run_cards α (joined d) text_room list_room steps) (λ _. refusal short_room 0 0 0)

-- THE EXPANSION of the deck d: "The caller says whether a deck is plain or cards"
unfoldable pub expansion_of : Letters → Layout → Bool → List ℕ → ℕ → ℕ → ℕ → Expansion
expansion_of α plain roomy d text_room list_room steps = expansion α roomy d text_room list_room steps
expansion_of α cards roomy d text_room list_room steps =
    when (is_sound α d) (λ _. cards_in α (uneven 0 (Deck.lines d)) roomy d text_room list_room steps)
    (λ _. refusal malformed_deck 0 0 0)

-- "Past the reported ends both rooms are zero."
unfoldable pub text_room_after : ℕ → Expansion → List ℕ
text_room_after n x = over (zeros n) 0 x.text

unfoldable pub list_room_after : ℕ → Expansion → List ℕ
list_room_after n x = over (zeros n) 0 (list_bytes x.lines)
