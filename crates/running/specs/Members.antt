-- THE CONTRACTS of members that run: what an answer stands for, with the table of rows and the world as they have grown.
use Rattle.texts.specs.Types.{Ran}
use Rattle.std.specs.Prelude.{ℕ, suc, ◌+◌, ◌-◌, ◌<◌, ◌≤◌, true, false, ◌≡◌, List, [], ◌∷◌, length, Option, Ok, Err}
use Rattle.definition.specs.Bytes.{mixed}
use Rattle.definition.specs.Room.{zeros}
use Rattle.definition.specs.Limits.{include_levels}
use Rattle.definition.specs.Deck as Deck
use Rattle.definition.specs.Program as P
use Rattle.definition.specs.Reading.{read_member}
use Rattle.definition.specs.World.{World, Res}
use Rattle.definition.specs.Flow as F
use Rattle.definition.specs.Calls.{Place}
use Rattle.definition.specs.Run as Run
use Rattle.definition.specs.Run.{body_of}
use Rattle.definition.specs.declared.Layout.{Layout}
use Rattle.definition.specs.Expansion as X
use Rattle.definition.specs.Expansion.{size_in}
use Rattle.deck.specs.declared.Spelled.{Spelled}
use Rattle.deck.specs.declared.Sought.{Sought}
use Rattle.deck.specs.declared.Sought.TheVariants.{Bare, InLibrary}
use Rattle.deck.specs.Answer.{body_in, found_for, sought_in}
use Rattle.sums.specs.Numbers.{greatest, sum_to}
use Rattle.tokens.specs.declared.Lexeme.{Lexeme}
use Rattle.rows.specs.Table.{row_in}
use Rattle.rows.specs.Parts.{start_in}
use Rattle.rows.specs.declared.Starts.{Starts}
use Rattle.flow.specs.declared.Frames.{Frames}
use Rattle.flow.specs.declared.Next.{Next}
use Rattle.flow.specs.Walks.{no_frames}
use Rattle.flow.specs.Shown.{next_from, AtNext}
use Rattle.callees.specs.Shown.{world_in}
use Rattle.openings.specs.Open.{link_of}
use Rattle.reading.specs.declared.Source.{Source}
use Rattle.reading.specs.State.{stretch_of}
use Rattle.showing.specs.Listed.{sought_at, item_end, Named}
use Rattle.showing.specs.Later.{Later, Grew}
use Rattle.leaving.specs.declared.Below.{Below}
use Rattle.leaving.specs.Places.{below_of, Stand}
use Rattle.texts.specs.declared.Progress.{Progress}
use Rattle.texts.specs.declared.Here.{Here}
use Rattle.origin.specs.Written.{Written}
use Rattle.texts.specs.Shown.{stop_for}
use Rattle.stepping.specs.Stage.{Roomy, Stage, InMember, part_here, machine_of}
use Rattle.stepping.specs.Steps.{StepNow, EndNow}
use Rattle.stepping.specs.Ways.{is_over}
use Rattle.running.specs.declared.Item.{Item}
use Rattle.running.specs.declared.Left.{Left}
use Rattle.running.specs.declared.Begun.{Begun}
use Rattle.running.specs.Included.{level_of, enter_run, found_run, include_on}

-- member m, where the rows of each member start so
abbrev pub here_at : ℕ → Starts → Here
here_at m starts = record { member = m; starts = starts }

-- ---- what there is later: a world, and a table that grew behind its `used` rows
pub record Since (rows : List ℕ) (B : World) (rows' : List ℕ) (B' : World) : Type 0 where
  pub later : Later B B'
  pub more : B.sentences ≤ B'.sentences
  pub grew : Grew rows B.sentences rows'

-- THE END R of rows, of a list of members, of a member
pub record EndsAs (on : List Place) (deck rows : List ℕ) (B : World) (rows' names c l h w t ls : List ℕ) (m : ℕ) (R : Res Run.Stop F.End) (r : Left) : Type 0 where
  pub world : World
  pub since : Since rows B rows' world
  pub now : EndNow on deck rows' names c l h w t ls (here_at m r.starts) R world r.ended

-- ---- the levels: those left, and the members below
abbrev pub Deep : Below → ℕ → Type 0
Deep below left = below.count + left ≤ include_levels

-- what every member that runs asks for: a sound deck, and that the members below stand at rows
pub record Running (deck s rows : List ℕ) (here : Here) (below : Below) (left : ℕ) (B : World) : Type 0 where
  pub sound : Deck.is_sound mixed deck ≡ true
  pub line : here.member < Deck.count deck
  pub member : InMember deck s rows here B
  pub stand : Stand (below_of below) B
  pub deep : Deep below left

-- ---- INCLUDE
abbrev pub spelled_by : Lexeme → Spelled
spelled_by t = record { from = t.from; len = t.to - t.from }

-- the names that are spelled, each up to the place n at most
abbrev pub Within : ℕ → Sought → Type 0
Within n (Bare w) = w.from + w.len ≤ n
Within n (InLibrary l w) = (l.from + l.len ≤ n) × (w.from + w.len ≤ n)

-- the item of a list behind a place
pub record ItemIs (s : List ℕ) (at : ℕ) (r : Item) : Type 0 where
  pub is : sought_in s r.sought ≡ sought_at s at
  pub to : r.to ≡ item_end s at
  pub within : (n : ℕ) → item_end s at ≤ n → Within n r.sought

-- a name of the body that begins at `base`, in the deck
abbrev pub in_deck : ℕ → Spelled → Spelled
in_deck base w = record { from = sum_to greatest base w.from; len = w.len }

-- the line of the deck for what is sought, which the body of the member spells
pub record FoundIs (deck : List ℕ) (m : ℕ) (x : Sought) (r : Option ℕ) : Type 0 where
  pub is : Deck.is_sound mixed deck ≡ true → m < Deck.count deck → Within (length (body_in deck m)) x → r ≡ found_for (Deck.find mixed (sought_in (body_in deck m) x) 0 (Deck.lines deck))

-- one of its members; `below` has the INCLUDE itself, of the member m
pub record IncludeOneIs (deck rows names c l h w t ls : List ℕ) (x : Sought) (p : ℕ) (below : Below) (here : Here) (left : ℕ) (g : Progress) (rows' names' c' l' h' w' t' ls' : List ℕ) (r : Left) : Type 0 where
  pub is : (B : World) → Stage deck rows names c l h w t ls here.starts g B → Deck.is_sound mixed deck ≡ true → here.member < Deck.count deck → Within (length (body_in deck here.member)) x → Stand (below_of below) B
      → below.count + left ≤ suc include_levels → 1 ≤ below.count
      → EndsAs (below_of below) deck rows B rows' names' c' l' h' w' t' ls' here.member
      (found_run (Deck.find mixed (sought_in (body_in deck here.member) x) 0 (Deck.lines deck)) left deck p here.member (below_of below) (world_in B c l h g.meter.used)) r

-- all of them: its rows are looked at where they were
pub record IncludeAllIs (deck rows names c l h w t ls : List ℕ) (n : ℕ) (below : Below) (here : Here) (left : ℕ) (g : Progress) (rows' names' c' l' h' w' t' ls' : List ℕ) (r : Left) : Type 0 where
  pub is : (B : World) → Stage deck rows names c l h w t ls here.starts g B → Running deck (body_in deck here.member) rows here below left B → (ns : List Deck.Sought)
      → n < length (read_member mixed (body_of deck here.member)).rows → Named (body_in deck here.member) (row_in (part_here rows here) n).content ns
      → EndsAs (record { member = here.member; row = n } ∷ below_of below) deck rows B rows' names' c' l' h' w' t' ls' here.member
      (include_on left deck (row_in (part_here rows here) n).place here.member (record { member = here.member; row = n } ∷ below_of below) ns (world_in B c l h g.meter.used)) r
      × (start_in r.starts here.member ≡ start_in here.starts here.member)

-- ---- TURNS of member m; a turn is taken where something begins next
pub record TurnsAs (M : F.Machine Run.Stop) (on : List Place) (deck rows : List ℕ) (B : World) (rows' names c l h w t ls : List ℕ) (here : Here) (R : Res Run.Stop F.Turn) (r : Begun) : Type 0 where
  pub world : World
  pub since : Since rows B rows' world
  pub start : start_in r.starts here.member ≡ start_in here.starts here.member
  pub now : StepNow M on deck rows' names c l h w t ls (here_at here.member r.starts) r.turned.frames R world r.turned.step

pub record TurnIs (deck s rows names c l h w t ls : List ℕ) (fs : Frames) (x : Next) (below : Below) (here : Here) (left : ℕ) (g : Progress) (rows' names' c' l' h' w' t' ls' : List ℕ) (r : Begun) : Type 0 where
  pub is : (B : World) → Stage deck rows names c l h w t ls here.starts g B → Running deck s rows here below left B → (G : List F.Frame)
      → AtNext (machine_of (level_of left deck) deck here.member (below_of below)) (part_here rows here) B.denotations fs G x → is_over x ≡ false
      → TurnsAs (machine_of (level_of left deck) deck here.member (below_of below)) (below_of below) deck rows B rows' names' c' l' h' w' t' ls' here
      (F.turn (machine_of (level_of left deck) deck here.member (below_of below)) (next_from x) G (world_in B c l h g.meter.used)) r

-- ---- THE ROWS of a member, from the first on
pub record RowsAre (deck rows names c l h w t ls : List ℕ) (x : Next) (below : Below) (here : Here) (left : ℕ) (g : Progress) (rows' names' c' l' h' w' t' ls' : List ℕ) (r : Left) : Type 0 where
  pub is : (B : World) → Stage deck rows names c l h w t ls here.starts g B → Running deck (body_in deck here.member) rows here below left B
      → AtNext (machine_of (level_of left deck) deck here.member (below_of below)) (part_here rows here) B.denotations no_frames [] x
      → EndsAs (below_of below) deck rows B rows' names' c' l' h' w' t' ls' here.member
      (F.run_on (machine_of (level_of left deck) deck here.member (below_of below)) (B.limit - g.meter.used) (next_from x) [] (world_in B c l h g.meter.used)) r

-- THE MEMBER, which was entered: y is what was read of it
pub record SourceOf (x : P.Source) (y : Source) : Type 0 where
  pub lead : stretch_of y.lead ≡ x.lead
  pub first : link_of y.first ≡ x.first

pub record SourceIs (deck rows names c l h w t ls : List ℕ) (y : Source) (below : Below) (here : Here) (left : ℕ) (g : Progress) (rows' names' c' l' h' w' t' ls' : List ℕ) (r : Left) : Type 0 where
  pub is : (B : World) → Stage deck rows names c l h w t ls here.starts g B → Running deck (body_in deck here.member) rows here below left B → SourceOf (read_member mixed (body_of deck here.member)) y
      → EndsAs (below_of below) deck rows B rows' names' c' l' h' w' t' ls' here.member (Run.run_member mixed left deck here.member (below_of below) (world_in B c l h g.meter.used)) r

-- THE MEMBER of a line of the deck, which is read, entered and run
pub record EnterIs (deck rows names c l h w t ls : List ℕ) (below : Below) (here : Here) (left : ℕ) (g : Progress) (rows' names' c' l' h' w' t' ls' : List ℕ) (r : Left) : Type 0 where
  pub is : (B : World) → Stage deck rows names c l h w t ls here.starts g B → Deck.is_sound mixed deck ≡ true → here.member < Deck.count deck → Stand (below_of below) B → Deep below left
      → EndsAs (below_of below) deck rows B rows' names' c' l' h' w' t' ls' here.member (enter_run left deck here.member (below_of below) (world_in B c l h g.meter.used)) r

-- ---- THE RUN of a sound deck, where the text room and the list room are zero: R is the end of the main program
abbrev pub RanTo : List ℕ → Layout → List ℕ → List ℕ → Res Run.Stop F.End → Ran → Type 0
RanTo deck y t ls R (Ok g) = (B : World) × Written (size_in deck) y t ls g.out B × (X.result R ≡ X.finished B) × (g.meter.used ≡ B.used)
RanTo deck y t ls R (Err (x, g)) = (e : Run.Stop) × (e ≡ stop_for x) × (X.result R ≡ X.refusal e.why e.member e.place g.meter.used)

pub record RunIs (y : Layout) (deck rows names c l h w t ls : List ℕ) (steps : ℕ) (t' ls' : List ℕ) (r : Ran) : Type 0 where
  pub is : Deck.is_sound mixed deck ≡ true → Roomy rows names c → 65536 ≤ length l → 65536 ≤ length h → 65536 ≤ length w → t ≡ zeros (length t) → ls ≡ zeros (length ls)
      → RanTo deck y t' ls' (enter_run include_levels deck 0 [] (X.world_for y (length t) (length ls) steps)) r
