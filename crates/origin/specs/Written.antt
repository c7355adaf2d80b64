-- How the two rooms and the cursor show what a world has put out: its text, and its lines as they are told. And what an event of
-- the definition leaves there.
use Rattle.std.specs.Prelude.{ℕ, ◌<◌, ◌≤◌, ◌≡◌, Bool, true, false, ◌&&◌, List, [], ◌∷◌, leb, length, Option, Some, None}
use Rattle.definition.specs.declared.Layout.{Layout}
use Rattle.definition.specs.declared.Layout.TheVariants.{Plain, Cards}
use Rattle.definition.specs.Room.{over}
use Rattle.definition.specs.Events.{Event, replaced, bytes_in, text_of, Line, lines_of}
use Rattle.definition.specs.Cards.{given, lines_as, taking}
use Rattle.definition.specs.World.{Pass, World, with_event}
use Rattle.output.specs.declared.Out.{Out}
use Rattle.output.specs.Shows as Output

-- a place as it is told, in a body of so many bytes
abbrev pub place_as : Layout → ℕ → ℕ → ℕ
place_as Plain size p = p
place_as Cards size p = given size p

-- no copied stretch is empty
abbrev pub Filled : List Line → Type 0
Filled [] = Unit {0}
Filled (l ∷ ls) = (l.kind ≡ 2 → 1 ≤ l.size) × Filled ls

-- ---- what was put out is in the text room t and the list room ls, and so much more may be; `sizes` are the bytes of the bodies by
-- member, and the rooms show events that are told
pub record Written (sizes : ℕ → ℕ) (y : Layout) (t ls : List ℕ) (o : Out) (B : World) : Type 0 where
  pub layout : B.layout ≡ y
  pub events : List Event
  pub out : Output.Shows events o t ls
  pub fine : Output.Fine o (length t) (length ls)
  pub same : text_of events ≡ text_of B.events
  pub told : lines_of events ≡ lines_as y sizes (lines_of B.events)
  pub full : Filled (lines_of B.events)
  pub text : B.text_left ≡ o.room
  pub lines : B.lines_left ≡ o.free

-- ---- an event goes out, if both rooms hold it: the test of the definition's `putOut`
abbrev pub fits : Layout → Event → List Event → Out → Bool
fits y e es o = leb (taking y e es) o.free && leb (length (bytes_in e)) o.room

-- it did, whatever its pass
pub record Gone (sizes : ℕ → ℕ) (y : Layout) (e : Event) (B : World) (t ls : List ℕ) (x : Out) : Type 0 where
  pub written : (z : Pass) → Written sizes y t ls x (with_event e z (taking y e B.events) B)

abbrev pub Answers : Bool → (ℕ → ℕ) → Layout → Event → World → Option Out → List ℕ → List ℕ → Type 0
Answers true sizes y e B r t ls = (x : Out) × (r ≡ Some x) × Gone sizes y e B t ls x
Answers false sizes y e B r t ls = r ≡ None

-- THE ENSURES: an event of member m, whose body has so many bytes, up to a place of it
pub record Tells (y : Layout) (size : ℕ) (e : Event) (m p : ℕ) (o : Out) (t ls : List ℕ) (r : Option Out) (t' ls' : List ℕ) : Type 0 where
  pub is : (sizes : ℕ → ℕ) (B : World) → sizes m ≡ size → Written sizes y t ls o B → p < 65536 → 1 ≤ length (bytes_in e) → length (bytes_in e) < 65536 → Answers (fits y e B.events o) sizes y e B r t' ls'

-- the outcome of a replacement stands in a text room of T bytes already; its line is put behind the others
pub record Ends (y : Layout) (size m p n : ℕ) (o : Out) (T : ℕ) (ls : List ℕ) (r : Out) (ls' : List ℕ) : Type 0 where
  pub is : (sizes : ℕ → ℕ) (B : World) (t t' bytes : List ℕ) → sizes m ≡ size → Written sizes y t ls o B → length t ≡ T → t' ≡ over t o.text bytes → length bytes ≡ n → 1 ≤ o.free → n ≤ o.room → p < 65536
      → Gone sizes y (replaced m p bytes) B t' ls' r
