-- The ghost of the definition's worlds is one: no part of a run reads it, so that no answer, text or list depends on
-- it.
use Rattle.std.specs.Prelude.{ℕ, List, ◌≡◌}
use Rattle.definition.specs.Bytes.{mixed}
use Rattle.definition.specs.World.{Pass, World, with_output}
use Rattle.definition.specs.Calls.{Place}
use Rattle.definition.specs.Run.{run_member}
use Rattle.definition.specs.Expansion.{result}

-- the world w with another ghost
abbrev pub haunted : List Pass → World → World
haunted gs w = with_output w.events w.text_left w.lines_left gs w

abbrev pub GhostUnread : List ℕ → Type 0
GhostUnread d =
    (n m : ℕ) (on : List Place) (w : World) (gs hs : List Pass)
    → result (run_member mixed n d m on (haunted gs w)) ≡ result (run_member mixed n d m on (haunted hs w))
