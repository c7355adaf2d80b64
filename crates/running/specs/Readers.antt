-- THE CONTRACTS of what stands before a member that runs: it is read behind the rows that there are, and starts there.
use Rattle.texts.specs.declared.Stop.{Stop}
use Rattle.std.specs.Prelude.{ℕ, ◌+◌, ◌*◌, ◌≤◌, ◌≡◌, List, length, drop, Result, Err}
use Rattle.definition.specs.declared.Why.{Why}
use Rattle.rows.specs.Parts.{StartsAt}
use Rattle.rows.specs.declared.Starts.{Starts}
use Rattle.reading.specs.declared.Source.{Source}
use Rattle.reading.specs.Members.{Members}
use Rattle.showing.specs.Worlds.{Behind}
use Rattle.texts.specs.declared.Progress.{Progress}
use Rattle.texts.specs.declared.Here.{Here}
use Rattle.stepping.specs.declared.Ended.{Ended}
use Rattle.stepping.specs.declared.Ended.TheVariants as En

-- member k was read into the part of the table behind its rows
pub record ReadIs (deck rows names : List ℕ) (k : ℕ) (g : Progress) (rows' names' : List ℕ) (r : Source) : Type 0 where
  pub part : List ℕ
  pub reads : Members deck (drop (16 * g.rows) rows) names k g.rows g.names part names' r
  pub behind : 16 * g.rows ≤ length rows → Behind rows g.rows rows' part
  pub size : length rows' ≡ length rows
  pub book : length names' ≡ length names

-- its rows and its names join those that there are; as many rows as 01 allows are counted
pub record WithSource (g : Progress) (x : Source) (r : Progress) : Type 0 where
  pub meter : r.meter ≡ g.meter
  pub layout : r.layout ≡ g.layout
  pub out : r.out ≡ g.out
  pub names : r.names ≡ x.names
  pub rows : g.rows + x.rows ≤ 2048 → r.rows ≡ g.rows + x.rows

-- the same member, which starts at row n, where each other starts as said
pub record StartedAt (here : Here) (x : Starts) (n : ℕ) (r : Here) : Type 0 where
  pub member : r.member ≡ here.member
  pub starts : StartsAt x here.member n r.starts

-- ---- how a member has ended
abbrev pub stopped_at : Progress → Why → ℕ → ℕ → Result Ended (Stop × Progress)
stopped_at g e m p = Err ((record { why = e; member = m; place = p }), g)
