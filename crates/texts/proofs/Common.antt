-- The stage further on: an event is put out, steps are charged.
-- Assumes nothing.
use mathlib.Core.Path.{◌≡◌, refl, sym, ap, subst, ◌∙◌}
use mathlib.Core.Bool.{Bool, true, false, false≢true}
use mathlib.Core.List.{List, []}
use Prim.Native.Nat.{ℕ, ◌-◌, ◌%◌, ◌<◌, ◌≤◌}
use native.Mathlib.Omega.{arith}
use lib.ListN.{length}
use Rattle.definition.specs.Lists.{part}
use Rattle.definition.specs.Room.{zeros}
use Rattle.definition.specs.declared.Layout.{Layout}
use Rattle.definition.specs.declared.Layout.TheVariants.{Plain, Cards}
use Rattle.definition.specs.Events.{Event, lines_of}
use Rattle.definition.specs.Cards.{as_given}
use Rattle.definition.specs.Expansion.{size_in}
use Rattle.definition.specs.World as W
use Rattle.definition.specs.World.{Pass, World, new_world, with_event}
use Rattle.definition.specs.Calls.{calls, call_out}
use Rattle.definition.specs.Run.{line_of, body_of}
use Rattle.definition.proofs.Parts.{length_part}
use Rattle.meter.specs.declared.Meter.{Meter}
use Rattle.rows.specs.declared.Starts.{Starts}
use Rattle.output.specs.declared.Out.{Out}
use Rattle.output.specs.Shows.{Begins}
use Rattle.origin.specs.Written.{Written}
use Rattle.output.proofs.Laws.{begin_shows, begin_fine}
use Rattle.names.specs.Table.{identifiers_from}
use Rattle.callees.specs.Shown.{denotations_from, Named, Slots}
use Rattle.callees.specs.Answer.{on_from}
use Rattle.callees.proofs.Naming.{parameters_there}
use Rattle.operands.specs.declared.Scene.{Scene}
use Rattle.operands.specs.Shown.{RowsShown, Shows}
use Rattle.operands.specs.Answer.{run_in}
use Rattle.outcomes.specs.declared.Src.{Src}
use Rattle.outcomes.specs.Texts.{Awake, room_of, stretch_of, text_of, Within}
use Rattle.scanning.specs.Cycle.{Sourced}
use Rattle.texts.specs.declared.Progress.{Progress}
use Rattle.texts.specs.Shown.{with_meter, with_out, SceneIs, Onstage, Goes, Lies}

-- ---- numbers that are small enough
pub member_low : (m : ℕ) → m < 32 → m % 256 ≡ m
member_low m h = omega arith

pub size_low : (n : ℕ) → n ≤ 4294967295 → n % 4294967296 ≡ n
size_low n h = omega arith

-- ---- a text that lies in a body
pub body_size : (deck : List ℕ) (m : ℕ) → length (body_of deck m) ≡ size_in deck m
unfolding body_of
body_size deck m = length_part (size_in deck m) (line_of deck m).offset deck

pub body_text : (s w : List ℕ) (x : Src) → x.in_work ≡ false → text_of s w x ≡ part (x.to - x.from) x.from s
unfolding text_of stretch_of room_of
body_text s w x e = rw e

pub body_room : (s w : List ℕ) (x : Src) → x.in_work ≡ false → room_of s w x ≡ s
unfolding room_of
body_room s w x e = rw e

pub body_still : (s w w' : List ℕ) (x : Src) → x.in_work ≡ false → text_of s w' x ≡ text_of s w x
body_still s w w' x e = body_text s w' x e ∙ sym (body_text s w x e)

pub body_within : {deck : List ℕ} {m : ℕ} (s w : List ℕ) (x : Src) → x.in_work ≡ false → Lies deck m s x.from x.to → Within (room_of s w x) x.from x.to
body_within s w x e k = record { order = k.order; within = omega (arith, k.within, ap (λ (z : List ℕ). length z) (body_room s w x e)); short = omega (arith, k.within, k.short) }

flag_differs : (A : Type 0) (b : Bool) → b ≡ false → b ≡ true → A
flag_differs A b e f = let g : false ≡ true = sym e ∙ f in absurd (false≢true g)

pub body_sourced : {deck : List ℕ} {m : ℕ} (s w : List ℕ) (x : Src) → x.in_work ≡ false → Lies deck m s x.from x.to → Sourced s w x 0
body_sourced s w x e k = record { within = body_within s w x e k; below = λ f. flag_differs _ x.in_work e f }

-- ---- no procedure is running
pub runs_out : (sc : Scene) → sc.running.left ≡ 16 → run_in sc ≡ call_out
unfolding on_from
runs_out sc e = ap (λ (k : ℕ). calls k (on_from sc.running.places k (16 - k))) e

-- ---- what is shown does not read what was put out
rows_on : (deck rows names : List ℕ) (starts : Starts) (n : ℕ) (B : World) (e : Event) (z : Pass) (k : ℕ) → Named deck names n B → RowsShown deck rows starts B → RowsShown deck rows starts (with_event e z k B)
rows_on deck rows names starts n B e z k d r = record {
  stated = r.stated;
  shown = r.shown;
  linked = r.linked;
  few = r.few;
  bodies = r.bodies;
  parameters = λ m q ns v ps i f g. r.parameters m q ns v ps i f (parameters_there deck names n B d.identifiers d.denotations (W.procedure_at m q) ns ∙ sym (parameters_there deck names n (with_event e z k B) d.identifiers d.denotations (W.procedure_at m q) ns) ∙ g);
  labels = r.labels;
}

module _ (deck rows names c l h w t ls : List ℕ) (starts : Starts) (g : Progress) (B : World) (s : Onstage deck rows names c l h w t ls starts g B) where
  -- an event more, with other values and steps
  pub stage_event : (c' l' h' w' t' ls' : List ℕ) (m : Meter) (o : Out) (e : Event) (z : Pass) (k : ℕ) → Slots B.denotations c' l' h' → length w' ≡ length w → m.limit ≡ B.limit → Written (size_in deck) g.layout t' ls' o (with_event e z k B)
      → Onstage deck rows names c' l' h' w' t' ls' starts (with_out (with_meter g m) o) (with_event e z k B)
  stage_event c' l' h' w' t' ls' m o e z k i j v wr = record {
    shows = record {
      named = record { identifiers = s.shows.named.identifiers; denotations = s.shows.named.denotations };
      rowed = rows_on deck rows names starts g.names B e z k s.shows.named s.shows.rowed;
      slots = i;
      work = omega (arith, s.shows.work, j);
      taken = omega arith;
      limit = v;
      left = s.shows.left;
    };
    awake = record { identifiers = s.awake.identifiers; activities = s.awake.activities };
    written = wr;
  }

  -- other values and steps alone
  pub stage_values : (c' l' h' w' : List ℕ) (m : Meter) → Slots B.denotations c' l' h' → length w' ≡ length w → m.limit ≡ B.limit → Onstage deck rows names c' l' h' w' t ls starts (with_meter g m) B
  stage_values c' l' h' w' m i j v = record {
    shows = record { named = s.shows.named; rowed = s.shows.rowed; slots = i; work = omega (arith, s.shows.work, j); taken = s.shows.taken; limit = v; left = s.shows.left };
    awake = s.awake;
    written = s.written;
  }

  pub stage_meter : (m : Meter) → m.limit ≡ B.limit → Onstage deck rows names c l h w t ls starts (with_meter g m) B
  stage_meter m v = stage_values c l h w m s.shows.slots refl v

  -- a scene as this one
  pub stage_scene : (sc : Scene) → SceneIs starts g sc → Shows deck rows names c l h w 0 sc g.meter B
  stage_scene sc i = record {
    named = record { identifiers = s.shows.named.identifiers ∙ ap (λ (n : ℕ). identifiers_from deck names 0 n) (sym i.names); denotations = s.shows.named.denotations ∙ ap (λ (n : ℕ). denotations_from names 0 n) (sym i.names) };
    rowed = subst (λ (q : Starts). RowsShown deck rows q B) (sym i.starts) s.shows.rowed;
    slots = s.shows.slots;
    work = s.shows.work;
    taken = s.shows.taken;
    limit = s.shows.limit;
    left = omega (arith, i.left);
  }

  pub stage_awake : (sc : Scene) → SceneIs starts g sc → Awake deck names sc.names B
  stage_awake sc i = subst (λ (n : ℕ). Awake deck names n B) (sym i.names) s.awake

-- ---- nothing is put out yet
pub written_none : (sizes : ℕ → ℕ) (y : Layout) (t ls : List ℕ) (o : Out) (limit : ℕ) → t ≡ zeros (length t) → ls ≡ zeros (length ls) → Begins (length t) (length ls) o → Written sizes y t ls o (new_world y limit o.room o.free)
unfolding lines_of as_given
written_none sizes Plain t ls o limit e f b = record { layout = refl; events = []; out = begin_shows t ls o e f b; fine = begin_fine (length t) (length ls) o b; same = refl; told = refl; full = tt; text = refl; lines = refl }
written_none sizes Cards t ls o limit e f b = record { layout = refl; events = []; out = begin_shows t ls o e f b; fine = begin_fine (length t) (length ls) o b; same = refl; told = refl; full = tt; text = refl; lines = refl }

-- ---- the rest of the world
pub goes_event : (B : World) (e : Event) (z : Pass) (k : ℕ) → Goes B (with_event e z k B)
goes_event B e z k = record { identifiers = refl; denotations = refl; activities = refl; members = refl; sentences = refl; limit = refl }

pub goes_none : (B : World) → Goes B B
goes_none B = record { identifiers = refl; denotations = refl; activities = refl; members = refl; sentences = refl; limit = refl }

pub goes_on_lem : (B B₁ B₂ : World) → Goes B B₁ → Goes B₁ B₂ → Goes B B₂
goes_on_lem B B₁ B₂ a b = record {
  identifiers = b.identifiers ∙ a.identifiers;
  denotations = b.denotations ∙ a.denotations;
  activities = b.activities ∙ a.activities;
  members = b.members ∙ a.members;
  sentences = b.sentences ∙ a.sentences;
  limit = b.limit ∙ a.limit;
}
