-- What the contracts ask can be had: in the world of any table of names where no entry has a body and nothing is a label.
-- Assumes nothing.
use Prim.Native.Nat.{ℕ, ◌≤◌}
use native.Mathlib.Omega.{arith}
use mathlib.Core.Path.{refl, subst}
use mathlib.Core.List.{List, []}
use lib.ListN.{length, get_or}
use Rattle.definition.specs.declared.Layout.TheVariants as Y
use Rattle.definition.specs.World as W
use Rattle.definition.specs.World.{World, variable_of, entry_of, label_at, builtin_name, no_body, body_at, rows_in}
use Rattle.meter.specs.declared.Meter.{Meter}
use Rattle.names.specs.Table.{identifiers_from}
use Rattle.callees.specs.Shown.{denotations_from, Slots}
use Rattle.operands.specs.declared.Scene.{Scene}
use Rattle.outcomes.specs.declared.Dest.{Dest}
use Rattle.outcomes.specs.Texts.{activities_from}
use Rattle.scanning.specs.Cycle.{Aims, Stage}

-- the world of a table with n names
abbrev pub world_for : List ℕ → List ℕ → ℕ → ℕ → World
world_for deck names n limit = record {
  identifiers = identifiers_from deck names 0 n;
  denotations = denotations_from names 0 n;
  values = [];
  activities = activities_from names 0 n;
  members = [];
  sentences = 0;
  limit = limit;
  used = 0;
  layout = Y.Plain;
  events = [];
  text_left = 0;
  lines_left = 0;
  passes = [];
}

abbrev pub Plain : W.Denotation → Type 0
Plain (variable_of t) = Unit {0}
Plain (entry_of x no_body) = Unit {0}
Plain (entry_of x (body_at m r)) = ⊥
Plain (label_at m r x) = ⊥
Plain builtin_name = Unit {0}

pub stage_had : (deck rows names c l h w t : List ℕ) (u : ℕ) (x : Scene) (m : Meter) (o : Dest) → ((a : ℕ) → Plain (get_or (denotations_from names 0 x.names) a builtin_name)) → Slots (denotations_from names 0 x.names) c l h
    → 65536 ≤ length w → u ≤ 65536 → x.running.left ≤ 16 → Aims t o → Stage deck rows names c l h w u x m t o (world_for deck names x.names m.limit)
unfolding rows_in
stage_had deck rows names c l h w t u x m o plain s k i j a = record {
  shows = record {
    named = record { identifiers = refl; denotations = refl };
    rowed = record {
      stated = λ b r e. absurd (omega (arith, e));
      shown = λ b. record {
        rows = λ n e. absurd (omega (arith, e));
        tabled = record {
          kind = λ n e. absurd (omega (arith, e));
          before = λ n g e f. absurd (omega (arith, e));
          level = λ n g e f. absurd (omega (arith, e));
          inner = λ n g e f d. absurd (omega (arith, e));
          shallow = λ g e f. absurd (omega (arith, e));
          typed = λ n ns v e f. absurd (omega (arith, e));
        };
      };
      linked = λ b. record { next = λ n d e f. absurd (omega (arith, e)); child = λ n d e f. absurd (omega (arith, e)); other = λ n d e f. absurd (omega (arith, e)) };
      few = λ b. omega arith;
      bodies = λ b d r y e. absurd (subst Plain e (plain b));
      parameters = λ b r ns v ps e f g. absurd (omega (arith, e));
      labels = λ n b d g q r y e f. absurd (subst Plain f (plain g));
    };
    slots = s;
    work = k;
    taken = i;
    limit = refl;
    left = j;
  };
  awake = record { identifiers = refl; activities = refl };
  aims = a;
}
