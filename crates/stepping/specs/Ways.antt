-- What a statement leads to, by what was made of it: equations of numbers and answers.
use Rattle.texts.specs.declared.Stop.{Stop}
use Rattle.bodies.specs.Types.{Done, Tested}
use Rattle.std.specs.Prelude.{ℕ, Bool, true, false, cond, List, eqb, Ok, Err, Result}
use Rattle.definition.specs.declared.Why.{Why}
use Rattle.definition.specs.declared.Why.TheVariants.{WrongName}
use Rattle.names.specs.declared.Label.{Label}
use Rattle.rows.specs.declared.Statement.{Statement}
use Rattle.rows.specs.declared.Statement.TheVariants.{Null, Declare, Procedure, Assign, Conditional, Group, Iterated, Goto, Include, Activate, Deactivate, Return}
use Rattle.flow.specs.declared.Frames.{Frames}
use Rattle.flow.specs.declared.Next.{Next}
use Rattle.flow.specs.declared.Next.TheVariants.{Begin, Again, Over}
use Rattle.flow.specs.declared.Walk.TheVariants.{Up}
use Rattle.flow.specs.Walks.{chosen_walk, landing_walk}
use Rattle.leaving.specs.declared.Jump.{Jump}
use Rattle.leaving.specs.declared.Jump.TheVariants as J
use Rattle.texts.specs.declared.Progress.{Progress}
use Rattle.texts.specs.Shown.{with_meter}
use Rattle.stepping.specs.declared.Step.{Step}
use Rattle.stepping.specs.declared.Step.TheVariants as St
use Rattle.stepping.specs.declared.Turned.{Turned}

abbrev pub is_include : Statement → Bool
is_include Null = false
is_include Declare = false
is_include Procedure = false
is_include Assign = false
is_include Conditional = false
is_include Group = false
is_include Iterated = false
is_include Goto = false
is_include Include = true
is_include Activate = false
is_include Deactivate = false
is_include Return = false

abbrev pub is_over : Next → Bool
is_over (Begin n) = false
is_over (Again n) = false
is_over Over = true

abbrev pub turned_by : Frames → Result Step (Stop × Progress) → Turned
turned_by fs x = record { frames = fs; step = x }

-- a refusal in member m, at a place
abbrev pub refused_at : Frames → Progress → Why → ℕ → ℕ → Turned
refused_at fs g e m p = turned_by fs (Err ((record { why = e; member = m; place = p }), g))

abbrev pub done_to : Frames → ℕ → Done → Progress → ℕ → ℕ → Turned
done_to fs n (Ok k) g m p = turned_by fs (Ok (St.On (Up n) (with_meter g k)))
done_to fs n (Err (e, k)) g m p = refused_at fs (with_meter g k) e m p

abbrev pub tested_to : List ℕ → Frames → ℕ → Tested → Progress → ℕ → ℕ → Turned
tested_to part fs n (Ok (b, k)) g m p = turned_by fs (Ok (St.On (chosen_walk part n b) (with_meter g k)))
tested_to part fs n (Err (e, k)) g m p = refused_at fs (with_meter g k) e m p

abbrev pub landed_at : List ℕ → Frames → Label → Progress → Turned
landed_at part fs l g = turned_by fs (Ok (St.On (landing_walk part fs l.place.row l.is_end) g))

abbrev pub jumped_to : List ℕ → Frames → Result Jump Why → Progress → ℕ → ℕ → Turned
jumped_to part fs (Ok (J.Here l)) g m p = landed_at part fs l g
jumped_to part fs (Ok (J.Away l)) g m p = turned_by fs (Ok (St.Went l g))
jumped_to part fs (Err e) g m p = refused_at fs g e m p

abbrev pub activated_to : Frames → ℕ → Bool → Progress → ℕ → ℕ → Turned
activated_to fs n b g m p = cond b (turned_by fs (Ok (St.On (Up n) g))) (refused_at fs g WrongName m p)

-- a GOTO that came out of a member into member m: to a label of m, or on
abbrev pub went_to : List ℕ → Frames → ℕ → Label → Progress → Turned
went_to part fs m l g = cond (eqb l.place.member m) (landed_at part fs l g) (turned_by fs (Ok (St.Went l g)))
