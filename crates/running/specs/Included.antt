-- The definition's INCLUDE, told by how members end: a name, a list of names, a member that is entered. That these are the
-- definition's own functions is proved in proofs/Including.antt.
use Rattle.std.specs.Prelude.{ℕ, zero, suc, List, [], ◌∷◌}
use Rattle.definition.specs.Bytes.{mixed}
use Rattle.definition.specs.Deck as Deck
use Rattle.definition.specs.Reading.{read_member}
use Rattle.definition.specs.World.{World, Res, good, bad, bind}
use Rattle.definition.specs.Names as N
use Rattle.definition.specs.Flow as F
use Rattle.definition.specs.Calls.{Place}
use Rattle.definition.specs.Run as Run
use Rattle.definition.specs.Run.{body_of}
use Rattle.definition.specs.declared.Why.TheVariants.{UnknownMember, TooDeep}

-- so many include levels are left
abbrev pub level_of : ℕ → List ℕ → Run.Level
level_of zero d = Run.no_level
level_of (suc n) d = Run.level (Run.run_member mixed n d)

-- member k is entered and run, or refused
abbrev pub entered_run : N.Entering → ℕ → World → (World → Res Run.Stop F.End) → Res Run.Stop F.End
entered_run (N.unreadable e p) k w f = bad (Run.stop k p e) w.used
entered_run (N.entered v) k w f = f v

unfoldable pub enter_run : ℕ → List ℕ → ℕ → List Place → World → Res Run.Stop F.End
enter_run n d k on w = entered_run (N.enter k (read_member mixed (body_of d k)) w) k w (λ v. Run.run_member mixed n d k on v)

-- the member that was found for a name of an INCLUDE, which stands at the place p of member m: "tests 14, 15, then the member"
abbrev pub found_run : Deck.Found → ℕ → List ℕ → ℕ → ℕ → List Place → World → Res Run.Stop F.End
found_run Deck.none n d p m on w = bad (Run.stop m p UnknownMember) w.used
found_run (Deck.line k) zero d p m on w = bad (Run.stop m p TooDeep) w.used
found_run (Deck.line k) (suc n) d p m on w = enter_run n d k on w

-- a GOTO that comes out of a member ends the INCLUDE; no member gives a value
abbrev pub end_on : F.End → World → (World → Res Run.Stop F.End) → Res Run.Stop F.End
end_on F.ran w f = f w
end_on (F.returned v) w f = f w
end_on (F.went x) w f = good (F.went x) w

-- the members of an INCLUDE one after the other; `on` has the INCLUDE itself
unfoldable pub include_on : ℕ → List ℕ → ℕ → ℕ → List Place → List Deck.Sought → World → Res Run.Stop F.End
include_on n d p m on [] w = good F.ran w
include_on n d p m on (x ∷ xs) w = bind (found_run (Deck.find mixed x 0 (Deck.lines d)) n d p m on w) λ e v. end_on e v (λ u. include_on n d p m on xs u)
