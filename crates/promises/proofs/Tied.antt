-- A run over cards and the run of the joined deck over plain are in step.
-- Assumes nothing.
use Prim.Native.Nat.{ℕ, ◌+◌, ◌-◌, ◌/◌, ◌≤◌}
use native.Mathlib.Nat.{not-suc-le-zero, add-zero}
use native.Mathlib.Omega.{arith}
use mathlib.Core.Bool.{Bool, true, false, cond}
use mathlib.Core.List.{List, [], ◌∷◌}
use mathlib.Core.Path.{◌≡◌, refl, sym, ap}
use Rattle.definition.specs.declared.Why.{Why}
use Rattle.definition.specs.declared.Why.TheVariants.{RoomFull as room_full}
use Rattle.definition.specs.declared.Layout.{Layout}
use Rattle.definition.specs.declared.Layout.TheVariants.{Plain as plain, Cards as cards}
use Rattle.definition.specs.Bytes.{mixed}
use Rattle.definition.specs.Refusal.{number_of}
use Rattle.definition.specs.Limits.{include_levels, origin_line_bytes}
use Rattle.definition.specs.Deck as Deck
use Rattle.definition.specs.Deck.{is_sound}
use Rattle.definition.specs.Reading.{read_member}
use Rattle.definition.specs.Events.{Event, blank, copied, replaced, joins}
use Rattle.definition.specs.Cards.{uneven, joined, pieces, takes}
use Rattle.definition.specs.World.{Res}
use Rattle.definition.specs.Names.{Entering, enter}
use Rattle.definition.specs.Flow.{End, ran, returned, went}
use Rattle.definition.specs.Run.{Stop, body_of}
use Rattle.definition.specs.Expansion.{Expansion, result, run_main, capped, world_for, expansion, told, expansion_of}
use Rattle.definition.proofs.Views.{taken_by, FullEvents}
use Rattle.definition.proofs.Joined.{sound_joined}
use Rattle.definition.proofs.Follows.{Extra, Spare, more_room, grow, goes, halts, lacks, same}
use Rattle.definition.proofs.FollowsRun.{T, Enters, enters, refuses, enter_follows, member_follows}
use Rattle.promises.specs.Cards.{TiedTo, Tied}

-- ---- a run over cards takes no fewer lines than one over plain: what it has taken more
least : (y : Layout) (e : Event) (es : List Event) → FullEvents (e ∷ []) → taken_by plain e es ≤ taken_by y e es
unfolding takes
least plain e es f = omega arith
least cards (blank m p) es f = omega arith
least cards (replaced m p l) es f = omega arith
least cards (copied m p []) es f = absurd (not-suc-le-zero f.0)
least cards (copied m p (b ∷ bs)) es f = go (joins es m p)
  where
    go : (t : Bool) → cond t 0 1 ≤ pieces t p (b ∷ bs)
    go true = omega arith
    go false = omega arith

abbrev more : Layout → List Event → ℕ
more y [] = 0
more y (e ∷ es) = more y es + taken_by y e es - taken_by plain e es

abbrev as_plain : Extra
as_plain = record { lines = more; layout = λ _. plain; balance = λ y e es f. omega (arith, least y e es f) }

-- ---- what the run over plain gives, unless the one over cards wants room
pub data Room : Why → Type 0 where
  room : Room room_full

full : (e : Why) → Room e → (number_of e ≡ 17 → ⊥) → ⊥
full _ room h = h refl

abbrev spare : Spare 0 0 as_plain Room
spare = more_room refl room

abbrev Alike : Expansion → Expansion → Type 0
Alike x y = (x.number ≡ 17 → ⊥) → x ≡ y

result_alike : {r s : Res Stop End} → T 0 0 as_plain [] Room spare r s → Alike (result r) (result s)
result_alike (goes {x = ran} {w}) h = refl
result_alike (goes {x = returned v} {w}) h = refl
result_alike (goes {x = went t} {w}) h = refl
result_alike (halts same) h = refl
result_alike (lacks {e} k) h = absurd (full e.why k h)

main_alike : (d : List ℕ) {e f : Entering} → Enters 0 0 as_plain [] Room spare e f → Alike (run_main mixed e d) (run_main mixed f d)
main_alike d refuses h = refl
main_alike d (enters {w}) h = result_alike (member_follows 0 0 as_plain [] Room spare d include_levels 0 [] w) h

begun : (t l s : ℕ) → world_for plain t l s ≡ grow 0 0 as_plain [] Room spare (world_for cards t l s)
begun t l s =
    let p : s ≡ s + 0 = sym (add-zero s) in
    let q : capped t ≡ capped t + 0 = sym (add-zero (capped t)) in
    let o : l / origin_line_bytes ≡ l / origin_line_bytes + 0 = sym (add-zero (l / origin_line_bytes)) in
    λ z. record { identifiers = []; denotations = []; values = []; activities = []; members = []; sentences = 0; limit = p z; used = 0; layout = plain; events = []; text_left = q z; lines_left = o z; passes = [] }

pub runs_alike : (d : List ℕ) (t l s : ℕ) → Alike (run_main mixed (enter 0 (read_member mixed (body_of d 0)) (world_for cards t l s)) d) (run_main mixed (enter 0 (read_member mixed (body_of d 0)) (world_for plain t l s)) d)
runs_alike d t l s = rw (begun t l s) (main_alike d (enter_follows 0 0 as_plain [] Room spare 0 (read_member mixed (body_of d 0)) (world_for cards t l s)))

-- TIED
pub tied : (d : List ℕ) → Tied d
unfolding expansion_of expansion
tied d t l s sound even = rw (sound, even, sound_joined d sound) (λ h. ap (told (joined d)) (runs_alike (joined d) t l s h))

-- the same where the working rooms may be too short: 2 is not told
pub tied_unless_short : (d : List ℕ) (roomy : Bool) (t l s : ℕ) → is_sound mixed d ≡ true → uneven 0 (Deck.lines d) ≡ Deck.none → ((expansion_of mixed cards roomy d t l s).number ≡ 2 → ⊥) → TiedTo d (expansion_of mixed cards roomy d t l s) (expansion mixed roomy (joined d) t l s)
unfolding expansion_of
tied_unless_short d true t l s sound even n = tied d t l s sound even
tied_unless_short d false t l s sound even n = absurd (n (rw (sound, even)))
