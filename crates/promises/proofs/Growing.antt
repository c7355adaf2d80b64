-- More steps and more room keep what a run gives.
-- Assumes nothing.
use Prim.Native.Nat.{ℕ, ◌+◌, ◌-◌, ◌/◌, ◌≤◌}
use native.Mathlib.Omega.{arith}
use mathlib.Core.Bool.{Bool, true, false, cond, false≢true}
use mathlib.Core.List.{List, []}
use mathlib.Core.Path.{◌≡◌, refl, ap}
use lib.Dec.{leb}
use borrow.Author.Tests.{leb-true, leb-false}
use Rattle.definition.specs.declared.Why.{Why}
use Rattle.definition.specs.declared.Why.TheVariants.{MalformedDeck as malformed_deck, ShortRoom as short_room, NoStep, RoomFull}
use Rattle.definition.specs.Bytes.{mixed}
use Rattle.definition.specs.Refusal.{number_of}
use Rattle.definition.specs.Choice.{when}
use Rattle.definition.specs.Limits.{include_levels, text_bytes, origin_line_bytes}
use Rattle.definition.specs.Deck as Deck
use Rattle.definition.specs.Deck.{is_sound}
use Rattle.definition.specs.Reading.{read_member}
use Rattle.definition.specs.declared.Layout.{Layout}
use Rattle.definition.specs.declared.Layout.TheVariants.{Plain as plain, Cards as cards}
use Rattle.definition.specs.Cards.{uneven, joined}
use Rattle.definition.specs.World.{Res}
use Rattle.definition.specs.Names.{Entering, enter}
use Rattle.definition.specs.Flow.{End, ran, returned, went}
use Rattle.definition.specs.Run.{Stop, body_of}
use Rattle.definition.specs.Expansion.{refusal, result, run_main, capped, world_for, expansion, told, cards_in, expansion_of}
use Rattle.definition.proofs.Follows.{Extra, extra, Spare, more_left, grow, goes, halts, lacks, same}
use Rattle.definition.proofs.FollowsRun.{T, Enters, enters, refuses, enter_follows, member_follows}
use Rattle.promises.specs.More.{Kept, MoreKeeps, MoreKeepsIn}

-- the refusals that more steps and more room may undo
pub data Wants : Why → Type 0 where
  steps : Wants NoStep
  room : Wants RoomFull

undone : (e : Why) → Wants e → (number_of e ≡ 17 → ⊥) → (number_of e ≡ 18 → ⊥) → ⊥
undone _ steps j k = k refl
undone _ room j k = j refl

module _ (a b : ℕ) (c : Extra) where
  abbrev spare : Spare a b c Wants
  spare = more_left steps room

  result_kept : {r s : Res Stop End} → T a b c [] Wants spare r s → Kept (result r) (result s)
  result_kept (goes {x = ran} {w}) i j k = refl
  result_kept (goes {x = returned v} {w}) i j k = refl
  result_kept (goes {x = went t} {w}) i j k = refl
  result_kept (halts same) i j k = refl
  result_kept (lacks {e} h) i j k = absurd (undone e.why h j k)

  main_kept : (d : List ℕ) {e f : Entering} → Enters a b c [] Wants spare e f → Kept (run_main mixed e d) (run_main mixed f d)
  main_kept d refuses i j k = refl
  main_kept d (enters {w}) i j k = result_kept (member_follows a b c [] Wants spare d include_levels 0 [] w) i j k

-- ---- the rooms at the start
capped_more : (n m : ℕ) → n ≤ m → capped n ≤ capped m
capped_more n m h = go (leb n text_bytes) (leb m text_bytes) refl refl
  where
    go : (x y : Bool) → leb n text_bytes ≡ x → leb m text_bytes ≡ y → cond x n text_bytes ≤ cond y m text_bytes
    go true true p q = h
    go true false p q = leb-true n text_bytes p
    go false true p q = omega (arith, leb-false n text_bytes p, leb-true m text_bytes q)
    go false false p q = omega arith

module _ (y : Layout) (t u l k s r : ℕ) (h : t ≤ u) (i : l ≤ k) (j : s ≤ r) where
  abbrev lines : Extra
  lines = extra (k / origin_line_bytes - l / origin_line_bytes)

  world_grown : world_for y u k r ≡ grow (r - s) (capped u - capped t) lines [] Wants (more_left steps room) (world_for y t l s)
  world_grown =
      let p : r ≡ s + (r - s) = omega arith in
      let q : capped u ≡ capped t + (capped u - capped t) = omega (arith, capped_more t u h) in
      let o : k / origin_line_bytes ≡ l / origin_line_bytes + (k / origin_line_bytes - l / origin_line_bytes) = omega arith in
      λ z. record { identifiers = []; denotations = []; values = []; activities = []; members = []; sentences = 0; limit = p z; used = 0; layout = y; events = []; text_left = q z; lines_left = o z; passes = [] }

  -- a run in each layout
  run_kept : (d : List ℕ) → Kept (run_main mixed (enter 0 (read_member mixed (body_of d 0)) (world_for y t l s)) d) (run_main mixed (enter 0 (read_member mixed (body_of d 0)) (world_for y u k r)) d)
  run_kept d = rw world_grown (main_kept (r - s) (capped u - capped t) lines d (enter_follows _ _ _ [] Wants (more_left steps room) 0 (read_member mixed (body_of d 0)) (world_for y t l s)))

-- MORE KEEPS, plain or cards
pub more_keeps_in : (y : Layout) (d : List ℕ) → MoreKeepsIn y d
unfolding expansion_of expansion
more_keeps_in plain d roomy roomier t u l k s r e h i j = go (is_sound mixed d) roomy roomier e
  where
    go : (x y z : Bool) → (y ≡ true → z ≡ true) → Kept (when x (λ _. when y (λ _. run_main mixed (enter 0 (read_member mixed (body_of d 0)) (world_for plain t l s)) d) (λ _. refusal short_room 0 0 0)) (λ _. refusal malformed_deck 0 0 0)) (when x (λ _. when z (λ _. run_main mixed (enter 0 (read_member mixed (body_of d 0)) (world_for plain u k r)) d) (λ _. refusal short_room 0 0 0)) (λ _. refusal malformed_deck 0 0 0))
    go false y z f = λ _ _ _. refl
    go true false z f = λ n _ _. absurd (n refl)
    go true true false f = absurd (false≢true (f refl))
    go true true true f = run_kept plain t u l k s r h i j d
more_keeps_in cards d roomy roomier t u l k s r e h i j = go (is_sound mixed d) (uneven 0 (Deck.lines d)) roomy roomier e
  where
    go : (x : Bool) (v : Deck.Found) (y z : Bool) → (y ≡ true → z ≡ true) → Kept (when x (λ _. cards_in mixed v y d t l s) (λ _. refusal malformed_deck 0 0 0)) (when x (λ _. cards_in mixed v z d u k r) (λ _. refusal malformed_deck 0 0 0))
    go false v y z f = λ _ _ _. refl
    go true (Deck.line n) y z f = λ _ _ _. refl
    go true Deck.none false z f = λ n _ _. absurd (n refl)
    go true Deck.none true false f = absurd (false≢true (f refl))
    go true Deck.none true true f = λ a b c. ap (told (joined d)) (run_kept cards t u l k s r h i j (joined d) a b c)

pub more_keeps : (d : List ℕ) → MoreKeeps d
unfolding expansion_of
more_keeps d = more_keeps_in plain d
