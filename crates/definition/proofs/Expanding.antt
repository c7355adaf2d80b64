-- What holds of every expansion, plain or cards, by its four kinds: the three refusals before a run, and the run as it is told.
-- Assumes nothing.
use Prim.Native.Nat.{ℕ}
use mathlib.Core.Bool.{Bool, true, false}
use native.Mathlib.Omega.{arith}
use mathlib.Core.List.{List}
use mathlib.Core.Path.{◌≡◌, refl, sym, subst}
use Rattle.definition.specs.Bytes.{mixed}
use Rattle.definition.specs.Refusal.{malformed_deck, short_room, uneven_body}
use Rattle.definition.specs.Deck as Deck
use Rattle.definition.specs.Deck.{is_sound}
use Rattle.definition.specs.Reading.{read_member}
use Rattle.definition.specs.Cards.{Layout, plain, cards, uneven_in, joined}
use Rattle.definition.specs.Names.{enter}
use Rattle.definition.specs.Run.{body_of}
use Rattle.definition.specs.Expansion.{Expansion, refusal, run_main, world_for, expansion, told, expansion_of}
use Rattle.definition.proofs.Joined.{sound_joined}

-- the deck that is run for the deck d, its run, and what a run gives as it is told
abbrev pub ran_deck : Layout → List ℕ → List ℕ
ran_deck plain d = d
ran_deck cards d = joined d

abbrev pub ran_in : Layout → List ℕ → ℕ → ℕ → ℕ → Expansion
ran_in y d text_room list_room steps = run_main mixed (enter 0 (read_member mixed (body_of d 0)) (world_for y text_room list_room steps)) d

abbrev pub told_as : Layout → List ℕ → Expansion → Expansion
told_as plain d x = x
told_as cards d x = told d x

pub ran_sound : (y : Layout) (d : List ℕ) → is_sound mixed d ≡ true → is_sound mixed (ran_deck y d) ≡ true
ran_sound plain d s = s
ran_sound cards d s = sound_joined d s

-- ---- the four kinds of expansions
module _ (roomy : Bool) (d : List ℕ) (text_room list_room steps : ℕ) where
  pub malformed_is : (y : Layout) → is_sound mixed d ≡ false → expansion_of mixed y roomy d text_room list_room steps ≡ refusal malformed_deck 0 0 0
  unfolding expansion_of expansion
  malformed_is plain s = rw s
  malformed_is cards s = rw s

  pub uneven_is : (y : Layout) (k : ℕ) → is_sound mixed d ≡ true → uneven_in y d ≡ Deck.line k → expansion_of mixed y roomy d text_room list_room steps ≡ refusal uneven_body k 0 0
  unfolding expansion_of
  uneven_is plain k s e = let z : ◌≡◌ {A = ℕ} 0 1 = cc in absurd (omega arith)
  uneven_is cards k s e = rw (s, e)

  pub short_is : (y : Layout) → is_sound mixed d ≡ true → uneven_in y d ≡ Deck.none → roomy ≡ false → expansion_of mixed y roomy d text_room list_room steps ≡ refusal short_room 0 0 0
  unfolding expansion_of expansion
  short_is plain s e r = rw (s, r)
  short_is cards s e r = rw (s, e, r)

  pub ran_is : (y : Layout) → is_sound mixed d ≡ true → uneven_in y d ≡ Deck.none → roomy ≡ true → expansion_of mixed y roomy d text_room list_room steps ≡ told_as y (ran_deck y d) (ran_in y (ran_deck y d) text_room list_room steps)
  unfolding expansion_of expansion
  ran_is plain s e r = rw (s, r)
  ran_is cards s e r = rw (s, e, r)

-- EVERY EXPANSION has what its kind has
module _ (P : Expansion → Type 0) (y : Layout) (roomy : Bool) (d : List ℕ) (text_room list_room steps : ℕ) where
  pub each_way : (is_sound mixed d ≡ false → P (refusal malformed_deck 0 0 0)) → ((k : ℕ) → is_sound mixed d ≡ true → uneven_in y d ≡ Deck.line k → P (refusal uneven_body k 0 0))
      → (is_sound mixed d ≡ true → uneven_in y d ≡ Deck.none → roomy ≡ false → P (refusal short_room 0 0 0))
      → (is_sound mixed d ≡ true → uneven_in y d ≡ Deck.none → roomy ≡ true → P (told_as y (ran_deck y d) (ran_in y (ran_deck y d) text_room list_room steps)))
      → P (expansion_of mixed y roomy d text_room list_room steps)
  each_way malformed uneven short ran = go (is_sound mixed d) (uneven_in y d) roomy refl refl refl
    where
      go : (x : Bool) (f : Deck.Found) (b : Bool) → is_sound mixed d ≡ x → uneven_in y d ≡ f → roomy ≡ b → P (expansion_of mixed y roomy d text_room list_room steps)
      go false f b s e r = subst P (sym (malformed_is roomy d text_room list_room steps y s)) (malformed s)
      go true (Deck.line k) b s e r = subst P (sym (uneven_is roomy d text_room list_room steps y k s e)) (uneven k s e)
      go true Deck.none false s e r = subst P (sym (short_is roomy d text_room list_room steps y s e r)) (short s e r)
      go true Deck.none true s e r = subst P (sym (ran_is roomy d text_room list_room steps y s e r)) (ran s e r)
