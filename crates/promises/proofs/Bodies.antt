-- A body of a card deck that is never included may be any other of its length.
-- Assumes nothing.
use Prim.Native.Nat.{ℕ, ◌<◌}
use native.Mathlib.Omega.{arith}
use mathlib.Core.Bool.{Bool, true, false, cond}
use mathlib.Core.List.{List, [], ◌∷◌}
use mathlib.Core.Path.{◌≡◌, refl, sym, ap, ◌∙◌}
use lib.Dec.{eqb}
use lib.ListN.{length}
use Rattle.definition.specs.declared.Layout.TheVariants.{Cards as cards}
use Rattle.definition.specs.Bytes.{mixed}
use Rattle.definition.specs.Deck as Deck
use Rattle.definition.specs.Deck.{count, line_at, is_sound}
use Rattle.definition.specs.Reading.{read_member}
use Rattle.definition.specs.Events.{Line, line}
use Rattle.definition.specs.Cards.{uneven, columns, records, joined_size, joined, given, cut, as_given}
use Rattle.definition.specs.World.{World}
use Rattle.definition.specs.Names.{enter}
use Rattle.definition.specs.Run.{body_of}
use Rattle.definition.specs.Expansion.{Expansion, run_main, world_for, size_in, told, cards_in, expansion_of}
use Rattle.definition.proofs.Joined.{sound_parts, sound_joined, count_joined, size_joined, body_columns, lines_alike}
use Rattle.promises.specs.Unread.{MainAtBar, with_body}
use Rattle.promises.specs.Cards.{UnreadCards}
use Rattle.promises.proofs.Cutting.{Cut, run_cut}
use Rattle.promises.proofs.Deck.{count_same, layout_same, line_same, lines_same, sound_same, body_same}
use Rattle.promises.proofs.Unread.{runs_same, answer_listed}

-- ---- what is told depends on the sizes of the deck's members alone
module _ (d : List ℕ) (s r : ℕ → ℕ) (agree : (m : ℕ) → m < count d → s m ≡ r m) where
  given_same : (ls : List Line) (t : List ℕ) → Cut d ls t → as_given s ls ≡ as_given r ls
  unfolding as_given
  given_same [] t c = refl
  given_same (l ∷ ls) t c = go (eqb l.kind 2) (given_same ls c.0 c.2)
    where
      go : (f : Bool) → as_given s ls ≡ as_given r ls → cond f (cut l.member l.offset l.size (as_given s ls)) (line l.kind l.member (given (s l.member) l.offset) l.size ∷ as_given s ls) ≡ cond f (cut l.member l.offset l.size (as_given r ls)) (line l.kind l.member (given (r l.member) l.offset) l.size ∷ as_given r ls)
      go true h = ap (cut l.member l.offset l.size) h
      go false h = λ i. line l.kind l.member (given (agree l.member c.1.listed i) l.offset) l.size ∷ h i

told_same : (d e : List ℕ) (x : Expansion) → ((m : ℕ) → m < count d → size_in e m ≡ size_in d m) → x.member < count d → Cut d x.lines x.text → told e x ≡ told d x
told_same d e x agree h c =
    let p : size_in e x.member ≡ size_in d x.member = agree x.member h in
    let q : as_given (size_in e) x.lines ≡ as_given (size_in d) x.lines = given_same d (size_in e) (size_in d) agree x.lines x.text c in
    λ i. record { number = x.number; member = x.member; offset = cond (eqb x.number 0) 0 (given (p i) x.offset); steps = x.steps; text = x.text; lines = q i }

-- ---- the joined decks differ in the body of k at most
module _ (d : List ℕ) (k : ℕ) (b : List ℕ) (sound : is_sound mixed d ≡ true) (member : k < count d) (fits : length b ≡ (line_at d k).size) where
  sound_there : is_sound mixed (with_body k b d) ≡ true
  sound_there = sound_same d k b sound member fits ∙ sound

  contents : Deck.lines (joined (with_body k b d)) ≡ Deck.lines (joined d)
  contents = lines_alike d (with_body k b d) sound sound_there (lines_same d k b sound member fits) (count_same d k b sound member fits) (layout_same d k b sound member fits)

  bodies : (m : ℕ) → m < count (joined d) → (m ≡ k → ⊥) → body_of (joined d) m ≡ body_of (joined (with_body k b d)) m
  bodies m h n =
      let i : m < count d = omega (arith, count_joined d sound) in
      let j : m < count (with_body k b d) = omega (arith, count_same d k b sound member fits) in
      body_columns d sound m i
      ∙ (λ z. columns (records (sym (line_same d k b sound member fits m i) z)) 0 (body_same d k b sound member fits m i n z))
      ∙ sym (body_columns (with_body k b d) sound_there m j)

  sizes : (m : ℕ) → m < count (joined d) → size_in (joined (with_body k b d)) m ≡ size_in (joined d) m
  sizes m h =
      let i : m < count d = omega (arith, count_joined d sound) in
      let j : m < count (with_body k b d) = omega (arith, count_same d k b sound member fits) in
      size_joined (with_body k b d) sound_there m j ∙ ap (λ (l : Deck.Line). joined_size l) (line_same d k b sound member fits m i) ∙ sym (size_joined d sound m i)

  run_same : (w : World) → 0 < k → (MainAtBar k (enter 0 (read_member mixed (body_of (joined d) 0)) w) (joined d) → ⊥) → run_main mixed (enter 0 (read_member mixed (body_of (joined (with_body k b d)) 0)) w) (joined (with_body k b d)) ≡ run_main mixed (enter 0 (read_member mixed (body_of (joined d) 0)) w) (joined d)
  run_same w i never = runs_same k (joined d) (joined (with_body k b d)) contents bodies i (sound_parts (joined d) (sound_joined d sound)).some w never

-- UNREAD, of a card deck
pub unread_cards : (d : List ℕ) → UnreadCards d
unfolding expansion_of
unread_cards d roomy k b t l s sound i j fits never =
    rw (sound_there d k b sound j fits, sound) (ap (λ (ls : List Deck.Line). cards_in mixed (uneven 0 ls) roomy (with_body k b d) t l s) (lines_same d k b sound j fits) ∙ go (uneven 0 (Deck.lines d)) roomy)
  where
    go : (f : Deck.Found) (y : Bool) → cards_in mixed f y (with_body k b d) t l s ≡ cards_in mixed f y d t l s
    go (Deck.line n) y = refl
    go Deck.none false = refl
    go Deck.none true =
        let w : World = world_for cards t l s in
        let x : Expansion = run_main mixed (enter 0 (read_member mixed (body_of (joined d) 0)) w) (joined d) in
        let some : 0 < count (joined d) = (sound_parts (joined d) (sound_joined d sound)).some in
        ap (told (joined (with_body k b d))) (run_same d k b sound j fits w i never)
        ∙ told_same (joined d) (joined (with_body k b d)) x (sizes d k b sound j fits) (answer_listed k (joined d) i some w never) (run_cut (joined d) cards t l s some)
