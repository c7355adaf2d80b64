-- The lines of an expansion cut its text.
-- Assumes nothing.
use Prim.Native.Nat.{ℕ, zero, suc, ◌+◌, ◌≤◌, ◌<◌}
use native.Mathlib.Nat.{add-zero, zero-add, suc-add, add-suc}
use native.Mathlib.Omega.{arith}
use mathlib.Core.Bool.{Bool, true, false, cond, ◌&&◌, false≢true}
use mathlib.Core.List.{List, [], ◌∷◌, ◌++◌, reverse, reverse_aux-eq, append_assoc}
use mathlib.Core.Path.{◌≡◌, refl, sym, ap, ◌∙◌}
use lib.Dec.{eqb}
use lib.ListN.{length, get_or, drop, length-append, length-take, drop_of_length-le}
use lib.Seq.{take_all, take-append-le, drop-append-le}
use borrow.Author.Tests.{eqb-true, eq-eqb}
use Rattle.definition.specs.Bytes.{mixed}
use Rattle.definition.specs.Lists.{part}
use Rattle.definition.specs.Events.{Event, blank, copied, replaced, text_of, Line, line, goes_on, joins, longer, lines_of}
use Rattle.definition.specs.Run.{body_of}
use Rattle.definition.specs.Limits.{include_levels}
use Rattle.definition.specs.Deck as Deck
use Rattle.definition.specs.Deck.{count, is_sound}
use Rattle.definition.specs.declared.Layout.{Layout}
use Rattle.definition.specs.declared.Layout.TheVariants.{Plain as plain}
use Rattle.definition.specs.Reading.{read_member}
use Rattle.definition.specs.World.{Pass, World, with_event, Res}
use Rattle.definition.specs.Names.{Entering, enter}
use Rattle.definition.specs.Flow.{End, ran, returned, went}
use Rattle.definition.specs.Run.{Stop}
use Rattle.definition.specs.Expansion.{Expansion, result, run_main, world_for, expansion}
use Rattle.definition.proofs.Choices.{when_has}
use Rattle.definition.proofs.Views.{FullEvents, Newest, and_true}
use Rattle.definition.proofs.Fits.{full_more}
use Rattle.definition.proofs.Keeping.{Any, Laws, valueless, OfEnd, Leaves, leaves, stops, SoundEntering, entered_sound, unreadable_any, enter_leaves}
use Rattle.definition.proofs.Members.{member_of, Copies, Takes, text_out_in, member_leaves_in}
use Rattle.definition.proofs.Joined.{sound_parts, length_lines}
use Rattle.promises.proofs.Deck.{find_range}
use Rattle.promises.specs.Origin.{Origin, Cuts, GoesOn, Longest, Partition}

-- ---- the same newest first: the newest line has the last bytes
abbrev pub Next : List Line → Line → Type 0
Next [] l = ⊥
Next (a ∷ ls) l = GoesOn a l

pub record Ends (d : List ℕ) (l : Line) (ls : List Line) (t before : List ℕ) : Type 0 where
  pub bytes : List ℕ
  pub joined : t ≡ before ++ bytes
  pub origin : Origin d l bytes
  pub listed : l.member < count d
  pub longest : Next ls l → ⊥

abbrev pub Cut : List ℕ → List Line → List ℕ → Type 0
Cut d [] t = t ≡ []
Cut d (l ∷ ls) t = (before : List ℕ) × Ends d l ls t before × Cut d ls before

abbrev pub AllCopies : List ℕ → List Event → Type 0
AllCopies d [] = Unit {0}
AllCopies d (e ∷ es) = Copies d e × AllCopies d es

abbrev pub AllListed : List ℕ → List Event → Type 0
AllListed d [] = Unit {0}
AllListed d (e ∷ es) = (member_of e < count d) × AllListed d es

-- ---- parts of a body that follow each other
part_join : (n k p : ℕ) (s : List ℕ) → part n p s ++ part k (p + n) s ≡ part (n + k) p s
part_join zero k p s = rw (add-zero, zero-add)
part_join (suc n) k p s = rw (suc-add) (ap (λ (t : List ℕ). get_or s p 0 ∷ t) (rw (add-suc, ← suc-add) (part_join n k (suc p) s)))

-- ---- events cut
both_true : (a b : Bool) → a ≡ true → b ≡ true → (a && b) ≡ true
both_true true b h k = k
both_true false b h k = absurd (false≢true h)

module _ (d : List ℕ) where
  -- a line of its own
  pub own : (a : Line) (ls : List Line) (t b : List ℕ) → Origin d a b → a.member < count d → (Next ls a → ⊥) → Cut d ls t → Cut d (a ∷ ls) (t ++ b)
  own a ls t b o i n c = (t, record { bytes = b; joined = refl; origin = o; listed = i; longest = n }, c)

  blank_origin : (m p : ℕ) → Origin d (line 1 m p 1) (32 ∷ [])
  blank_origin m p = record { sized = refl; kinds = omega arith; blank = λ _. refl; stretch = λ (e : ◌≡◌ {A = ℕ} 1 2). absurd (omega arith) }

  outcome_origin : (m p : ℕ) (l : List ℕ) → Origin d (line 3 m p (length l)) l
  outcome_origin m p l = record { sized = refl; kinds = omega arith; blank = λ (e : ◌≡◌ {A = ℕ} 3 1). absurd (omega arith); stretch = λ (e : ◌≡◌ {A = ℕ} 3 2). absurd (omega arith) }

  copied_origin : (m p : ℕ) (l : List ℕ) → 1 ≤ length l → Copies d (copied m p l) → Origin d (line 2 m p (length l)) l
  copied_origin m p l h e = record { sized = refl; kinds = omega arith; blank = λ (e : ◌≡◌ {A = ℕ} 2 1). absurd (omega arith); stretch = λ _. (h, e.1, e.0) }

  pub not_next : (ls : List Line) (a : Line) → (a.kind ≡ 2 → ⊥) → Next ls a → ⊥
  not_next [] a n g = g
  not_next (b ∷ ls) a n g = n g.second

  -- a copied token that does not go on has a line that does not go on
  apart : (es : List Event) (ls : List Line) (m p n : ℕ) → Newest es ls → joins es m p ≡ false → Next ls (line 2 m p n) → ⊥
  unfolding goes_on
  apart [] [] m p n h e g = g
  apart [] (a ∷ ls) m p n h e g = h
  apart (e ∷ es) [] m p n h j g = g
  apart (blank k q ∷ es) (a ∷ ls) m p n h j g = let z : ◌≡◌ {A = ℕ} 1 2 = sym h ∙ g.first in absurd (omega arith)
  apart (copied k q l ∷ es) (a ∷ ls) m p n h j g = false≢true (sym j ∙ both_true (eqb k m) (eqb (q + length l) p) (eq-eqb k m (sym h.1 ∙ g.member)) (eq-eqb (q + length l) p (sym h.2 ∙ g.place)))
  apart (replaced k q l ∷ es) (a ∷ ls) m p n h j g = let z : ◌≡◌ {A = ℕ} 3 2 = sym h ∙ g.first in absurd (omega arith)

  pub next_longer : (ls : List Line) (a : Line) (n : ℕ) → Next ls (line a.kind a.member a.offset n) → Next ls a
  next_longer [] a n g = g
  next_longer (b ∷ ls) a n g = record { first = g.first; second = g.second; member = g.member; place = g.place }

  pub next_as : (ls : List Line) (a : Line) (n : ℕ) → a.kind ≡ 2 → Next ls (line 2 a.member a.offset n) → Next ls a
  next_as [] a n k g = g
  next_as (b ∷ ls) a n k g = record { first = g.first; second = k; member = g.member; place = g.place }

  -- one that goes on makes the newest line longer
  grown : (es : List Event) (ls : List Line) (t : List ℕ) (m p : ℕ) (l : List ℕ) → 1 ≤ length l → Copies d (copied m p l) → joins es m p ≡ true → Newest es ls → Cut d ls t → Newest (copied m p l ∷ es) (longer (length l) ls) × Cut d (longer (length l) ls) (t ++ l)
  unfolding goes_on
  grown [] [] t m p l f c j h k = absurd (false≢true j)
  grown [] (a ∷ ls) t m p l f c j h k = absurd (false≢true j)
  grown (e ∷ es) [] t m p l f c j h k = absurd h
  grown (blank n q ∷ es) (a ∷ ls) t m p l f c j h k = absurd (false≢true j)
  grown (replaced n q x ∷ es) (a ∷ ls) t m p l f c j h k = absurd (false≢true j)
  grown (copied n q x ∷ es) (a ∷ ls) t m p l f c j h k =
      let i : (eqb n m ≡ true) × (eqb (q + length x) p ≡ true) = and_true (eqb n m) (eqb (q + length x) p) j in
      let same : a.member ≡ m = h.1 ∙ eqb-true n m i.0 in
      let end : a.offset + a.size ≡ p = h.2 ∙ eqb-true (q + length x) p i.1 in
      let o : Origin d a k.1.bytes = k.1.origin in
      let b : k.1.bytes ++ l ≡ part (a.size + length l) a.offset (body_of d a.member) =
      ap (λ (y : List ℕ). y ++ l) (o.stretch h.0).2
      ∙ ap (λ (y : List ℕ). part a.size a.offset (body_of d a.member) ++ y) (c.0 ∙ rw (same, end))
      ∙ part_join a.size (length l) a.offset (body_of d a.member) in (
        (h.0, same, omega arith),
        (
          k.0,
          record {
            bytes = k.1.bytes ++ l;
            joined = ap (λ (y : List ℕ). y ++ l) k.1.joined ∙ append_assoc k.0 k.1.bytes l;
            origin = record { sized = length-append k.1.bytes l ∙ omega (arith, o.sized); kinds = o.kinds; blank = λ (e : a.kind ≡ 1). absurd (omega (arith, h.0)); stretch = λ _. (omega arith, rw same (omega (arith, end, c.1)), b) };
            listed = k.1.listed;
            longest = λ g. k.1.longest (next_longer ls a (a.size + length l) g);
          },
          k.2,
        ),
      )

  pub events_cut : (es : List Event) → FullEvents es → AllCopies d es → AllListed d es → Newest es (lines_of es) × Cut d (lines_of es) (text_of es)
  unfolding lines_of text_of
  events_cut [] f c i = (tt, refl)
  events_cut (blank m p ∷ es) f c i = (refl, own (line 1 m p 1) (lines_of es) (text_of es) (32 ∷ []) (blank_origin m p) i.0 (not_next (lines_of es) (line 1 m p 1) λ (e : ◌≡◌ {A = ℕ} 1 2). absurd (omega arith)) (events_cut es f c.1 i.1).1)
  events_cut (replaced m p l ∷ es) f c i = (refl, own (line 3 m p (length l)) (lines_of es) (text_of es) l (outcome_origin m p l) i.0 (not_next (lines_of es) (line 3 m p (length l)) λ (e : ◌≡◌ {A = ℕ} 3 2). absurd (omega arith)) (events_cut es f c.1 i.1).1)
  events_cut (copied m p l ∷ es) f c i = go (joins es m p) refl (events_cut es f.1 c.1 i.1)
    where
      go : (t : Bool) → joins es m p ≡ t → Newest es (lines_of es) × Cut d (lines_of es) (text_of es) → Newest (copied m p l ∷ es) (cond t (longer (length l) (lines_of es)) (line 2 m p (length l) ∷ lines_of es)) × Cut d (cond t (longer (length l) (lines_of es)) (line 2 m p (length l) ∷ lines_of es)) (text_of es ++ l)
      go true e h = grown es (lines_of es) (text_of es) m p l f.0 c.0 e h.0 h.1
      go false e h = ((refl, refl, refl), own (line 2 m p (length l)) (lines_of es) (text_of es) l (copied_origin m p l f.0 c.0) i.0 (apart es (lines_of es) m p (length l) h.0 e) h.1)

  -- ---- oldest first
  cuts_last : (ls : List Line) (t : List ℕ) (l : Line) (b : List ℕ) → Origin d l b → Cuts d ls t → Cuts d (ls ++ l ∷ []) (t ++ b)
  cuts_last [] t l b o c = rw c (rw (take_all l.size b (omega (arith, o.sized))) o, drop_of_length-le b {i = l.size} (omega (arith, o.sized)))
  cuts_last (a ∷ ls) t l b o c =
      let h : a.size ≤ length t = omega (arith, c.0.sized, length-take a.size t) in
      (rw (take-append-le a.size t b h) c.0, rw (drop-append-le a.size t b h) (cuts_last ls (drop a.size t) l b o c.1))

  longest_last : (ls : List Line) (a l : Line) → (GoesOn a l → ⊥) → Longest (ls ++ a ∷ []) → Longest ((ls ++ a ∷ []) ++ l ∷ [])
  longest_last [] a l n h = (n, tt)
  longest_last (x ∷ []) a l n h = (h.0, longest_last [] a l n tt)
  longest_last (x ∷ y ∷ ls) a l n h = (h.0, longest_last (y ∷ ls) a l n h.1)

  pub all_cuts : (ls : List Line) (t : List ℕ) → Cut d ls t → Cuts d (reverse ls) t
  all_cuts [] t c = c
  all_cuts (l ∷ ls) t c = rw (reverse_aux-eq ls (l ∷ []), c.1.joined) (cuts_last (reverse ls) c.0 l c.1.bytes c.1.origin (all_cuts ls c.0 c.2))

  pub all_longest : (ls : List Line) (t : List ℕ) → Cut d ls t → Longest (reverse ls)
  all_longest [] t c = tt
  all_longest (l ∷ []) t c = tt
  all_longest (l ∷ a ∷ ls) t c =
      rw (reverse_aux-eq (a ∷ ls) (l ∷ []), reverse_aux-eq ls (a ∷ []))
      (longest_last (reverse ls) a l c.1.longest (rw (reverse_aux-eq ls (a ∷ [])) at (all_longest (a ∷ ls) c.0 c.2)))

  pub of_cut : (x : Expansion) → Cut d x.lines x.text → Partition d x
  of_cut x c = record { cut = all_cuts x.lines x.text c; longest = all_longest x.lines x.text c }

  -- ---- THE EXPANSION: what its run has put out is copied from the deck, and its members are those of the deck
  record Fair (w : World) : Type 0 where
    full : FullEvents w.events
    copies : AllCopies d w.events
    listed : AllListed d w.events

  fair : Laws Fair Any Any
  fair = valueless (λ w h. tt) (λ w h _. record { full = h.full; copies = h.copies; listed = h.listed }) λ v w h k. record { full = rw k.events h.full; copies = rw k.events h.copies; listed = rw k.events h.listed }

  abbrev In : ℕ → Type 0
  In m = m < count d

  happens : (e : Event) (g : Pass) (n : ℕ) (w : World) → In (member_of e) → Takes d e n w → Fair w → Fair (with_event e g n w)
  happens e g n w i t h = record { full = full_more e w.events t.full h.full; copies = (t.true, h.copies); listed = (i, h.listed) }

  founds : (x : Deck.Sought) (k : ℕ) → Deck.find mixed x 0 (Deck.lines d) ≡ Deck.line k → In k
  founds x k e = omega (arith, find_range x 0 (Deck.lines d) k e, length_lines d 0 (count d))

  result_cut : {r : Res Stop End} → Leaves fair (OfEnd Any) r → Cut d (result r).lines (result r).text
  result_cut (leaves {a = ran} {w} e h) = (events_cut w.events h.full h.copies h.listed).1
  result_cut (leaves {a = returned v} {w} e h) = (events_cut w.events h.full h.copies h.listed).1
  result_cut (leaves {a = went t} {w} e h) = (events_cut w.events h.full h.copies h.listed).1
  result_cut (stops h) = refl

  main_cut : 0 < count d → {e : Entering} → SoundEntering fair e → Cut d (run_main mixed e d).lines (run_main mixed e d).text
  main_cut i unreadable_any = refl
  main_cut i (entered_sound {w} h) = result_cut (member_leaves_in fair d In founds (text_out_in fair d In happens) include_levels 0 i [] w h)

  -- in each layout
  pub run_cut : (y : Layout) (text_room list_room steps : ℕ) → 0 < count d → Cut d (run_main mixed (enter 0 (read_member mixed (body_of d 0)) (world_for y text_room list_room steps)) d).lines (run_main mixed (enter 0 (read_member mixed (body_of d 0)) (world_for y text_room list_room steps)) d).text
  run_cut y text_room list_room steps i = main_cut i (enter_leaves fair 0 (read_member mixed (body_of d 0)) (record { full = tt; copies = tt; listed = tt }))

  -- THE PARTITION, for every deck, every size of the rooms and every limit
  pub expansion_cut : (roomy : Bool) (text_room list_room steps : ℕ) → Cut d (expansion mixed roomy d text_room list_room steps).lines (expansion mixed roomy d text_room list_room steps).text
  unfolding expansion
  expansion_cut roomy text_room list_room steps =
      when_has (λ (x : Expansion). Cut d x.lines x.text) (is_sound mixed d) _ _
      (λ s. when_has (λ (x : Expansion). Cut d x.lines x.text) roomy _ _ (λ _. run_cut plain text_room list_room steps (sound_parts d s).some) λ _. refl)
      λ _. refl

  pub partition : (roomy : Bool) (text_room list_room steps : ℕ) → Partition d (expansion mixed roomy d text_room list_room steps)
  partition roomy text_room list_room steps = of_cut (expansion mixed roomy d text_room list_room steps) (expansion_cut roomy text_room list_room steps)
