-- One law for each way out of a function of the expander.
-- Assumes nothing.
use Rattle.texts.specs.Types.{Ran}
use Rattle.std.proofs.Common.{Some, None}
use mathlib.Core.Path.{◌≡◌, refl, sym, ap, subst, ◌∙◌}
use mathlib.Core.Bool.{Bool, true, false, false≢true, cond, ◌&&◌}
use mathlib.Core.List.{List, [], ◌∷◌, ◌++◌}
use Prim.Native.Nat.{ℕ, ◌+◌, ◌%◌, ◌<◌, ◌≤◌}
use native.Mathlib.Nat.{mod-eq_of_lt}
use native.Mathlib.Omega.{arith}
use borrow.Author.Tests.{leb-true, eqb-true, eqb-false, ne_eqb}
use lib.Dec.{leb, eqb}
use lib.ListN.{length, get_or, take, length-replicate}
use Rattle.std.specs.Prelude.{Result, Ok, Err}
use Rattle.std.specs.Result.{result_and}
use Rattle.definition.specs.declared.Why.{Why}
use Rattle.definition.specs.declared.Why.TheVariants as W
use Rattle.definition.specs.declared.Layout.{Layout}
use Rattle.definition.specs.declared.Layout.TheVariants.{Plain, Cards}
use Rattle.definition.specs.Bytes.{mixed}
use Rattle.definition.specs.Refusal.{number_of}
use Rattle.definition.specs.Limits.{include_levels}
use Rattle.definition.specs.Room.{over, zeros}
use Rattle.definition.specs.Deck as D
use Rattle.definition.specs.Cards.{uneven_in, as_given, lines_as}
use Rattle.definition.specs.Reading.{read_member}
use Rattle.definition.specs.Events.{Line, text_of, lines_of}
use Rattle.definition.specs.World.{World, Res}
use Rattle.definition.specs.Names as N
use Rattle.definition.specs.Flow as F
use Rattle.definition.specs.Run as Run
use Rattle.definition.specs.Run.{body_of, run_member}
use Rattle.definition.specs.Expansion as X
use Rattle.definition.specs.Expansion.{world_for, size_in, expansion_of, text_room_after, list_room_after}
use Rattle.definition.proofs.Expanding.{ran_deck, ran_in, told_as, ran_sound, malformed_is, uneven_is, short_is, ran_is}
use Rattle.definition.proofs.Refused.{Empty, refused_empty, refused_text, refused_list}
use Rattle.definition.proofs.Rooms.{over_next_at}
use Rattle.deck.specs.declared.Deck.{Deck}
use Rattle.deck.specs.Answer as C
use Rattle.cards.specs.Joins.{Joins}
use Rattle.cards.proofs.Joined.{joins_stands}
use Rattle.origin.specs.Written.{place_as, Written}
use Rattle.output.specs.Shows as Output
use Rattle.texts.specs.declared.Progress.{Progress}
use Rattle.texts.specs.declared.Stop.{Stop}
use Rattle.stepping.specs.Stage.{Roomy}
use Rattle.running.specs.Included.{entered_run, enter_run}
use Rattle.running.specs.Members.{RanTo, RunIs}
use Rattle.expander.specs.declared.Expansion.{Expansion}
use Rattle.expander.specs.Answer.{numbers_of, bare, refusal_at, refused_for, finished_for, answer_for, malformed_for, uneven_for, short_for, early_for}
use Rattle.expander.specs.Promise.{Working, is_roomy, Zero, Cleared, answer_of, Expanded, six_of, Answered, RanFor, Decided, Emptied}
use Rattle.stops.proofs.Stops.{ran_near}

-- ---- a refusal has a number
some_number : (w : Why) → number_of w ≡ 0 → ⊥
some_number W.MalformedDeck e = omega arith
some_number W.ShortRoom e = omega arith
some_number W.Syntax e = omega arith
some_number W.OverLimit e = omega arith
some_number W.DeclaredTwice e = omega arith
some_number W.WrongName e = omega arith
some_number W.NoValue e = omega arith
some_number W.NoConversion e = omega arith
some_number W.OutOfRange e = omega arith
some_number W.ZeroDivisor e = omega arith
some_number W.WrongArguments e = omega arith
some_number W.WronglyRun e = omega arith
some_number W.WrongGoto e = omega arith
some_number W.UnknownMember e = omega arith
some_number W.TooDeep e = omega arith
some_number W.TooLong e = omega arith
some_number W.RoomFull e = omega arith
some_number W.NoStep e = omega arith
some_number W.SubstrOutside e = omega arith
some_number W.UnevenBody e = omega arith

-- ---- the deck
told_malformed : (b : Bool) (ls : List D.Line) → None ≡ C.answer_for (cond b (D.holds ls) D.malformed) → false ≡ b
told_malformed true ls e = cc
told_malformed false ls e = refl

told_sound : (b : Bool) (ls : List D.Line) (k : Deck) → Some k ≡ C.answer_for (cond b (D.holds ls) D.malformed) → true ≡ b
told_sound true ls k e = refl
told_sound false ls k e = cc

pub sound_not : (d : List ℕ) → None ≡ C.answer_for (D.contents mixed d) → false ≡ D.is_sound mixed d
unfolding D.contents
sound_not d e = told_malformed (D.is_sound mixed d) (D.lines d) e

pub sound_is : (d : List ℕ) (k : Deck) → Some k ≡ C.answer_for (D.contents mixed d) → true ≡ D.is_sound mixed d
unfolding D.contents
sound_is d k e = told_sound (D.is_sound mixed d) (D.lines d) k e

-- ---- what is refused before a run
-- a run begins just where the deck is sound, no body is uneven, and the rooms are long
record Free (y : Layout) (d : List ℕ) (long : Bool) : Type 0 where
  sound : D.is_sound mixed d ≡ true
  even : uneven_in y d ≡ D.none
  roomy : long ≡ true

-- what is refused is the expansion
record Early-told (x : Expansion) (z : X.Expansion) : Type 0 where
  numbers : x ≡ numbers_of z
  number : z.number ≡ 0 → ⊥

module _ (y : Layout) (d : List ℕ) (roomy : Bool) where
  abbrev by_cases : Bool → D.Found → Bool → Result (Unit {0}) Expansion
  by_cases s f r = result_and (malformed_for s) (result_and (uneven_for (C.found_for f)) (short_for r))

  free_by : (s : Bool) (f : D.Found) (r : Bool) → D.is_sound mixed d ≡ s → uneven_in y d ≡ f → roomy ≡ r → by_cases s f r ≡ Ok tt → Free y d roomy
  free_by false f r a b c e = absurd cc
  free_by true (D.line k) r a b c e = absurd cc
  free_by true D.none false a b c e = absurd cc
  free_by true D.none true a b c e = record { sound = a; even = b; roomy = c }

  free : early_for y d roomy ≡ Ok tt → Free y d roomy
  free e = free_by (D.is_sound mixed d) (uneven_in y d) roomy refl refl refl e

  module _ (t l steps : ℕ) where
    refused_by : (x : Expansion) (s : Bool) (f : D.Found) (r : Bool) → D.is_sound mixed d ≡ s → uneven_in y d ≡ f → roomy ≡ r → by_cases s f r ≡ Err x → Early-told x (expansion_of mixed y roomy d t l steps)
    refused_by x false f r a b c e =
        let k : bare 1 ≡ x = cc in
        rw (malformed_is roomy d t l steps y a) (record { numbers = sym k; number = some_number W.MalformedDeck })
    refused_by x true (D.line n) r a b c e =
        let k : refusal_at 20 n 0 0 ≡ x = cc in
        rw (uneven_is roomy d t l steps y n a b) (record { numbers = sym k; number = some_number W.UnevenBody })
    refused_by x true D.none false a b c e =
        let k : bare 2 ≡ x = cc in
        rw (short_is roomy d t l steps y a b c) (record { numbers = sym k; number = some_number W.ShortRoom })
    refused_by x true D.none true a b c e = absurd cc

    early_refused : (x : Expansion) → early_for y d roomy ≡ Err x → Early-told x (expansion_of mixed y roomy d t l steps)
    early_refused x e = refused_by x (D.is_sound mixed d) (uneven_in y d) roomy refl refl refl e

-- ---- THE RUN: what the definition calls the run of the main program is its member 0, entered and run
main_entered : (e : N.Entering) (d : List ℕ) (w : World) → w.used ≡ 0 → X.run_main mixed e d ≡ X.result (entered_run e 0 w (λ v. run_member mixed include_levels d 0 [] v))
main_entered (N.unreadable e p) d w h = ap (λ (u : ℕ). X.refusal e 0 p u) (sym h)
main_entered (N.entered v) d w h = refl

main_is : (d : List ℕ) (w : World) → w.used ≡ 0 → X.run_main mixed (N.enter 0 (read_member mixed (body_of d 0)) w) d ≡ X.result (enter_run include_levels d 0 [] w)
unfolding enter_run
main_is d w h = main_entered (N.enter 0 (read_member mixed (body_of d 0)) w) d w h

-- ---- what a run of the deck d answers, as it is told
small_is : (n m k : ℕ) → n ≡ m → m + k ≤ 4294967295 → n % 4294967296 ≡ m
small_is n m k e h = omega arith

abbrev finished_as : ℕ → List ℕ → List Line → X.Expansion
finished_as used text lines = record { number = 0; member = 0; offset = 0; steps = used; text = text; lines = lines }

told_finished : (y : Layout) (d : List ℕ) (B : World) → told_as y d (X.finished B) ≡ finished_as B.used (text_of B.events) (lines_as y (size_in d) (lines_of B.events))
told_finished Plain d B = refl
told_finished Cards d B = refl

told_refused : (y : Layout) (d : List ℕ) (e : Why) (m p u : ℕ) → told_as y d (X.refusal e m p u) ≡ X.refusal e m (place_as y (size_in d m) p) u
unfolding as_given
told_refused Plain d e m p u = refl
told_refused Cards d e m p u = rw (ne_eqb (number_of e) 0 (some_number e))

module _ (y : Layout) (d t l : List ℕ) where
  ran_good : (g : Progress) (B : World) → Written (size_in d) y t l g.out B → g.meter.used ≡ B.used → Answered (told_as y d (X.finished B)) (finished_for g) t l
  unfolding text_room_after list_room_after
  ran_good g B w u =
      let out : Output.Shows w.events g.out t l = w.out in
      let text : g.out.text % 4294967296 ≡ length (text_of w.events) = small_is _ _ g.out.room out.at (omega (arith, w.fine.most, out.at)) in
      let lines : g.out.lines % 4294967296 ≡ length (lines_of w.events) % 4294967296 = ap (λ (n : ℕ). n % 4294967296) out.count in
      rw (told_finished y d B, sym w.same, sym w.told) (record { numbers = rw (text, lines, u); text = λ _. out.text; list = λ _. out.list })

  ran_bad : (s : Stop) (g : Progress) → s.place < 65536 → Answered (told_as y d (X.refusal s.why s.member s.place g.meter.used)) (refused_for y d s g) t l
  ran_bad s g near =
      let place : s.place % 65536 ≡ s.place = mod-eq_of_lt near in
      rw (told_refused y d s.why s.member s.place g.meter.used, place) (record { numbers = refl; text = λ n. absurd (some_number s.why n); list = λ n. absurd (some_number s.why n) })

  ran_to : (R : Res Run.Stop F.End) (r : Ran) → (X.result R).offset < 65536 → RanTo d y t l R r → Answered (told_as y d (X.result R)) (answer_for y d r) t l
  ran_to R (Ok g) near (B, w, e, u) = rw e (ran_good g B w u)
  ran_to R (Err (s, g)) near (x, k, e) =
      let f : X.result R ≡ X.refusal s.why s.member s.place g.meter.used = e ∙ ap (λ (z : Run.Stop). X.refusal z.why z.member z.place g.meter.used) k in
      rw f (ran_bad s g (omega (arith, near, ap (λ (z : X.Expansion). z.offset) f)))

-- ---- the working rooms
pub record Long (w : Working) : Type 0 where
  pub roomy : Roomy w.rows w.names w.cells
  pub low : 65536 ≤ length w.low
  pub high : 65536 ≤ length w.high
  pub work : 65536 ≤ length w.work
  pub joined : 65536 ≤ length w.joined

pub all_true : (a b c d e f g : Bool) → (a && b && c && d && e && f && g) ≡ true → (a ≡ true) × (b ≡ true) × (c ≡ true) × (d ≡ true) × (e ≡ true) × (f ≡ true) × (g ≡ true)
all_true true true true true true true true h = (refl, refl, refl, refl, refl, refl, refl)
all_true true true true true true true false h = absurd (false≢true h)
all_true true true true true true false g h = absurd (false≢true h)
all_true true true true true false f g h = absurd (false≢true h)
all_true true true true false e f g h = absurd (false≢true h)
all_true true true false d e f g h = absurd (false≢true h)
all_true true false c d e f g h = absurd (false≢true h)
all_true false b c d e f g h = absurd (false≢true h)

long_rooms : (w : Working) → is_roomy w ≡ true → Long w
long_rooms w h =
    let k = all_true (leb 32768 (length w.rows)) (leb 4096 (length w.names)) (leb 256 (length w.cells)) (leb 65536 (length w.low)) (leb 65536 (length w.high)) (leb 65536 (length w.work)) (leb 65536 (length w.joined)) h in
    record {
      roomy = record { table = leb-true _ _ k.0; book = leb-true _ _ k.1; cells = leb-true _ _ k.2 };
      low = leb-true _ _ k.3;
      high = leb-true _ _ k.4;
      work = leb-true _ _ k.5;
      joined = leb-true _ _ k.6;
    }

-- ---- the ways to an answer
module _ (y : Layout) (d t l : List ℕ) (w : Working) (steps : ℕ) (x : Expansion) (t' l' : List ℕ) where
  pub of_early : (roomy : Bool) → roomy ≡ is_roomy w → Err x ≡ early_for y d roomy → Decided y d t l w steps x t' l'
  of_early roomy r h =
      let told : Early-told x (answer_of y d t l w steps) = early_refused y d (is_roomy w) (length t) (length l) steps x (sym (ap (early_for y d) r) ∙ sym h) in
      record { is = λ _ _. record { numbers = told.numbers; text = λ n. absurd (told.number n); list = λ n. absurd (told.number n) } }

  pub of_free : (roomy : Bool) → roomy ≡ is_roomy w → Ok tt ≡ early_for y d roomy → RanFor y d t l w steps x t' l' → Decided y d t l w steps x t' l'
  of_free roomy r h run = record { is = λ zt zl. run.is (sym (ap (early_for y d) r) ∙ sym h) zt zl }

  -- the run of the deck e that is run for d
  of_run : (e : List ℕ) (r : Ran) → (D.is_sound mixed d ≡ true → 65536 ≤ length w.joined → e ≡ ran_deck y d) → RunIs y e w.rows w.names w.cells w.low w.high w.work t l steps t' l' r → x ≡ answer_for y e r → RanFor y d t l w steps x t' l'
  of_run e r same run h = record {
    is = λ z zt zl.
        let f : Free y d (is_roomy w) = free y d (is_roomy w) z in
        let long : Long w = long_rooms w f.roomy in
        let s : e ≡ ran_deck y d = same f.sound long.joined in
        let sound : D.is_sound mixed e ≡ true = ap (D.is_sound mixed) s ∙ ran_sound y d f.sound in
        let R : Res Run.Stop F.End = enter_run include_levels e 0 [] (world_for y (length t) (length l) steps) in
        let main : ran_in y e (length t) (length l) steps ≡ X.result R = main_is e (world_for y (length t) (length l) steps) refl in
        let near : (X.result R).offset < 65536 = subst (λ (v : X.Expansion). v.offset < 65536) main (ran_near e sound y (length t) (length l) steps) in
        let is : answer_of y d t l w steps ≡ told_as y e (X.result R) = ran_is (is_roomy w) d (length t) (length l) steps y f.sound f.even f.roomy ∙ rw (sym s) (ap (told_as y e) main) in
        rw (is, h) (ran_to y e t' l' R r near (run.is sound long.roomy long.low long.high long.work zt zl));
  }

pub of_plain : (y : Layout) (d t l : List ℕ) (w : Working) (steps : ℕ) (x : Expansion) (t' l' : List ℕ) (r : Ran) → y ≡ Plain
    → RunIs Plain d w.rows w.names w.cells w.low w.high w.work t l steps t' l' r → x ≡ answer_for Plain d r → RanFor y d t l w steps x t' l'
of_plain y d t l w steps x t' l' r e run h = rw e (of_run Plain d t l w steps x t' l' d r (λ _ _. refl) run h)

-- the joined deck stands over the start of a room that holds it
pub of_joined : (d t l : List ℕ) (w : Working) (steps : ℕ) (x : Expansion) (t' l' j e : List ℕ) (n : ℕ) (r : Ran)
    → Joins d w.joined j n → e ≡ take n j
    → RunIs Cards e w.rows w.names w.cells w.low w.high w.work t l steps t' l' r → x ≡ answer_for Cards e r → RanFor Cards d t l w steps x t' l'
of_joined d t l w steps x t' l' j e n r joins f run h =
    of_run Cards d t l w steps x t' l' e r
    (λ s long. f ∙ joins_stands d w.joined j n joins s long)
    run h

-- ---- the rooms at exit
pub record Alike (b e : Working) : Type 0 where
  pub rows : length e.rows ≡ length b.rows
  pub names : length e.names ≡ length b.names
  pub cells : length e.cells ≡ length b.cells
  pub low : length e.low ≡ length b.low
  pub high : length e.high ≡ length b.high
  pub work : length e.work ≡ length b.work
  pub joined : length e.joined ≡ length b.joined

alike_cleared : (b m e : Working) → Alike b m → Cleared m e → Cleared b e
alike_cleared b m e a z =
    record {
      rows = z.rows ∙ ap zeros a.rows;
      names = z.names ∙ ap zeros a.names;
      cells = z.cells ∙ ap zeros a.cells;
      low = z.low ∙ ap zeros a.low;
      high = z.high ∙ ap zeros a.high;
      work = z.work ∙ ap zeros a.work;
      joined = z.joined ∙ ap zeros a.joined;
    }

-- a room of n zeros is zero
zero_again : (n : ℕ) (t : List ℕ) → t ≡ zeros n → Zero t t
zero_again n t e = e ∙ ap zeros (sym (length-replicate {A = ℕ} n 0) ∙ ap length (sym e))

-- a room after the answer x: as it is decided, or zero again
module _ (x : X.Expansion) (empty : Empty x) where
  text_after_lem : (n : ℕ) (t₂ t₃ : List ℕ) (b : Bool) → eqb x.number 0 ≡ b → length t₂ ≡ n → (x.number ≡ 0 → t₂ ≡ text_room_after (length t₂) x) → (x.number ≡ 0 → t₃ ≡ t₂) → ((x.number ≡ 0 → ⊥) → Zero t₂ t₃) → t₃ ≡ text_room_after n x
  text_after_lem n t₂ t₃ true e k f g h =
      let z : x.number ≡ 0 = eqb-true _ 0 e in
      g z ∙ f z ∙ ap (λ (m : ℕ). text_room_after m x) k
  text_after_lem n t₂ t₃ false e k f g h =
      let z : x.number ≡ 0 → ⊥ = eqb-false _ 0 e in
      h z ∙ ap zeros k ∙ sym (refused_text x empty z n)

  list_after_lem : (n : ℕ) (l₂ l₃ : List ℕ) (b : Bool) → eqb x.number 0 ≡ b → length l₂ ≡ n → (x.number ≡ 0 → l₂ ≡ list_room_after (length l₂) x) → (x.number ≡ 0 → l₃ ≡ l₂) → ((x.number ≡ 0 → ⊥) → Zero l₂ l₃) → l₃ ≡ list_room_after n x
  list_after_lem n l₂ l₃ true e k f g h =
      let z : x.number ≡ 0 = eqb-true _ 0 e in
      g z ∙ f z ∙ ap (λ (m : ℕ). list_room_after m x) k
  list_after_lem n l₂ l₃ false e k f g h =
      let z : x.number ≡ 0 → ⊥ = eqb-false _ 0 e in
      h z ∙ ap zeros k ∙ sym (refused_list x empty z n)

-- t, l at entry; t₁, l₁ zero; t₂, l₂ after the answer is decided; t₃, l₃ at exit. b, m, e are the working rooms at entry, then, at exit
pub expanded : (y : Layout) (d t t₁ t₂ t₃ l l₁ l₂ l₃ : List ℕ) (b m e : Working) (steps : ℕ) (x : Expansion)
    → Zero t t₁ → Zero l l₁ → Decided y d t₁ l₁ b steps x t₂ l₂ → length t₂ ≡ length t₁ → length l₂ ≡ length l₁ → Alike b m → Cleared m e → Emptied x.number t₂ l₂ t₃ l₃
    → Expanded y d t l b steps x t₃ l₃ e
expanded y d t t₁ t₂ t₃ l l₁ l₂ l₃ b m e steps x zt zl dec kt kl a c em =
    let nt : length t₁ ≡ length t = ap length zt ∙ length-replicate {A = ℕ} (length t) 0 in
    let nl : length l₁ ≡ length l = ap length zl ∙ length-replicate {A = ℕ} (length l) 0 in
    let z : X.Expansion = answer_of y d t l b steps in
    let none : Empty z = refused_empty y (is_roomy b) d (length t) (length l) steps in
    let an : Answered z x t₂ l₂ = subst (λ (n : ℕ). Answered (expansion_of mixed y (is_roomy b) d n (length l) steps) x t₂ l₂) nt (subst (λ (n : ℕ). Answered (expansion_of mixed y (is_roomy b) d (length t₁) n steps) x t₂ l₂) nl (dec.is (zero_again (length t) t₁ zt) (zero_again (length l) l₁ zl))) in
    let num : x.number ≡ z.number = ap (λ (r : Expansion). r.number) an.numbers in
    record {
      numbers = an.numbers;
      text = text_after_lem z none (length t) t₂ t₃ (eqb z.number 0) refl (kt ∙ nt) an.text (λ k. (em.finished (num ∙ k)).0) (λ k. (em.refused (λ i. k (sym num ∙ i))).0);
      list = list_after_lem z none (length l) l₂ l₃ (eqb z.number 0) refl (kl ∙ nl) an.list (λ k. (em.finished (num ∙ k)).1) (λ k. (em.refused (λ i. k (sym num ∙ i))).1);
      working = alike_cleared b m e a c;
    }

-- ---- the numbers over the start of a room, one after the other
next : (r : List ℕ) (x : Expansion) (k : ℕ) (r₁ r₂ : List ℕ) → r₁ ≡ over r 0 (take k (six_of x))
    → r₂ ≡ over r₁ (length (take k (six_of x))) (get_or (six_of x) k 0 ∷ []) → r₂ ≡ over r 0 (take k (six_of x) ++ get_or (six_of x) k 0 ∷ [])
next r x k r₁ r₂ e f =
    let xs = take k (six_of x) in
    f ∙ rw e (over_next_at r 0 (length xs) xs (get_or (six_of x) k 0 ∷ []) (omega arith))

pub six_put : (x : Expansion) (r r₁ r₂ r₃ r₄ r₅ r₆ : List ℕ)
    → r₁ ≡ over r 0 (x.number ∷ []) → r₂ ≡ over r₁ 1 (x.member ∷ []) → r₃ ≡ over r₂ 2 (x.offset ∷ [])
    → r₄ ≡ over r₃ 3 (x.steps ∷ []) → r₅ ≡ over r₄ 4 (x.text ∷ []) → r₆ ≡ over r₅ 5 (x.lines ∷ []) → r₆ ≡ over r 0 (six_of x)
six_put x r r₁ r₂ r₃ r₄ r₅ r₆ a b c d e f =
    let two = next r x 1 r₁ r₂ a b in
    let four = next r x 3 r₃ r₄ (next r x 2 r₂ r₃ two c) d in
    next r x 5 r₅ r₆ (next r x 4 r₄ r₅ four e) f
