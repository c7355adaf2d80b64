-- What a caller may rely on follows from the promise of `expand`: the statements of specs/Corollaries.antt.
-- Assumes nothing.
use mathlib.Core.Path.{◌≡◌, refl, sym, ap, ◌∙◌}
use mathlib.Core.Bool.{Bool, true, ◌&&◌}
use mathlib.Core.List.{List, [], ◌∷◌, ◌++◌, append_assoc}
use Prim.Native.Nat.{ℕ, zero, suc, ◌+◌, ◌*◌, ◌-◌, ◌%◌, ◌<◌, ◌≤◌}
use native.Mathlib.Nat.{zero-add}
use native.Mathlib.Omega.{arith}
use borrow.Author.Tests.{leb-true, le-leb}
use lib.Dec.{leb}
use lib.ListN.{length, take, drop, length-append, replicate-append-replicate}
use lib.Seq.{take-append_seam, drop-append_seam}
use Rattle.definition.specs.declared.Why.{Why}
use Rattle.definition.specs.declared.Why.TheVariants as W
use Rattle.definition.specs.declared.Layout.{Layout}
use Rattle.definition.specs.declared.Layout.TheVariants.{Plain, Cards}
use Rattle.definition.specs.Bytes.{mixed}
use Rattle.definition.specs.Refusal.{number_of}
use Rattle.definition.specs.Limits.{include_levels}
use Rattle.definition.specs.Room.{over, zeros}
use Rattle.definition.specs.Deck as Deck
use Rattle.definition.specs.Deck.{is_sound}
use Rattle.definition.specs.Cards.{uneven, uneven_in, joined}
use Rattle.definition.specs.Reading.{read_member}
use Rattle.definition.specs.Events.{Line, list_bytes, line_bytes}
use Rattle.definition.specs.World.{Res, good, bad}
use Rattle.definition.specs.Names.{Entering, entered, unreadable, enter}
use Rattle.definition.specs.Flow.{End, ran, returned, went}
use Rattle.definition.specs.Run.{Stop, body_of, run_member}
use Rattle.definition.specs.Expansion as X
use Rattle.definition.specs.Expansion.{result, run_main, world_for, told, expansion_of, text_room_after, list_room_after}
use Rattle.definition.proofs.Expanding.{ran_deck, ran_in, told_as, malformed_is, uneven_is, short_is, each_way}
use Rattle.definition.proofs.Rooms.{over_nil}
use Rattle.definition.proofs.Fits.{Fitting, fitting}
use Rattle.definition.proofs.Thrift.{expansion_fits}
use Rattle.definition.proofs.Refused.{Empty, refused_empty, refused_text, refused_list}
use Rattle.printing.specs.Page.{expansion_in}
use Rattle.printing.proofs.Answers.{rooms_hold, six_of as six_in}
use Rattle.promises.specs.Origin as Origin
use Rattle.promises.specs.Passes as Passes
use Rattle.promises.specs.Passes.{passing}
use Rattle.promises.specs.Unread.{with_body}
use Rattle.promises.specs.Cards.{InRecords, rejoined, rejoined_of}
use Rattle.promises.proofs.Cutting.{partition}
use Rattle.promises.proofs.Passing.{honest}
use Rattle.promises.proofs.Growing.{more_keeps_in}
use Rattle.promises.proofs.Unread.{unread}
use Rattle.promises.proofs.LowerCase.{keeps_case as keeps}
use Rattle.promises.proofs.Tied.{tied_unless_short}
use Rattle.promises.proofs.Rejoined.{rejoins, honest_cards}
use Rattle.promises.proofs.Edges.{as_given_lem}
use Rattle.promises.proofs.Bodies.{unread_cards}
use Rattle.expander.specs.declared.Expansion.{Expansion}
use Rattle.expander.specs.Answer.{numbers_of}
use Rattle.expander.specs.Promise.{Working, is_roomy, answer_of, Expanded, six_of, Told}
use Rattle.expander.specs.Corollaries.{Call, Meets, Countable, defined_for, read_off, Numbered, Placed, Refused, Ended, ReadOff, Partitioned, Recorded, Honest, HonestCards, Longer, Same, MoreKeeps, Alike, NeverIn, UnreadBody, defined_before, KeepsCase, Determined, Beside, Tied}
use Rattle.expander.proofs.Laws.{all_true}
use Rattle.stops.proofs.Stops.{one_malformed, twenty_uneven, two_short, place_within, offset_near}
use Rattle.stops.proofs.Near.{lines_small}

-- ---- a room of zeros with xs over its start
room_split : (n r : ℕ) (xs : List ℕ) → n ≡ length xs + r → over (zeros n) 0 xs ≡ xs ++ zeros r
room_split n r [] e = over_nil (zeros n) 0 ∙ ap zeros (e ∙ zero-add r)
room_split zero r (x ∷ xs) e = absurd (omega arith)
room_split (suc n) r (x ∷ xs) e = ap (λ (l : List ℕ). x ∷ l) (room_split n r xs (omega arith))

room_is : (n : ℕ) (xs : List ℕ) → length xs ≤ n → over (zeros n) 0 xs ≡ xs ++ zeros (n - length xs)
room_is n xs h = room_split n (n - length xs) xs (omega arith)

room_more : (n m : ℕ) (xs : List ℕ) → length xs ≤ n → n ≤ m → over (zeros m) 0 xs ≡ over (zeros n) 0 xs ++ zeros (m - n)
room_more n m xs h k =
    let a : ℕ = n - length xs in
    let b : ℕ = m - n in
    room_split m (a + b) xs (omega arith)
    ∙ ap (λ (l : List ℕ). xs ++ l) (sym (replicate-append-replicate a b 0))
    ∙ sym (append_assoc xs (zeros a) (zeros b))
    ∙ ap (λ (l : List ℕ). l ++ zeros b) (sym (room_is n xs h))

room_take : (n : ℕ) (xs : List ℕ) → length xs ≤ n → take (length xs) (over (zeros n) 0 xs) ≡ xs
room_take n xs h = ap (take (length xs)) (room_is n xs h) ∙ take-append_seam xs (zeros (n - length xs))

room_drop : (n : ℕ) (xs : List ℕ) → length xs ≤ n → drop (length xs) (over (zeros n) 0 xs) ≡ zeros (n - length xs)
room_drop n xs h = ap (drop (length xs)) (room_is n xs h) ∙ drop-append_seam xs (zeros (n - length xs))

-- "Twelve bytes a line"
list_length : (ls : List Line) → length (list_bytes ls) ≡ 12 * length ls
unfolding list_bytes
list_length [] = refl
list_length (l ∷ ls) = length-append (list_bytes ls) (line_bytes l) ∙ omega (arith, list_length ls)

-- ---- every number is at most 20
most_number : (w : Why) → number_of w ≤ 20
most_number W.MalformedDeck = omega arith
most_number W.ShortRoom = omega arith
most_number W.Syntax = omega arith
most_number W.OverLimit = omega arith
most_number W.DeclaredTwice = omega arith
most_number W.WrongName = omega arith
most_number W.NoValue = omega arith
most_number W.NoConversion = omega arith
most_number W.OutOfRange = omega arith
most_number W.ZeroDivisor = omega arith
most_number W.WrongArguments = omega arith
most_number W.WronglyRun = omega arith
most_number W.WrongGoto = omega arith
most_number W.UnknownMember = omega arith
most_number W.TooDeep = omega arith
most_number W.TooLong = omega arith
most_number W.RoomFull = omega arith
most_number W.NoStep = omega arith
most_number W.SubstrOutside = omega arith
most_number W.UnevenBody = omega arith

abbrev Few : X.Expansion → Type 0
Few x = x.number ≤ 20

result_few : (r : Res Stop End) → Few (result r)
result_few (good ran w) = omega arith
result_few (good (returned v) w) = omega arith
result_few (good (went t) w) = omega arith
result_few (bad s u) = most_number s.why

main_few : (e : Entering) (d : List ℕ) → Few (run_main mixed e d)
main_few (unreadable e p) d = most_number e
main_few (entered w) d = result_few (run_member mixed include_levels d 0 [] w)

told_few : (y : Layout) (d : List ℕ) (x : X.Expansion) → Few x → Few (told_as y d x)
told_few Plain d x h = h
told_few Cards d x h = h

expansion_few : (y : Layout) (roomy : Bool) (d : List ℕ) (t l steps : ℕ) → Few (expansion_of mixed y roomy d t l steps)
expansion_few y roomy d t l steps =
    let e : List ℕ = ran_deck y d in
    each_way Few y roomy d t l steps (λ _. omega arith) (λ _ _ _. omega arith) (λ _ _ _. omega arith)
    λ _ _ _. told_few y e (ran_in y e t l steps) (main_few (enter 0 (read_member mixed (body_of e 0)) (world_for y t l steps)) e)

-- ---- demand 3 in each layout
cut_in : (y : Layout) (roomy : Bool) (d : List ℕ) (t l steps : ℕ) → Origin.Partition d (expansion_of mixed y roomy d t l steps)
unfolding expansion_of
cut_in Plain roomy d t l steps = partition d roomy t l steps
cut_in Cards roomy d t l steps = (as_given_lem d roomy t l steps).partition

records_in : (y : Layout) (roomy : Bool) (d : List ℕ) (t l steps : ℕ) → y ≡ Cards → InRecords (expansion_of mixed y roomy d t l steps).lines
records_in y roomy d t l steps e = rw e (as_given_lem d roomy t l steps).records

honest_in : (y : Layout) (roomy : Bool) (d : List ℕ) (t l steps : ℕ) → y ≡ Plain → Passes.Honest d (passing roomy d t l steps) (expansion_of mixed y roomy d t l steps)
unfolding expansion_of
honest_in y roomy d t l steps e = rw e (honest d roomy t l steps)

honest_cards_in : (y : Layout) (roomy : Bool) (d : List ℕ) (t l steps : ℕ) → y ≡ Cards → roomy ≡ true → is_sound mixed d ≡ true → uneven_in y d ≡ Deck.none
    → Passes.Honest (joined d) (Passes.main_passes (enter 0 (read_member mixed (body_of (joined d) 0)) (world_for Cards t l steps)) (joined d)) (rejoined_of (expansion_of mixed y roomy d t l steps))
honest_cards_in y roomy d t l steps e f sound even = rw (e, f) (honest_cards d t l steps sound (rw e at even))

unread_in : (y : Layout) (roomy : Bool) (d : List ℕ) (k : ℕ) (b : List ℕ) (t l steps : ℕ) → is_sound mixed d ≡ true → 0 < k → k < Deck.count d → length b ≡ (Deck.line_at d k).size → NeverIn y k d t l steps
    → expansion_of mixed y roomy (with_body k b d) t l steps ≡ expansion_of mixed y roomy d t l steps
unfolding expansion_of
unread_in Plain roomy d k b t l steps s i j f n = unread d roomy k b t l steps s i j f n
unread_in Cards roomy d k b t l steps s i j f n = unread_cards d roomy k b t l steps s i j f n

-- ---- cards and the joined deck
tied_in : (d : List ℕ) (roomy : Bool) (t l steps : ℕ) → is_sound mixed d ≡ true → uneven 0 (Deck.lines d) ≡ Deck.none → ((expansion_of mixed Cards roomy d t l steps).number ≡ 2 → ⊥) → ((expansion_of mixed Cards roomy d t l steps).number ≡ 17 → ⊥)
    → expansion_of mixed Cards roomy d t l steps ≡ told (joined d) (expansion_of mixed Plain roomy (joined d) t l steps)
unfolding expansion_of
tied_in d roomy t l steps s e i j = tied_unless_short d roomy t l steps s e i j

rejoins_in : (d : List ℕ) (roomy : Bool) (t l steps : ℕ) → is_sound mixed d ≡ true → uneven 0 (Deck.lines d) ≡ Deck.none → ((expansion_of mixed Cards roomy d t l steps).number ≡ 17 → ⊥)
    → rejoined (expansion_of mixed Cards roomy d t l steps).lines ≡ (expansion_of mixed Plain roomy (joined d) t l steps).lines
unfolding expansion_of
rejoins_in d roomy t l steps s e i = rejoins d roomy t l steps s e i

-- ---- ONE CALL
module _ (c : Call) (h : Meets c) where
  abbrev defined : X.Expansion
  defined = defined_for c

  number_is : c.answer.number ≡ defined.number
  number_is = ap (λ (r : Expansion). r.number) h.numbers

  member_is : c.answer.member ≡ defined.member
  member_is = ap (λ (r : Expansion). r.member) h.numbers

  offset_is : c.answer.offset ≡ defined.offset
  offset_is = ap (λ (r : Expansion). r.offset) h.numbers

  size_is : c.answer.text ≡ length defined.text
  size_is = ap (λ (r : Expansion). r.text) h.numbers

  fits : Fitting (length c.text) (length c.list) defined
  fits = fitting c.layout (is_roomy c.working) c.deck (length c.text) (length c.list) c.steps

  text_in_lem : length defined.text ≤ length c.text
  text_in_lem = fits.text

  list_in : length (list_bytes defined.lines) ≤ length c.list
  list_in = fits.list

  count_is : Countable c → c.answer.lines ≡ length defined.lines
  count_is k = ap (λ (r : Expansion). r.lines) h.numbers ∙ omega (arith, list_in, list_length defined.lines)

  pub numbered : Numbered c
  numbered =
      let roomy : Bool = is_roomy c.working in
      let t : ℕ = length c.text in
      let l : ℕ = length c.list in
      record {
        malformed = λ s. h.numbers ∙ ap numbers_of (malformed_is roomy c.deck t l c.steps c.layout s);
        one = λ n. one_malformed c.layout roomy c.deck t l c.steps (sym number_is ∙ n);
        uneven = λ k s e. h.numbers ∙ ap numbers_of (uneven_is roomy c.deck t l c.steps c.layout k s e);
        twenty = λ n. rw member_is (twenty_uneven c.layout roomy c.deck t l c.steps (sym number_is ∙ n));
        short = λ s e r. h.numbers ∙ ap numbers_of (short_is roomy c.deck t l c.steps c.layout s e r);
        two = λ n. two_short c.layout roomy c.deck t l c.steps (sym number_is ∙ n);
        most = omega (arith, number_is, expansion_few c.layout roomy c.deck t l c.steps);
        place = omega (arith, offset_is, offset_near c.layout roomy c.deck t l c.steps);
        steps = omega (arith, ap (λ (r : Expansion). r.steps) h.numbers, expansion_fits c.layout roomy c.deck t l c.steps);
      }

  pub placed : Placed c
  placed s = rw (member_is, offset_is) (place_within c.layout (is_roomy c.working) c.deck (length c.text) (length c.list) c.steps s)

  pub refused : Refused c
  refused n =
      let z : defined.number ≡ 0 → ⊥ = λ k. n (number_is ∙ k) in
      let none : Empty defined = refused_empty c.layout (is_roomy c.working) c.deck (length c.text) (length c.list) c.steps in
      record {
        size = size_is ∙ ap length (none z).0;
        lines = ap (λ (r : Expansion). r.lines) h.numbers ∙ ap (λ (ls : List Line). length ls % 4294967296) (none z).1;
        text = h.text ∙ refused_text defined none z (length c.text);
        list = h.list ∙ refused_list defined none z (length c.list);
      }

  list_end_lem : Countable c → 12 * c.answer.lines ≡ length (list_bytes defined.lines)
  list_end_lem k = omega (arith, count_is k, list_length defined.lines)

  pub ended : Ended c
  unfolding text_room_after list_room_after
  ended = record {
    within = omega (arith, size_is, text_in_lem);
    text = rw (size_is, h.text) (room_drop (length c.text) defined.text text_in_lem);
    lines = λ k. omega (arith, list_end_lem k, list_in);
    list = λ k. rw (list_end_lem k, h.list) (room_drop (length c.list) (list_bytes defined.lines) list_in);
  }

  six_are : Countable c → six_of c.answer ≡ six_in defined
  six_are k = ap six_of h.numbers ∙ ap (λ (n : ℕ). defined.number ∷ defined.member ∷ defined.offset ∷ defined.steps ∷ length defined.text ∷ n ∷ []) (sym (ap (λ (r : Expansion). r.lines) h.numbers) ∙ count_is k)

  whole : Countable c → read_off c ≡ defined
  whole k = rw (six_are k, h.text, h.list) (rooms_hold defined (length c.text) (length c.list) text_in_lem (omega (arith, list_in, list_length defined.lines)) (lines_small c.layout (is_roomy c.working) c.deck (length c.text) (length c.list) c.steps))

  pub keeps_case : KeepsCase c
  keeps_case w =
      let same : defined_for c ≡ defined_before c =
      keeps c.layout (is_roomy c.working) c.deck (length c.text) (length c.list) c.steps w.names w.sources w.values
      in
      record {
        numbers = h.numbers ∙ ap numbers_of same;
        text = h.text ∙ ap (λ (y : X.Expansion). text_room_after (length c.text) y) same;
        list = h.list ∙ ap (λ (y : X.Expansion). list_room_after (length c.list) y) same;
      }

  pub read_off_lem : ReadOff c
  unfolding text_room_after expansion_in
  read_off_lem = record {
    text = rw (size_is, h.text) (room_take (length c.text) defined.text text_in_lem);
    lines = λ k. ap (λ (y : X.Expansion). y.lines) (whole k);
    whole = whole;
  }

  pub partitioned : Countable c → Partitioned c
  partitioned k =
      let p : Origin.Partition c.deck defined = cut_in c.layout (is_roomy c.working) c.deck (length c.text) (length c.list) c.steps in
      record { cut = rw (read_off_lem.text, read_off_lem.lines k) p.cut; longest = rw (read_off_lem.lines k) p.longest }

  pub recorded : Countable c → Recorded c
  recorded k e = rw (read_off_lem.lines k) (records_in c.layout (is_roomy c.working) c.deck (length c.text) (length c.list) c.steps e)

  pub is_honest : Countable c → c.layout ≡ Plain → Honest c
  is_honest k e =
      let p = honest_in c.layout (is_roomy c.working) c.deck (length c.text) (length c.list) c.steps e in
      record { told = rw (read_off_lem.text, read_off_lem.lines k) p.told; scans = p.scans; listed = rw (read_off_lem.lines k) p.listed }

  pub is_honest_cards : Countable c → c.layout ≡ Cards → is_roomy c.working ≡ true → is_sound mixed c.deck ≡ true → uneven_in c.layout c.deck ≡ Deck.none → HonestCards c
  is_honest_cards k e roomy sound even =
      let p = honest_cards_in c.layout (is_roomy c.working) c.deck (length c.text) (length c.list) c.steps e roomy sound even in
      record { told = rw (read_off_lem.text, read_off_lem.lines k) p.told; scans = p.scans; listed = rw (read_off_lem.lines k) p.listed }

-- ---- TWO CALLS
all_long : (a b c d e f g : Bool) → (a ≡ true) × (b ≡ true) × (c ≡ true) × (d ≡ true) × (e ≡ true) × (f ≡ true) × (g ≡ true) → (a && b && c && d && e && f && g) ≡ true
all_long a b c d e f g h = rw (h.0, h.1, h.2, h.3, h.4, h.5, h.6)

leb_more : (k n m : ℕ) → n ≤ m → leb k n ≡ true → leb k m ≡ true
leb_more k n m h e = le-leb k m (omega (arith, leb-true k n e))

longer_roomy : (v w : Working) → Longer v w → is_roomy v ≡ true → is_roomy w ≡ true
longer_roomy v w h e =
    let k = all_true _ _ _ _ _ _ _ e in
    all_long _ _ _ _ _ _ _ (
      leb_more 32768 _ _ h.rows k.0,
      leb_more 4096 _ _ h.names k.1,
      leb_more 256 _ _ h.cells k.2,
      leb_more 65536 _ _ h.low k.3,
      leb_more 65536 _ _ h.high k.4,
      leb_more 65536 _ _ h.work k.5,
      leb_more 65536 _ _ h.joined k.6,
    )

-- an expansion by what it is made of
made_of : (y z : Layout) (roomy r : Bool) (d f : List ℕ) (t u l m steps more : ℕ) → z ≡ y → r ≡ roomy → f ≡ d → u ≡ t → m ≡ l → more ≡ steps → expansion_of mixed z r f u m more ≡ expansion_of mixed y roomy d t l steps
made_of y z roomy r d f t u l m steps more o a b i j n = rw (o, a, b, i, j, n)

module _ (c e : Call) (h : Meets c) (k : Meets e) where
  -- the definition's expansions are the same: then the calls are
  same_answer : defined_for e ≡ defined_for c → length c.text ≤ length e.text → length c.list ≤ length e.list → Same c e
  unfolding text_room_after list_room_after
  same_answer s t l = record {
    numbers = k.numbers ∙ ap numbers_of s ∙ sym h.numbers;
    text = k.text ∙ ap (λ (y : X.Expansion). over (zeros (length e.text)) 0 y.text) s ∙ room_more (length c.text) (length e.text) (defined_for c).text (text_in_lem c h) t ∙ ap (λ (z : List ℕ). z ++ zeros (length e.text - length c.text)) (sym h.text);
    list = k.list ∙ ap (λ (y : X.Expansion). over (zeros (length e.list)) 0 (list_bytes y.lines)) s ∙ room_more (length c.list) (length e.list) (list_bytes (defined_for c).lines) (list_in c h) l ∙ ap (λ (z : List ℕ). z ++ zeros (length e.list - length c.list)) (sym h.list);
  }

  pub more_kept : MoreKeeps c e
  more_kept g two full steps =
      same_answer
      (made_of c.layout e.layout _ _ c.deck e.deck _ _ _ _ _ _ g.layout refl g.deck refl refl refl
      ∙ more_keeps_in c.layout c.deck (is_roomy c.working) (is_roomy e.working) (length c.text) (length e.text) (length c.list) (length e.list) c.steps e.steps (longer_roomy c.working e.working g.working) g.text g.list g.steps
      (λ n. two (number_is c h ∙ n)) (λ n. full (number_is c h ∙ n)) (λ n. steps (number_is c h ∙ n)))
      g.text g.list

  alike : defined_for e ≡ defined_for c → length e.text ≡ length c.text → length e.list ≡ length c.list → Alike c e
  alike s t l = record {
    numbers = k.numbers ∙ ap numbers_of s ∙ sym h.numbers;
    text = k.text ∙ ap (λ (y : X.Expansion). text_room_after (length e.text) y) s ∙ ap (λ (n : ℕ). text_room_after n (defined_for c)) t ∙ sym h.text;
    list = k.list ∙ ap (λ (y : X.Expansion). list_room_after (length e.list) y) s ∙ ap (λ (n : ℕ). list_room_after n (defined_for c)) l ∙ sym h.list;
  }

  pub unread_body : UnreadBody c e
  unread_body i b g =
      alike
      (made_of c.layout e.layout (is_roomy c.working) (is_roomy e.working) _ e.deck (length c.text) (length e.text) (length c.list) (length e.list) c.steps e.steps g.layout g.working g.deck g.text g.list g.steps
      ∙ unread_in c.layout (is_roomy c.working) c.deck i b (length c.text) (length c.list) c.steps g.sound g.not_main g.line g.size g.never)
      g.text g.list

  pub determined : Determined c e
  determined g =
      alike
      (made_of c.layout e.layout (is_roomy c.working) (is_roomy e.working) c.deck e.deck (length c.text) (length e.text) (length c.list) (length e.list) c.steps e.steps g.layout g.working g.deck g.text g.list g.steps)
      g.text g.list

  -- the plain expansion of the joined deck
  beside_is : Beside c e → defined_for e ≡ expansion_of mixed Plain (is_roomy c.working) (joined c.deck) (length c.text) (length c.list) c.steps
  beside_is g = made_of Plain e.layout (is_roomy c.working) (is_roomy e.working) (joined c.deck) e.deck (length c.text) (length e.text) (length c.list) (length e.list) c.steps e.steps g.plain g.working g.deck g.text g.list g.steps

  cards_is : Beside c e → defined_for c ≡ expansion_of mixed Cards (is_roomy c.working) c.deck (length c.text) (length c.list) c.steps
  cards_is g = ap (λ (y : Layout). expansion_of mixed y (is_roomy c.working) c.deck (length c.text) (length c.list) c.steps) g.cards

  pub is_tied : Tied c e
  is_tied g i j s v two full =
      let roomy : Bool = is_roomy c.working in
      let t : ℕ = length c.text in
      let l : ℕ = length c.list in
      let even : uneven 0 (Deck.lines c.deck) ≡ Deck.none = rw g.cards at v in
      let number : (expansion_of mixed Cards roomy c.deck t l c.steps).number ≡ c.answer.number = sym (number_is c h ∙ ap (λ (x : X.Expansion). x.number) (cards_is g)) in (
        whole c h i ∙ cards_is g ∙ tied_in c.deck roomy t l c.steps s even (λ n. two (sym number ∙ n)) (λ n. full (sym number ∙ n)) ∙ ap (told (joined c.deck)) (sym (whole e k j ∙ beside_is g)),
        ap rejoined ((read_off_lem c h).lines i ∙ ap (λ (x : X.Expansion). x.lines) (cards_is g)) ∙ rejoins_in c.deck roomy t l c.steps s even (λ n. full (sym number ∙ n)) ∙ sym ((read_off_lem e k).lines j ∙ ap (λ (x : X.Expansion). x.lines) (beside_is g)),
      )

-- ---- a call of `muharegoden_expand` leaves what a call of `expand` leaves, whose numbers it tells
pub told_meets : (y : Layout) (d t l : List ℕ) (w : Working) (steps : ℕ) (n t' l' : List ℕ) (w' : Working) (n' : List ℕ) → Told y d t l w steps n t' l' w' n' → Expanded y d t l w steps (numbers_of (answer_of y d t l w steps)) t' l' w'
told_meets y d t l w steps n t' l' w' n' h = record { numbers = refl; text = h.text; list = h.list; working = h.working }
