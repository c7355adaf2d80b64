-- A body that is never included may be any other of its length.
-- Assumes nothing.
use Prim.Native.Nat.{ℕ, zero, suc, ◌+◌, ◌<◌}
use native.Mathlib.Nat.{add-zero}
use native.Mathlib.Omega.{arith}
use mathlib.Core.Bool.{Bool, true, false}
use mathlib.Core.List.{List, [], ◌∷◌, ◌++◌, append-nil}
use mathlib.Core.Path.{◌≡◌, refl, sym, ap, subst, ◌∙◌}
use lib.Dec.{leb, eqb}
use lib.ListN.{length}
use borrow.Author.Tests.{eqb-false}
use Rattle.definition.specs.declared.Why.{Why}
use Rattle.definition.specs.declared.Why.TheVariants.{MalformedDeck as malformed_deck, ShortRoom as short_room}
use Rattle.definition.specs.Bytes.{mixed}
use Rattle.definition.specs.Choice.{when}
use Rattle.definition.specs.Limits.{include_levels, running_procedures}
use Rattle.definition.specs.Deck as Deck
use Rattle.definition.specs.Program.{Stretch, Statement, null, declare, procedure, assign, conditional, group, iterated, goto, include, activate, deactivate, return, Source}
use Rattle.definition.specs.Reading.{read_member}
use Rattle.definition.specs.World.{everyone, inactive, rescanned, began, World, Res, charge, good, bad, bind, placed, address_of, row_of}
use Rattle.definition.specs.Tokens.{piece_at}
use Rattle.definition.specs.Events.{blank}
use Rattle.definition.specs.Scan.{active_in}
use Rattle.definition.specs.Names.{Entering, entered, unreadable, enter}
use Rattle.definition.specs.Flow.{Deed, End, ran, returned, went, Machine}
use Rattle.definition.specs.Calls.{Place, call_out, first_of}
use Rattle.definition.specs.Expressions.{Tree}
use Rattle.definition.specs.Run.{Stop, stop, body_of, put_out, token_here, pass_of, text_on, text_out, Inner, Level, no_level, level, came_out, include_entered, include_at, include_all, act_as, member_machine, run_source, run_member}
use Rattle.definition.specs.Expansion.{Expansion, refusal, result, run_main, main_world, expansion}
use Rattle.definition.proofs.Choices.{when_has}
use Rattle.definition.proofs.Follows.{none_extra, Spare, no_more, Follows, Fol, goes, halts, lacks, same, bind_follows, FollowingCall, calls_follows, evaluate_follows, lead_follows, run_on_follows}
use Rattle.definition.proofs.FollowsRun.{G, T, Enters, enters, refuses, enter_follows, at_place, activate_all_lem, activations_follows, text_out_lem, jump_from_lem}
use Rattle.promises.specs.Unread.{Halt, halted, barred, InnerBut, LevelBut, no_level_but, level_but, came_out_but, include_entered_but, include_line_but, include_at_but, include_all_but, act_but, machine_but, run_source_but, run_but, AtBar, MainAtBar, with_body, Unread}
use Rattle.definition.proofs.Joined.{length_lines}
use Rattle.promises.proofs.Deck.{find_range, lines_same, sound_same, body_same}

abbrev pub Never : Why → Type 0
Never e = ⊥

abbrev pub even : Spare 0 0 none_extra Never
even = no_more refl refl refl

abbrev pub G₀ : World → World
G₀ = G 0 0 none_extra [] Never even

-- the first run halts as the second does, in a member below n, or at the bar
data Alike (n : ℕ) : Halt → Stop → Type 0 where
  alike : {s : Stop} → s.member < n → Alike n (halted s) s

data Bar : Halt → Type 0 where
  bar : Bar barred

abbrev Follows₀ : {A : Type 0} → ℕ → Res Halt A → Res Stop A → Type 0
Follows₀ n r s = Follows 0 0 none_extra [] Never even (Alike n) Bar r s

-- ---- program text of member m, and all that is placed there, halts in m
data HaltsIn {A : Type 0} (m : ℕ) : Res Stop A → Type 0 where
  well : {a : A} {w : World} → HaltsIn m (good a w)
  there : {s : Stop} {u : ℕ} → s.member ≡ m → HaltsIn m (bad s u)

placed_in : {A : Type 0} (m p : ℕ) (r : Res Why A) → HaltsIn m (placed (stop m p) r)
placed_in m p (good a w) = well
placed_in m p (bad e u) = there refl

bind_in : {A B : Type 0} (m : ℕ) {r : Res Stop A} (f : A → World → Res Stop B) → HaltsIn m r → ((a : A) (w : World) → HaltsIn m (f a w)) → HaltsIn m (bind r f)
bind_in m f (well {a} {w}) k = k a w
bind_in m f (there h) k = there h

text_in_lem : (m from : ℕ) (t : List ℕ) (f p : ℕ) (w : World) → HaltsIn m (text_on mixed m from t f p w)
unfolding text_on
text_in_lem m from t zero p w = well
text_in_lem m from t (suc f) p w = when_has (HaltsIn m) (leb (length t) p) _ _ (λ _. well) λ _. bind_in m (λ q x. text_on mixed m from t f q x) (placed_in m (from + p) (bind (charge w) λ _ v. token_here mixed (active_in (piece_at mixed t p).piece v) m (from + p) t p (piece_at mixed t p).to (λ l q. pass_of m (from + p) (piece_at mixed t p).piece v l (from + q)) v)) (text_in_lem m from t f)

out_in_lem : (m : ℕ) (s : List ℕ) (x : Stretch) (w : World) → HaltsIn m (text_out mixed m s x w)
unfolding text_out
out_in_lem m s x w = bind_in m _ (placed_in m x.from (put_out (blank m x.from) (began m x) 1 w)) λ _ v. text_in_lem m x.from _ _ 0 v

lifted : {A : Type 0} (n m : ℕ) {r s : Res Stop A} → m < n → HaltsIn m r → T 0 0 none_extra [] Never even r s → Follows₀ n (placed halted r) s
lifted n m h well goes = goes
lifted n m h (there {s} k) (halts same) = halts (alike {s = s} (subst (λ (z : ℕ). z < n) (sym k) h))
lifted n m h (there k) (lacks x) = absurd x

-- ---- the run of d that may not include k, and the run of a deck e that differs in the body of k at most
module _ (k : ℕ) (d e : List ℕ) (contents : Deck.lines e ≡ Deck.lines d) (bodies : (m : ℕ) → m < Deck.count d → (m ≡ k → ⊥) → body_of d m ≡ body_of e m) where
  abbrev T₀ : {A : Type 0} → Res Halt A → Res Stop A → Type 0
  T₀ r s = Follows₀ (Deck.count d) r s

  here : {A : Type 0} (m p : ℕ) → m < Deck.count d → {r s : Res Why A} → Fol 0 0 none_extra [] Never even r s → T₀ (placed halted (placed (stop m p) r)) (placed (stop m p) s)
  here m p i {r} h = lifted (Deck.count d) m i (placed_in m p r) (at_place 0 0 none_extra [] Never even m p h)

  abbrev Inners : InnerBut → Inner → Type 0
  Inners i j = (q : ℕ) → q < Deck.count d → (q ≡ k → ⊥) → (ps : List Place) (w : World) → T₀ (i q ps w) (j q ps (G₀ w))

  abbrev Levels : LevelBut → Level → Type 0
  Levels no_level_but no_level = Unit {0}
  Levels no_level_but (level j) = ⊥
  Levels (level_but i) no_level = ⊥
  Levels (level_but i) (level j) = Inners i j

  module _ (f : World → Res Halt Deed) (g : World → Res Stop Deed) (h : (w : World) → T₀ (f w) (g (G₀ w))) where
    came_out_lem : (m : ℕ) (x : End) (w : World) → T₀ (came_out_but m x w f) (came_out m x (G₀ w) g)
    came_out_lem m ran w = h w
    came_out_lem m (returned v) w = h w
    came_out_lem m (went t) w = goes

    entered_but : {x y : Entering} → Enters 0 0 none_extra [] Never even x y → (i : InnerBut) (j : Inner) (q : ℕ) → q < Deck.count d → ((ps : List Place) (w : World) → T₀ (i q ps w) (j q ps (G₀ w))) → (m n : ℕ) (ps : List Place) (w : World) → T₀ (include_entered_but x i q m n ps w f) (include_entered y j q m n ps (G₀ w) g)
    entered_but refuses i j q b is m n ps w = halts (alike b)
    entered_but (enters {w = v}) i j q b is m n ps w = bind_follows 0 0 none_extra [] Never even _ _ (is (record { member = m; row = n } ∷ ps) v) λ x y. came_out_lem m x y

    include_line : (j : ℕ) → j < Deck.count d → (j ≡ k → ⊥) → (l : LevelBut) (r : Level) → Levels l r → (p m n : ℕ) → m < Deck.count d → (ps : List Place) (w : World) → T₀ (include_line_but l j d p m n ps w f) (include_at mixed (Deck.line j) r e p m n ps (G₀ w) g)
    include_line j i n no_level_but no_level z p m q b ps w = halts (alike b)
    include_line j i n no_level_but (level y) z p m q b ps w = absurd z
    include_line j i n (level_but x) no_level z p m q b ps w = absurd z
    include_line j i n (level_but x) (level y) z p m q b ps w = rw (bodies j i n) (entered_but (enter_follows 0 0 none_extra [] Never even j (read_member mixed (body_of e j)) w) x y j i (z j i n) m q ps w)

    include_at_lem : (x : Deck.Found) → ((j : ℕ) → x ≡ Deck.line j → j < Deck.count d) → (l : LevelBut) (r : Level) → Levels l r → (p m n : ℕ) → m < Deck.count d → (ps : List Place) (w : World) → T₀ (include_at_but k x l d p m n ps w f) (include_at mixed x r e p m n ps (G₀ w) g)
    include_at_lem Deck.none i l r z p m n b ps w = halts (alike b)
    include_at_lem (Deck.line j) i l r z p m n b ps w = go (eqb j k) refl
      where
        go : (t : Bool) → eqb j k ≡ t → T₀ (when t (λ _. bad barred w.used) (λ _. include_line_but l j d p m n ps w f)) (include_at mixed (Deck.line j) r e p m n ps (G₀ w) g)
        go true y = lacks bar
        go false y = include_line j (i j refl) (eqb-false j k y) l r z p m n b ps w

  found : (x : Deck.Sought) (j : ℕ) → Deck.find mixed x 0 (Deck.lines d) ≡ Deck.line j → j < Deck.count d
  found x j z = omega (arith, find_range x 0 (Deck.lines d) j z, length_lines d 0 (Deck.count d))

  include_all_lem : (l : LevelBut) (r : Level) → Levels l r → (p m n : ℕ) → m < Deck.count d → (ps : List Place) (xs : List Deck.Sought) (w : World) → T₀ (include_all_but k l d p m n ps xs w) (include_all mixed r e p m n ps xs (G₀ w))
  unfolding include_all_but include_all
  include_all_lem l r h p m n b ps [] w = goes
  include_all_lem l r h p m n b ps (x ∷ xs) w = rw contents (include_at_lem _ _ (include_all_lem l r h p m n b ps xs) (Deck.find mixed x 0 (Deck.lines d)) (found x) l r h p m n b ps w)

  act_but_lem : (s : Statement) (l : LevelBut) (r : Level) → Levels l r → (p m n : ℕ) → m < Deck.count d → (ps : List Place) (w : World) → T₀ (act_but k s l d p m n ps w) (act_as mixed s r e p m n ps (G₀ w))
  act_but_lem null l r h p m n b ps w = goes
  act_but_lem (declare ns) l r h p m n b ps w = here m p b (bind_follows 0 0 none_extra [] Never even _ _ (activate_all_lem 0 0 none_extra [] Never even rescanned ns w) λ _ v. goes)
  act_but_lem (procedure ns t) l r h p m n b ps w = goes
  act_but_lem (assign t x) l r h p m n b ps w = goes
  act_but_lem (conditional x) l r h p m n b ps w = goes
  act_but_lem group l r h p m n b ps w = goes
  act_but_lem (iterated t x bs) l r h p m n b ps w = goes
  act_but_lem (goto t) l r h p m n b ps w = goes
  act_but_lem (include ns) l r h p m n b ps w = include_all_lem l r h p m n b ps ns w
  act_but_lem (activate xs) l r h p m n b ps w = here m p b (bind_follows 0 0 none_extra [] Never even _ _ (activations_follows 0 0 none_extra [] Never even xs w) λ _ v. goes)
  act_but_lem (deactivate ns) l r h p m n b ps w = here m p b (bind_follows 0 0 none_extra [] Never even _ _ (activate_all_lem 0 0 none_extra [] Never even inactive ns w) λ _ v. goes)
  act_but_lem (return x) l r h p m n b ps w = goes

  source_but : (l : LevelBut) (r : Level) → Levels l r → (m : ℕ) → m < Deck.count d → (m ≡ k → ⊥) → (ps : List Place) (s : Source) (w : World) → T₀ (run_source_but k l d m ps s w) (run_source mixed r e m ps s (G₀ w))
  unfolding run_source_but machine_but member_machine run_source
  source_but l r h m i n ps s w =
      let M : Machine Halt = machine_but k l d m ps s in
      let N : Machine Stop = member_machine mixed r e m ps s in
      let calls : FollowingCall 0 0 none_extra [] Never even call_out = calls_follows 0 0 none_extra [] Never even running_procedures [] in
      let values : (x : Tree) (v : World) → Fol 0 0 none_extra [] Never even (M.value x v) (N.value x (G₀ v)) = λ x v. evaluate_follows 0 0 none_extra [] Never even call_out calls everyone x 0 v in
      let outs : (x : Stretch) → Unit {0} → (v : World) → T₀ (M.out x v) (N.out x (G₀ v)) = λ x _ v. subst (λ (t : List ℕ). T₀ (placed halted (text_out mixed m t x v)) (text_out mixed m (body_of e m) x (G₀ v))) (sym (bodies m i n)) (lifted (Deck.count d) m i (out_in_lem m (body_of e m) x v) (text_out_lem 0 0 none_extra [] Never even m (body_of e m) x v)) in
      let acts : (q : ℕ) (v : World) → T₀ (M.act q v) (N.act q (G₀ v)) = λ q v. act_but_lem (row_of s.rows q).statement l r h (row_of s.rows q).place m q i ps v in
      let gotos : (q : ℕ) (t : List ℕ) (v : World) → T₀ (M.jump q t v) (N.jump q t (G₀ v)) = λ q t v. here m (row_of s.rows q).place i (jump_from_lem 0 0 none_extra [] Never even (address_of t everyone v) m s.rows ps q v) in
      bind_follows 0 0 none_extra [] Never even _ _
      (lead_follows 0 0 none_extra [] Never even M N.fault N.value N.out N.act N.jump (λ x z. alike i) (λ x z y. absurd y) values (λ _. Unit {0}) (λ _. tt) (λ _. tt) outs acts gotos s.lead tt w)
      λ _ v. run_on_follows 0 0 none_extra [] Never even M N.fault N.value N.out N.act N.jump (λ x z. alike i) (λ x z y. absurd y) values (λ _. Unit {0}) (λ _. tt) (λ _. tt) outs acts gotos (first_of s.first) [] v

  run_but_lem : (n : ℕ) → Inners (run_but k n d) (run_member mixed n e)
  unfolding run_but run_member
  run_but_lem zero m i n ps w = rw (bodies m i n) (source_but no_level_but no_level tt m i n ps (read_member mixed (body_of e m)) w)
  run_but_lem (suc j) m i n ps w = rw (bodies m i n) (source_but (level_but (run_but k j d)) (level (run_member mixed j e)) (run_but_lem j) m i n ps (read_member mixed (body_of e m)) w)

  -- what the run with the bar gives where it does not meet it
  abbrev result_but : Res Halt End → Expansion
  result_but (good x w) = result (good x w)
  result_but (bad (halted s) u) = result (bad s u)
  result_but (bad barred u) = refusal malformed_deck 0 0 0

  abbrev main_but : Entering → Expansion
  main_but (unreadable x p) = refusal x 0 p 0
  main_but (entered w) = result_but (run_but k include_levels d 0 [] w)

  result_but_lem : {r : Res Halt End} {s : Res Stop End} → T₀ r s → (AtBar r → ⊥) → result s ≡ result_but r
  result_but_lem (goes {x = ran}) h = refl
  result_but_lem (goes {x = returned v}) h = refl
  result_but_lem (goes {x = went t}) h = refl
  result_but_lem (halts (alike b)) h = refl
  result_but_lem (lacks bar) h = absurd (h tt)

  main_but_lem : 0 < k → 0 < Deck.count d → {x y : Entering} → Enters 0 0 none_extra [] Never even x y → (MainAtBar k x d → ⊥) → run_main mixed y e ≡ main_but x
  main_but_lem i j refuses h = refl
  main_but_lem i j (enters {w}) h = result_but_lem (run_but_lem include_levels 0 j (λ z. absurd (omega arith)) [] w) h

  -- the member that the answer names is a line of the deck
  result_listed : {r : Res Halt End} {s : Res Stop End} → 0 < Deck.count d → T₀ r s → (AtBar r → ⊥) → (result s).member < Deck.count d
  result_listed i (goes {x = ran}) h = i
  result_listed i (goes {x = returned v}) h = i
  result_listed i (goes {x = went t}) h = i
  result_listed i (halts (alike b)) h = b
  result_listed i (lacks bar) h = absurd (h tt)

  main_listed : 0 < k → 0 < Deck.count d → {x y : Entering} → Enters 0 0 none_extra [] Never even x y → (MainAtBar k x d → ⊥) → (run_main mixed y e).member < Deck.count d
  main_listed i j refuses h = j
  main_listed i j (enters {w}) h = result_listed j (run_but_lem include_levels 0 j (λ z. absurd (omega arith)) [] w) h

-- a world with nothing more is the same
pub same_world : (w : World) → w ≡ G₀ w
same_world w =
    let p : w.limit ≡ w.limit + 0 = sym (add-zero w.limit) in
    let q : w.text_left ≡ w.text_left + 0 = sym (add-zero w.text_left) in
    let r : w.lines_left ≡ w.lines_left + 0 = sym (add-zero w.lines_left) in
    let o : w.passes ≡ w.passes ++ [] = sym (append-nil w.passes) in
    λ i. record { identifiers = w.identifiers; denotations = w.denotations; values = w.values; activities = w.activities; members = w.members; sentences = w.sentences; limit = p i; used = w.used; layout = w.layout; events = w.events; text_left = q i; lines_left = r i; passes = o i }

main_same : (k : ℕ) (d e : List ℕ) (contents : Deck.lines e ≡ Deck.lines d) (bodies : (m : ℕ) → m < Deck.count d → (m ≡ k → ⊥) → body_of d m ≡ body_of e m) → 0 < k → 0 < Deck.count d → (w : World) → (MainAtBar k (enter 0 (read_member mixed (body_of d 0)) w) d → ⊥) → run_main mixed (enter 0 (read_member mixed (body_of e 0)) w) e ≡ main_but k d e contents bodies (enter 0 (read_member mixed (body_of d 0)) w)
main_same k d e contents bodies i j w h =
    ap (λ (t : List ℕ). run_main mixed (enter 0 (read_member mixed t) w) e) (sym (bodies 0 j (λ y. absurd (omega arith))))
    ∙ ap (λ (v : World). run_main mixed (enter 0 (read_member mixed (body_of d 0)) v) e) (same_world w)
    ∙ main_but_lem k d e contents bodies i j (enter_follows 0 0 none_extra [] Never even 0 (read_member mixed (body_of d 0)) w) h

-- the runs of both decks, and the member that the answer names
pub runs_same : (k : ℕ) (d e : List ℕ) → Deck.lines e ≡ Deck.lines d → ((m : ℕ) → m < Deck.count d → (m ≡ k → ⊥) → body_of d m ≡ body_of e m) → 0 < k → 0 < Deck.count d → (w : World) → (MainAtBar k (enter 0 (read_member mixed (body_of d 0)) w) d → ⊥) → run_main mixed (enter 0 (read_member mixed (body_of e 0)) w) e ≡ run_main mixed (enter 0 (read_member mixed (body_of d 0)) w) d
runs_same k d e contents bodies i j w h = main_same k d e contents bodies i j w h ∙ sym (main_same k d d refl (λ m _ _. refl) i j w h)

pub answer_listed : (k : ℕ) (d : List ℕ) → 0 < k → 0 < Deck.count d → (w : World) → (MainAtBar k (enter 0 (read_member mixed (body_of d 0)) w) d → ⊥) → (run_main mixed (enter 0 (read_member mixed (body_of d 0)) w) d).member < Deck.count d
answer_listed k d i j w h = subst (λ (v : World). (run_main mixed (enter 0 (read_member mixed (body_of d 0)) v) d).member < Deck.count d) (sym (same_world w)) (main_listed k d d refl (λ m _ _. refl) i j (enter_follows 0 0 none_extra [] Never even 0 (read_member mixed (body_of d 0)) w) h)

-- UNREAD
pub unread : (d : List ℕ) → Unread d
unfolding expansion
unread d roomy k b t l s sound i j fits never =
    let w : World = main_world t l s in
    let e : List ℕ = with_body k b d in
    rw (sound_same d k b sound j fits, sound) (go roomy (runs_same k d e (lines_same d k b sound j fits) (body_same d k b sound j fits) i (omega arith) w never))
  where
    go : (y : Bool) → run_main mixed (enter 0 (read_member mixed (body_of (with_body k b d) 0)) (main_world t l s)) (with_body k b d) ≡ run_main mixed (enter 0 (read_member mixed (body_of d 0)) (main_world t l s)) d → when y (λ _. run_main mixed (enter 0 (read_member mixed (body_of (with_body k b d) 0)) (main_world t l s)) (with_body k b d)) (λ _. refusal short_room 0 0 0) ≡ when y (λ _. run_main mixed (enter 0 (read_member mixed (body_of d 0)) (main_world t l s)) d) (λ _. refusal short_room 0 0 0)
    go true z = z
    go false z = refl
