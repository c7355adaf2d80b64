-- Two runs in step: program text and members.
-- Assumes nothing.
use Prim.Native.Nat.{ℕ, zero, suc, ◌+◌, ◌-◌, ◌≤◌, ◌<◌}
use native.Mathlib.Omega.{arith}
use mathlib.Core.Bool.{Bool, true, false, cond, ◌&&◌, false≢true}
use mathlib.Core.List.{List, [], ◌∷◌}
use mathlib.Core.Path.{◌≡◌, refl, ap, ◌∙◌}
use lib.Dec.{leb, eqb}
use lib.ListN.{length}
use borrow.Author.Tests.{leb-true, leb-false, le-leb}
use Rattle.definition.specs.Bytes.{mixed}
use Rattle.definition.specs.Choice.{when}
use Rattle.definition.specs.Limits.{running_procedures, replacement_levels}
use Rattle.definition.specs.Refusal.{Why, room_full, declared_twice}
use Rattle.definition.specs.Program.{Statement, null, declare, procedure, assign, conditional, group, iterated, goto, include, activate, deactivate, return, Stretch, Row, Activation, Declared, Fault, sound, faulty, Source}
use Rattle.definition.specs.Values.{Value}
use Rattle.definition.specs.World as W
use Rattle.definition.specs.World.{Denotation, variable_of, entry_of, label_at, builtin_name, Identifier, Address, address, unknown, Activity, inactive, rescanned, copied_only, Pass, World, Res, good, bad, bind, placed, with_event, address_of, row_of, rows_of}
use Rattle.definition.specs.Flow.{Deed, End, ran, returned, went, Machine, may_go, lead_out, run_on}
use Rattle.definition.specs.Calls.{Place, call_out, first_of}
use Rattle.definition.specs.Lists.{part}
use Rattle.definition.specs.Tokens.{piece_at}
use Rattle.definition.specs.Scan.{to_text, Active, not_active, active, active_in}
use Rattle.definition.specs.Names as Names
use Rattle.definition.specs.Names.{New, new, listing, Joint, joint, twice, joint_of, Declaring, fine, second, set_denotation, declared_at, declare_one, declare_all, is_listed, new_of, identifier_of, fault_of, with_member, Entering, entered, unreadable, entered_as, enter}
use Rattle.definition.specs.Events.{Event, blank, copied, replaced, bytes_in}
use Rattle.definition.specs.Reading.{read_member}
use Rattle.definition.specs.Deck as Deck
use Rattle.definition.specs.Run.{Stop, stop, body_of, put_out, copy_here, replace_here, token_here, pass_of, text_on, text_out, activated, activate_at, activate_all, activations, jump_away, jump_label, jump_by, jump_from, Inner, Level, no_level, level, came_out, include_entered, include_at, include_all, act_as, member_machine, run_source, run_member}
use Rattle.definition.proofs.Keeping.{Awake, AllAwake, awake_in, and_left, and_right, Laws, Leaves, leaves, calls_leaves, replacer_leaves}
use Rattle.definition.proofs.Members.{still_begun, still}
use Rattle.definition.proofs.Views.{taken_by, FullEvents}
use Rattle.definition.proofs.Parts.{length_part}
use Rattle.definition.proofs.Ends.{piece_at_past}
use Rattle.definition.proofs.Follows.{Extra, none_extra, Spare, more_left, more_room, no_more, Same, same, grow, Follows, goes, halts, lacks, Fol, halt, bind_follows, placed_follows, when_follows, when_follows_by, charge_follows, calls_follows, evaluate_follows, run_on_follows, lead_follows, Wider, text, even, replacer_follows, active_same}

-- a machine with other deeds
abbrev pub acting : {E : Type 0} → (ℕ → World → Res E Deed) → Machine E → Machine E
acting f M = record { rows = M.rows; owner = M.owner; fault = M.fault; value = M.value; waiting = M.waiting; out = M.out; act = f; jump = M.jump }

both_true : (x y : Bool) → x ≡ true → y ≡ true → (x && y) ≡ true
both_true true y h k = k
both_true false y h k = absurd (false≢true h)

module _ (a b : ℕ) (c : Extra) (gs : List Pass) (Short : Why → Type 0) (spare : Spare a b c Short) where
  abbrev pub G : World → World
  G = grow a b c gs Short spare

  abbrev F : {A : Type 0} → Res Why A → Res Why A → Type 0
  F r s = Fol a b c gs Short spare r s

  -- a refusal with its place: the same, or one of those
  abbrev pub Lost : Stop → Type 0
  Lost s = Short s.why

  abbrev pub T : {A : Type 0} → Res Stop A → Res Stop A → Type 0
  T r s = Follows a b c gs Short spare Same Lost r s

  goes_by : {A : Type 0} {x : A} {w : World} (v : World) → v ≡ G w → F (good x w) (good x v)
  goes_by v e = rw e (goes)

  bind_also : {S : World → Type 0} {Of : Value → Type 0} {L : ℕ → Type 0} (laws : Laws S Of L) {A B : Type 0} {P : A → Type 0} {r s : Res Why A} (f g : A → World → Res Why B) → F r s → Leaves laws P r → ((x : A) (w : World) → P x → S w → F (f x w) (g x (G w))) → F (bind r f) (bind s g)
  bind_also laws f g (goes {x} {w}) (leaves h i) k = k x w h i
  bind_also laws f g (halts h) l k = halts h
  bind_also laws f g (lacks h) l k = lacks h

  pub at_place : {A : Type 0} (m p : ℕ) {r s : Res Why A} → F r s → T (placed (stop m p) r) (placed (stop m p) s)
  at_place m p h = placed_follows a b c gs Short spare (stop m p) (stop m p) (λ e. same) (λ e i. i) h

  -- ---- an event that goes out, with the lines that it takes in the layout of each world
  abbrev taking : Event → World → ℕ
  taking e w = taken_by w.layout e w.events

  event_grown : (e : Event) (g : Pass) (w : World) → FullEvents (e ∷ []) → taking e w ≤ w.lines_left → length (bytes_in e) ≤ w.text_left → with_event e g (taking e (G w)) (G w) ≡ G (with_event e g (taking e w) w)
  event_grown e g w f h k =
      let p : w.text_left + b - length (bytes_in e) ≡ w.text_left - length (bytes_in e) + b = omega arith in
      let q : w.lines_left + c.lines w.layout w.events - taking e (G w) ≡ w.lines_left - taking e w + c.lines w.layout (e ∷ w.events) = omega (arith, c.balance w.layout e w.events f) in
      rw (p, q)

  -- a test that the rooms hold: it holds in the second world too, or the first run ends for want of room, or both fail
  room_follows : {A : Type 0} (s t : Bool) (f g : Unit {0} → Res Why A) (u : ℕ) → (s ≡ true → t ≡ true) → (b ≡ 0 → c ≡ none_extra → t ≡ s) → (s ≡ true → F (f tt) (g tt)) → F (when s f (λ _. bad room_full u)) (when t g (λ _. bad room_full u))
  room_follows true t f g u h k e = rw (h refl) (e refl)
  room_follows false t f g u h k e = go spare
    where
      go : Spare a b c Short → F (bad room_full u) (when t g (λ _. bad room_full u))
      go (more_left s r) = lacks r
      go (more_room p r) = lacks r
      go (no_more p q r) = rw (k q r) (halt a b c gs Short spare)

  leb_more : (n m k : ℕ) → leb n m ≡ true → leb n (m + k) ≡ true
  leb_more n m k e = le-leb n (m + k) (omega (arith, leb-true n m e))

  leb_same : (n m k : ℕ) → k ≡ 0 → leb n (m + k) ≡ leb n m
  leb_same n m k e = let z : m + k ≡ m = omega arith in rw z

  lines_more : (e : Event) (w : World) → FullEvents (e ∷ []) → leb (taking e w) w.lines_left ≡ true → leb (taking e (G w)) (G w).lines_left ≡ true
  lines_more e w f h = le-leb (taking e (G w)) (G w).lines_left (omega (arith, leb-true (taking e w) w.lines_left h, c.balance w.layout e w.events f))

  lines_same : (e : Event) (w : World) → c ≡ none_extra → leb (taking e (G w)) (G w).lines_left ≡ leb (taking e w) w.lines_left
  lines_same e w q = ap (λ (z : Extra). leb (taken_by (z.layout w.layout) e w.events) (w.lines_left + z.lines w.layout w.events)) q ∙ leb_same (taking e w) w.lines_left 0 refl

  put_out_lem : (e : Event) (g : Pass) (w : World) → FullEvents (e ∷ []) → F (put_out e g (taking e w) w) (put_out e g (taking e (G w)) (G w))
  unfolding put_out
  put_out_lem e g w f =
      let l : Bool = leb (taking e w) w.lines_left in
      let t : Bool = leb (length (bytes_in e)) w.text_left in
      room_follows (l && t) _ _ _ w.used
      (λ h. both_true _ _ (lines_more e w f (and_left l t h)) (leb_more (length (bytes_in e)) w.text_left b (and_right l t h)))
      (λ p q. rw (lines_same e w q, leb_same (length (bytes_in e)) w.text_left b p))
      (λ h. goes_by (with_event e g (taking e (G w)) (G w)) (event_grown e g w f (leb-true (taking e w) w.lines_left (and_left l t h)) (leb-true (length (bytes_in e)) w.text_left (and_right l t h))))

  copy_here_lem : (m place : ℕ) (l : List ℕ) (g : Pass) (w : World) → 1 ≤ length l → F (copy_here m place l g w) (copy_here m place l g (G w))
  unfolding copy_here
  copy_here_lem m place l g w f = put_out_lem (copied m place l) g w (f, tt)

  wide : (w : World) → Wider a b c gs Short spare (to_text w.text_left) (to_text (w.text_left + b))
  wide w = go spare
    where
      go : Spare a b c Short → Wider a b c gs Short spare (to_text w.text_left) (to_text (w.text_left + b))
      go (more_left s r) = text {r = w.text_left} {s = w.text_left + b} r (omega arith)
      go (more_room p r) = text {r = w.text_left} {s = w.text_left + b} r (omega arith)
      go (no_more p q r) = let z : w.text_left + b ≡ w.text_left = omega arith in rw z (even)

  replace_here_lem : (m place : ℕ) (t : List ℕ) (q x : ℕ) (y : Activity) → Awake y → (g : List ℕ → ℕ → Pass) (w : World) → F (replace_here mixed m place t q x y g w) (replace_here mixed m place t q x y g (G w))
  unfolding replace_here
  replace_here_lem m place t q x y awake g w =
      room_follows (leb 1 w.lines_left) _ _ _ w.used (leb_more 1 w.lines_left (c.lines w.layout w.events)) (λ i j. lines_same (replaced m place []) w j)
      λ h. bind_also (still w) _ _ (replacer_follows a b c gs Short spare call_out (calls_follows a b c gs Short spare running_procedures []) replacement_levels t q x y _ _ 0 w (wide w))
      (replacer_leaves (still w) call_out (calls_leaves (still w) running_procedures []) replacement_levels t q x y (to_text w.text_left) 0 w awake (still_begun w))
      λ r v k l. goes_by (with_event (replaced m place r.bytes) (g r.bytes r.to) 1 (G v)) (event_grown (replaced m place r.bytes) (g r.bytes r.to) v tt (omega (arith, leb-true 1 w.lines_left h, l.lines_left)) (omega (arith, k, l.text_left)))

  token_here_lem : (x : Active) → AllAwake x → (m place : ℕ) (t : List ℕ) (p q : ℕ) (g : List ℕ → ℕ → Pass) (w : World) → p < q → F (token_here mixed x m place t p q g w) (token_here mixed x m place t p q g (G w))
  token_here_lem not_active k m place t p q g w h = bind_follows a b c gs Short spare _ _ (copy_here_lem m place (part (q - p) p t) (g (part (q - p) p t) q) w (omega (arith, length_part (q - p) p t))) λ _ v. goes
  token_here_lem (active x y) k m place t p q g w h = replace_here_lem m place t q x y k g w

  turn_here_lem : (m from : ℕ) (t : List ℕ) (p : ℕ) (v : World) → p < (piece_at mixed t p).to → F (token_here mixed (active_in (piece_at mixed t p).piece v) m (from + p) t p (piece_at mixed t p).to (λ l q. pass_of m (from + p) (piece_at mixed t p).piece v l (from + q)) v) (token_here mixed (active_in (piece_at mixed t p).piece (G v)) m (from + p) t p (piece_at mixed t p).to (λ l q. pass_of m (from + p) (piece_at mixed t p).piece (G v) l (from + q)) (G v))
  turn_here_lem m from t p v h =
      rw (active_same a b c gs Short spare (piece_at mixed t p).piece v)
      (token_here_lem (active_in (piece_at mixed t p).piece v) (awake_in (piece_at mixed t p).piece v) m (from + p) t p (piece_at mixed t p).to (λ l q. pass_of m (from + p) (piece_at mixed t p).piece v l (from + q)) v h)

  text_follows : (m from : ℕ) (t : List ℕ) (f p : ℕ) (w : World) → T (text_on mixed m from t f p w) (text_on mixed m from t f p (G w))
  unfolding text_on
  text_follows m from t zero p w = goes
  text_follows m from t (suc f) p w =
      when_follows_by a b c gs Short spare (leb (length t) p) _ _ _ _ (λ _. goes)
      λ e. bind_follows a b c gs Short spare _ _ (at_place m (from + p) (bind_follows a b c gs Short spare _ _ (charge_follows a b c gs Short spare w) λ _ v. turn_here_lem m from t p v (piece_at_past t p (leb-false (length t) p e)).above))
      λ q x. text_follows m from t f q x

  pub text_out_lem : (m : ℕ) (s : List ℕ) (x : Stretch) (w : World) → T (text_out mixed m s x w) (text_out mixed m s x (G w))
  unfolding text_out
  text_out_lem m s x w = bind_follows a b c gs Short spare _ _ (at_place m x.from (put_out_lem (blank m x.from) (W.began m x) w tt)) λ _ v. text_follows m x.from _ _ 0 v

  -- ---- names
  activated_follows : (d : Denotation) (x : Activity) (y : ℕ) (w : World) → F (activated d x y w) (activated d x y (G w))
  activated_follows (variable_of t) x y w = goes
  activated_follows (entry_of e z) x y w = goes
  activated_follows (label_at m r q) x y w = halt a b c gs Short spare
  activated_follows builtin_name x y w = halt a b c gs Short spare

  activate_at_lem : (z : Address) (x : Activity) (w : World) → F (activate_at z x w) (activate_at z x (G w))
  activate_at_lem (address y) x w = activated_follows (W.denotation y w) x y w
  activate_at_lem unknown x w = halt a b c gs Short spare

  pub activate_all_lem : (x : Activity) (ns : List (List ℕ)) (w : World) → F (activate_all x ns w) (activate_all x ns (G w))
  unfolding activate_all
  activate_all_lem x [] w = goes
  activate_all_lem x (n ∷ ns) w = bind_follows a b c gs Short spare _ _ (activate_at_lem (address_of n W.everyone w) x w) λ _ v. activate_all_lem x ns v

  pub activations_follows : (xs : List Activation) (w : World) → F (activations xs w) (activations xs (G w))
  unfolding activations
  activations_follows [] w = goes
  activations_follows (x ∷ xs) w = bind_follows a b c gs Short spare _ _ (activate_at_lem (address_of x.spelling W.everyone w) (cond x.is_copied copied_only rescanned) w) λ _ v. activations_follows xs v

  -- ---- GOTO
  jump_away_lem : (ps : List Place) (m r : ℕ) (is_end : Bool) (w : World) → F (jump_away ps m r is_end w) (jump_away ps m r is_end (G w))
  unfolding jump_away
  jump_away_lem [] m r is_end w = halt a b c gs Short spare
  jump_away_lem (p ∷ ps) m r is_end w =
      when_follows a b c gs Short spare (eqb p.member m) _ _ _ _
      (when_follows a b c gs Short spare (may_go (rows_of m w) p.row r is_end) _ _ _ _ goes (halt a b c gs Short spare))
      (jump_away_lem ps m r is_end w)

  jump_by_lem : (d : Denotation) (here : ℕ) (rs : List Row) (ps : List Place) (n : ℕ) (w : World) → F (jump_by d here rs ps n w) (jump_by d here rs ps n (G w))
  unfolding jump_label
  jump_by_lem (variable_of t) here rs ps n w = halt a b c gs Short spare
  jump_by_lem (entry_of e z) here rs ps n w = halt a b c gs Short spare
  jump_by_lem (label_at m r is_end) here rs ps n w =
      when_follows a b c gs Short spare (eqb m here) _ _ _ _
      (when_follows a b c gs Short spare (may_go rs n r is_end) _ _ _ _ goes (halt a b c gs Short spare))
      (jump_away_lem ps m r is_end w)
  jump_by_lem builtin_name here rs ps n w = halt a b c gs Short spare

  pub jump_from_lem : (x : Address) (here : ℕ) (rs : List Row) (ps : List Place) (n : ℕ) (w : World) → F (jump_from x here rs ps n w) (jump_from x here rs ps n (G w))
  jump_from_lem (address y) here rs ps n w = jump_by_lem (W.denotation y w) here rs ps n w
  jump_from_lem unknown here rs ps n w = halt a b c gs Short spare

  -- ---- entering a member
  data Declares : Declaring → Declaring → Type 0 where
    fines : {w : World} → Declares (fine w) (fine (G w))
    seconds : {p : ℕ} → Declares (second p) (second p)

  pub data Enters : Entering → Entering → Type 0 where
    enters : {w : World} → Enters (entered w) (entered (G w))
    refuses : {e : Why} {p : ℕ} → Enters (unreadable e p) (unreadable e p)

  declared_at_lem : (x : Address) (i : Identifier) (d : Denotation) (p : ℕ) (w : World) → Declares (declared_at x i d p w) (declared_at x i d p (G w))
  declared_at_lem unknown i d p w = fines
  declared_at_lem (address y) i d p w = go (joint_of (W.denotation y w) d)
    where
      go : (j : Joint) → Declares (elim j [ joint e ↦ fine (set_denotation y e w) | twice ↦ second p ]) (elim j [ joint e ↦ fine (set_denotation y e (G w)) | twice ↦ second p ])
      go (joint e) = fines
      go twice = seconds

  onward_declares : {x y : Declaring} (f g : World → Declaring) → Declares x y → ((v : World) → Declares (f v) (g (G v))) → Declares (Names.onward x f) (Names.onward y g)
  onward_declares f g (fines {w}) k = k w
  onward_declares f g seconds k = seconds

  declare_one_lem : (n : New) (i : Identifier) (ps : List Identifier) (p : ℕ) (f g : List Identifier → World → Declaring) → ((qs : List Identifier) (v : World) → Declares (f qs v) (g qs (G v))) → (w : World) → Declares (declare_one n i ps p w f) (declare_one n i ps p (G w) g)
  declare_one_lem (new d) i ps p f g k w = onward_declares (f ps) (g ps) (declared_at_lem (W.address_in i.spelling i.owner 0 w.identifiers) i d p w) (k ps)
  declare_one_lem listing i ps p f g k w = go (is_listed i ps)
    where
      go : (t : Bool) → Declares (when t (λ _. second p) (λ _. f (i ∷ ps) w)) (when t (λ _. second p) (λ _. g (i ∷ ps) (G w)))
      go true = seconds
      go false = k (i ∷ ps) w

  declare_all_lem : (m : ℕ) (ps : List Identifier) (ds : List Declared) (w : World) → Declares (declare_all m ps ds w) (declare_all m ps ds (G w))
  unfolding declare_all
  declare_all_lem m ps [] w = fines
  declare_all_lem m ps (d ∷ ds) w = declare_one_lem (new_of m d.meaning) (identifier_of m d) ps d.place _ _ (λ qs v. declare_all_lem m qs ds v) w

  entered_as_lem : (f : Fault) (m : ℕ) (s : Source) (w : World) → Enters (entered_as f m s w) (entered_as f m s (G w))
  entered_as_lem (faulty e p) m s w = refuses
  entered_as_lem sound m s w = go (declare_all_lem m [] s.declared w)
    where
      go : {x y : Declaring} → Declares x y → Enters (elim x [ fine v ↦ entered (with_member m s v) | second p ↦ unreadable declared_twice p ]) (elim y [ fine v ↦ entered (with_member m s v) | second p ↦ unreadable declared_twice p ])
      go fines = enters
      go seconds = refuses

  pub enter_follows : (m : ℕ) (s : Source) (w : World) → Enters (enter m s w) (enter m s (G w))
  unfolding enter fault_of
  enter_follows m s w = entered_as_lem (fault_of m s w) m s w

  -- ---- INCLUDE, where the members one level deeper follow
  abbrev pub FollowingInner : Inner → Inner → Type 0
  FollowingInner i j = (k : ℕ) (ps : List Place) (w : World) → T (i k ps w) (j k ps (G w))

  module _ (f g : World → Res Stop Deed) (k : (w : World) → T (f w) (g (G w))) where
    came_out_lem : (m : ℕ) (x : End) (w : World) → T (came_out m x w f) (came_out m x (G w) g)
    came_out_lem m ran w = k w
    came_out_lem m (returned v) w = k w
    came_out_lem m (went t) w = goes

    pub include_entered_lem : {x y : Entering} → Enters x y → (i j : Inner) (q : ℕ) → ((ps : List Place) (w : World) → T (i q ps w) (j q ps (G w))) → (m n : ℕ) (ps : List Place) (w : World) → T (include_entered x i q m n ps w f) (include_entered y j q m n ps (G w) g)
    include_entered_lem refuses i j q h m n ps w = halts same
    include_entered_lem (enters {w = v}) i j q h m n ps w = bind_follows a b c gs Short spare _ _ (h (record { member = m; row = n } ∷ ps) v) λ x y. came_out_lem m x y

  -- ---- a member, by what INCLUDE does in it
  module _ (d : List ℕ) where
    pub act_as_lem : (s : Statement) (i j : Level) (p m n : ℕ) (ps : List Place) → ((ns : List Deck.Sought) (w : World) → T (include_all mixed i d p m n ps ns w) (include_all mixed j d p m n ps ns (G w))) → (w : World) → T (act_as mixed s i d p m n ps w) (act_as mixed s j d p m n ps (G w))
    act_as_lem null i j p m n ps h w = goes
    act_as_lem (declare ns) i j p m n ps h w = at_place m p (bind_follows a b c gs Short spare _ _ (activate_all_lem rescanned ns w) λ _ v. goes)
    act_as_lem (procedure ns t) i j p m n ps h w = goes
    act_as_lem (assign t x) i j p m n ps h w = goes
    act_as_lem (conditional x) i j p m n ps h w = goes
    act_as_lem group i j p m n ps h w = goes
    act_as_lem (iterated t x bs) i j p m n ps h w = goes
    act_as_lem (goto t) i j p m n ps h w = goes
    act_as_lem (include ns) i j p m n ps h w = h ns w
    act_as_lem (activate xs) i j p m n ps h w = at_place m p (bind_follows a b c gs Short spare _ _ (activations_follows xs w) λ _ v. goes)
    act_as_lem (deactivate ns) i j p m n ps h w = at_place m p (bind_follows a b c gs Short spare _ _ (activate_all_lem inactive ns w) λ _ v. goes)
    act_as_lem (return x) i j p m n ps h w = goes

    -- of a machine that differs from a member's in its deeds alone
    pub source_follows : (i : Level) (m : ℕ) (ps : List Place) (s : Source) (act : ℕ → World → Res Stop Deed) → ((n : ℕ) (w : World) → T (act n w) ((member_machine mixed i d m ps s).act n (G w))) → (w : World) → T (bind (lead_out (acting act (member_machine mixed i d m ps s)) s.lead w) λ _ v. run_on (acting act (member_machine mixed i d m ps s)) (v.limit - v.used) (first_of s.first) [] v) (run_source mixed i d m ps s (G w))
    unfolding run_source member_machine
    source_follows i m ps s act h w =
        let M : Machine Stop = acting act (member_machine mixed i d m ps s) in
        let N : Machine Stop = member_machine mixed i d m ps s in
        bind_follows a b c gs Short spare _ _
        (lead_follows a b c gs Short spare M N.fault N.value N.out N.act N.jump (λ x e. same) (λ x e k. k) (λ x v. evaluate_follows a b c gs Short spare call_out (calls_follows a b c gs Short spare running_procedures []) W.everyone x 0 v) (λ _. Unit {0}) (λ _. tt) (λ _. tt) (λ x _ v. text_out_lem m (body_of d m) x v) h (λ n t v. at_place m (row_of s.rows n).place (jump_from_lem (address_of t W.everyone v) m s.rows ps n v)) s.lead tt w)
        λ _ v. run_on_follows a b c gs Short spare M N.fault N.value N.out N.act N.jump (λ x e. same) (λ x e k. k) (λ x v. evaluate_follows a b c gs Short spare call_out (calls_follows a b c gs Short spare running_procedures []) W.everyone x 0 v) (λ _. Unit {0}) (λ _. tt) (λ _. tt) (λ x _ v. text_out_lem m (body_of d m) x v) h (λ n t v. at_place m (row_of s.rows n).place (jump_from_lem (address_of t W.everyone v) m s.rows ps n v)) (first_of s.first) [] v

    -- ---- THE RUN in a world with more left
    abbrev Levels : Level → Type 0
    Levels no_level = Unit {0}
    Levels (level i) = FollowingInner i i

    include_at_lem : (f : Deck.Found) (l : Level) → Levels l → (p m n : ℕ) (ps : List Place) (x y : World → Res Stop Deed) → ((w : World) → T (x w) (y (G w))) → (w : World) → T (include_at mixed f l d p m n ps w x) (include_at mixed f l d p m n ps (G w) y)
    include_at_lem Deck.none l h p m n ps x y k w = halts same
    include_at_lem (Deck.line q) no_level h p m n ps x y k w = halts same
    include_at_lem (Deck.line q) (level i) h p m n ps x y k w = include_entered_lem x y k (enter_follows q (read_member mixed (body_of d q)) w) i i q (h q) m n ps w

    include_all_lem : (l : Level) → Levels l → (p m n : ℕ) (ps : List Place) (xs : List Deck.Sought) (w : World) → T (include_all mixed l d p m n ps xs w) (include_all mixed l d p m n ps xs (G w))
    unfolding include_all
    include_all_lem l h p m n ps [] w = goes
    include_all_lem l h p m n ps (x ∷ xs) w = include_at_lem (Deck.find mixed x 0 (Deck.lines d)) l h p m n ps _ _ (include_all_lem l h p m n ps xs) w

    run_source_lem : (l : Level) → Levels l → (m : ℕ) (ps : List Place) (s : Source) (w : World) → T (run_source mixed l d m ps s w) (run_source mixed l d m ps s (G w))
    unfolding run_source member_machine
    run_source_lem l h m ps s w = source_follows l m ps s (member_machine mixed l d m ps s).act (λ n v. act_as_lem (row_of s.rows n).statement l l (row_of s.rows n).place m n ps (include_all_lem l h (row_of s.rows n).place m n ps) v) w

    pub member_follows : (n : ℕ) → FollowingInner (run_member mixed n d) (run_member mixed n d)
    unfolding run_member
    member_follows zero m ps w = run_source_lem no_level tt m ps (read_member mixed (body_of d m)) w
    member_follows (suc n) m ps w = run_source_lem (level (run_member mixed n d)) (member_follows n) m ps (read_member mixed (body_of d m)) w
