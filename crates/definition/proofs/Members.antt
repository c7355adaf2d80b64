-- What a run keeps, where a property is kept by each event that can go out too: program text and members keep it.
-- Assumes nothing.
use Prim.Native.Nat.{ℕ, zero, suc, ◌+◌, ◌-◌, ◌≤◌, ◌<◌}
use native.Mathlib.Omega.{arith}
use mathlib.Core.Bool.{Bool, ◌&&◌}
use mathlib.Core.List.{List, [], ◌∷◌}
use mathlib.Core.Path.{◌≡◌, refl, ◌∙◌}
use lib.Dec.{leb}
use lib.ListN.{length}
use borrow.Author.Tests.{leb-true, leb-false}
use Rattle.definition.specs.Bytes.{mixed}
use Rattle.definition.specs.Limits.{running_procedures, replacement_levels}
use Rattle.definition.specs.Program.{Statement, null, declare, procedure, assign, conditional, group, iterated, goto, include, activate, deactivate, return, Stretch, Row, Activation, Source}
use Rattle.definition.specs.Values.{Value}
use Rattle.definition.specs.World as W
use Rattle.definition.specs.World.{Denotation, variable_of, entry_of, label_at, builtin_name, Address, address, unknown, Activity, inactive, rescanned, Pass, World, Res, bind}
use Rattle.definition.specs.Flow.{Deed, End, ran, returned, went, Machine}
use Rattle.definition.specs.Expressions.{Tree}
use Rattle.definition.proofs.Texts.{TextOf, first, behind, leading, text_inside}
use Rattle.definition.specs.Calls.{Place, call_out}
use Rattle.definition.specs.Lists.{part}
use Rattle.definition.specs.Tokens.{piece_at}
use Rattle.definition.specs.Scan.{to_text, Active, not_active, active, active_in}
use Rattle.definition.specs.Names.{Entering}
use Rattle.definition.specs.Events.{Event, blank, copied, replaced, bytes_in, joins}
use Rattle.definition.specs.Cards.{takes}
use Rattle.definition.specs.Reading.{read_member}
use Rattle.definition.specs.Deck as Deck
use Rattle.definition.specs.Run.{Stop, body_of, put_out, copy_here, replace_here, token_here, text_on, text_out, activated, activate_at, activate_all, activations, jump_away, jump_label, jump_by, jump_from, Inner, Level, no_level, level, came_out, include_entered, include_at, include_all, act_as, member_machine, run_source, run_member}
use Rattle.definition.proofs.Views.{taken_by, FullEvents}
use Rattle.definition.proofs.Ends.{piece_at_past}
use Rattle.definition.proofs.Parts.{length_part, part_of_part}
use Rattle.definition.proofs.Choices.{when_has}
use Rattle.definition.proofs.Keeping.{Any, OfDeed, OfEnd, Awake, AllAwake, awake_in, and_left, and_right, Alike, Laws, valueless, Leaves, leaves, stops, passes, halt, bind_leaves, bind_any, placed_leaves, keeping, charge_leaves, evaluate_leaves, lead_leaves, run_on_leaves, calls_leaves, replacer_leaves, SoundEntering, entered_sound, unreadable_any, enter_leaves}

-- the member that an event names
abbrev pub member_of : Event → ℕ
member_of (blank m p) = m
member_of (copied m p l) = m
member_of (replaced m p l) = m

-- what is copied stands in the body of the member that the event names
abbrev pub Copies : List ℕ → Event → Type 0
Copies d (blank m p) = Unit {0}
Copies d (copied m p l) = (l ≡ part (length l) p (body_of d m)) × (p + length l ≤ length (body_of d m))
Copies d (replaced m p l) = Unit {0}

-- an event that can go out: its lines and its bytes have room, and a copied one has a byte and stands in the deck d
pub record Takes (d : List ℕ) (e : Event) (n : ℕ) (w : World) : Type 0 where
  pub true : Copies d e
  pub right : n ≡ taken_by w.layout e w.events
  pub lines : n ≤ w.lines_left
  pub bytes : length (bytes_in e) ≤ w.text_left
  pub full : FullEvents (e ∷ [])

-- two things that a part leaves
bind_both : {S T : World → Type 0} {F G : Value → Type 0} {L K : ℕ → Type 0} (laws : Laws S F L) (others : Laws T G K) {E A B : Type 0} {P Q : A → Type 0} {R : B → Type 0} {r : Res E A} {f : A → World → Res E B} → Leaves laws P r → Leaves others Q r → ((a : A) (w : World) → P a → S w → Q a → T w → Leaves laws R (f a w)) → Leaves laws R (bind r f)
bind_both laws others (leaves {a} {w} h k) (leaves p q) g = g a w h k p q
bind_both laws others (stops h) (stops k) g = stops h

-- ---- no event goes out but from program text: what is before it, and its rooms, stay
pub record Still (w v : World) : Type 0 where
  pub layout : v.layout ≡ w.layout
  pub events : v.events ≡ w.events
  pub text_left : v.text_left ≡ w.text_left
  pub lines_left : v.lines_left ≡ w.lines_left
  pub passes : v.passes ≡ w.passes

pub still_begun : (w : World) → Still w w
still_begun w = record { layout = refl; events = refl; text_left = refl; lines_left = refl; passes = refl }

still_alike : (w v u : World) → Still w u → Alike v u → Still w v
still_alike w v u h k = record { layout = k.layout ∙ h.layout; events = k.events ∙ h.events; text_left = k.text_left ∙ h.text_left; lines_left = k.lines_left ∙ h.lines_left; passes = k.passes ∙ h.passes }

pub still : (w : World) → Laws (Still w) Any Any
still w = valueless (λ v h. tt) (λ v h _. record { layout = h.layout; events = h.events; text_left = h.text_left; lines_left = h.lines_left; passes = h.passes }) (still_alike w)

-- ---- program text and members, in which events go out; `In` says of a member what holds of those that run
module _ {Sound : World → Type 0} {Of : Value → Type 0} {Left : ℕ → Type 0} (laws : Laws Sound Of Left) (d : List ℕ) (In : ℕ → Type 0) (happens : (e : Event) (g : Pass) (n : ℕ) (w : World) → In (member_of e) → Takes d e n w → Sound w → Sound (W.with_event e g n w)) where
  put_out_lem : (e : Event) (g : Pass) (n : ℕ) {w : World} → In (member_of e) → Copies d e → n ≡ taken_by w.layout e w.events → FullEvents (e ∷ []) → Sound w → Leaves laws Any (put_out e g n w)
  unfolding put_out
  put_out_lem e g n {w} i c r f h =
      let l : Bool = leb n w.lines_left in
      let b : Bool = leb (length (bytes_in e)) w.text_left in
      when_has (Leaves laws Any) (l && b) _ _
      (λ t. passes laws (happens e g n w i (record { true = c; right = r; lines = leb-true n w.lines_left (and_left l b t); bytes = leb-true (length (bytes_in e)) w.text_left (and_right l b t); full = f }) h)) λ _. halt laws h

  copy_here_lem : (m place : ℕ) (l : List ℕ) (g : Pass) {w : World} → In m → Copies d (copied m place l) → 1 ≤ length l → Sound w → Leaves laws Any (copy_here m place l g w)
  unfolding copy_here
  copy_here_lem m place l g {w} i c f h = put_out_lem (copied m place l) g (takes w.layout (joins w.events m place) place l) i c refl (f, tt) h

  -- the rooms are as they were before a replacement, and its outcome fits
  replace_here_lem : (m place : ℕ) (t : List ℕ) (q a : ℕ) (x : Activity) → Awake x → (to : List ℕ → ℕ → Pass) {w : World} → In m → Sound w → Leaves laws Any (replace_here mixed m place t q a x to w)
  unfolding replace_here
  replace_here_lem m place t q a x y to {w} i h =
      when_has (Leaves laws Any) (leb 1 w.lines_left) _ _
      (λ e. bind_both laws (still w) (replacer_leaves laws call_out (calls_leaves laws running_procedures []) replacement_levels t q a x (to_text w.text_left) 0 w y h)
      (replacer_leaves (still w) call_out (calls_leaves (still w) running_procedures []) replacement_levels t q a x (to_text w.text_left) 0 w y (still_begun w))
      λ r v f k _ g. passes laws (happens (replaced m place r.bytes) (to r.bytes r.to) 1 v i (record { true = tt; right = refl; lines = omega (arith, leb-true 1 w.lines_left e, g.lines_left); bytes = omega (arith, f, g.text_left); full = tt }) k)) λ _. halt laws h

  token_here_lem : (x : Active) → AllAwake x → (m place : ℕ) (t : List ℕ) (p q : ℕ) (g : List ℕ → ℕ → Pass) {w : World} → In m → p < q → (part (q - p) p t ≡ part (q - p) place (body_of d m)) × (place + (q - p) ≤ length (body_of d m)) → Sound w → Leaves laws Any (token_here mixed x m place t p q g w)
  token_here_lem not_active y m place t p q g i l c h = bind_any laws (copy_here_lem m place (part (q - p) p t) (g (part (q - p) p t) q) i (rw length_part c) (omega (arith, length_part (q - p) p t)) h) λ _ v k. passes laws k
  token_here_lem (active a x) y m place t p q g i l c h = replace_here_lem m place t q a x y g i h

  -- t is the text of member m that begins at `from`
  abbrev Lies : ℕ → ℕ → List ℕ → Type 0
  Lies m from t = (p q : ℕ) → p < q → q ≤ length t → (part (q - p) p t ≡ part (q - p) (from + p) (body_of d m)) × (from + p + (q - p) ≤ length (body_of d m))

  text_leaves : (m from : ℕ) (t : List ℕ) → In m → Lies m from t → (f p : ℕ) (w : World) → Sound w → Leaves laws Any (text_on mixed m from t f p w)
  unfolding text_on
  text_leaves m from t i z zero p w h = passes laws h
  text_leaves m from t i z (suc f) p w h = when_has (Leaves laws Any) (leb (length t) p) _ _ (λ _. passes laws h) λ e.
      let l : p < (piece_at mixed t p).to = (piece_at_past t p (leb-false (length t) p e)).above in
      let k : (piece_at mixed t p).to ≤ length t = (piece_at_past t p (leb-false (length t) p e)).within in
      bind_any laws (placed_leaves laws _ (bind_any laws (charge_leaves laws h) λ _ v g. token_here_lem (active_in (piece_at mixed t p).piece v) (awake_in (piece_at mixed t p).piece v) m (from + p) t p (piece_at mixed t p).to _ i l (z p (piece_at mixed t p).to l k) g)) λ q x g.
      text_leaves m from t i z f q x g

  pub text_out_in : (m : ℕ) (x : Stretch) (w : World) → In m → TextOf (read_member mixed (body_of d m)) x → Sound w → Leaves laws Any (text_out mixed m (body_of d m) x w)
  unfolding text_out
  text_out_in m x w i o h =
      let n : ℕ = x.to - x.from in
      let z : x.to ≤ length (body_of d m) = text_inside (body_of d m) o in
      bind_any laws (placed_leaves laws _ (put_out_lem (blank m x.from) (W.began m x) 1 i tt refl tt h)) λ _ v k.
      text_leaves m x.from (part n x.from (body_of d m)) i (λ p q j k. (part_of_part (q - p) p n x.from (body_of d m) (omega (arith, length_part n x.from (body_of d m))), omega (arith, length_part n x.from (body_of d m)))) _ 0 v k

-- ---- members, where program text keeps
module _ {Sound : World → Type 0} {Of : Value → Type 0} {Left : ℕ → Type 0} (laws : Laws Sound Of Left) (d : List ℕ) (In : ℕ → Type 0) (founds : (x : Deck.Sought) (k : ℕ) → Deck.find mixed x 0 (Deck.lines d) ≡ Deck.line k → In k) (texts : (m : ℕ) (x : Stretch) (w : World) → In m → TextOf (read_member mixed (body_of d m)) x → Sound w → Leaves laws Any (text_out mixed m (body_of d m) x w)) where
  awaken : (x : Activity) (a : ℕ) {w : World} → Sound w → Sound (W.set_activity x a w)
  awaken x a {w} h = laws.changed (W.set_activity x a w) w h (record { limit = refl; used = refl; layout = refl; events = refl; text_left = refl; lines_left = refl; passes = refl }) refl

  activated_leaves : (d : Denotation) (x : Activity) (a : ℕ) {w : World} → Sound w → Leaves laws Any (activated d x a w)
  activated_leaves (variable_of t) x a h = passes laws (awaken x a h)
  activated_leaves (entry_of e b) x a h = passes laws (awaken x a h)
  activated_leaves (label_at m r q) x a h = halt laws h
  activated_leaves builtin_name x a h = halt laws h

  activate_at_lem : (y : Address) (x : Activity) {w : World} → Sound w → Leaves laws Any (activate_at y x w)
  activate_at_lem (address a) x h = search activated_leaves
  activate_at_lem unknown x h = halt laws h

  activate_all_lem : (x : Activity) (ns : List (List ℕ)) (w : World) → Sound w → Leaves laws Any (activate_all x ns w)
  unfolding activate_all
  activate_all_lem x [] w h = passes laws h
  activate_all_lem x (n ∷ ns) w h = search (keeping, activate_at_lem, activate_all_lem x ns)

  activations_leaves : (xs : List Activation) (w : World) → Sound w → Leaves laws Any (activations xs w)
  unfolding activations
  activations_leaves [] w h = passes laws h
  activations_leaves (x ∷ xs) w h = search (keeping, activate_at_lem, activations_leaves xs)

  jump_away_lem : (ps : List Place) (m r : ℕ) (is_end : Bool) {w : World} → Sound w → Leaves laws Any (jump_away ps m r is_end w)
  unfolding jump_away
  jump_away_lem [] m r is_end h = halt laws h
  jump_away_lem (p ∷ ps) m r is_end h = search (keeping, jump_away_lem ps m r)

  jump_by_lem : (d : Denotation) (here : ℕ) (rs : List Row) (ps : List Place) (n : ℕ) {w : World} → Sound w → Leaves laws Any (jump_by d here rs ps n w)
  unfolding jump_label
  jump_by_lem (variable_of t) here rs ps n h = halt laws h
  jump_by_lem (entry_of e b) here rs ps n h = halt laws h
  jump_by_lem (label_at m r is_end) here rs ps n h = search (keeping, jump_away_lem)
  jump_by_lem builtin_name here rs ps n h = halt laws h

  jump_from_lem : (x : Address) (here : ℕ) (rs : List Row) (ps : List Place) (n : ℕ) {w : World} → Sound w → Leaves laws Any (jump_from x here rs ps n w)
  jump_from_lem (address a) here rs ps n h = search jump_by_lem
  jump_from_lem unknown here rs ps n h = halt laws h

  -- ---- INCLUDE, where the members one level deeper keep
  abbrev KeepingInner : Inner → Type 0
  KeepingInner inner = (k : ℕ) → In k → (ps : List Place) (w : World) → Sound w → Leaves laws (OfEnd Of) (inner k ps w)

  abbrev KeepingLevel : Level → Type 0
  KeepingLevel no_level = Unit {0}
  KeepingLevel (level inner) = KeepingInner inner

  module _ (next : World → Res Stop Deed) (nexts : (w : World) → Sound w → Leaves laws (OfDeed Of) (next w)) where
    came_out_lem : (m : ℕ) (x : End) {w : World} → Sound w → Leaves laws (OfDeed Of) (came_out m x w next)
    came_out_lem m ran {w} h = nexts w h
    came_out_lem m (returned v) {w} h = nexts w h
    came_out_lem m (went t) h = leaves tt h

    include_entered_lem : {e : Entering} → SoundEntering laws e → (inner : Inner) → KeepingInner inner → (k : ℕ) → In k → (m n : ℕ) (ps : List Place) {w : World} → Sound w → Leaves laws (OfDeed Of) (include_entered e inner k m n ps w next)
    include_entered_lem unreadable_any inner is k j m n ps h = halt laws h
    include_entered_lem (entered_sound {w = v} g) inner is k j m n ps h = bind_leaves laws (is k j (record { member = m; row = n } ∷ ps) v g) λ x y _ i. came_out_lem m x i

    include_at_lem : (f : Deck.Found) → ((k : ℕ) → f ≡ Deck.line k → In k) → (l : Level) → KeepingLevel l → (p m n : ℕ) (ps : List Place) {w : World} → Sound w → Leaves laws (OfDeed Of) (include_at mixed f l d p m n ps w next)
    include_at_lem Deck.none j l is p m n ps h = halt laws h
    include_at_lem (Deck.line k) j no_level is p m n ps h = halt laws h
    include_at_lem (Deck.line k) j (level inner) is p m n ps {w} h = include_entered_lem (enter_leaves laws k (read_member mixed (body_of d k)) h) inner is k (j k refl) m n ps h

  module _ (l : Level) (is : KeepingLevel l) where
    pub include_all_in : (p m n : ℕ) (ps : List Place) (xs : List Deck.Sought) (w : World) → Sound w → Leaves laws (OfDeed Of) (include_all mixed l d p m n ps xs w)
    unfolding include_all
    include_all_in p m n ps [] w h = leaves tt h
    include_all_in p m n ps (x ∷ xs) w h = include_at_lem (λ v. include_all mixed l d p m n ps xs v) (include_all_in p m n ps xs) (Deck.find mixed x 0 (Deck.lines d)) (founds x) l is p m n ps h

    act_as_lem : (s : Statement) (p m n : ℕ) (ps : List Place) {w : World} → Sound w → Leaves laws (OfDeed Of) (act_as mixed s l d p m n ps w)
    act_as_lem null p m n ps h = leaves tt h
    act_as_lem (declare ns) p m n ps {w} h = placed_leaves laws _ (bind_leaves laws (activate_all_lem rescanned ns w h) λ _ v _ k. leaves tt k)
    act_as_lem (procedure ns t) p m n ps h = leaves tt h
    act_as_lem (assign t x) p m n ps h = leaves tt h
    act_as_lem (conditional x) p m n ps h = leaves tt h
    act_as_lem group p m n ps h = leaves tt h
    act_as_lem (iterated t x bs) p m n ps h = leaves tt h
    act_as_lem (goto t) p m n ps h = leaves tt h
    act_as_lem (include ns) p m n ps {w} h = include_all_in p m n ps ns w h
    act_as_lem (activate xs) p m n ps {w} h = placed_leaves laws _ (bind_leaves laws (activations_leaves xs w h) λ _ v _ k. leaves tt k)
    act_as_lem (deactivate ns) p m n ps {w} h = placed_leaves laws _ (bind_leaves laws (activate_all_lem inactive ns w h) λ _ v _ k. leaves tt k)
    act_as_lem (return x) p m n ps h = leaves tt h

    source_leaves : (m : ℕ) → In m → (ps : List Place) (s : Source) → ((x : Stretch) → TextOf s x → TextOf (read_member mixed (body_of d m)) x) → {w : World} → Sound w → Leaves laws (OfEnd Of) (run_source mixed l d m ps s w)
    unfolding run_source member_machine
    source_leaves m j ps s i {w} h =
        let M : Machine Stop = member_machine mixed l d m ps s in
        let values : (x : Tree) (v : World) → Sound v → Leaves laws Of (M.value x v) = λ x v k. evaluate_leaves laws call_out (calls_leaves laws running_procedures []) W.everyone x 0 v k in
        let acts : (n : ℕ) (v : World) → Sound v → Leaves laws (OfDeed Of) (M.act n v) = λ n v k. act_as_lem (W.row_of s.rows n).statement _ m n ps k in
        let jumps : (n : ℕ) (t : List ℕ) (v : World) → Sound v → Leaves laws Any (M.jump n t v) = λ n t v k. placed_leaves laws _ (jump_from_lem (W.address_of t W.everyone v) m s.rows ps n k) in
        bind_any laws (lead_leaves laws M (TextOf s) behind leading values (λ x v k. texts m x v j (i x k)) acts jumps s.lead first h)
        λ _ v k. run_on_leaves laws M (TextOf s) behind leading values (λ x v k. texts m x v j (i x k)) acts jumps _ _ [] v k

  pub member_leaves_in : (n : ℕ) → KeepingInner (run_member mixed n d)
  unfolding run_member
  member_leaves_in zero m j ps w h = source_leaves no_level tt m j ps (read_member mixed (body_of d m)) (λ x k. k) h
  member_leaves_in (suc n) m j ps w h = source_leaves (level (run_member mixed n d)) (member_leaves_in n) m j ps (read_member mixed (body_of d m)) (λ x k. k) h

-- ---- the same where nothing is said of members
module _ {Sound : World → Type 0} {Of : Value → Type 0} {Left : ℕ → Type 0} (laws : Laws Sound Of Left) (d : List ℕ) where
  pub text_out_lem : ((e : Event) (g : Pass) (n : ℕ) (w : World) → Takes d e n w → Sound w → Sound (W.with_event e g n w)) → (m : ℕ) (x : Stretch) (w : World) → TextOf (read_member mixed (body_of d m)) x → Sound w → Leaves laws Any (text_out mixed m (body_of d m) x w)
  text_out_lem happens m x w o h = text_out_in laws d Any (λ e g n v _. happens e g n v) m x w tt o h

  module _ (texts : (m : ℕ) (x : Stretch) (w : World) → TextOf (read_member mixed (body_of d m)) x → Sound w → Leaves laws Any (text_out mixed m (body_of d m) x w)) where
    abbrev pub KeepingEach : Inner → Type 0
    KeepingEach inner = (k : ℕ) (ps : List Place) (w : World) → Sound w → Leaves laws (OfEnd Of) (inner k ps w)

    abbrev pub KeepingEachLevel : Level → Type 0
    KeepingEachLevel no_level = Unit {0}
    KeepingEachLevel (level inner) = KeepingEach inner

    pub include_all_lem : (l : Level) → KeepingEachLevel l → (p m n : ℕ) (ps : List Place) (xs : List Deck.Sought) (w : World) → Sound w → Leaves laws (OfDeed Of) (include_all mixed l d p m n ps xs w)
    include_all_lem no_level is p m n ps xs w h = include_all_in laws d Any (λ x k e. tt) (λ m x w _. texts m x w) no_level tt p m n ps xs w h
    include_all_lem (level inner) is p m n ps xs w h = include_all_in laws d Any (λ x k e. tt) (λ m x w _. texts m x w) (level inner) (λ k _. is k) p m n ps xs w h

    pub member_leaves : (n : ℕ) → KeepingEach (run_member mixed n d)
    member_leaves n m ps w h = member_leaves_in laws d Any (λ x k e. tt) (λ m x w _. texts m x w) n m tt ps w h
