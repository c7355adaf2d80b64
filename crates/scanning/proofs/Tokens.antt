-- One token.
-- Assumes nothing.
use Rattle.outcomes.specs.Types.{Replaced}
use Rattle.std.proofs.Common.{Option, Some, None, Ok, Err}
use mathlib.Core.Path.{◌≡◌, refl, sym, ap, ◌∙◌}
use mathlib.Core.Bool.{Bool, true, false, cond, ◌&&◌}
use mathlib.Core.List.{List, [], ◌∷◌}
use Prim.Native.Nat.{ℕ, zero, suc, ◌+◌, ◌-◌, ◌<◌, ◌≤◌}
use native.Mathlib.Omega.{arith}
use borrow.Author.Tests.{leb-true}
use lib.Dec.{leb}
use lib.ListN.{length, take}
use Rattle.definition.specs.Bytes.{mixed}
use Rattle.definition.specs.Choice.{when}
use Rattle.definition.specs.Lists.{part}
use Rattle.definition.specs.Room.{over}
use Rattle.definition.specs.Tokens as T
use Rattle.definition.specs.Tokens.{piece_at}
use Rattle.definition.specs.World as W
use Rattle.definition.specs.World.{World, good, bad, address_in, is_identifier}
use Rattle.definition.specs.Scan as D
use Rattle.definition.proofs.Parts.{length_part, part_of_part}
use Rattle.definition.proofs.Rooms.{length_over}
use Rattle.definition.proofs.Ends.{piece_at_past}
use Rattle.meter.specs.declared.Meter.{Meter}
use Rattle.names.specs.declared.Activity.{Activity}
use Rattle.names.specs.declared.Activity.TheVariants as A
use Rattle.names.specs.declared.Address.{Address}
use Rattle.names.specs.Table.{activity_of, identifiers_from}
use Rattle.tokens.specs.declared.Piece.{Piece}
use Rattle.tokens.specs.Answer.{piece_for}
use Rattle.operators.specs.Stands.{top_of}
use Rattle.operators.proofs.Room.{top_in_lem, part_written, below_over}
use Rattle.callees.specs.Shown.{world_in}
use Rattle.outcomes.specs.declared.Src.{Src}
use Rattle.outcomes.specs.declared.Dest.{Dest}
use Rattle.outcomes.specs.Texts.{room_of, stretch_of, text_of, PieceIn, Awake, active_for, ActiveHere}
use Rattle.outcomes.specs.Places.{into_of, after_of, waiting_of, bytes_at, work_put, text_put, Puts, copied_for, Copied, out_in}
use Rattle.outcomes.proofs.Sources.{stretch_length}
use Rattle.operands.specs.declared.Scene.{Scene}
use Rattle.sums.specs.Numbers.{greatest, sum_to}
use Rattle.sums.proofs.Laws.{sum_fits}
use Rattle.scanning.specs.Cycle.{Sourced, Aims, Stage, Put, Gone, replacer_in, is_on, token_by, token_at, TokenIs, ReplaceIs}
use Rattle.scanning.proofs.Common.{never, source_still, stage_on, aims_after, into_after, waiting_is, wait_work, wait_low, wait_top, bool_has, out_work, out_text, with_work, with_text, gone_bad}

-- ---- what an active name is
ids_length : (d t : List ℕ) (a n : ℕ) → length (identifiers_from d t a n) ≡ n
unfolding identifiers_from
ids_length d t a zero = refl
ids_length d t a (suc n) = ap suc (ids_length d t (suc a) n)

address_low : (l : List ℕ) (k : W.Owner) (b : ℕ) (is : List W.Identifier) (a : ℕ) → address_in l k b is ≡ W.address a → a < b + length is
unfolding address_in
address_low l k b [] a e = never _ (cc)
address_low l k b (i ∷ is) a e = by (is_identifier l k i) (λ g. address_low l k (suc b) is a g) e
  where
    by : (v : Bool) → (address_in l k (suc b) is ≡ W.address a → a < suc b + length is) → when v (λ _. W.address b) (λ _. address_in l k (suc b) is) ≡ W.address a → a < b + length (i ∷ is)
    by true f g = let h : b ≡ a = cc in omega arith
    by false f g = omega (arith, f g)

-- its address is one of the table's, and it is active
pub record Awakened (B : World) (a : ℕ) (y : W.Activity) : Type 0 where
  pub low : a < length B.identifiers
  pub on : y ≡ W.inactive → ⊥

awake_as : (B : World) (a b : ℕ) (y z : W.Activity) → b < length B.identifiers → D.active_as z b ≡ D.active a y → Awakened B a y
awake_as B a b y W.inactive h e = never _ (cc)
awake_as B a b y W.rescanned h e = let f : b ≡ a = cc in let g : W.rescanned ≡ y = cc in record { low = rw (← f) h; on = λ i. let j : W.rescanned ≡ W.inactive = g ∙ i in never _ (cc) }
awake_as B a b y W.copied_only h e = let f : b ≡ a = cc in let g : W.copied_only ≡ y = cc in record { low = rw (← f) h; on = λ i. let j : W.copied_only ≡ W.inactive = g ∙ i in never _ (cc) }

awake_at : (B : World) (x : W.Address) (a : ℕ) (y : W.Activity) → ((b : ℕ) → x ≡ W.address b → b < length B.identifiers) → D.active_at x B ≡ D.active a y → Awakened B a y
awake_at B (W.address b) a y f e = awake_as B a b y (W.activity_at b B) (f b refl) e
awake_at B W.unknown a y f e = never _ (cc)

pub awakened : (B : World) (x : T.Piece) (a : ℕ) (y : W.Activity) → D.active_in x B ≡ D.active a y → Awakened B a y
unfolding D.active_name
awakened B (T.name n) a y e = awake_at B (W.address_of n W.everyone B) a y (λ b f. omega (arith, address_low n W.everyone 0 B.identifiers b f)) e
awakened B T.plain a y e = never _ (cc)
awakened B T.unclosed a y e = never _ (cc)

on_is : (y : Activity) → (activity_of y ≡ W.inactive → ⊥) → is_on y ≡ true
on_is A.Inactive f = absurd (f refl)
on_is A.Rescanned f = refl
on_is A.CopiedOnly f = refl

-- a name that is active in a world whose names the table has: its address is in the table, and it is on
pub awake_active : (deck names : List ℕ) (n : ℕ) (B : World) → Awake deck names n B → (x : T.Piece) (act : Option (Address × Activity)) (a : Address) (v : Activity) → active_for act ≡ D.active_in x B → act ≡ Some (a, v)
    → (D.active_in x B ≡ D.active a.0 (activity_of v)) × (a.0 < n) × (is_on v ≡ true)
awake_active deck names n B k x act a v f e =
    let g : D.active_in x B ≡ D.active a.0 (activity_of v) = sym f ∙ ap active_for e in
    let aw : Awakened B a.0 (activity_of v) = awakened B x a.0 (activity_of v) g in
    (g, omega (arith, aw.low, ap (λ (z : List W.Identifier). length z) k.identifiers, ids_length deck names 0 n), on_is v aw.on)

-- ---- what fits
and_first : (a b : Bool) → (a && b) ≡ true → a ≡ true
and_first true b e = refl
and_first false b e = never _ (cc)

and_second : (a b : Bool) → (a && b) ≡ true → b ≡ true
and_second true b e = e
and_second false b e = never _ (cc)

pub fits_room : (o : Dest) (u k n : ℕ) → D.fits (into_of o) u k n ≡ true → k + n ≤ o.room
unfolding into_of
fits_room o u k n e = by o.to_work e
  where
    by : (b : Bool) → D.fits (cond b (D.to_work o.room) (D.to_text o.room)) u k n ≡ true → k + n ≤ o.room
    by true f = leb-true (k + n) o.room (and_first (leb (k + n) o.room) (leb (u + (k + n)) 65536) f)
    by false f = leb-true (k + n) o.room f

pub fits_work : (o : Dest) (u k n : ℕ) → D.fits (into_of o) u k n ≡ true → o.to_work ≡ true → u + (k + n) ≤ 65536
unfolding into_of
fits_work o u k n e g = by o.to_work g e
  where
    by : (b : Bool) → b ≡ true → D.fits (cond b (D.to_work o.room) (D.to_text o.room)) u k n ≡ true → u + (k + n) ≤ 65536
    by true i f = leb-true (u + (k + n)) 65536 (and_second (leb (k + n) o.room) (leb (u + (k + n)) 65536) f)
    by false i f = never _ (cc)

top_low : (u k : ℕ) → u ≤ 65536 → u ≤ top_of u k
unfolding top_of
top_low u k h = by (leb (u + k) 65536)
  where
    by : (b : Bool) → u ≤ cond b (u + k) 65536
    by true = omega arith
    by false = h

-- ---- bytes behind an outcome are the outcome of a token
module _ (B : World) (o : Dest) (u k n : ℕ) (w t w' t' bs : List ℕ) (size : length bs ≡ n) (a : Aims t o) (long : 65536 ≤ length w) (taken : u ≤ 65536) (f : D.fits (into_of o) u k n ≡ true)
    (i : w' ≡ work_put o u k bs w) (j : t' ≡ text_put o k bs t) where
  top_is : o.to_work ≡ true → top_of u k ≡ u + k
  top_is e = top_in_lem u k (omega (arith, fits_work o u k n f e))

  at_is : o.to_work ≡ false → sum_to greatest o.at k ≡ o.at + k
  at_is e = sum_fits o.at k (omega (arith, a.short e, fits_room o u k n f))

  work_is : o.to_work ≡ true → w' ≡ over w (u + k) bs
  unfolding work_put
  work_is e = i ∙ rw (e, top_is e)

  work_still : o.to_work ≡ false → w' ≡ w
  unfolding work_put
  work_still e = i ∙ rw e

  text_is : o.to_work ≡ false → t' ≡ over t (o.at + k) bs
  unfolding text_put
  text_is e = j ∙ rw (e, at_is e)

  text_still : o.to_work ≡ true → t' ≡ t
  unfolding text_put
  text_still e = j ∙ rw e

  pub bytes_out : out_in (after_of o k) t' w' (waiting_of o u k) n ≡ bs
  bytes_out = bool_has _ o.to_work
      (λ e. out_work (after_of o k) t' w' (waiting_of o u k) n e ∙ rw (wait_work o u k e (omega (arith, fits_work o u k n f e))) (part_written n (u + k) w w' bs (sym size) (work_is e) (omega (arith, fits_work o u k n f e))))
      (λ e. out_text (after_of o k) t' w' (waiting_of o u k) n e ∙ rw (at_is e) (part_written n (o.at + k) t t' bs (sym size) (text_is e) (omega (arith, a.room e, fits_room o u k n f))))

  pub bytes_put : Put B (after_of o k) (waiting_of o u k) t w' t' n
  bytes_put = record {
    text = bool_has _ o.to_work
        (λ e. text_still e ∙ sym (with_work (after_of o k) (out_in (after_of o k) t' w' (waiting_of o u k) n) t e))
        (λ e. text_is e ∙ sym (with_text (after_of o k) (out_in (after_of o k) t' w' (waiting_of o u k) n) t e ∙ rw (bytes_out, at_is e)));
    room = omega (arith, fits_room o u k n f);
    fits = λ e. omega (arith, fits_work o u k n f e, wait_work o u k e (omega (arith, fits_work o u k n f e)));
  }

  pub bytes_below : take (waiting_of o u k) w' ≡ take (waiting_of o u k) w
  bytes_below = bool_has _ o.to_work
      (λ e. rw (wait_work o u k e (omega (arith, fits_work o u k n f e))) (below_over (u + k) (u + k) w w' bs (omega arith) (work_is e)))
      (λ e. ap (take (waiting_of o u k)) (work_still e))

  pub bytes_work : length w' ≡ length w
  bytes_work = bool_has _ o.to_work (λ e. ap length (work_is e) ∙ length_over w (u + k) bs) (λ e. ap length (work_still e))

  pub bytes_long : length t' ≡ length t
  bytes_long = bool_has _ o.to_work (λ e. ap length (text_still e)) (λ e. ap length (text_is e) ∙ length_over t (o.at + k) bs)

-- ---- the ways out
module _ (deck s rows names c l h w t : List ℕ) (x : Src) (p k : ℕ) (o : Dest) (u n : ℕ) (sc : Scene) (m : Meter) (y : Piece) (pi : PieceIn (room_of s w x) x.from x.to p y)
    (act : Option (Address × Activity)) (ah : ActiveHere deck names sc.names (room_of s w x) x p y act) where
  module _ (B : World) (g : Stage deck rows names c l h w u sc m t o B) (so : Sourced s w x u) (lt : p < x.to - x.from) where
    abbrev text : List ℕ
    text = text_of s w x

    abbrev world : World
    world = world_in B c l h m.used

    piece_at_lem : y ≡ piece_for (piece_at mixed text p)
    unfolding text_of
    piece_at_lem = pi.is so.within lt

    to_is : y.to ≡ (piece_at mixed text p).to
    to_is = ap (λ (z : Piece). z.to) piece_at_lem

    active_at_lem : active_for act ≡ D.active_in (piece_at mixed text p).piece world
    unfolding text_of
    active_at_lem = ah.is world (record { identifiers = g.awake.identifiers; activities = g.awake.activities }) so.within lt (pi.is so.within lt)

    size_is : length text ≡ x.to - x.from
    unfolding text_of
    size_is = stretch_length (room_of s w x) x.from x.to

    past_place : (p < y.to) × (y.to ≤ x.to - x.from)
    past_place = let q = piece_at_past text p (omega (arith, size_is)) in (omega (arith, q.above, to_is), omega (arith, q.within, to_is, size_is))

    bytes_are : bytes_at s w x p (y.to - p) ≡ part (y.to - p) p text
    unfolding bytes_at text_of stretch_of
    bytes_are = rw (sum_fits x.from p (omega (arith, so.within.short))) (sym (part_of_part (y.to - p) p (x.to - x.from) x.from (room_of s w x) (omega (arith, past_place.0, past_place.1))))

    token_is : (z : D.Active) → D.active_in (piece_at mixed text p).piece world ≡ z → token_at (replacer_in sc n) (into_of o) text k u p world ≡ token_by z (replacer_in sc n) (into_of o) text k u p y.to world
    unfolding token_at
    token_is z e = rw (e, to_is)

    copied_by : (w' t' : List ℕ) (r : Replaced) → act ≡ None → Copied s w t x p y.to o u k m w' t' r → k ≤ o.room → (o.to_work ≡ true → u + k ≤ 65536) → (b : Bool) → D.fits (into_of o) u k (y.to - p) ≡ b
        → Gone B (after_of o k) (waiting_of o u k) w t c l h w' t' r (token_at (replacer_in sc n) (into_of o) text k u p world)
    unfolding copied_for
    copied_by w' t' r e cp kr kf true f =
        let q : token_at (replacer_in sc n) (into_of o) text k u p world ≡ good (record { bytes = part (y.to - p) p text; to = y.to }) world = token_is D.not_active (sym active_at_lem ∙ ap active_for e) ∙ rw f in
        let i : r ≡ Ok ((y.to - p), y.to, m) = cp.is ∙ rw f in
        let pt : Puts s w t x p (y.to - p) o u k w' t' = cp.put f in
        let bs : List ℕ = part (y.to - p) p text in
        let low : x.in_work ≡ true → sum_to greatest x.from p ≤ top_of u k = λ v. omega (arith, sum_fits x.from p (omega (arith, so.within.short)), top_low u k g.shows.taken, so.below v) in
        let wp : w' ≡ work_put o u k bs w = pt.work low ∙ ap (λ (z : List ℕ). work_put o u k z w) bytes_are in
        let tp : t' ≡ text_put o k bs t = pt.text ∙ ap (λ (z : List ℕ). text_put o k z t) bytes_are in
        let sz : length bs ≡ y.to - p = length_part (y.to - p) p text in
        let out : out_in (after_of o k) t' w' (waiting_of o u k) (y.to - p) ≡ bs = bytes_out B o u k (y.to - p) w t w' t' bs sz g.aims g.shows.work g.shows.taken f wp tp in
        rw i (record {
          is = ap (λ (z : List ℕ). good (record { bytes = z; to = y.to }) world) out ∙ sym q;
          put = bytes_put B o u k (y.to - p) w t w' t' bs sz g.aims g.shows.work g.shows.taken f wp tp;
          left = record {
            below = bytes_below B o u k (y.to - p) w t w' t' bs sz g.aims g.shows.work g.shows.taken f wp tp;
            work = bytes_work B o u k (y.to - p) w t w' t' bs sz g.aims g.shows.work g.shows.taken f wp tp;
            long = bytes_long B o u k (y.to - p) w t w' t' bs sz g.aims g.shows.work g.shows.taken f wp tp;
            limit = g.shows.limit;
            slots = g.shows.slots;
          };
        })
    copied_by w' t' r e cp kr kf false f =
        let q : token_at (replacer_in sc n) (into_of o) text k u p world ≡ bad (D.full (into_of o)) m.used = token_is D.not_active (sym active_at_lem ∙ ap active_for e) ∙ rw f in
        let i : r ≡ Err ((D.full (into_of o)), m) = cp.is ∙ rw f in
        rw (i, cp.work f, cp.text f) (gone_bad B (after_of o k) (waiting_of o u k) w t c l h w t (D.full (into_of o)) m _ (sym q) (record { below = refl; work = refl; long = refl; limit = g.shows.limit; slots = g.shows.slots }))

    replaced_by : (c' l' h' w' t' : List ℕ) (r : Replaced) (a : Address) (v : Activity) → act ≡ Some (a, v) → ReplaceIs deck s rows names c l h w t x y.to a.0 v (after_of o k) (waiting_of o u k) n sc m c' l' h' w' t' r
        → k ≤ o.room → (o.to_work ≡ true → u + k ≤ 65536) → Gone B (after_of o k) (waiting_of o u k) w t c' l' h' w' t' r (token_at (replacer_in sc n) (into_of o) text k u p world)
    replaced_by c' l' h' w' t' r a v e ri kr kf =
        let aw : (D.active_in (piece_at mixed text p).piece world ≡ D.active a.0 (activity_of v)) × (a.0 < sc.names) × (is_on v ≡ true) =
        awake_active deck names sc.names world (record { identifiers = g.awake.identifiers; activities = g.awake.activities }) (piece_at mixed text p).piece act a v active_at_lem e in
        let st : Stage deck rows names c l h w (waiting_of o u k) sc m t (after_of o k) B = stage_on deck rows names c l h w u sc m t o B c l h w (waiting_of o u k) m t (after_of o k) g g.shows.slots refl (wait_top o u k g.shows.taken kf) g.shows.limit (aims_after t o k g.aims kr) in
        let ss : Sourced s w x (waiting_of o u k) = source_still s w w x u (waiting_of o u k) so refl (wait_low o u k kf) in
        let q : token_at (replacer_in sc n) (into_of o) text k u p world ≡ replacer_in sc n text y.to a.0 (activity_of v) (into_of (after_of o k)) (waiting_of o u k) world =
        token_is (D.active a.0 (activity_of v)) aw.0 ∙ rw (into_after o k, waiting_is o u k kf) in
        rw q (ri.is B st ss aw.1 aw.2)

  pub token_copied : (w' t' : List ℕ) (r : Replaced) → act ≡ None → Copied s w t x p y.to o u k m w' t' r → TokenIs deck s rows names c l h w t x p k o u n sc m c l h w' t' r
  token_copied w' t' r e cp = record { is = λ B g so lt kr kf. copied_by B g so lt w' t' r e cp kr kf (D.fits (into_of o) u k (y.to - p)) refl }

  pub token_replaced : (c' l' h' w' t' : List ℕ) (r : Replaced) (a : Address) (v : Activity) (o' : Dest) (u' : ℕ) → act ≡ Some (a, v) → o' ≡ after_of o k → u' ≡ waiting_of o u k
      → ReplaceIs deck s rows names c l h w t x y.to a.0 v o' u' n sc m c' l' h' w' t' r → TokenIs deck s rows names c l h w t x p k o u n sc m c' l' h' w' t' r
  token_replaced c' l' h' w' t' r a v o' u' e i j ri = record { is = λ B g so lt kr kf. replaced_by B g so lt c' l' h' w' t' r a v e (rw (i, j) at ri) kr kf }
