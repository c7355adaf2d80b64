-- Events go out: what the two rooms and the cursor then show.
-- Assumes nothing.
use Rattle.texts.specs.Types.{Ran}
use Rattle.std.proofs.Common.{Option, Some, None, Ok, Err}
use mathlib.Core.Path.{◌≡◌, refl, sym, ap, subst, ◌∙◌}
use mathlib.Core.Bool.{Bool, true, false, ◌&&◌}
use mathlib.Core.List.{List}
use Prim.Native.Nat.{ℕ, ◌%◌, ◌<◌, ◌≤◌}
use native.Mathlib.Omega.{arith}
use lib.Dec.{leb}
use lib.ListN.{length}
use Rattle.definition.specs.Choice.{when}
use Rattle.definition.specs.Events.{Event, bytes_in}
use Rattle.definition.specs.World.{Pass, World, Res, good, bad, placed, with_event}
use Rattle.definition.specs.Cards.{taking}
use Rattle.definition.specs.Run.{stop, put_out}
use Rattle.definition.specs.Expansion.{size_in}
use Rattle.definition.specs.declared.Why.{Why}
use Rattle.definition.specs.declared.Why.TheVariants.{RoomFull}
use Rattle.definition.proofs.Rooms.{length_over}
use Rattle.rows.specs.declared.Starts.{Starts}
use Rattle.output.specs.declared.Out.{Out}
use Rattle.origin.specs.Written.{fits, Answers, Tells, Ends}
use Rattle.callees.specs.Shown.{world_in}
use Rattle.texts.specs.declared.Progress.{Progress}
use Rattle.texts.specs.declared.Stop.{Stop}
use Rattle.texts.specs.Shown.{with_out, halted_at, put_for, Onstage, RanAs}
use Rattle.texts.specs.Promises.{PutAs, PutIs, LineIs}
use Rattle.texts.proofs.Common.{member_low, size_low, stage_event, goes_event}

-- ---- answers by cases
pub put_done : (g k : Progress) (q : Option Out) (o : Out) (m p : ℕ) → q ≡ Some o → k ≡ with_out g o → Ok k ≡ put_for g q m p
put_done g k q o m p e f = ap Ok f ∙ sym (ap (λ (v : Option Out). put_for g v m p) e)

pub put_full : (g : Progress) (q : Option Out) (m p : ℕ) (e : Stop × Progress) → q ≡ None → e ≡ halted_at g RoomFull m p → Err e ≡ put_for g q m p
put_full g q m p e f h = ap Err h ∙ sym (ap (λ (v : Option Out). put_for g v m p) f)

-- ---- the answer of `origin`, by cases
put_by : (sizes : ℕ → ℕ) (e : Event) (g : Progress) (m p : ℕ) (B : World) (t ls : List ℕ) (q : Option Out) (r : Ran) → r ≡ put_for g q m p → (b : Bool) → Answers b sizes g.layout e B q t ls → PutAs b sizes e g m p B t ls r
put_by sizes e g m p B t ls q r i true x = record { out = x.0; is = i ∙ ap (λ (v : Option Out). put_for g v m p) x.1; written = x.2.written }
put_by sizes e g m p B t ls q r i false x = i ∙ ap (λ (v : Option Out). put_for g v m p) x

-- ---- the ways out; the number of a member is a byte
module _ (t ls t' ls' : List ℕ) (g : Progress) (m p m8 size q : ℕ) (u : Option Out) (r : Ran) (i : m8 ≡ m % 256) (e : r ≡ put_for g u m p) (f : ℕ → Event) where
  pub event_put : Tells g.layout size (f m8) m8 q g.out t ls u t' ls' → PutIs (f m) size q t ls g m p t' ls' r
  event_put k = record {
    is = λ sizes B s w lm lq some short.
        let k₁ : Tells g.layout size (f m) m q g.out t ls u t' ls' = subst (λ (z : ℕ). Tells g.layout size (f z) z q g.out t ls u t' ls') (i ∙ member_low m lm) k in
        put_by sizes (f m) g m p B t' ls' u r e (fits g.layout (f m) B.events g.out) (k₁.is sizes B s w lq some short);
  }

-- ---- the line of a replacement
pub line_put : (t ls ls' : List ℕ) (g : Progress) (m size p n m8 n32 : ℕ) (o : Out) (g' : Progress) → m8 ≡ m % 256 → n32 ≡ n % 4294967296 → g' ≡ with_out g o
    → Ends g.layout size m8 p n32 g.out (length t) ls o ls' → LineIs t ls g m size p n ls' g'
line_put t ls ls' g m size p n m8 n32 o g' i v e k = record {
  is = λ sizes B t₀ bytes s w f len room free lm lp.
      let c : n32 ≡ n = v ∙ size_low n (omega (arith, room, w.fine.most)) in
      let long : length t₀ ≡ length t = sym (ap length f ∙ length_over t₀ g.out.text bytes) in
      let k₁ : Ends g.layout size m p n g.out (length t) ls o ls' = subst (λ (z : ℕ). Ends g.layout size z p n g.out (length t) ls o ls') (i ∙ member_low m lm) (subst (λ (z : ℕ). Ends g.layout size m8 p z g.out (length t) ls o ls') c k) in
      record { out = o; is = ap Ok e; written = (k₁.is sizes B t₀ t bytes s w long f len free room lp).written };
}

-- ---- AN EVENT in the world of the rooms, with any pass
module _ (deck rows names c l h w t ls t' ls' : List ℕ) (starts : Starts) (g : Progress) (m p : ℕ) (e : Event) (B : World) (s : Onstage deck rows names c l h w t ls starts g B) (z : Pass) where
  abbrev put : Res Why (Unit {0})
  put = put_out e z (taking g.layout e B.events) (world_in B c l h g.meter.used)

  put_is : (b : Bool) → fits g.layout e B.events g.out ≡ b → put ≡ when b (λ _. good tt (with_event e z (taking g.layout e B.events) (world_in B c l h g.meter.used))) (λ _. bad RoomFull g.meter.used)
  unfolding put_out
  put_is b i =
      let f : (leb (taking g.layout e B.events) B.lines_left && leb (length (bytes_in e)) B.text_left) ≡ b =
      ap (λ (n : ℕ). leb (taking g.layout e B.events) n && leb (length (bytes_in e)) B.text_left) s.written.lines ∙ ap (λ (n : ℕ). leb (taking g.layout e B.events) g.out.free && leb (length (bytes_in e)) n) s.written.text ∙ i in
      rw f

  ran_by : (r : Ran) (b : Bool) → fits g.layout e B.events g.out ≡ b → PutAs b (size_in deck) e g m p B t' ls' r → RanAs deck rows names starts g B c l h w t' ls' r (placed (stop m p) put)
  ran_by r true i x = rw x.is (record {
    world = with_event e z (taking g.layout e B.events) B;
    stage = stage_event deck rows names c l h w t ls starts g B s c l h w t' ls' g.meter x.out e z (taking g.layout e B.events) s.shows.slots refl s.shows.limit (x.written z);
    goes = goes_event B e z (taking g.layout e B.events);
    is = ap (placed (stop m p)) (put_is true i);
    tabled = refl;
    named = refl;
  })
  ran_by r false i x = rw x (ap (placed (stop m p)) (put_is false i))

  pub put_ran : (r : Ran) (size q : ℕ) → PutIs e size q t ls g m p t' ls' r → size_in deck m ≡ size → m < 32 → q < 65536 → 1 ≤ length (bytes_in e) → length (bytes_in e) < 65536 → RanAs deck rows names starts g B c l h w t' ls' r (placed (stop m p) put)
  put_ran r size q k sz lm lq some short = ran_by r (fits g.layout e B.events g.out) refl (k.is (size_in deck) B sz s.written lm lq some short)
