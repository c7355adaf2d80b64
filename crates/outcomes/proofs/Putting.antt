-- Where outcomes go: what may be put, and what was.
-- Assumes nothing.
use Rattle.outcomes.specs.Types.{Scanned}
use Rattle.std.proofs.Common.{Result, Ok, Err}
use mathlib.Core.Path.{◌≡◌, refl, sym, ap, ◌∙◌}
use mathlib.Core.Bool.{Bool, true, false, cond, ◌&&◌}
use mathlib.Core.List.{List}
use Prim.Native.Nat.{ℕ, ◌+◌, ◌-◌, ◌<◌, ◌≤◌}
use native.Mathlib.Omega.{arith}
use borrow.Author.Tests.{le-leb, lt-leb, leb-true, leb-false}
use lib.Dec.{leb}
use lib.ListN.{length}
use Rattle.definition.specs.Lists.{part}
use Rattle.definition.specs.Room.{over}
use Rattle.definition.specs.Values as Val
use Rattle.definition.specs.Scan as D
use Rattle.definition.specs.declared.Why.{Why}
use Rattle.definition.specs.declared.Why.TheVariants.{TooLong, RoomFull}
use Rattle.definition.specs.declared.ValueType.TheVariants.{CharacterType}
use Rattle.meter.specs.declared.Meter.{Meter}
use Rattle.operators.specs.declared.Value.{Value}
use Rattle.operators.specs.declared.Value.TheVariants.{Number, Characters, Bits}
use Rattle.operators.specs.Stands as O
use Rattle.operators.specs.Stands.{top_of, value_in, given_in, size_for, stacked, Made, MovedDown, MovedUp}
use Rattle.operators.proofs.Room.{top_in_lem, below_over}
use Rattle.sums.specs.Numbers.{greatest, sum_to}
use Rattle.sums.proofs.Laws.{sum_fits, sum_out}
use Rattle.outcomes.specs.declared.Src.{Src}
use Rattle.outcomes.specs.declared.Dest.{Dest}
use Rattle.outcomes.specs.Places.{into_of, after_of, waiting_of, bytes_at, work_put, text_put, Puts, copied_for, Copied, characters_at, characters_of, TextIs, settled_in, Settled}
use Rattle.outcomes.proofs.Sources.{room_work, room_body}
use Rattle.outcomes.proofs.Naming.{never}

-- ---- what may be put
and_none : (a b : Bool) → a ≡ false → (a && b) ≡ false
and_none a b e = rw e

fits_over : (d : Dest) (u k n : ℕ) → leb (k + n) d.room ≡ false → D.fits (into_of d) u k n ≡ false
unfolding into_of
fits_over d u k n e = by d.to_work
  where
    by : (b : Bool) → D.fits (cond b (D.to_work d.room) (D.to_text d.room)) u k n ≡ false
    by true = and_none (leb (k + n) d.room) (leb (u + (k + n)) 65536) e
    by false = e

pub may_past : (d : Dest) (u k n : ℕ) → d.room < k → false ≡ D.fits (into_of d) u k n
may_past d u k n h = sym (fits_over d u k n (lt-leb (k + n) d.room (omega arith)))

pub may_over : (d : Dest) (u k n : ℕ) → k ≤ d.room → d.room - k < n → false ≡ D.fits (into_of d) u k n
may_over d u k n l h = sym (fits_over d u k n (lt-leb (k + n) d.room (omega arith)))

pub may_text : (d : Dest) (u k n : ℕ) → k ≤ d.room → n ≤ d.room - k → d.to_work ≡ false → true ≡ D.fits (into_of d) u k n
unfolding into_of
may_text d u k n l h e = rw e (sym (le-leb (k + n) d.room (omega arith)))

sum_test : (u k n : ℕ) → leb (u + sum_to greatest k n) 65536 ≡ leb (u + (k + n)) 65536
sum_test u k n = by (leb (k + n) greatest) refl
  where
    by : (b : Bool) → leb (k + n) greatest ≡ b → leb (u + sum_to greatest k n) 65536 ≡ leb (u + (k + n)) 65536
    by true e = rw (sum_fits k n (leb-true (k + n) greatest e))
    by false e =
        let h : greatest < k + n = leb-false (k + n) greatest e in
        let z : greatest ≡ sum_to greatest k n = sum_out greatest k n h in
        lt-leb (u + sum_to greatest k n) 65536 (omega (arith, z)) ∙ sym (lt-leb (u + (k + n)) 65536 (omega (arith, h)))

pub may_work : (d : Dest) (u k n z : ℕ) (r : Bool) → k ≤ d.room → n ≤ d.room - k → d.to_work ≡ true → z ≡ sum_to greatest k n → r ≡ leb (u + z) 65536 → r ≡ D.fits (into_of d) u k n
unfolding into_of
may_work d u k n z r l h e f g = g ∙ rw f (sum_test u k n ∙ sym (rw (e, le-leb (k + n) d.room (omega arith))))

pub full_work : (d : Dest) → d.to_work ≡ true → TooLong ≡ D.full (into_of d)
unfolding into_of
full_work d e = rw e

pub full_text : (d : Dest) → d.to_work ≡ false → RoomFull ≡ D.full (into_of d)
unfolding into_of
full_text d e = rw e

pub after_is : (d : Dest) (k a b : ℕ) → a ≡ sum_to greatest d.at k → b ≡ d.room - k → record { to_work = d.to_work; at = a; room = b } ≡ after_of d k
after_is d k a b e f = rw (e, f)

pub waiting_work : (d : Dest) (u k r : ℕ) → d.to_work ≡ true → r ≡ top_of u k → r ≡ waiting_of d u k
unfolding waiting_of
waiting_work d u k r e f = f ∙ rw e

pub waiting_text : (d : Dest) (u k : ℕ) → d.to_work ≡ false → u ≡ waiting_of d u k
unfolding waiting_of
waiting_text d u k e = rw e

-- ---- what was put
module _ (s w t : List ℕ) (x : Src) (p n : ℕ) (d : Dest) (u k from : ℕ) (f : from ≡ sum_to greatest x.from p) where
  bytes_work : x.in_work ≡ true → part n from w ≡ bytes_at s w x p n
  unfolding bytes_at
  bytes_work e = rw (f, ← room_work s w x e)

  bytes_body : x.in_work ≡ false → part n from s ≡ bytes_at s w x p n
  unfolding bytes_at
  bytes_body e = rw (f, ← room_body s w x e)

  pub put_moved : (w' : List ℕ) (top : ℕ) → d.to_work ≡ true → x.in_work ≡ true → top ≡ top_of u k → MovedUp w from n top w' → Puts s w t x p n d u k w' t
  unfolding work_put text_put
  put_moved w' top e g h m = record { work = λ l. m.is (rw (f, h) (l g)) ∙ rw (e, h, bytes_work g); text = rw e }

  pub put_up : (w' : List ℕ) (top : ℕ) → d.to_work ≡ true → x.in_work ≡ false → top ≡ top_of u k → w' ≡ over w top (part n from s) → Puts s w t x p n d u k w' t
  unfolding work_put text_put
  put_up w' top e g h m = record { work = λ l. m ∙ rw (e, h, bytes_body g); text = rw e }

  pub put_out_lem : (t' : List ℕ) (at : ℕ) → d.to_work ≡ false → x.in_work ≡ true → at ≡ sum_to greatest d.at k → t' ≡ over t at (part n from w) → Puts s w t x p n d u k w t'
  unfolding work_put text_put
  put_out_lem t' at e g h m = record { work = λ l. rw e; text = m ∙ rw (e, h, bytes_work g) }

  pub put_across : (t' : List ℕ) (at : ℕ) → d.to_work ≡ false → x.in_work ≡ false → at ≡ sum_to greatest d.at k → t' ≡ over t at (part n from s) → Puts s w t x p n d u k w t'
  unfolding work_put text_put
  put_across t' at e g h m = record { work = λ l. rw e; text = m ∙ rw (e, h, bytes_body g) }

module _ (s w t : List ℕ) (x : Src) (p q : ℕ) (d : Dest) (u k : ℕ) (m : Meter) (n : ℕ) (f : n ≡ q - p) (b : Bool) (g : b ≡ D.fits (into_of d) u k n) where
  fits_is : (c : Bool) → b ≡ c → D.fits (into_of d) u k (q - p) ≡ c
  fits_is c e = rw (← f, ← g) e

  pub token_copied : (w' t' : List ℕ) → b ≡ true → Puts s w t x p n d u k w' t' → Copied s w t x p q d u k m w' t' (Ok (n, q, m))
  unfolding copied_for
  token_copied w' t' e h = record {
    is = rw (fits_is true e, f);
    put = λ _. rw f at h;
    work = λ c. never _ (let z : true ≡ false = sym (fits_is true e) ∙ c in cc);
    text = λ c. never _ (let z : true ≡ false = sym (fits_is true e) ∙ c in cc);
  }

  pub token_full : (y : Why) → b ≡ false → y ≡ D.full (into_of d) → Copied s w t x p q d u k m w t (Err (y, m))
  unfolding copied_for
  token_full y e h = record {
    is = rw (fits_is false e, h);
    put = λ c. never _ (let z : false ≡ true = sym (fits_is false e) ∙ c in cc);
    work = λ _. refl;
    text = λ _. refl;
  }

-- ---- values as text
given_text : (w : List ℕ) (u : ℕ) (x : Value) (l : List ℕ) (b : Bool) → Val.gives (value_in w u x) ≡ cond b (Val.gives (Val.characters l)) (Val.fails TooLong)
    → Val.gives (part (size_for x) u w) ≡ cond b (Val.gives l) (Val.fails TooLong)
unfolding value_in size_for
given_text w u (Number x) l true e = never _ (cc)
given_text w u (Characters n) l true e = let h : part n u w ≡ l = cc in ap Val.gives h
given_text w u (Bits n) l true e = never _ (cc)
given_text w u x l false e = never _ (cc)

given_none : (y : Why) (l : List ℕ) (b : Bool) → Val.fails y ≡ cond b (Val.gives (Val.characters l)) (Val.fails TooLong) → Val.fails y ≡ cond b (Val.gives l) (Val.fails TooLong)
given_none y l true e = never _ (cc)
given_none y l false e = let h : y ≡ TooLong = cc in ap Val.fails h

module _ (w : List ℕ) (u : ℕ) (g : Result Value Why) (m : Meter) where
  pub text_none : (y : Why) → g ≡ Err y → TextIs w u g m w (Err (y, m))
  unfolding characters_of given_in
  text_none y e = record { is = λ _. rw e; meter = refl; below = refl }

  module _ (v : Value) (e : g ≡ Ok v) (w' : List ℕ) (c : Result Value Why) (h : Made w u (O.text_put u v) (stacked u (Val.convert CharacterType (value_in w u v))) w' c) where
    made : 65536 ≤ length w → given_in w' u c ≡ cond (leb (u + length (Val.to_characters (value_in w u v))) 65536) (Val.gives (Val.characters (Val.to_characters (value_in w u v)))) (Val.fails TooLong)
    unfolding stacked Val.convert Val.unfinished
    made l = h.is l

    pub text_made : (x : Value) (n : ℕ) → c ≡ Ok x → n ≡ size_for x → TextIs w u g m w' (Ok (n, m))
    unfolding characters_of characters_at given_in
    text_made x n f k = record {
      is = λ l. rw (k, e) (given_text w' u x (Val.to_characters (value_in w u v)) (leb (u + length (Val.to_characters (value_in w u v))) 65536) (rw f at (made l)));
      meter = refl;
      below = below_over u u w w' (O.text_put u v) (omega arith) h.wrote;
    }

    pub text_long : (y : Why) → c ≡ Err y → TextIs w u g m w' (Err (y, m))
    unfolding characters_of characters_at given_in
    text_long y f = record {
      is = λ l. rw e (given_none y (Val.to_characters (value_in w u v)) (leb (u + length (Val.to_characters (value_in w u v))) 65536) (rw f at (made l)));
      meter = refl;
      below = below_over u u w w' (O.text_put u v) (omega arith) h.wrote;
    }

-- ---- outcomes settled
module _ (w : List ℕ) (d : Dest) (u n : ℕ) (x : Scanned) where
  pub settled_down : (k : ℕ) (m : Meter) (top : ℕ) (w' : List ℕ) → x ≡ Ok (k, m) → d.to_work ≡ true → top ≡ top_of u n → MovedDown w top k u w' → Settled w d u n x w' (Ok (k, m))
  settled_down k m top w' e f g h = record {
    is = sym e;
    work = λ l.
        let q : top ≡ u + n = g ∙ top_in_lem u n l in
        rw (e, f) (rw q at (h.is (rw q (omega arith))));
  }

  pub settled_there : (k : ℕ) (m : Meter) → x ≡ Ok (k, m) → d.to_work ≡ false → Settled w d u n x w (Ok (k, m))
  settled_there k m e f = record { is = sym e; work = λ l. rw (e, f) }

  bad_same : (b : Bool) (y : Why) (m : Meter) → w ≡ settled_in b w u n (Err (y, m))
  bad_same true y m = refl
  bad_same false y m = refl

  pub settled_bad : (y : Why) (m : Meter) → x ≡ Err (y, m) → Settled w d u n x w (Err (y, m))
  settled_bad y m e = record { is = sym e; work = λ l. rw e (bad_same d.to_work y m) }
