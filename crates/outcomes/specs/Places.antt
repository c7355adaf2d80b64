-- WHERE OUTCOMES GO: into the text room from a place on, or into the work room above what waits.
use Rattle.outcomes.specs.Types.{Scanned, Replaced}
use Rattle.definition.specs.declared.Why.{Why}
use Rattle.operators.specs.declared.Value.{Value}
use Rattle.std.specs.Prelude.{ℕ, ◌+◌, ◌-◌, ◌≤◌, Bool, true, false, cond, ◌≡◌, List, leb, length, take, Result, Ok, Err}
use Rattle.definition.specs.Limits.{unfinished_bytes}
use Rattle.definition.specs.Lists.{part}
use Rattle.definition.specs.Room.{over}
use Rattle.definition.specs.Values as Val
use Rattle.definition.specs.Scan as D
use Rattle.definition.specs.declared.Why.TheVariants.{TooLong}
use Rattle.meter.specs.declared.Meter.{Meter}
use Rattle.operators.specs.Stands.{top_of, given_in}
use Rattle.sums.specs.Numbers.{greatest, sum_to}
use Rattle.outcomes.specs.declared.Src.{Src}
use Rattle.outcomes.specs.declared.Dest.{Dest}
use Rattle.outcomes.specs.Texts.{room_of}

unfoldable pub into_of : Dest → D.Into
into_of d = cond d.to_work (D.to_work d.room) (D.to_text d.room)

abbrev pub after_of : Dest → ℕ → Dest
after_of d k = record { to_work = d.to_work; at = sum_to greatest d.at k; room = d.room - k }

unfoldable pub waiting_of : Dest → ℕ → ℕ → ℕ
waiting_of d u k = cond d.to_work (top_of u k) u

abbrev pub into_work : Dest
into_work = record { to_work = true; at = 0; room = 512 }

-- THE OUTCOME of k bytes, where it lies
unfoldable pub out_in : Dest → List ℕ → List ℕ → ℕ → ℕ → List ℕ
out_in d t w u k = cond d.to_work (part k u w) (part k d.at t)

-- ---- bytes behind an outcome of k bytes
-- the n bytes of a source from p on
unfoldable pub bytes_at : List ℕ → List ℕ → Src → ℕ → ℕ → List ℕ
bytes_at s w x p n = part n (sum_to greatest x.from p) (room_of s w x)

-- the rooms with bytes behind an outcome of k bytes
unfoldable pub work_put : Dest → ℕ → ℕ → List ℕ → List ℕ → List ℕ
work_put d u k bs w = cond d.to_work (over w (top_of u k) bs) w

unfoldable pub text_put : Dest → ℕ → List ℕ → List ℕ → List ℕ
text_put d k bs t = cond d.to_work t (over t (sum_to greatest d.at k) bs)

-- a source in the work room lies below what is put there
pub record Puts (s w t : List ℕ) (x : Src) (p n : ℕ) (d : Dest) (u k : ℕ) (w' t' : List ℕ) : Type 0 where
  pub work : (x.in_work ≡ true → sum_to greatest x.from p ≤ top_of u k) → w' ≡ work_put d u k (bytes_at s w x p n) w
  pub text : t' ≡ text_put d k (bytes_at s w x p n) t

unfoldable pub copied_for : Dest → ℕ → ℕ → ℕ → ℕ → Meter → Replaced
copied_for d u k n q m = cond (D.fits (into_of d) u k n) (Ok (n, q, m)) (Err ((D.full (into_of d)), m))

-- a token from p to q behind an outcome of k bytes
pub record Copied (s w t : List ℕ) (x : Src) (p q : ℕ) (d : Dest) (u k : ℕ) (m : Meter) (w' t' : List ℕ) (r : Replaced) : Type 0 where
  pub is : r ≡ copied_for d u k (q - p) q m
  pub put : D.fits (into_of d) u k (q - p) ≡ true → Puts s w t x p (q - p) d u k w' t'
  pub work : D.fits (into_of d) u k (q - p) ≡ false → w' ≡ w
  pub text : D.fits (into_of d) u k (q - p) ≡ false → t' ≡ t

-- ---- values
abbrev pub meter_of : Scanned → Meter
meter_of (Ok (n, m)) = m
meter_of (Err (e, m)) = m

-- bytes that lie at u
abbrev pub got_in : List ℕ → ℕ → Scanned → Val.Answer (List ℕ)
got_in w u (Ok (n, m)) = Val.gives (part n u w)
got_in w u (Err (e, m)) = Val.fails e

-- the characters of a value, where they may wait above u bytes
unfoldable pub characters_at : ℕ → Val.Value → Val.Answer (List ℕ)
characters_at u v = cond (leb (u + length (Val.to_characters v)) unfinished_bytes) (Val.gives (Val.to_characters v)) (Val.fails TooLong)

unfoldable pub characters_of : ℕ → Val.Answer Val.Value → Val.Answer (List ℕ)
characters_of u a = Val.and_then a (characters_at u)

pub record TextIs (w : List ℕ) (u : ℕ) (g : Result Value Why) (m : Meter) (w' : List ℕ) (r : Scanned) : Type 0 where
  pub is : unfinished_bytes ≤ length w → got_in w' u r ≡ characters_of u (given_in w u g)
  pub meter : meter_of r ≡ m
  pub below : take u w' ≡ take u w

-- an outcome above n bytes at u comes down to u
abbrev pub settled_in : Bool → List ℕ → ℕ → ℕ → Scanned → List ℕ
settled_in true w u n (Ok (k, m)) = over w u (part k (u + n) w)
settled_in true w u n (Err (e, m)) = w
settled_in false w u n x = w

pub record Settled (w : List ℕ) (d : Dest) (u n : ℕ) (x : Scanned) (w' : List ℕ) (r : Scanned) : Type 0 where
  pub is : r ≡ x
  pub work : u + n ≤ unfinished_bytes → w' ≡ settled_in d.to_work w u n x
