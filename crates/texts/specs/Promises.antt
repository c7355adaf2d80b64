-- THE CONTRACTS OF PROGRAM TEXT.
use Rattle.texts.specs.Types.{Ran, Passed}
use Rattle.outcomes.specs.Types.{Replaced}
use Rattle.std.specs.Prelude.{ℕ, suc, ◌+◌, ◌-◌, ◌<◌, ◌≤◌, Bool, true, false, ◌≡◌, List, ltb, length, Ok, Err}
use Rattle.definition.specs.Bytes.{mixed}
use Rattle.definition.specs.Choice.{when}
use Rattle.definition.specs.Room.{over}
use Rattle.definition.specs.Tokens.{piece_at}
use Rattle.definition.specs.Program as Program
use Rattle.definition.specs.Events.{Event, replaced, bytes_in}
use Rattle.definition.specs.Cards.{taking}
use Rattle.definition.specs.World.{Pass, World, Res, good, bind, placed, charge, with_event}
use Rattle.definition.specs.Scan.{active_in}
use Rattle.definition.specs.Run.{Stop, stop, pass_of, replace_here, token_here, text_on, text_out}
use Rattle.definition.specs.declared.Why.TheVariants.{RoomFull, NoStep}
use Rattle.meter.specs.declared.Meter.{Meter}
use Rattle.meter.specs.Charges.{Charges}
use Rattle.names.specs.declared.Activity.{Activity}
use Rattle.names.specs.Table.{activity_of}
use Rattle.rows.specs.declared.Stretch.{Stretch}
use Rattle.output.specs.declared.Out.{Out}
use Rattle.origin.specs.Written.{Written, fits}
use Rattle.callees.specs.Shown.{world_in}
use Rattle.outcomes.specs.declared.Src.{Src}
use Rattle.outcomes.specs.Texts.{text_of}
use Rattle.scanning.specs.Cycle.{is_on}
use Rattle.texts.specs.declared.Progress.{Progress}
use Rattle.texts.specs.declared.Here.{Here}
use Rattle.texts.specs.Shown.{with_meter, with_out, halted_at, stretch_for, Onstage, RanAs, PassedAs, Lies}

-- ---- an event goes out, if both rooms hold it
-- it did, whatever its pass
pub record PutMore (sizes : ℕ → ℕ) (e : Event) (g : Progress) (B : World) (t ls : List ℕ) (r : Ran) : Type 0 where
  pub out : Out
  pub is : r ≡ Ok (with_out g out)
  pub written : (z : Pass) → Written sizes g.layout t ls out (with_event e z (taking g.layout e B.events) B)

abbrev pub PutAs : Bool → (ℕ → ℕ) → Event → Progress → ℕ → ℕ → World → List ℕ → List ℕ → Ran → Type 0
PutAs true sizes e g m p B t ls r = PutMore sizes e g B t ls r
PutAs false sizes e g m p B t ls r = r ≡ Err (halted_at g RoomFull m p)

-- an event of member m, whose body has so many bytes, from its place p up to a place q
pub record PutIs (e : Event) (size q : ℕ) (t ls : List ℕ) (g : Progress) (m p : ℕ) (t' ls' : List ℕ) (r : Ran) : Type 0 where
  pub is : (sizes : ℕ → ℕ) (B : World) → sizes m ≡ size → Written sizes g.layout t ls g.out B → m < 32 → q < 65536 → 1 ≤ length (bytes_in e) → length (bytes_in e) < 65536
      → PutAs (fits g.layout e B.events g.out) sizes e g m p B t' ls' r

-- the line of a replacement: its outcome stands in the text room t' already
pub record LineIs (t' ls : List ℕ) (g : Progress) (m size p n : ℕ) (ls' : List ℕ) (k : Progress) : Type 0 where
  pub is : (sizes : ℕ → ℕ) (B : World) (t bytes : List ℕ) → sizes m ≡ size → Written sizes g.layout t ls g.out B → t' ≡ over t g.out.text bytes → length bytes ≡ n → n ≤ g.out.room → 1 ≤ g.out.free → m < 32 → p < 65536
      → PutMore sizes (replaced m p bytes) g B t' ls' (Ok k)

abbrev pub ReplacementAs : Replaced → List ℕ → List ℕ → Progress → ℕ → ℕ → ℕ → List ℕ → Passed → Type 0
ReplacementAs (Ok (n, q, k)) t ls g m size p ls' z = (x : Progress) × LineIs t ls (with_meter g k) m size p n ls' x × (z ≡ Ok (q, x))
ReplacementAs (Err (e, k)) t ls g m size p ls' z = z ≡ Err (halted_at (with_meter g k) e m p)

pub record ReplacementIs (t ls : List ℕ) (g : Progress) (m size p : ℕ) (r : Replaced) (ls' : List ℕ) (z : Passed) : Type 0 where
  pub is : ReplacementAs r t ls g m size p ls' z

-- ---- a token of the text x at its place p; x lies in the body s
-- its step, if one is left
abbrev pub StepAs : Progress → ℕ → ℕ → Ran → Type 0
StepAs g m p (Ok k) = (n : Meter) × Charges g.meter (record { paid = true; meter = n }) × (k ≡ with_meter g n)
StepAs g m p (Err e) = (n : Meter) × Charges g.meter (record { paid = false; meter = n }) × (e ≡ halted_at (with_meter g n) NoStep m p)

-- the active name that ends at `to`, whatever its pass
pub record ReplacingIs (deck s rows names c l h w t ls : List ℕ) (x : Src) (p to a : ℕ) (y : Activity) (here : Here) (g : Progress) (c' l' h' w' t' ls' : List ℕ) (r : Passed) : Type 0 where
  pub is : (B : World) → Onstage deck rows names c l h w t ls here.starts g B → Lies deck here.member s x.from x.to → x.in_work ≡ false → p < x.to - x.from → here.member < 32 → a < g.names → is_on y ≡ true → (z : List ℕ → ℕ → Pass)
      → PassedAs deck rows names here.starts g B c' l' h' w' t' ls' r (placed (stop here.member (x.from + p)) (replace_here mixed here.member (x.from + p) (text_of s w x) to a (activity_of y) z (world_in B c l h g.meter.used)))

-- one turn of the definition's `textOn`
unfoldable pub turn_here : ℕ → ℕ → List ℕ → ℕ → World → Res Stop ℕ
turn_here m from t p w = placed (stop m (from + p)) (bind (charge w) λ _ v.
    token_here mixed (active_in (piece_at mixed t p).piece v) m (from + p) t p (piece_at mixed t p).to (λ l q. pass_of m (from + p) (piece_at mixed t p).piece v l (from + q)) v)

pub record TokenIs (deck s rows names c l h w t ls : List ℕ) (x : Src) (p : ℕ) (here : Here) (g : Progress) (c' l' h' w' t' ls' : List ℕ) (r : Passed) : Type 0 where
  pub is : (B : World) → Onstage deck rows names c l h w t ls here.starts g B → Lies deck here.member s x.from x.to → x.in_work ≡ false → p < x.to - x.from → here.member < 32
      → PassedAs deck rows names here.starts g B c' l' h' w' t' ls' r (turn_here here.member x.from (text_of s w x) p (world_in B c l h g.meter.used))

-- ---- the tokens of a text, one after the other
pub record TokensAre (deck s rows names c l h w t ls : List ℕ) (x : Src) (here : Here) (g : Progress) (c' l' h' w' t' ls' : List ℕ) (r : Ran) : Type 0 where
  pub is : (B : World) → Onstage deck rows names c l h w t ls here.starts g B → Lies deck here.member s x.from x.to → x.in_work ≡ false → here.member < 32
      → RanAs deck rows names here.starts g B c' l' h' w' t' ls' r (text_on mixed here.member x.from (text_of s w x) (suc (x.to - x.from)) 0 (world_in B c l h g.meter.used))

-- THE TEXT of a stretch of the body, behind one blank
pub record TextIs (deck s rows names c l h w t ls : List ℕ) (x : Stretch) (here : Here) (g : Progress) (c' l' h' w' t' ls' : List ℕ) (r : Ran) : Type 0 where
  pub is : (B : World) → Onstage deck rows names c l h w t ls here.starts g B → Lies deck here.member s x.from x.to → here.member < 32
      → RanAs deck rows names here.starts g B c' l' h' w' t' ls' r (text_out mixed here.member s (stretch_for x) (world_in B c l h g.meter.used))

-- a leading text: an empty one is none
unfoldable pub lead_text : ℕ → List ℕ → Program.Stretch → World → Res Stop (Unit {0})
lead_text m s x w = when (ltb x.from x.to) (λ _. text_out mixed m s x w) (λ _. good tt w)

pub record LeadIs (deck s rows names c l h w t ls : List ℕ) (x : Stretch) (here : Here) (g : Progress) (c' l' h' w' t' ls' : List ℕ) (r : Ran) : Type 0 where
  pub is : (B : World) → Onstage deck rows names c l h w t ls here.starts g B → Lies deck here.member s x.from x.to → here.member < 32
      → RanAs deck rows names here.starts g B c' l' h' w' t' ls' r (lead_text here.member s (stretch_for x) (world_in B c l h g.meter.used))
