-- The tokens of a text one after the other, behind their blank.
-- Assumes nothing.
use Rattle.std.proofs.Common.{Ok, Err}
use Rattle.texts.specs.Types.{Ran, Passed}
use mathlib.Core.Path.{◌≡◌, refl, sym, ap, subst, ◌∙◌}
use mathlib.Core.Bool.{false}
use mathlib.Core.List.{List}
use Prim.Native.Nat.{ℕ, zero, suc, ◌-◌, ◌<◌, ◌≤◌}
use native.Mathlib.Numerals.{add-one}
use native.Mathlib.Omega.{arith}
use borrow.Author.Tests.{le-leb, lt-leb, lt-ltb, le-ltb}
use lib.ListN.{length}
use Rattle.definition.specs.Bytes.{mixed}
use Rattle.definition.specs.Lists.{part}
use Rattle.definition.specs.Events.{blank}
use Rattle.definition.specs.Program as Program
use Rattle.definition.specs.World.{Pass, began, World, Res, good, bad, bind, placed}
use Rattle.definition.specs.Flow.{lead_out}
use Rattle.definition.specs.Calls.{Place}
use Rattle.definition.specs.Run as Run
use Rattle.definition.specs.Run.{stop, put_out, text_on, text_out, body_of, Level, member_machine}
use Rattle.rows.specs.declared.Starts.{Starts}
use Rattle.rows.specs.declared.Stretch.{Stretch}
use Rattle.callees.specs.Shown.{world_in}
use Rattle.outcomes.specs.declared.Src.{Src}
use Rattle.outcomes.specs.Texts.{text_of}
use Rattle.scanning.proofs.Common.{text_length}
use Rattle.sums.specs.Numbers.{greatest, sum_to}
use Rattle.sums.proofs.Laws.{sum_fits}
use Rattle.texts.specs.declared.Progress.{Progress}
use Rattle.texts.specs.declared.Here.{Here}
use Rattle.texts.specs.declared.Stop.{Stop}
use Rattle.texts.specs.Shown.{stretch_for, stop_for, Onstage, Goes, After, RanAs, PassedAs, Lies}
use Rattle.texts.specs.Promises.{PutIs, turn_here, TokenIs, TokensAre, TextIs, lead_text, LeadIs}
use Rattle.texts.proofs.Common.{body_text, body_still, goes_none, goes_on_lem}
use Rattle.texts.proofs.Putting.{put_ran}

-- ---- the definition's turns
turn_some : (m from : ℕ) (t : List ℕ) (f p : ℕ) (v : World) → p < length t → text_on mixed m from t (suc f) p v ≡ bind (turn_here m from t p v) (λ q u. text_on mixed m from t f q u)
unfolding text_on turn_here
turn_some m from t f p v h = rw (lt-leb (length t) p h)

turn_end : (m from : ℕ) (t : List ℕ) (f p : ℕ) (v : World) → length t ≤ p → text_on mixed m from t (suc f) p v ≡ good tt v
unfolding text_on
turn_end m from t f p v h = rw (le-leb (length t) p h)

turn_out : (m from : ℕ) (t : List ℕ) (p : ℕ) (v : World) → text_on mixed m from t zero p v ≡ good tt v
unfolding text_on
turn_out m from t p v = refl

-- ---- what comes behind what
pub ran_on : (deck rows names c l h w t ls : List ℕ) (starts : Starts) (g k : Progress) (B B₁ : World) (r : Ran) (R : Res Run.Stop (Unit {0})) → Goes B B₁ → k.rows ≡ g.rows → k.names ≡ g.names
    → RanAs deck rows names starts k B₁ c l h w t ls r R → RanAs deck rows names starts g B c l h w t ls r R
ran_on deck rows names c l h w t ls starts g k B B₁ (Ok j) R e a b x = record { world = x.world; stage = x.stage; goes = goes_on_lem B B₁ x.world e x.goes; is = x.is; tabled = x.tabled ∙ a; named = x.named ∙ b }
ran_on deck rows names c l h w t ls starts g k B B₁ (Err (y, j)) R e a b x = x

-- ---- THE INVARIANT: what is left of the text gives what all of it gives
pub record Along (deck s rows names c₀ l₀ h₀ w₀ : List ℕ) (x : Src) (here : Here) (g₀ : Progress) (B : World) (turns p : ℕ) (g : Progress) (c l h w t ls : List ℕ) : Type 0 where
  pub world : World
  pub stage : Onstage deck rows names c l h w t ls here.starts g world
  pub goes : Goes B world
  pub same : text_on mixed here.member x.from (text_of s w₀ x) turns p (world_in world c l h g.meter.used) ≡ text_on mixed here.member x.from (text_of s w₀ x) (suc (x.to - x.from)) 0 (world_in B c₀ l₀ h₀ g₀.meter.used)
  pub tabled : g.rows ≡ g₀.rows
  pub named : g.names ≡ g₀.names

pub record Texting (deck s rows names c₀ l₀ h₀ w₀ t₀ ls₀ : List ℕ) (x : Src) (here : Here) (g₀ : Progress) (turns p : ℕ) (g : Progress) (c l h w t ls : List ℕ) : Type 0 where
  pub cells : length c ≡ length c₀
  pub low : length l ≡ length l₀
  pub high : length h ≡ length h₀
  pub work : length w ≡ length w₀
  pub long : length t ≡ length t₀
  pub list : length ls ≡ length ls₀
  pub so : (B : World) → Onstage deck rows names c₀ l₀ h₀ w₀ t₀ ls₀ here.starts g₀ B → Lies deck here.member s x.from x.to → x.in_work ≡ false → here.member < 32 → Along deck s rows names c₀ l₀ h₀ w₀ x here g₀ B turns p g c l h w t ls

pub texting_start : (deck s rows names c l h w t ls : List ℕ) (x : Src) (here : Here) (g : Progress) (size turns : ℕ) → size ≡ x.to - x.from → turns ≡ sum_to greatest size 1 → Texting deck s rows names c l h w t ls x here g turns 0 g c l h w t ls
texting_start deck s rows names c l h w t ls x here g size turns e f = record {
  cells = refl;
  low = refl;
  high = refl;
  work = refl;
  long = refl;
  list = refl;
  so = λ B st li wk mm. record {
    world = B;
    stage = st;
    goes = goes_none B;
    same =
        let j : turns ≡ suc (x.to - x.from) = f ∙ sum_fits size 1 (omega (arith, e, li.within, li.short)) ∙ add-one size ∙ ap suc e in
        ap (λ (k : ℕ). text_on mixed here.member x.from (text_of s w x) k 0 (world_in B c l h g.meter.used)) j;
    tabled = refl;
    named = refl;
  };
}

module _ (deck s rows names c₀ l₀ h₀ w₀ t₀ ls₀ : List ℕ) (x : Src) (here : Here) (g₀ : Progress) (turns p : ℕ) (g : Progress) (c l h w t ls : List ℕ) (i : Texting deck s rows names c₀ l₀ h₀ w₀ t₀ ls₀ x here g₀ turns p g c l h w t ls) where
  abbrev text : List ℕ
  text = text_of s w₀ x

  end_by : (f : ℕ) → turns ≡ f → ((v : ℕ) → f ≡ suc v → x.to - x.from ≤ p) → TokensAre deck s rows names c₀ l₀ h₀ w₀ t₀ ls₀ x here g₀ c l h w t ls (Ok g)
  end_by zero e j = record {
    is = λ B st li wk mm.
        let z = i.so B st li wk mm in
        record { world = z.world; stage = z.stage; goes = z.goes; is = sym (rw e at z.same) ∙ turn_out here.member x.from text p (world_in z.world c l h g.meter.used); tabled = z.tabled; named = z.named };
  }
  end_by (suc f) e j = record {
    is = λ B st li wk mm.
        let z = i.so B st li wk mm in
        record { world = z.world; stage = z.stage; goes = z.goes; is = sym (rw e at z.same) ∙ turn_end here.member x.from text f p (world_in z.world c l h g.meter.used) (omega (arith, text_length s w₀ x, j f refl)); tabled = z.tabled; named = z.named };
  }

  pub texting_end : (size : ℕ) → size ≡ x.to - x.from → size ≤ p → TokensAre deck s rows names c₀ l₀ h₀ w₀ t₀ ls₀ x here g₀ c l h w t ls (Ok g)
  texting_end size e f = end_by turns refl (λ v _. omega arith)

  pub texting_out : turns ≤ 0 → TokensAre deck s rows names c₀ l₀ h₀ w₀ t₀ ls₀ x here g₀ c l h w t ls (Ok g)
  texting_out f = end_by turns refl (λ v e. absurd (omega arith))

  module _ (size : ℕ) (e : size ≡ x.to - x.from) (lt : p < size) (left : ℕ) (go : turns ≡ suc left) (c' l' h' w' t' ls' : List ℕ) (r : Passed) (tk : TokenIs deck s rows names c l h w t ls x p here g c' l' h' w' t' ls' r) where
    module _ (B : World) (st : Onstage deck rows names c₀ l₀ h₀ w₀ t₀ ls₀ here.starts g₀ B) (li : Lies deck here.member s x.from x.to) (wk : x.in_work ≡ false) (mm : here.member < 32) where
      now_is : Along deck s rows names c₀ l₀ h₀ w₀ x here g₀ B turns p g c l h w t ls
      now_is = i.so B st li wk mm

      abbrev all : Res Run.Stop (Unit {0})
      all = text_on mixed here.member x.from text (suc (x.to - x.from)) 0 (world_in B c₀ l₀ h₀ g₀.meter.used)

      abbrev turn : Res Run.Stop ℕ
      turn = turn_here here.member x.from text p (world_in now_is.world c l h g.meter.used)

      turn_is : bind turn (λ q u. text_on mixed here.member x.from text left q u) ≡ all
      turn_is =
          sym (turn_some here.member x.from text left p (world_in now_is.world c l h g.meter.used) (omega (arith, text_length s w₀ x)))
          ∙ ap (λ (k : ℕ). text_on mixed here.member x.from text k p (world_in now_is.world c l h g.meter.used)) (sym go) ∙ now_is.same

      passed : PassedAs deck rows names here.starts g now_is.world c' l' h' w' t' ls' r turn
      passed = subst (λ (k : List ℕ). PassedAs deck rows names here.starts g now_is.world c' l' h' w' t' ls' r (turn_here here.member x.from k p (world_in now_is.world c l h g.meter.used))) (body_still s w₀ w x wk)
          (tk.is now_is.world now_is.stage li wk (omega (arith, e)) mm)

      bad_on : (y : Stop) (k : Progress) → r ≡ Err (y, k) → all ≡ bad (stop_for y) k.meter.used
      bad_on y k j =
          let z : turn ≡ bad (stop_for y) k.meter.used = subst (λ (v : Passed). PassedAs deck rows names here.starts g now_is.world c' l' h' w' t' ls' v turn) j passed in
          sym turn_is ∙ ap (λ (v : Res Run.Stop ℕ). bind v (λ q u. text_on mixed here.member x.from text left q u)) z

      good_on : (q : ℕ) (k : Progress) → r ≡ Ok (q, k) → Along deck s rows names c₀ l₀ h₀ w₀ x here g₀ B left q k c' l' h' w' t' ls'
      good_on q k j =
          let z : After ℕ deck rows names here.starts g now_is.world c' l' h' w' t' ls' k q turn = subst (λ (v : Passed). PassedAs deck rows names here.starts g now_is.world c' l' h' w' t' ls' v turn) j passed in
          record {
            world = z.world;
            stage = z.stage;
            goes = goes_on_lem B now_is.world z.world now_is.goes z.goes;
            same = sym (ap (λ (v : Res Run.Stop ℕ). bind v (λ q₁ u. text_on mixed here.member x.from text left q₁ u)) z.is) ∙ turn_is;
            tabled = z.tabled ∙ now_is.tabled;
            named = z.named ∙ now_is.named;
          }

    pub texting_bad : (y : Stop) (k : Progress) → r ≡ Err (y, k) → TokensAre deck s rows names c₀ l₀ h₀ w₀ t₀ ls₀ x here g₀ c' l' h' w' t' ls' (Err (y, k))
    texting_bad y k j = record { is = λ B st li wk mm. bad_on B st li wk mm y k j }

    pub texting_more : (q : ℕ) (k : Progress) → r ≡ Ok (q, k) → length c' ≡ length c → length l' ≡ length l → length h' ≡ length h → length w' ≡ length w → length t' ≡ length t → length ls' ≡ length ls
        → Texting deck s rows names c₀ l₀ h₀ w₀ t₀ ls₀ x here g₀ left q k c' l' h' w' t' ls'
    texting_more q k j d₁ d₂ d₃ d₄ d₅ d₆ = record {
      cells = d₁ ∙ i.cells;
      low = d₂ ∙ i.low;
      high = d₃ ∙ i.high;
      work = d₄ ∙ i.work;
      long = d₅ ∙ i.long;
      list = d₆ ∙ i.list;
      so = λ B st li wk mm. good_on B st li wk mm q k j;
    }

-- ---- one blank, then the text
module _ (deck s rows names c l h w t ls : List ℕ) (x : Stretch) (here : Here) (g : Progress) (t₁ ls₁ : List ℕ) (b : Ran) (from to : ℕ) (f₁ : from ≡ x.from) (f₂ : to ≡ x.to) (pt : PutIs (blank here.member from) (length s) from t ls g here.member from t₁ ls₁ b) where
  abbrev began_at : Pass
  began_at = began here.member (stretch_for x)

  module _ (B : World) (st : Onstage deck rows names c l h w t ls here.starts g B) (li : Lies deck here.member s x.from x.to) (mm : here.member < 32) where
    abbrev put : Res Run.Stop (Unit {0})
    put = placed (stop here.member x.from) (put_out (blank here.member x.from) began_at 1 (world_in B c l h g.meter.used))

    blank_ran : RanAs deck rows names here.starts g B c l h w t₁ ls₁ b put
    blank_ran = put_ran deck rows names c l h w t ls t₁ ls₁ here.starts g here.member x.from (blank here.member x.from) B st began_at b (length s) x.from (rw f₁ at pt) (sym li.sized) mm (omega (arith, li.order, li.within, li.short)) (omega arith) (omega arith)

    text_is : text_out mixed here.member s (stretch_for x) (world_in B c l h g.meter.used) ≡ bind put (λ _ v. text_on mixed here.member x.from (part (x.to - x.from) x.from s) (suc (x.to - x.from)) 0 v)
    unfolding text_out
    text_is = refl

    refused_on : (y : Stop) (k : Progress) → b ≡ Err (y, k) → text_out mixed here.member s (stretch_for x) (world_in B c l h g.meter.used) ≡ bad (stop_for y) k.meter.used
    refused_on y k e =
        let z : put ≡ bad (stop_for y) k.meter.used = subst (λ (v : Ran). RanAs deck rows names here.starts g B c l h w t₁ ls₁ v put) e blank_ran in
        text_is ∙ ap (λ (v : Res Run.Stop (Unit {0})). bind v (λ _ u. text_on mixed here.member x.from (part (x.to - x.from) x.from s) (suc (x.to - x.from)) 0 u)) z

    abbrev source : Src
    source = record { in_work = false; from = x.from; to = x.to }

    begun_on : (k : Progress) (c' l' h' w' t' ls' : List ℕ) (r : Ran) → b ≡ Ok k → TokensAre deck s rows names c l h w t₁ ls₁ source here k c' l' h' w' t' ls' r
        → RanAs deck rows names here.starts g B c' l' h' w' t' ls' r (text_out mixed here.member s (stretch_for x) (world_in B c l h g.meter.used))
    begun_on k c' l' h' w' t' ls' r e tk =
        let z : After (Unit {0}) deck rows names here.starts g B c l h w t₁ ls₁ k tt put = subst (λ (v : Ran). RanAs deck rows names here.starts g B c l h w t₁ ls₁ v put) e blank_ran in
        let a : RanAs deck rows names here.starts k z.world c' l' h' w' t' ls' r (text_on mixed here.member x.from (text_of s w source) (suc (x.to - x.from)) 0 (world_in z.world c l h k.meter.used)) = tk.is z.world z.stage li refl mm in
        let j : text_on mixed here.member x.from (text_of s w source) (suc (x.to - x.from)) 0 (world_in z.world c l h k.meter.used) ≡ text_out mixed here.member s (stretch_for x) (world_in B c l h g.meter.used) =
        ap (λ (v : List ℕ). text_on mixed here.member x.from v (suc (x.to - x.from)) 0 (world_in z.world c l h k.meter.used)) (body_text s w source refl)
        ∙ sym (ap (λ (v : Res Run.Stop (Unit {0})). bind v (λ _ u. text_on mixed here.member x.from (part (x.to - x.from) x.from s) (suc (x.to - x.from)) 0 u)) z.is) ∙ sym text_is in
        subst (λ (v : Res Run.Stop (Unit {0})). RanAs deck rows names here.starts g B c' l' h' w' t' ls' r v) j
        (ran_on deck rows names c' l' h' w' t' ls' here.starts g k B z.world r _ z.goes z.tabled z.named a)

  pub text_refused : (y : Stop) (k : Progress) → b ≡ Err (y, k) → TextIs deck s rows names c l h w t ls x here g c l h w t₁ ls₁ (Err (y, k))
  text_refused y k e = record { is = λ B st li mm. refused_on B st li mm y k e }

  pub text_begun : (k : Progress) (c' l' h' w' t' ls' : List ℕ) (r : Ran) → b ≡ Ok k → TokensAre deck s rows names c l h w t₁ ls₁ (record { in_work = false; from = from; to = to }) here k c' l' h' w' t' ls' r → TextIs deck s rows names c l h w t ls x here g c' l' h' w' t' ls' r
  text_begun k c' l' h' w' t' ls' r e tk = record { is = λ B st li mm. begun_on B st li mm k c' l' h' w' t' ls' r e (rw (f₁, f₂) at tk) }

-- ---- a leading text
module _ (deck s rows names c l h w t ls : List ℕ) (x : Stretch) (here : Here) (g : Progress) where
  pub lead_some : (c' l' h' w' t' ls' : List ℕ) (r : Ran) → x.from < x.to → TextIs deck s rows names c l h w t ls x here g c' l' h' w' t' ls' r → LeadIs deck s rows names c l h w t ls x here g c' l' h' w' t' ls' r
  unfolding lead_text
  lead_some c' l' h' w' t' ls' r e k = record { is = λ B st li mm. rw (lt-ltb x.from x.to e) (k.is B st li mm) }

  pub lead_none : x.to ≤ x.from → LeadIs deck s rows names c l h w t ls x here g c l h w t ls (Ok g)
  unfolding lead_text
  lead_none e = record { is = λ B st li mm. record { world = B; stage = st; goes = goes_none B; is = rw (le-ltb x.from x.to e); tabled = refl; named = refl } }

-- what the machine of a member puts out is this
pub lead_is : (inner : Level) (d : List ℕ) (m : ℕ) (on : List Place) (q : Program.Source) (x : Program.Stretch) (v : World) → lead_out (member_machine mixed inner d m on q) x v ≡ lead_text m (body_of d m) x v
unfolding lead_out member_machine lead_text
lead_is inner d m on q x v = refl

pub out_is : (inner : Level) (d : List ℕ) (m : ℕ) (on : List Place) (q : Program.Source) (x : Program.Stretch) (v : World) → (member_machine mixed inner d m on q).out x v ≡ text_out mixed m (body_of d m) x v
unfolding member_machine
out_is inner d m on q x v = refl
