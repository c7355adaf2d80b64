-- A WALK with the texts on the way: the text behind a row, and one row after the other, each before the one that it stands around, so
-- that the turns do not run out.
-- Assumes nothing.
use Rattle.stepping.specs.Types.{Onward}
use Rattle.std.proofs.Common.{Ok, Err}
use Rattle.texts.specs.Types.{Ran}
use mathlib.Core.Path.{◌≡◌, refl, sym, ap, subst, ◌∙◌}
use mathlib.Core.Logic.{◌⊎◌, inl, inr}
use mathlib.Core.List.{List}
use Prim.Native.Nat.{ℕ, suc, ◌+◌, ◌<◌, ◌≤◌}
use native.Mathlib.Nat.{add-zero}
use native.Mathlib.Omega.{arith}
use lib.ListN.{length}
use Rattle.definition.specs.Bytes.{mixed}
use Rattle.definition.specs.Program as P
use Rattle.definition.specs.World.{World, Res, good, bad, bind}
use Rattle.definition.specs.Flow as F
use Rattle.definition.specs.Calls.{Place}
use Rattle.definition.specs.Run as Run
use Rattle.definition.specs.Run.{body_of}
use Rattle.rows.specs.declared.Role.{Role}
use Rattle.rows.specs.declared.Role.TheVariants.{Listed, ThenPart, ElsePart}
use Rattle.rows.specs.declared.Row.{Row}
use Rattle.rows.specs.Table.{row_in}
use Rattle.flow.specs.declared.Frames.{Frames}
use Rattle.flow.specs.declared.Next.{Next}
use Rattle.flow.specs.declared.Walk.{Walk}
use Rattle.flow.specs.declared.Walk.TheVariants.{To as Arrives, Up}
use Rattle.flow.specs.Walks.{behind_walk}
use Rattle.flow.specs.Shown.{Shown, Linked, out_behind, AtRow, AtNext, AtWalk}
use Rattle.flow.proofs.Flows.{behind_walks, behind_up}
use Rattle.flow.proofs.Arriving.{behind_walk_stands}
use Rattle.callees.specs.Shown.{world_in}
use Rattle.texts.specs.declared.Progress.{Progress}
use Rattle.texts.specs.declared.Here.{Here}
use Rattle.texts.specs.declared.Stop.{Stop}
use Rattle.texts.specs.Shown.{stretch_for, stop_for, Goes, After, RanAs}
use Rattle.texts.specs.Promises.{TextIs}
use Rattle.texts.proofs.Common.{goes_none, goes_on_lem}
use Rattle.texts.proofs.Looping.{out_is}
use Rattle.stepping.specs.Stage.{Stage, InMember, part_here, machine_of, goes}
use Rattle.stepping.specs.Steps.{TextBehindIs, FollowIs}
use Rattle.stepping.proofs.Staging.{stage_after, member_goes, machine_shown, machine_linked, machine_few, machine_written, text_lies, its_body}

-- ---- the text behind a row
module _ (M : F.Machine Run.Stop) (x : P.Stretch) (v : World) where
  out_listed : (r : Role) → r ≡ Listed → out_behind M r x v ≡ M.out x v
  out_listed r e = rw e

  out_none : (r : Role) → (r ≡ ThenPart) ⊎ (r ≡ ElsePart) → out_behind M r x v ≡ good tt v
  out_none r e = elim e [ inl f ↦ rw f | inr f ↦ rw f ]

module _ (deck s part rows names c l h w t ls : List ℕ) (n : ℕ) (here : Here) (g : Progress) (r : Row) (er : r ≡ row_in part n) where
  pub behind_text : r.role ≡ Listed → (c' l' h' w' t' ls' : List ℕ) (z : Ran) → TextIs deck s rows names c l h w t ls r.text here g c' l' h' w' t' ls' z
      → TextBehindIs deck s part rows names c l h w t ls n here g c' l' h' w' t' ls' z
  behind_text q c' l' h' w' t' ls' z k = record { is = ran }
    where
      ran : (B : World) → Stage deck rows names c l h w t ls here.starts g B → InMember deck s rows here B → part ≡ part_here rows here → (inner : Run.Level) (on : List Place)
          → n < length (machine_of inner deck here.member on).rows
          → RanAs deck rows names here.starts g B c' l' h' w' t' ls' z
          (out_behind (machine_of inner deck here.member on) (row_in part n).role (F.at (machine_of inner deck here.member on) n).text (world_in B c l h g.meter.used))
      ran B st i e inner on lt =
          let M : F.Machine Run.Stop = machine_of inner deck here.member on in
          let v : World = world_in B c l h g.meter.used in
          let at : r ≡ row_in (part_here rows here) n = er ∙ ap (λ (y : List ℕ). row_in y n) e in
          let o : RanAs deck rows names here.starts g B c' l' h' w' t' ls' z (Run.text_out mixed here.member s (stretch_for r.text) v) =
          k.is B st.onstage (rw at (text_lies deck s rows names c l h w t ls here g B st i inner on n lt)) i.low in
          let same : stretch_for r.text ≡ (F.at M n).text = rw at (machine_written deck s rows names c l h w t ls here g B st i inner on n lt).text in
          let f : Run.text_out mixed here.member s (stretch_for r.text) v ≡ out_behind M (row_in part n).role (F.at M n).text v =
          ap (λ (y : List ℕ). Run.text_out mixed here.member y (stretch_for r.text) v) (its_body deck s rows names c l h w t ls here g B st i inner on)
          ∙ ap (λ (y : P.Stretch). Run.text_out mixed here.member (body_of deck here.member) y v) same ∙ sym (out_is inner deck here.member on _ (F.at M n).text v) ∙ sym (out_listed M (F.at M n).text v (row_in part n).role (ap (λ (y : Row). y.role) (sym er) ∙ q)) in
          subst (λ (R : Res Run.Stop (Unit {0})). RanAs deck rows names here.starts g B c' l' h' w' t' ls' z R) f o

  pub behind_no_text : (r.role ≡ ThenPart) ⊎ (r.role ≡ ElsePart) → TextBehindIs deck s part rows names c l h w t ls n here g c l h w t ls (Ok g)
  behind_no_text q = record {
    is = λ B st i e inner on lt.
        let M : F.Machine Run.Stop = machine_of inner deck here.member on in
        let none : out_behind M (row_in part n).role (F.at M n).text (world_in B c l h g.meter.used) ≡ good tt (world_in B c l h g.meter.used) =
        rw (← er) (out_none M (F.at M n).text (world_in B c l h g.meter.used) r.role q) in
        record { world = B; stage = st.onstage; goes = goes_none B; is = none; tabled = refl; named = refl };
  }

-- ---- THE INVARIANT: where the walk leads from here is where it led from the first row; after so many turns a walk up still has one for each row before it
abbrev pub height : Walk → ℕ
height (Arrives y) = 0
height (Up p) = suc p

pub record Passing (deck rows names : List ℕ) (M : F.Machine Run.Stop) (part : List ℕ) (fs : Frames) (G : List F.Frame) (here : Here) (g₀ : Progress) (B : World) (R : Res Run.Stop F.Next) (turn : ℕ) (x : Walk) (g : Progress) (c l h w t ls : List ℕ) : Type 0 where
  pub world : World
  pub stage : Stage deck rows names c l h w t ls here.starts g world
  pub moved : Goes B world
  pub same : goes M G x (world_in world c l h g.meter.used) ≡ R
  pub at : AtWalk M part B.denotations fs G x
  pub enough : height x + turn < 2049
  pub tabled : g.rows ≡ g₀.rows
  pub named : g.names ≡ g₀.names

pub record Following (deck s part rows names c₀ l₀ h₀ w₀ t₀ ls₀ : List ℕ) (fs : Frames) (first : Walk) (here : Here) (g₀ : Progress) (turn : ℕ) (x : Walk) (g : Progress) (c l h w t ls : List ℕ) : Type 0 where
  pub cells : length c ≡ length c₀
  pub low : length l ≡ length l₀
  pub high : length h ≡ length h₀
  pub work : length w ≡ length w₀
  pub long : length t ≡ length t₀
  pub list : length ls ≡ length ls₀
  pub so : (B : World) → Stage deck rows names c₀ l₀ h₀ w₀ t₀ ls₀ here.starts g₀ B → InMember deck s rows here B → part ≡ part_here rows here → (inner : Run.Level) (on : List Place) (G : List F.Frame)
      → AtWalk (machine_of inner deck here.member on) part B.denotations fs G first
      → Passing deck rows names (machine_of inner deck here.member on) part fs G here g₀ B (goes (machine_of inner deck here.member on) G first (world_in B c₀ l₀ h₀ g₀.meter.used)) turn x g c l h w t ls

-- a walk has the height of a row
height_first : {M : F.Machine Run.Stop} (t : List ℕ) (B : World) (fs : Frames) (G : List F.Frame) (x : Walk) → AtWalk M t B.denotations fs G x → length M.rows ≤ 2048 → height x < 2049
height_first t B fs G (Arrives y) a f = omega arith
height_first t B fs G (Up p) a f = let k = (a.up p refl).within in omega (arith, k, f)

pub follow_start : (deck s part rows names c l h w t ls : List ℕ) (fs : Frames) (first : Walk) (here : Here) (g : Progress) → Following deck s part rows names c l h w t ls fs first here g 0 first g c l h w t ls
follow_start deck s part rows names c l h w t ls fs first here g = record {
  cells = refl;
  low = refl;
  high = refl;
  work = refl;
  long = refl;
  list = refl;
  so = λ B st i e inner on G a. record {
    world = B;
    stage = st;
    moved = goes_none B;
    same = refl;
    at = a;
    enough = rw add-zero (height_first part B fs G first a (machine_few deck s rows names c l h w t ls here g B st i inner on));
    tabled = refl;
    named = refl;
  };
}

-- behind a row the walk is lower
height_behind : (t : List ℕ) (fs : Frames) (rs : List P.Row) (n : ℕ) (y : Walk) → Shown t rs → n < length rs → behind_walk t fs n ≡ y → height y < suc n
height_behind t fs rs n (Arrives y) s h e = omega arith
height_behind t fs rs n (Up p) s h e = let k : p < n = s.tabled.before n p h (behind_up t fs rs n p s h e) in omega (arith, k)

module _ (deck s part rows names c₀ l₀ h₀ w₀ t₀ ls₀ : List ℕ) (fs : Frames) (first : Walk) (here : Here) (g₀ : Progress) (turn : ℕ) (x : Walk) (g : Progress) (c l h w t ls : List ℕ)
    (i : Following deck s part rows names c₀ l₀ h₀ w₀ t₀ ls₀ fs first here g₀ turn x g c l h w t ls) where
  -- it arrives
  pub follow_arrived : (y : Next) → x ≡ Arrives y → FollowIs deck s part rows names c₀ l₀ h₀ w₀ t₀ ls₀ fs first here g₀ c l h w t ls (Ok (y, g))
  follow_arrived y e = record {
    is = λ B st m f inner on G a.
        let z = i.so B st m f inner on G a in (
          record {
            world = z.world;
            stage = z.stage.onstage;
            goes = z.moved;
            is = sym z.same ∙ ap (λ (k : Walk). goes (machine_of inner deck here.member on) G k (world_in z.world c l h g.meter.used)) e;
            tabled = z.tabled;
            named = z.named;
          },
          subst (λ (k : List ℕ). AtNext (machine_of inner deck here.member on) k B.denotations fs G y) f (z.at.arrives y e),
        );
  }

  -- the turns do not run out
  pub follow_out : 2049 ≤ turn → (r : Onward) → FollowIs deck s part rows names c₀ l₀ h₀ w₀ t₀ ls₀ fs first here g₀ c l h w t ls r
  follow_out e r = record { is = λ B st m f inner on G a. absurd (omega (arith, e, (i.so B st m f inner on G a).enough)) }

  -- ---- one row more
  module _ (n : ℕ) (ex : x ≡ Up n) (c' l' h' w' t' ls' : List ℕ) (r : Ran) (tb : TextBehindIs deck s part rows names c l h w t ls n here g c' l' h' w' t' ls' r) where
    module _ (B : World) (st : Stage deck rows names c₀ l₀ h₀ w₀ t₀ ls₀ here.starts g₀ B) (m : InMember deck s rows here B) (f : part ≡ part_here rows here) (inner : Run.Level) (on : List Place) (G : List F.Frame)
        (a : AtWalk (machine_of inner deck here.member on) part B.denotations fs G first) where
      abbrev M : F.Machine Run.Stop
      M = machine_of inner deck here.member on

      abbrev whole : Res Run.Stop F.Next
      whole = goes M G first (world_in B c₀ l₀ h₀ g₀.meter.used)

      now_is : Passing deck rows names M part fs G here g₀ B whole turn x g c l h w t ls
      now_is = i.so B st m f inner on G a

      row_at : AtRow M part B.denotations fs G n
      row_at = now_is.at.up n ex

      shown : Shown part M.rows
      shown = subst (λ (k : List ℕ). Shown k M.rows) (sym f) (machine_shown deck s rows names c₀ l₀ h₀ w₀ t₀ ls₀ here g₀ B st m inner on)

      linked : Linked M.rows
      linked = machine_linked deck s rows names c₀ l₀ h₀ w₀ t₀ ls₀ here g₀ B st m inner on

      abbrev out : Res Run.Stop (Unit {0})
      out = out_behind M (row_in part n).role (F.at M n).text (world_in now_is.world c l h g.meter.used)

      ran : RanAs deck rows names here.starts g now_is.world c' l' h' w' t' ls' r out
      ran = tb.is now_is.world now_is.stage (member_goes deck s rows here B now_is.world m now_is.moved) f inner on row_at.within

      turn_is : bind out (λ _ v. goes M G (behind_walk part fs n) v) ≡ whole
      turn_is = sym (behind_walks M G part shown fs n (world_in now_is.world c l h g.meter.used) row_at.within row_at.framed) ∙ ap (λ (k : Walk). goes M G k (world_in now_is.world c l h g.meter.used)) (sym ex) ∙ now_is.same

      bad_on : (z : Stop) (k : Progress) → r ≡ Err (z, k) → whole ≡ bad (stop_for z) k.meter.used
      bad_on z k e =
          let q : out ≡ bad (stop_for z) k.meter.used = subst (λ (v : Ran). RanAs deck rows names here.starts g now_is.world c' l' h' w' t' ls' v out) e ran in
          sym turn_is ∙ ap (λ (v : Res Run.Stop (Unit {0})). bind v (λ _ u. goes M G (behind_walk part fs n) u)) q

      good_on : (k : Progress) → r ≡ Ok k → length c' ≡ length c → (y : Walk) → y ≡ behind_walk part fs n → Passing deck rows names M part fs G here g₀ B whole (turn + 1) y k c' l' h' w' t' ls'
      good_on k e ec y ey =
          let q : After (Unit {0}) deck rows names here.starts g now_is.world c' l' h' w' t' ls' k tt out = subst (λ (v : Ran). RanAs deck rows names here.starts g now_is.world c' l' h' w' t' ls' v out) e ran in
          let up : height y < suc n = height_behind part fs M.rows n y shown row_at.within (sym ey) in
          let was : suc n + turn < 2049 = subst (λ (v : Walk). height v + turn < 2049) ex now_is.enough in
          record {
            world = q.world;
            stage = stage_after deck rows names c l h w t ls here.starts g now_is.world now_is.stage c' l' h' w' t' ls' k tt out q ec;
            moved = goes_on_lem B now_is.world q.world now_is.moved q.goes;
            same = ap (λ (v : Walk). goes M G v (world_in q.world c' l' h' k.meter.used)) ey ∙ sym (ap (λ (v : Res Run.Stop (Unit {0})). bind v (λ _ u. goes M G (behind_walk part fs n) u)) q.is) ∙ turn_is;
            at = subst (λ (v : Walk). AtWalk M part B.denotations fs G v) (sym ey) (behind_walk_stands M part B.denotations fs G shown linked n row_at.within row_at.framed);
            enough = omega (arith, up, was);
            tabled = q.tabled ∙ now_is.tabled;
            named = q.named ∙ now_is.named;
          }

    pub follow_bad : (z : Stop) (k : Progress) → r ≡ Err (z, k) → FollowIs deck s part rows names c₀ l₀ h₀ w₀ t₀ ls₀ fs first here g₀ c' l' h' w' t' ls' (Err (z, k))
    follow_bad z k e = record { is = λ B st m f inner on G a. bad_on B st m f inner on G a z k e }

    pub follow_more : (k : Progress) → r ≡ Ok k → (y : Walk) → y ≡ behind_walk part fs n
        → length c' ≡ length c → length l' ≡ length l → length h' ≡ length h → length w' ≡ length w → length t' ≡ length t → length ls' ≡ length ls
        → Following deck s part rows names c₀ l₀ h₀ w₀ t₀ ls₀ fs first here g₀ (turn + 1) y k c' l' h' w' t' ls'
    follow_more k e y ey d₁ d₂ d₃ d₄ d₅ d₆ = record {
      cells = d₁ ∙ i.cells;
      low = d₂ ∙ i.low;
      high = d₃ ∙ i.high;
      work = d₄ ∙ i.work;
      long = d₅ ∙ i.long;
      list = d₆ ∙ i.list;
      so = λ B st m f inner on G a. good_on B st m f inner on G a k e d₁ y ey;
    }
