-- The start of an iterated group: its variable, its numbers, its frame.
-- Assumes nothing.
use Rattle.bodies.specs.Types.{Bound, Widened, Started}
use Rattle.operands.specs.Types.{Evaluated}
use Rattle.definition.specs.declared.ValueType.{ValueType}
use Rattle.std.proofs.Common.{Option, Some, None, Ok, Err}
use mathlib.Core.Path.{◌≡◌, refl, sym, ap, subst, ◌∙◌}
use mathlib.Core.Bool.{true, false}
use mathlib.Core.List.{List, [], ◌∷◌}
use Prim.Native.Nat.{ℕ, ◌-◌, ◌≤◌}
use native.Mathlib.Omega.{arith}
use lib.IntN.{ℤ, pos}
use lib.ListN.{length, get_or}
use Rattle.definition.specs.Bytes.{mixed, folded}
use Rattle.definition.specs.Fixed.{in_range}
use Rattle.definition.specs.Tokens.{token_at, is_word}
use Rattle.definition.specs.Expressions.{read, Tree, parsed, whole_expression}
use Rattle.definition.specs.Lists.{part}
use Rattle.definition.specs.Program as D
use Rattle.definition.specs.Values as Val
use Rattle.definition.specs.World as W
use Rattle.definition.specs.World.{World, Res, good, bad, bind, variable_of, entry_of, label_at, builtin_name, seen_from}
use Rattle.definition.specs.Evaluate as Ev
use Rattle.definition.specs.Evaluate.{meant}
use Rattle.definition.specs.Flow as F
use Rattle.definition.specs.declared.Why.{Why}
use Rattle.definition.specs.declared.Why.TheVariants.{WrongName}
use Rattle.definition.specs.declared.ValueType.TheVariants.{FixedType, CharacterType}
use Rattle.fixed.specs.declared.Fixed.{Fixed}
use Rattle.meter.specs.declared.Meter.{Meter}
use Rattle.tokens.specs.declared.Lexeme.{Lexeme}
use Rattle.tokens.specs.Answer.{Lexed}
use Rattle.names.specs.Table.{owner_of}
use Rattle.callees.specs.declared.Meant.{Meant}
use Rattle.callees.specs.declared.Meant.TheVariants as M
use Rattle.callees.specs.Shown.{world_in}
use Rattle.callees.specs.Answer.{meant_for}
use Rattle.callees.proofs.Listing.{name_is}
use Rattle.flow.specs.declared.Frame.{Frame}
use Rattle.flow.specs.Shown.{FrameShown, Owns}
use Rattle.flow.proofs.Framing.{bounds_own}
use Rattle.operands.specs.declared.Scene.{Scene}
use Rattle.operands.specs.Shown.{Bounded, Shows}
use Rattle.operands.specs.Answer.{Gave, value_of}
use Rattle.operands.proofs.Trees.{clash, expect_is}
use Rattle.operands.proofs.Leaves.{variable_denotes}
use Rattle.bodies.specs.declared.Side.{Side}
use Rattle.bodies.specs.declared.Side.TheVariants as Sid
use Rattle.bodies.specs.Deeds.{scene_machine, Leaves, variable_for, TargetIs, bound_in, bound_meter, bound_end, number_on, BoundIs}
use Rattle.bodies.specs.Groups.{word_at, first_frame, widened_by, control_of, SetOff}
use Rattle.bodies.proofs.Doing.{gave_fine, bound_range}
use Rattle.bodies.proofs.Grouping.{first_shown, by_shown, to_shown, off_world, off_slots, off_passes}
use Rattle.evaluating.specs.Cycle.{Evaluates}
use Rattle.evaluating.specs.Statements.{WidensAs, widened_meter, bounded_on, bounds_left, BoundedIs, StartsAs, started_meter, bounds_on, BoundsIs, StartIs}
use Rattle.evaluating.proofs.Stating.{on_meant, meant_cond, spelled, means, meant_now}

-- ---- the next bound
word_by : (s : List ℕ) (at : ℕ) → is_word "BY" (token_at mixed s at).token ≡ true → word_at s at ≡ Some (Sid.By, (token_at mixed s at).to)
unfolding word_at
word_by s at e = rw e

word_to : (s : List ℕ) (at : ℕ) → is_word "BY" (token_at mixed s at).token ≡ false → is_word "TO" (token_at mixed s at).token ≡ true → word_at s at ≡ Some (Sid.Upto, (token_at mixed s at).to)
unfolding word_at
word_to s at e f = rw (e, f)

word_none : (s : List ℕ) (at : ℕ) → is_word "BY" (token_at mixed s at).token ≡ false → is_word "TO" (token_at mixed s at).token ≡ false → word_at s at ≡ None
unfolding word_at
word_none s at e f = rw (e, f)

no_word : {A : Type 0} (x : Side) (q : ℕ) → ◌≡◌ {A = Option (Side × ℕ)} (Some (x, q)) None → A
no_word x q e = clash (cc)

no_frame_lem : {A : Type 0} (f : Frame) (q : ℕ) (m n : Meter) (e : Why) → ◌≡◌ {A = Widened} (Ok (f, q, m)) (Err (e, n)) → A
no_frame_lem f q m n e g = clash (cc)

-- the numbers of the definition
number_is : (x : Scene) (u : ℕ) (t : Tree) (w : World) → F.number (scene_machine x u) t w ≡ number_on (value_of x t u w)
unfolding F.number number_on
number_is x u t w = refl

bounded_by : (x : Scene) (u : ℕ) (t : Tree) (d : F.Frame) (w : World) → F.bounded (scene_machine x u) (D.by t) d w ≡ bind (number_on (value_of x t u w)) λ z y. good (record { group = d.group; at = d.at; step = z; to = d.to; is_once = false }) y
bounded_by x u t d w = ap (λ (i : Res Why ℤ). bind i λ z y. good (record { group = d.group; at = d.at; step = z; to = d.to; is_once = false }) y) (number_is x u t w)

bounded_to : (x : Scene) (u : ℕ) (t : Tree) (d : F.Frame) (w : World) → F.bounded (scene_machine x u) (D.upto t) d w ≡ bind (number_on (value_of x t u w)) λ z y. good (record { group = d.group; at = d.at; step = d.step; to = F.to_at z; is_once = false }) y
bounded_to x u t d w = ap (λ (i : Res Why ℤ). bind i λ z y. good (record { group = d.group; at = d.at; step = d.step; to = F.to_at z; is_once = false }) y) (number_is x u t w)

module _ (deck s rows names c l h w : List ℕ) (u : ℕ) (x : Scene) (y : Widened) where
  pub bounded_bad : (e : Why × Meter) → y ≡ Err e → BoundedIs deck s rows names c l h w u x y c l h w (Err e)
  bounded_bad (e, m) g = record { goes = λ f q n i. no_frame_lem f q n m e (sym i ∙ g); stays = λ f n i. (sym g, refl, refl, refl, refl) }

  module _ (f : Frame) (q : ℕ) (m : Meter) (g : y ≡ Ok (f, q, m)) (v : Option (Side × ℕ)) (gv : v ≡ word_at s q) where
    pub bounded_none : v ≡ None → BoundedIs deck s rows names c l h w u x y c l h w (Ok (f, q, m))
    bounded_none e = record {
      goes = λ f₁ q₁ m₁ i B sh bs d bd fs. go f₁ q₁ m₁ (let j : ◌≡◌ {A = Widened} (Ok (f, q, m)) (Ok (f₁, q₁, m₁)) = sym g ∙ i in j) B sh bs d bd fs;
      stays = λ e₁ n i. no_frame_lem f q m n e₁ (sym g ∙ i);
    }
      where
        none : word_at s q ≡ None
        none = sym gv ∙ e

        by : (B : World) (m₁ : Meter) (d : F.Frame) (f₁ : Frame) → FrameShown f₁ d → Leaves B u w c l h w m₁ → (bs : List D.Bound) → Bounded s bs q → WidensAs B s c l h (bounded_on x u bs d (world_in B c l h m₁.used)) (bounds_left bs) (Ok (f₁, q, m₁)) × Leaves B u w c l h w m₁
        by B m₁ d f₁ fs lv [] bd = ((d, fs, refl, bd), lv)
        by B m₁ d f₁ fs lv (D.by t ∷ bs) bd = no_word Sid.By (token_at mixed s q).to (sym (word_by s q bd.1) ∙ none)
        by B m₁ d f₁ fs lv (D.upto t ∷ bs) bd = no_word Sid.Upto (token_at mixed s q).to (sym (word_to s q bd.1 bd.2) ∙ none)

        go : (f₁ : Frame) (q₁ : ℕ) (m₁ : Meter) → ◌≡◌ {A = Widened} (Ok (f, q, m)) (Ok (f₁, q₁, m₁)) → (B : World) → Shows deck rows names c l h w u x m₁ B → (bs : List D.Bound) (d : F.Frame) → Bounded s bs q₁ → FrameShown f₁ d
            → WidensAs B s c l h (bounded_on x u bs d (world_in B c l h m₁.used)) (bounds_left bs) (Ok (f, q, m)) × Leaves B u w c l h w m
        go f₁ q₁ m₁ i B sh bs d bd fs =
            let j : ◌≡◌ {A = Frame × ℕ × Meter} (f, q, m) (f₁, q₁, m₁) = cc in
            let jf : f ≡ f₁ = ap (λ (o : Frame × ℕ × Meter). o.0) j in
            let jq : q ≡ q₁ = ap (λ (o : Frame × ℕ × Meter). o.1) j in
            let jm : m ≡ m₁ = ap (λ (o : Frame × ℕ × Meter). o.2) j in
            rw (jf, jm) (by B m₁ d f₁ fs (record { below = refl; limit = sh.limit; slots = sh.slots }) bs (rw (← jq) at bd))

    module _ (a : Side) (p : ℕ) (e : v ≡ Some (a, p)) (c₁ l₁ h₁ w₁ : List ℕ) (b : Evaluated) (ev : Evaluates deck rows names c l h w u x m c₁ l₁ h₁ w₁ b (whole_expression mixed s p))
        (n : Bound) (bi : BoundIs w₁ u b n) (r : Widened) (er : r ≡ widened_by f a n) where
      some : word_at s q ≡ Some (a, p)
      some = sym gv ∙ e

      -- what the expression t is, and what the definition makes of it
      module _ (B : World) (sh : Shows deck rows names c l h w u x m B) (t : Tree) (k : ℕ) (rd : whole_expression mixed s p ≡ read (parsed t k)) where
        gave : Gave B u w c₁ l₁ h₁ w₁ b k (value_of x t u (world_in B c l h m.used))
        gave = ev.is B sh t k rd

        number : bound_in B c₁ l₁ h₁ n ≡ number_on (value_of x t u (world_in B c l h m.used))
        number = bi.is B c₁ l₁ h₁ ∙ ap number_on gave.is

        leaves : Leaves B u w c₁ l₁ h₁ w₁ (bound_meter n)
        leaves = record { below = gave.below; limit = ap (λ (i : Meter). i.limit) bi.limit ∙ gave.limit; slots = gave.slots }

        place : n ≡ bound_end n k
        place = bi.end k gave.end

        range : (z : Fixed) (q₁ : ℕ) (m₁ : Meter) → n ≡ Ok (z, q₁, m₁) → in_range z.value ≡ true
        range z q₁ m₁ i = bound_range B c₁ l₁ h₁ w₁ u b z q₁ m₁ (rw i at bi) (gave_fine B c l h x t u m.used w c₁ l₁ h₁ w₁ b k sh.slots gave)

      by_side : (B : World) (sh : Shows deck rows names c l h w u x m B) (t : Tree) (k : ℕ) (rd : whole_expression mixed s p ≡ read (parsed t k)) (bs : List D.Bound) (d : F.Frame) → Bounded s bs k → FrameShown f d → a ≡ Sid.By
          → (n₁ : Bound) → n ≡ n₁ → WidensAs B s c₁ l₁ h₁ (F.bounded (scene_machine x u) (D.by t) d (world_in B c l h m.used)) bs (widened_by f a n₁) × Leaves B u w c₁ l₁ h₁ w₁ (widened_meter (widened_by f a n₁))
      by_side B sh t k rd bs d bd fs ea (Ok (z, q₁, m₁)) i =
          let nu : good z.value (world_in B c₁ l₁ h₁ m₁.used) ≡ number_on (value_of x t u (world_in B c l h m.used)) = rw i at (number B sh t k rd) in
          let pl : ◌≡◌ {A = Bound} (Ok (z, q₁, m₁)) (Ok (z, k, m₁)) = rw i at (place B sh t k rd) in
          let qk : q₁ ≡ k = (let j : ◌≡◌ {A = Fixed × ℕ × Meter} (z, q₁, m₁) (z, k, m₁) = cc in ap (λ (i : Fixed × ℕ × Meter). i.1) j) in
          rw ea (
            (record { group = d.group; at = d.at; step = z.value; to = d.to; is_once = false }, by_shown f d fs z.value (range B sh t k rd z q₁ m₁ i), bounded_by x u t d (world_in B c l h m.used) ∙ rw (← nu), rw qk bd),
            rw i at (leaves B sh t k rd),
          )
      by_side B sh t k rd bs d bd fs ea (Err (e₁, m₁)) i =
          let nu : bad e₁ m₁.used ≡ number_on (value_of x t u (world_in B c l h m.used)) = rw i at (number B sh t k rd) in
          (bounded_by x u t d (world_in B c l h m.used) ∙ rw (← nu), rw i at (leaves B sh t k rd))

      to_side : (B : World) (sh : Shows deck rows names c l h w u x m B) (t : Tree) (k : ℕ) (rd : whole_expression mixed s p ≡ read (parsed t k)) (bs : List D.Bound) (d : F.Frame) → Bounded s bs k → FrameShown f d → a ≡ Sid.Upto
          → (n₁ : Bound) → n ≡ n₁ → WidensAs B s c₁ l₁ h₁ (F.bounded (scene_machine x u) (D.upto t) d (world_in B c l h m.used)) bs (widened_by f a n₁) × Leaves B u w c₁ l₁ h₁ w₁ (widened_meter (widened_by f a n₁))
      to_side B sh t k rd bs d bd fs ea (Ok (z, q₁, m₁)) i =
          let nu : good z.value (world_in B c₁ l₁ h₁ m₁.used) ≡ number_on (value_of x t u (world_in B c l h m.used)) = rw i at (number B sh t k rd) in
          let pl : ◌≡◌ {A = Bound} (Ok (z, q₁, m₁)) (Ok (z, k, m₁)) = rw i at (place B sh t k rd) in
          let qk : q₁ ≡ k = (let j : ◌≡◌ {A = Fixed × ℕ × Meter} (z, q₁, m₁) (z, k, m₁) = cc in ap (λ (i : Fixed × ℕ × Meter). i.1) j) in
          rw ea (
            (record { group = d.group; at = d.at; step = d.step; to = F.to_at z.value; is_once = false }, to_shown f d fs z.value (range B sh t k rd z q₁ m₁ i), bounded_to x u t d (world_in B c l h m.used) ∙ rw (← nu), rw qk bd),
            rw i at (leaves B sh t k rd),
          )
      to_side B sh t k rd bs d bd fs ea (Err (e₁, m₁)) i =
          let nu : bad e₁ m₁.used ≡ number_on (value_of x t u (world_in B c l h m.used)) = rw i at (number B sh t k rd) in
          (bounded_to x u t d (world_in B c l h m.used) ∙ rw (← nu), rw i at (leaves B sh t k rd))

      by_bounds : (B : World) (sh : Shows deck rows names c l h w u x m B) (bs : List D.Bound) (d : F.Frame) → Bounded s bs q → FrameShown f d
          → WidensAs B s c₁ l₁ h₁ (bounded_on x u bs d (world_in B c l h m.used)) (bounds_left bs) (widened_by f a n) × Leaves B u w c₁ l₁ h₁ w₁ (widened_meter (widened_by f a n))
      by_bounds B sh [] d bd fs = no_word a p (sym some ∙ word_none s q bd.0 bd.1)
      by_bounds B sh (D.by t ∷ bs) d bd fs =
          let o : ◌≡◌ {A = Option (Side × ℕ)} (Some (Sid.By, (token_at mixed s q).to)) (Some (a, p)) = sym (word_by s q bd.1) ∙ some in
          let j : ◌≡◌ {A = Side × ℕ} (Sid.By, (token_at mixed s q).to) (a, p) = cc in
          let ea : a ≡ Sid.By = ap (λ (i : Side × ℕ). i.0) (sym j) in
          let ep : (token_at mixed s q).to ≡ p = ap (λ (i : Side × ℕ). i.1) j in
          by_side B sh t bd.0 (rw ep at bd.2) bs d bd.3 fs ea n refl
      by_bounds B sh (D.upto t ∷ bs) d bd fs =
          let o : ◌≡◌ {A = Option (Side × ℕ)} (Some (Sid.Upto, (token_at mixed s q).to)) (Some (a, p)) = sym (word_to s q bd.1 bd.2) ∙ some in
          let j : ◌≡◌ {A = Side × ℕ} (Sid.Upto, (token_at mixed s q).to) (a, p) = cc in
          let ea : a ≡ Sid.Upto = ap (λ (i : Side × ℕ). i.0) (sym j) in
          let ep : (token_at mixed s q).to ≡ p = ap (λ (i : Side × ℕ). i.1) j in
          to_side B sh t bd.0 (rw ep at bd.3) bs d bd.4 fs ea n refl

      pub bounded_some : BoundedIs deck s rows names c l h w u x y c₁ l₁ h₁ w₁ r
      bounded_some = rw er record {
        goes = λ f₁ q₁ m₁ i B sh bs d bd fs. go f₁ q₁ m₁ (let j : ◌≡◌ {A = Widened} (Ok (f, q, m)) (Ok (f₁, q₁, m₁)) = sym g ∙ i in j) B sh bs d bd fs;
        stays = λ e₁ n₁ i. no_frame_lem f q m n₁ e₁ (sym g ∙ i);
      }
        where
          go : (f₁ : Frame) (q₁ : ℕ) (m₁ : Meter) → ◌≡◌ {A = Widened} (Ok (f, q, m)) (Ok (f₁, q₁, m₁)) → (B : World) → Shows deck rows names c l h w u x m₁ B → (bs : List D.Bound) (d : F.Frame) → Bounded s bs q₁ → FrameShown f₁ d
              → WidensAs B s c₁ l₁ h₁ (bounded_on x u bs d (world_in B c l h m₁.used)) (bounds_left bs) (widened_by f a n) × Leaves B u w c₁ l₁ h₁ w₁ (widened_meter (widened_by f a n))
          go f₁ q₁ m₁ i B sh bs d bd fs =
              let j : ◌≡◌ {A = Frame × ℕ × Meter} (f, q, m) (f₁, q₁, m₁) = cc in
              let jf : f₁ ≡ f = ap (λ (o : Frame × ℕ × Meter). o.0) (sym j) in
              let jq : q₁ ≡ q = ap (λ (o : Frame × ℕ × Meter). o.1) (sym j) in
              let jm : m₁ ≡ m = ap (λ (o : Frame × ℕ × Meter). o.2) (sym j) in
              rw jm (by_bounds B (rw jm at sh) bs d (rw jq at bd) (rw jf at fs))

-- ---- both bounds
bind_good : {A : Type 0} (R : Res Why A) → bind R (λ a w. good a w) ≡ R
bind_good (good a w) = refl
bind_good (bad e n) = refl

bind_same : {A B : Type 0} (R : Res Why A) (f g : A → World → Res Why B) → ((a : A) (w : World) → f a w ≡ g a w) → bind R f ≡ bind R g
bind_same (good a w) f g e = e a w
bind_same (bad e n) f g k = refl

-- there are at most two
bounds_two : (x : Scene) (u : ℕ) (bs : List D.Bound) (d : F.Frame) (w : World) → length bs ≤ 2
    → F.bounds (scene_machine x u) bs d w ≡ bind (bounded_on x u bs d w) (λ g v. bounded_on x u (bounds_left bs) g v)
unfolding F.bounds
bounds_two x u [] d w i = refl
bounds_two x u (b ∷ []) d w i = refl
bounds_two x u (a ∷ b ∷ []) d w i = bind_same (F.bounded (scene_machine x u) a d w) (λ g v. bind (F.bounded (scene_machine x u) b g v) (λ f y. good f y)) (λ g v. F.bounded (scene_machine x u) b g v) (λ g v. bind_good (F.bounded (scene_machine x u) b g v))
bounds_two x u (a ∷ b ∷ e ∷ bs) d w i = absurd (omega (arith, i))

module _ (deck s rows names c l h w : List ℕ) (f : Frame) (b : Bound) (u : ℕ) (x : Scene) where
  pub bounds_bad : (e : Why × Meter) → b ≡ Err e → BoundsIs deck s rows names c l h w f b u x c l h w (Err e)
  bounds_bad (e, m) g = record {
    goes = λ z q n i. clash (let j : ◌≡◌ {A = Bound} (Ok (z, q, n)) (Err (e, m)) = sym i ∙ g in cc);
    stays = λ e₁ n i. (let j : ◌≡◌ {A = Bound} (Err (e, m)) (Err (e₁, n)) = sym g ∙ i in let o : ◌≡◌ {A = Why × Meter} (e, m) (e₁, n) = cc in let k : e ≡ e₁ = ap (λ (a : Why × Meter). a.0) o in let q : m ≡ n = ap (λ (a : Why × Meter). a.1) o in rw (k, q), refl, refl, refl, refl);
  }

  module _ (z : Fixed) (q : ℕ) (m : Meter) (eb : b ≡ Ok (z, q, m)) (c₁ l₁ h₁ w₁ : List ℕ) (z₁ : length w₁ ≡ length w) (y₁ : Widened) (one : BoundedIs deck s rows names c l h w u x (Ok (f, q, m)) c₁ l₁ h₁ w₁ y₁)
      (c₂ l₂ h₂ w₂ : List ℕ) (y₂ : Widened) (two : BoundedIs deck s rows names c₁ l₁ h₁ w₁ u x y₁ c₂ l₂ h₂ w₂ y₂) (c₃ : List ℕ) (r : Started) (so : SetOff c₂ z y₂ c₃ r) where
    module _ (B : World) (sh : Shows deck rows names c l h w u x m B) (iz : in_range z.value ≡ true) (bs : List D.Bound) (d : F.Frame) (few : length bs ≤ 2) (bd : Bounded s bs q) (fs : FrameShown f d) (va : get_or B.denotations d.at builtin_name ≡ variable_of FixedType) where
      abbrev begins : F.Frame → World → Res Why F.Started
      begins g v = good (record { frame = g; begins = F.passes g z.value }) (W.store d.at (Val.fixed z.value) v)

      abbrev all : Res Why F.Frame
      all = F.bounds (scene_machine x u) bs d (world_in B c l h m.used)

      last : (v : Widened) → y₂ ≡ v → (bs₁ : List D.Bound) → WidensAs B s c₂ l₂ h₂ all bs₁ v → Leaves B u w c₂ l₂ h₂ w₂ (widened_meter v)
          → StartsAs B c₃ l₂ h₂ (bind all begins) r × Leaves B u w c₃ l₂ h₂ w₂ (started_meter r)
      last (Err (e, n)) i bs₁ g lv =
          let er : r ≡ Err (e, n) = rw i at so.is in
          let ec : c₃ ≡ c₂ = rw i at so.cells in
          rw (er, ec) (ap (λ (j : Res Why F.Frame). bind j begins) g, lv)
      last (Ok (f₂, q₂, m₂)) i bs₁ g lv =
          let d₂ : F.Frame = g.0 in
          let own : Owns d.group d.at d₂ = bounds_own (scene_machine x u) bs d (world_in B c l h m.used) d.group d.at (record { group = refl; variable = refl }) d₂ (world_in B c₂ l₂ h₂ m₂.used) g.2 in
          let ad : f₂.address ≡ d.at = g.1.address ∙ own.variable in
          let va₂ : get_or B.denotations f₂.address builtin_name ≡ variable_of FixedType = rw ad va in
          let er : r ≡ Ok (f₂, (F.passes d₂ z.value), m₂) = off_passes B c₂ l₂ h₂ z y₂ c₃ r so f₂ q₂ m₂ i d₂ g.1 in
          let ew : world_in B c₃ l₂ h₂ m₂.used ≡ W.store d.at (Val.fixed z.value) (world_in B c₂ l₂ h₂ m₂.used) =
          off_world B c₂ l₂ h₂ z y₂ c₃ r so f₂ q₂ m₂ i lv.slots va₂ iz m₂.used ∙ ap (λ (j : ℕ). W.store j (Val.fixed z.value) (world_in B c₂ l₂ h₂ m₂.used)) ad in
          let R : bind all begins ≡ good (record { frame = d₂; begins = F.passes d₂ z.value }) (world_in B c₃ l₂ h₂ m₂.used) =
          ap (λ (j : Res Why F.Frame). bind j begins) g.2 ∙ ap (λ (j : World). good (record { frame = d₂; begins = F.passes d₂ z.value }) j) (sym ew) in
          rw er ((d₂, g.1, R), record { below = lv.below; limit = lv.limit; slots = off_slots B c₂ l₂ h₂ z y₂ c₃ r so f₂ q₂ m₂ i lv.slots va₂ iz })

      second : (v : Widened) → y₁ ≡ v → WidensAs B s c₁ l₁ h₁ (bounded_on x u bs d (world_in B c l h m.used)) (bounds_left bs) v → Leaves B u w c₁ l₁ h₁ w₁ (widened_meter v)
          → StartsAs B c₃ l₂ h₂ (bind all begins) r × Leaves B u w c₃ l₂ h₂ w₂ (started_meter r)
      second (Err (e, n)) i g lv =
          let st : (y₂ ≡ y₁) × (c₂ ≡ c₁) × (l₂ ≡ l₁) × (h₂ ≡ h₁) × (w₂ ≡ w₁) = two.stays e n i in
          let R : all ≡ bad e n.used = bounds_two x u bs d (world_in B c l h m.used) few ∙ ap (λ (j : Res Why F.Frame). bind j (λ k v. bounded_on x u (bounds_left bs) k v)) g in
          let lv₂ : Leaves B u w c₂ l₂ h₂ w₂ n = rw (st.1, st.2, st.3, st.4) lv in
          last (Err (e, n)) (st.0 ∙ i) [] R lv₂
      second (Ok (f₁, q₁, m₁)) i g lv =
          let d₁ : F.Frame = g.0 in
          let W₁ : World = world_in B c₁ l₁ h₁ m₁.used in
          let sh₁ : Shows deck rows names c₁ l₁ h₁ w₁ u x m₁ B = record { named = sh.named; rowed = sh.rowed; slots = lv.slots; work = omega (arith, z₁, sh.work); taken = sh.taken; limit = lv.limit; left = sh.left } in
          let t : WidensAs B s c₂ l₂ h₂ (bounded_on x u (bounds_left bs) d₁ W₁) (bounds_left (bounds_left bs)) y₂ × Leaves B u w₁ c₂ l₂ h₂ w₂ (widened_meter y₂) = two.goes f₁ q₁ m₁ i B sh₁ (bounds_left bs) d₁ g.3 g.1 in
          let R : all ≡ bounded_on x u (bounds_left bs) d₁ W₁ = bounds_two x u bs d (world_in B c l h m.used) few ∙ ap (λ (j : Res Why F.Frame). bind j (λ k v. bounded_on x u (bounds_left bs) k v)) g.2 in
          last y₂ refl (bounds_left (bounds_left bs)) (subst (λ (j : Res Why F.Frame). WidensAs B s c₂ l₂ h₂ j (bounds_left (bounds_left bs)) y₂) (sym R) t.0)
          (record { below = t.1.below ∙ lv.below; limit = t.1.limit; slots = t.1.slots })

    pub bounds_done : BoundsIs deck s rows names c l h w f b u x c₃ l₂ h₂ w₂ r
    bounds_done = record {
      goes = λ z₂ q₂ m₂ i B sh iz bs d few bd fs va. go z₂ q₂ m₂ (let j : ◌≡◌ {A = Bound} (Ok (z₂, q₂, m₂)) (Ok (z, q, m)) = sym i ∙ eb in j) B sh iz bs d few bd fs va;
      stays = λ e n i. clash (let j : ◌≡◌ {A = Bound} (Ok (z, q, m)) (Err (e, n)) = sym eb ∙ i in cc);
    }
      where
        go : (z₂ : Fixed) (q₂ : ℕ) (m₂ : Meter) → ◌≡◌ {A = Bound} (Ok (z₂, q₂, m₂)) (Ok (z, q, m)) → (B : World) → Shows deck rows names c l h w u x m₂ B → in_range z₂.value ≡ true
            → (bs : List D.Bound) (d : F.Frame) → length bs ≤ 2 → Bounded s bs q₂ → FrameShown f d → get_or B.denotations d.at builtin_name ≡ variable_of FixedType
            → StartsAs B c₃ l₂ h₂ (bounds_on x u bs d z₂.value (world_in B c l h m₂.used)) r × Leaves B u w c₃ l₂ h₂ w₂ (started_meter r)
        go z₂ q₂ m₂ i B sh iz bs d few bd fs va =
            let j : ◌≡◌ {A = Fixed × ℕ × Meter} (z₂, q₂, m₂) (z, q, m) = cc in
            let jz : z₂ ≡ z = ap (λ (o : Fixed × ℕ × Meter). o.0) j in
            let jq : q₂ ≡ q = ap (λ (o : Fixed × ℕ × Meter). o.1) j in
            let jm : m₂ ≡ m = ap (λ (o : Fixed × ℕ × Meter). o.2) j in
            let sh₂ : Shows deck rows names c l h w u x m B = rw jm at sh in
            let t : WidensAs B s c₁ l₁ h₁ (bounded_on x u bs d (world_in B c l h m.used)) (bounds_left bs) y₁ × Leaves B u w c₁ l₁ h₁ w₁ (widened_meter y₁) = one.goes f q m refl B sh₂ bs d (rw jq at bd) fs in
            rw (jz, jm) (second B sh₂ (rw jz at iz) bs d few (rw jq at bd) fs va y₁ refl t.0 t.1)

-- ---- the variable
start_as_lem : (x : Scene) (u : ℕ) (d : W.Denotation) (a g : ℕ) (n : List ℕ) (t : Tree) (bs : List D.Bound) (w : World)
    → F.start_in (scene_machine x u) d a g t bs w ≡ on_meant (Ev.meant_by d a n) (λ i k. F.start_as (scene_machine x u) k g i t bs w) w
start_as_lem x u (variable_of k) a g n t bs w = refl
start_as_lem x u (entry_of e b) a g n t bs w = refl
start_as_lem x u (label_at m r q) a g n t bs w = refl
start_as_lem x u builtin_name a g n t bs w = meant_cond (Ev.is_substr n) (λ i k. F.start_as (scene_machine x u) k g i t bs w) w

start_at_lem : (x : Scene) (u : ℕ) (y : W.Address) (g : ℕ) (n : List ℕ) (t : Tree) (bs : List D.Bound) (w : World)
    → F.start_at (scene_machine x u) y g t bs w ≡ on_meant (Ev.meant_at y n w) (λ i k. F.start_as (scene_machine x u) k g i t bs w) w
start_at_lem x u (W.address a) g n t bs w = start_as_lem x u (W.denotation a w) a g n t bs w
start_at_lem x u W.unknown g n t bs w = meant_cond (Ev.is_substr n) (λ i k. F.start_as (scene_machine x u) k g i t bs w) w

start_is : (x : Scene) (u g : ℕ) (n : List ℕ) (t : Tree) (bs : List D.Bound) (w : World)
    → F.start_at (scene_machine x u) (seen_from (owner_of x.owner) n w) g t bs w ≡ on_meant (meant (owner_of x.owner) n w) (λ i k. F.start_as (scene_machine x u) k g i t bs w) w
unfolding meant
start_is x u g n t bs w = start_at_lem x u (seen_from (owner_of x.owner) n w) g n t bs w

-- ---- the start
module _ (deck s rows names c l h w : List ℕ) (g at u : ℕ) (x : Scene) (m : Meter) (t : Lexeme) (lex : Lexed s at t) (y : Option (ℕ × ValueType)) (ti : TargetIs deck s names x.names x.owner t y)
    (v : Option ℕ) (ev : v ≡ control_of y) where
  -- what the definition's start is, by what the name means
  started : (B : World) (sh : Shows deck rows names c l h w u x m B) (n : List ℕ) (tr : Tree) (bs : List D.Bound) → folded mixed (part (t.to - t.from) t.from s) ≡ n
      → F.start_at (scene_machine x u) (seen_from (owner_of x.owner) n (world_in B c l h m.used)) g tr bs (world_in B c l h m.used) ≡ on_meant (meant_for ti.name) (λ i k. F.start_as (scene_machine x u) k g i tr bs (world_in B c l h m.used)) (world_in B c l h m.used)
  started B sh n tr bs e =
      start_is x u g n tr bs (world_in B c l h m.used)
      ∙ ap (λ (j : Ev.Meant). on_meant j (λ i k. F.start_as (scene_machine x u) k g i tr bs (world_in B c l h m.used)) (world_in B c l h m.used)) (sym (meant_now deck s rows names c l h w at u x m t lex y ti B sh n e))

  none : (z : Meant) → None ≡ control_of (variable_for z) → (tr : Tree) (bs : List D.Bound) (W₁ : World) → on_meant (meant_for z) (λ i k. F.start_as (scene_machine x u) k g i tr bs W₁) W₁ ≡ bad WrongName W₁.used
  none (M.AVariable a FixedType) e tr bs W₁ = clash (cc)
  none (M.AVariable a CharacterType) e tr bs W₁ = refl
  none (M.AnEntry b) e tr bs W₁ = refl
  none M.TheSubstr e tr bs W₁ = refl
  none M.NoSuch e tr bs W₁ = refl

  fixed_at : (a : ℕ) (z : Meant) → Some a ≡ control_of (variable_for z) → z ≡ M.AVariable a FixedType
  fixed_at a (M.AVariable b FixedType) e = let f : a ≡ b = cc in rw f
  fixed_at a (M.AVariable b CharacterType) e = clash (cc)
  fixed_at a (M.AnEntry b) e = clash (cc)
  fixed_at a M.TheSubstr e = clash (cc)
  fixed_at a M.NoSuch e = clash (cc)

  pub start_none : v ≡ None → StartIs deck s rows names c l h w g at u x m c l h w (Err (WrongName, m))
  start_none e = record {
    is = λ B sh n tr bs st. (
      started B sh n tr bs (spelled deck s rows names c l h w at u x m t lex y ti st.0 st.1 ∙ st.2) ∙ none ti.name (sym e ∙ ev ∙ ap control_of ti.variable) tr bs (world_in B c l h m.used),
      record { below = refl; limit = sh.limit; slots = sh.slots },
    );
  }

  module _ (a : ℕ) (e : v ≡ Some a) (o : Lexeme) (lo : Lexed s t.to o) (c₁ l₁ h₁ w₁ : List ℕ) (z₁ : length w₁ ≡ length w) (b : Evaluated) (eb : Evaluates deck rows names c l h w u x m c₁ l₁ h₁ w₁ b (whole_expression mixed s o.to))
      (n : Bound) (bi : BoundIs w₁ u b n) (f : Frame) (ef : f ≡ first_frame g a) (c₂ l₂ h₂ w₂ : List ℕ) (r : Started) (bo : BoundsIs deck s rows names c₁ l₁ h₁ w₁ f n u x c₂ l₂ h₂ w₂ r) where
    is_fixed : ti.name ≡ M.AVariable a FixedType
    is_fixed = fixed_at a ti.name (sym e ∙ ev ∙ ap control_of ti.variable)

    module _ (B : World) (sh : Shows deck rows names c l h w u x m B) (nm : List ℕ) (tr : Tree) (bs : List D.Bound) (es : folded mixed (part (t.to - t.from) t.from s) ≡ nm) (k : ℕ) (rd : whole_expression mixed s o.to ≡ read (parsed tr k)) (few : length bs ≤ 2) (bd : Bounded s bs k) where
      abbrev now : World
      now = world_in B c l h m.used

      abbrev newest : F.Frame
      newest = record { group = g; at = a; step = pos 1; to = F.no_to; is_once = true }

      value : Gave B u w c₁ l₁ h₁ w₁ b k (value_of x tr u now)
      value = eb.is B sh tr k rd

      whole : F.start_at (scene_machine x u) (seen_from (owner_of x.owner) nm now) g tr bs now ≡ bind (number_on (value_of x tr u now)) (λ z v. bounds_on x u bs newest z v)
      whole = started B sh nm tr bs es ∙ ap (λ (j : Meant). on_meant (meant_for j) (λ i q. F.start_as (scene_machine x u) q g i tr bs now) now) is_fixed
          ∙ ap (λ (j : Res Why ℤ). bind j (λ z v. bounds_on x u bs newest z v)) (number_is x u tr now)

      variable : get_or B.denotations a builtin_name ≡ variable_of FixedType
      variable = variable_denotes a FixedType B (record { scope = owner_of x.owner; spelling = nm; is = ap meant_for (sym is_fixed) ∙ means deck s rows names c l h w at u x m t lex y ti B sh nm es })

      first : bound_in B c₁ l₁ h₁ n ≡ number_on (value_of x tr u now)
      first = bi.is B c₁ l₁ h₁ ∙ ap number_on value.is

      by : (n₁ : Bound) → n ≡ n₁ → StartsAs B c₂ l₂ h₂ (F.start_at (scene_machine x u) (seen_from (owner_of x.owner) nm now) g tr bs now) r × Leaves B u w c₂ l₂ h₂ w₂ (started_meter r)
      by (Err (q, m₁)) i =
          let st : (r ≡ Err (q, m₁)) × (c₂ ≡ c₁) × (l₂ ≡ l₁) × (h₂ ≡ h₁) × (w₂ ≡ w₁) = bo.stays q m₁ i in
          let nu : bad q m₁.used ≡ number_on (value_of x tr u now) = rw i at first in
          let lm : m₁.limit ≡ B.limit = ap (λ (j : Meter). j.limit) (rw i at bi.limit) ∙ value.limit in
          rw (st.0, st.1, st.2, st.3, st.4) (whole ∙ rw (← nu), record { below = value.below; limit = lm; slots = value.slots })
      by (Ok (z, q, m₁)) i =
          let nu : good z.value (world_in B c₁ l₁ h₁ m₁.used) ≡ number_on (value_of x tr u now) = rw i at first in
          let pl : ◌≡◌ {A = Bound} (Ok (z, q, m₁)) (Ok (z, k, m₁)) = rw i at (bi.end k value.end) in
          let qk : q ≡ k = (let j : ◌≡◌ {A = Fixed × ℕ × Meter} (z, q, m₁) (z, k, m₁) = cc in ap (λ (i : Fixed × ℕ × Meter). i.1) j) in
          let lm : m₁.limit ≡ B.limit = ap (λ (j : Meter). j.limit) (rw i at bi.limit) ∙ value.limit in
          let iz : in_range z.value ≡ true = bound_range B c₁ l₁ h₁ w₁ u b z q m₁ (rw i at bi) (gave_fine B c l h x tr u m.used w c₁ l₁ h₁ w₁ b k sh.slots value) in
          let sh₁ : Shows deck rows names c₁ l₁ h₁ w₁ u x m₁ B = record { named = sh.named; rowed = sh.rowed; slots = value.slots; work = omega (arith, z₁, sh.work); taken = sh.taken; limit = lm; left = sh.left } in
          let G : StartsAs B c₂ l₂ h₂ (bounds_on x u bs newest z.value (world_in B c₁ l₁ h₁ m₁.used)) r × Leaves B u w₁ c₂ l₂ h₂ w₂ (started_meter r) = bo.goes z q m₁ i B sh₁ iz bs newest few (rw qk bd) (rw ef (first_shown g a)) variable in
          let R : bounds_on x u bs newest z.value (world_in B c₁ l₁ h₁ m₁.used) ≡ F.start_at (scene_machine x u) (seen_from (owner_of x.owner) nm now) g tr bs now = sym (whole ∙ rw (← nu)) in
          (subst (λ (j : Res Why F.Started). StartsAs B c₂ l₂ h₂ j r) R G.0, record { below = G.1.below ∙ value.below; limit = G.1.limit; slots = G.1.slots })

    pub start_done : StartIs deck s rows names c l h w g at u x m c₂ l₂ h₂ w₂ r
    start_done = record {
      is = λ B sh nm tr bs st.
          let es : folded mixed (part (t.to - t.from) t.from s) ≡ nm = spelled deck s rows names c l h w at u x m t lex y ti st.0 st.1 ∙ st.2 in
          let oq : o.to ≡ st.3.0 = lo.to ∙ ap (λ (i : ℕ). (token_at mixed s i).to) (lex.to ∙ sym (name_is s at st.0 st.1).to) ∙ sym (expect_is "=" s st.0.to st.3.0 st.3.2) in
          by B sh nm tr bs es st.3.1 (ap (whole_expression mixed s) oq ∙ st.3.3) st.3.4 st.3.5 n refl;
    }
