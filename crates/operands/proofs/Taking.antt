-- Arguments that are taken one after the other: what waits, and what is left to take.
-- Assumes nothing.
use Rattle.operands.specs.Types.{Evaluated}
use Rattle.std.proofs.Common.{Option, Some, None, Result, Ok, Err}
use mathlib.Core.Path.{◌≡◌, refl, sym, ap, subst, ◌∙◌}
use mathlib.Core.List.{List, [], ◌∷◌, ◌++◌}
use Prim.Native.Nat.{ℕ, zero, suc, ◌+◌, ◌<◌, ◌≤◌}
use native.Mathlib.Nat.{mod-eq_of_lt}
use native.Mathlib.Omega.{arith}
use borrow.Author.Tests.{lt-ltb}
use lib.ListN.{length, get_or, set, take}
use Rattle.definition.specs.Bytes.{mixed}
use Rattle.definition.specs.Tokens.{token_at}
use Rattle.definition.specs.Values as Val
use Rattle.definition.specs.Evaluate as Ev
use Rattle.definition.specs.Evaluate.{put, count}
use Rattle.definition.specs.declared.Why.{Why}
use Rattle.definition.specs.declared.Why.TheVariants.{WrongName}
use Rattle.definition.specs.declared.ValueType.{ValueType}
use Rattle.definition.specs.declared.ValueType.TheVariants.{FixedType, CharacterType}
use Rattle.fixed.specs.Signed.{stored_of}
use Rattle.fixed.proofs.Magnitude.{stored_back}
use Rattle.meter.specs.declared.Meter.{Meter}
use Rattle.operators.specs.declared.Value.{Value}
use Rattle.operators.specs.declared.Value.TheVariants.{Number, Characters, Bits}
use Rattle.operators.specs.Stands.{size_for, value_in, stacked, as_subject}
use Rattle.operators.specs.Stands as O
use Rattle.operators.proofs.Room.{part_below}
use Rattle.operators.proofs.Callers as R
use Rattle.callees.specs.declared.Held.{Held}
use Rattle.callees.specs.declared.Callee.{Callee}
use Rattle.callees.specs.declared.Parameter.{Parameter}
use Rattle.callees.specs.Shown.{names_world, world_in, Typed}
use Rattle.callees.specs.Answer.{owner_at, spelled_at, parameter_for, parameter_of, ParameterIs, Names, held_number, HeldWith, held_at, fixed_in, held_in, held_size}
use Rattle.callees.proofs.Listing.{First, first_of}
use Rattle.deck.specs.Answer.{body_in}
use Rattle.operands.specs.declared.Wish.{Wish}
use Rattle.operands.specs.declared.Wish.TheVariants as Wi
use Rattle.operands.specs.declared.Wished.{Wished}
use Rattle.operands.specs.declared.Target.{Target}
use Rattle.operands.specs.declared.Target.TheVariants as T
use Rattle.operands.specs.Answer.{evaluated_for, Turns}
use Rattle.operands.specs.Takes.{wish_for, wished_on, WithWish, substr_from, Coming, WishIs, Path}
use Rattle.operands.proofs.Trees.{clash}
use Rattle.operands.proofs.Leaves.{stood_turns, failed_turns}

-- ---- a wish
module _ (w : List ℕ) (u : ℕ) (g : Wish) (y : Evaluated) where
  pub wish_none : (f : Why × Meter) → y ≡ Err f → WithWish w u g y w (Err f)
  unfolding wished_on
  wish_none (f, m) e = record { is = λ a b. rw e (failed_turns w u u f m (wished_on u (wish_for g)) (λ n. refl) (omega (arith, b))) }

  module _ (v : Value) (to : ℕ) (m : Meter) (e : y ≡ Ok (v, to, m)) (w' : List ℕ) (x : Result Value Why) (r : Evaluated) (f : r ≡ evaluated_for x to m) where
    turns : (A : Val.Answer Val.Value) → ((a : Val.Value) → a ≡ value_in w u v → Ev.wished (wish_for g) a ≡ A) → O.Gave w u (size_for v) (stacked u A) w' x → 65536 ≤ length w → u + size_for v ≤ 65536 → Turns w u u (Ok (v, to, m)) (wished_on u (wish_for g)) w' (evaluated_for x to m)
    unfolding wished_on
    turns A i k a b = stood_turns w u u v to m (wished_on u (wish_for g)) A w' x (λ B c l h. ap (λ (j : Val.Answer Val.Value). put u j (world_in B c l h m.used)) (i (value_in w u v) refl)) (omega (arith, b)) (k.so (record { room = a; top = b }))

    pub wish_type : (t : ValueType) → g ≡ Wi.As t → O.Gave w u (size_for v) (stacked u (Val.convert t (value_in w u v))) w' x → WithWish w u g y w' r
    wish_type t i k = record { is = λ a b. rw (e, f) (turns (Val.convert t (value_in w u v)) (λ a j. rw (i, j)) k a (rw e at b)) }

    pub wish_subject : g ≡ Wi.AsSubject → O.Gave w u (size_for v) (stacked u (as_subject (value_in w u v))) w' x → WithWish w u g y w' r
    unfolding as_subject
    wish_subject i k = record { is = λ a b. rw (e, f) (turns (Val.gives (Val.subject (value_in w u v))) (λ a j. rw (i, j)) k a (rw e at b)) }

-- ---- which wish comes
module _ (deck names : List ℕ) (n : ℕ) (t : Target) (i at : ℕ) where
  substr_by : (k j : ℕ) (r : Wished) → ((g : Ev.Wish) (gs : List Ev.Wish) → g ∷ gs ≡ substr_from i → (wish_for r.wish ≡ g) × (gs ≡ substr_from (suc i))) → t ≡ T.Substr k → WishIs deck names n t i at r
  substr_by k j r f e = rw e record { is = f }

  pub wish_first : (k : ℕ) → t ≡ T.Substr k → i < 1 → WishIs deck names n t i at (record { wish = Wi.AsSubject; to = 0 })
  wish_first k e h = substr_by k 0 (record { wish = Wi.AsSubject; to = 0 }) (by i h) e
    where
      by : (i : ℕ) → i < 1 → (g : Ev.Wish) (gs : List Ev.Wish) → g ∷ gs ≡ substr_from i → (Ev.as_subject ≡ g) × (gs ≡ substr_from (suc i))
      by zero h g gs q = let a : Ev.as_subject ≡ g = cc in let b : gs ≡ Ev.as_type FixedType ∷ Ev.as_type FixedType ∷ [] = cc in (a, b)
      by (suc j) h g gs q = absurd (omega (arith, h))

  pub wish_number : (k : ℕ) → t ≡ T.Substr k → 1 ≤ i → WishIs deck names n t i at (record { wish = Wi.As FixedType; to = 0 })
  wish_number k e h = substr_by k 0 (record { wish = Wi.As FixedType; to = 0 }) (by i h) e
    where
      by : (i : ℕ) → 1 ≤ i → (g : Ev.Wish) (gs : List Ev.Wish) → g ∷ gs ≡ substr_from i → (Ev.as_type FixedType ≡ g) × (gs ≡ substr_from (suc i))
      by zero h g gs q = absurd (omega (arith, h))
      by (suc zero) h g gs q = let a : Ev.as_type FixedType ≡ g = cc in let b : gs ≡ Ev.as_type FixedType ∷ [] = cc in (a, b)
      by (suc (suc zero)) h g gs q = let a : Ev.as_type FixedType ≡ g = cc in let b : gs ≡ [] = cc in (a, b)
      by (suc (suc (suc j))) h g gs q = clash (cc)

  module _ (c : Callee) (e : t ≡ T.Entry c) (s : List ℕ) (es : s ≡ body_in deck c.place.member) (x : Option Parameter) (pi : ParameterIs deck s names n c.place at x) where
    abbrev asking : List (List ℕ) → Val.Answer (List Ev.Parameter)
    asking ns = Ev.parameters (owner_at c.place) ns (names_world deck names n)

    first_asked : (l : List ℕ) → l ≡ spelled_at s at → parameter_of deck names n c.place l ≡ parameter_for x
    first_asked l q = rw q (sym pi.is)

    wrong_by : x ≡ None → (g : Ev.Wish) (gs : List Ev.Wish) (ps : List Ev.Parameter) (ns : List (List ℕ)) → Names s ns at → asking ns ≡ Val.gives ps → g ∷ gs ≡ Ev.wishes ps → ⊥
    unfolding Ev.parameters
    wrong_by f g gs [] ns nm ak q = clash (cc)
    wrong_by f g gs (p ∷ ps) [] nm ak q = clash (cc)
    wrong_by f g gs (p ∷ ps) (m ∷ ns) nm ak q =
        let a : parameter_of deck names n c.place m ≡ Val.fails WrongName = first_asked m (first_of s m ns at nm).spelled ∙ rw f in
        let j : ◌≡◌ {A = Val.Answer (List Ev.Parameter)} (Val.fails WrongName) (Val.gives (p ∷ ps)) = rw a at ak in clash (cc)

    pub wish_wrong : x ≡ None → WishIs deck names n t i at (record { wish = Wi.AsSubject; to = at })
    wish_wrong f = rw e record { is = λ g gs k. absurd (wrong_by f g gs k.0 k.1 (rw es k.2) k.3 k.4) }

    module _ (z : Parameter) (f : x ≡ Some z) where
      abbrev q₀ : Ev.Parameter
      q₀ = record { at = z.address; type = z.value_type }

      z_to : z.to ≡ (token_at mixed s (token_at mixed s at).to).to
      z_to =
          let g : Some z ≡ Some (record { address = z.address; value_type = z.value_type; to = (token_at mixed s (token_at mixed s at).to).to }) = rw f at pi.to in
          let j : z ≡ record { address = z.address; value_type = z.value_type; to = (token_at mixed s (token_at mixed s at).to).to } = cc in
          ap (λ (a : Parameter). a.to) j

      and_gives : (a : Val.Answer (List Ev.Parameter)) (q : Ev.Parameter) (qs : List Ev.Parameter) → Val.and_then a (λ ps. Val.gives (q₀ ∷ ps)) ≡ Val.gives (q ∷ qs) → (a ≡ Val.gives qs) × (q₀ ≡ q)
      and_gives (Val.gives ps) q qs h = let g : ps ≡ qs = cc in let j : q₀ ≡ q = cc in (ap Val.gives g, j)
      and_gives (Val.fails w) q qs h = clash (cc)

      asked_first : (a : List ℕ) (ns : List (List ℕ)) (q : Ev.Parameter) (qs : List Ev.Parameter) → a ≡ spelled_at s at → asking (a ∷ ns) ≡ Val.gives (q ∷ qs) → (asking ns ≡ Val.gives qs) × (q₀ ≡ q)
      unfolding Ev.parameters
      asked_first a ns q qs h g = let j : parameter_of deck names n c.place a ≡ Val.gives q₀ = first_asked a h ∙ rw f in and_gives (asking ns) q qs (rw j at g)

      some_by : (g : Ev.Wish) (gs : List Ev.Wish) (ps : List Ev.Parameter) (ns : List (List ℕ)) → Names s ns at → asking ns ≡ Val.gives ps → g ∷ gs ≡ Ev.wishes ps → (Ev.as_type z.value_type ≡ g) × Coming deck names n (T.Entry c) (suc i) z.to gs
      unfolding Ev.parameters
      some_by g gs [] ns nm ak q = clash (cc)
      some_by g gs (p ∷ ps) [] nm ak q = clash (cc)
      some_by g gs (p ∷ ps) (m ∷ ns) nm ak q =
          let fi : First s m ns at = first_of s m ns at nm in
          let b : (asking ns ≡ Val.gives ps) × (q₀ ≡ p) = asked_first m ns p ps fi.spelled ak in
          let a₁ : g ≡ Ev.as_type p.type = cc in
          let a₂ : gs ≡ Ev.wishes ps = cc in
          let nm' : Names s ns z.to = rw z_to fi.others in
          (ap (λ (o : Ev.Parameter). Ev.as_type o.type) b.1 ∙ sym a₁, (ps, ns, rw es at nm', b.0, a₂))

      pub wish_some : WishIs deck names n t i at (record { wish = Wi.As z.value_type; to = z.to })
      wish_some = rw e record { is = λ g gs k. some_by g gs k.0 k.1 (rw es k.2) k.3 k.4 }

-- a subject is the first of all
pub subject_first : (deck names : List ℕ) (n : ℕ) (t : Target) (i at : ℕ) (gs : List Ev.Wish) → Coming deck names n t i at (Ev.as_subject ∷ gs) → i ≡ 0
subject_first deck names n (T.Entry c) i at gs (ps, ns, nm, ak, q) = by ps q
  where
    by : (ps : List Ev.Parameter) → Ev.as_subject ∷ gs ≡ Ev.wishes ps → i ≡ 0
    by [] q = clash (cc)
    by (p ∷ ps) q = clash (cc)
subject_first deck names n (T.Substr k) zero at gs q = refl
subject_first deck names n (T.Substr k) (suc zero) at gs q = clash (cc)
subject_first deck names n (T.Substr k) (suc (suc zero)) at gs q = clash (cc)
subject_first deck names n (T.Substr k) (suc (suc (suc i))) at gs q = clash (cc)

-- ---- what waits
set_here : (xs : List ℕ) (i x : ℕ) → i < length xs → get_or (set xs i x) i 0 ≡ x
set_here [] i x h = absurd (omega arith)
set_here (y ∷ ys) zero x h = refl
set_here (y ∷ ys) (suc i) x h = set_here ys i x (omega arith)

set_other_lem : (xs : List ℕ) (i j x : ℕ) → (j ≡ i → ⊥) → get_or (set xs i x) j 0 ≡ get_or xs j 0
set_other_lem [] i j x h = refl
set_other_lem (y ∷ ys) zero zero x h = absurd (h refl)
set_other_lem (y ∷ ys) zero (suc j) x h = refl
set_other_lem (y ∷ ys) (suc i) zero x h = refl
set_other_lem (y ∷ ys) (suc i) (suc j) x h = set_other_lem ys i j x (λ e. h (ap suc e))

set_size : (xs : List ℕ) (i x : ℕ) → length (set xs i x) ≡ length xs
set_size [] i x = refl
set_size (y ∷ ys) zero x = refl
set_size (y ∷ ys) (suc i) x = ap suc (set_size ys i x)

module _ (k : Held) (i : ℕ) (v : Value) (r : Held) (hw : HeldWith k i v r) (small : i < 256) (sized : length k.numbers ≡ 256) where
  held_here : held_at r i ≡ held_number v
  held_here = rw (lt-ltb i 256 small, hw.is small) (set_here k.numbers i (held_number v) (omega (arith, small, sized)))

  pub held_other : (a : ℕ) → a < i → held_at r a ≡ held_at k a
  held_other a h = rw (lt-ltb a 256 (omega (arith, h, small)), hw.is small) (set_other_lem k.numbers i a (held_number v) (λ e. omega (arith, e, h)))

  pub held_size_lem : length r.numbers ≡ 256
  held_size_lem = rw (hw.is small) (set_size k.numbers i (held_number v) ∙ sized)

  pub held_typed : (w : List ℕ) (u : ℕ) (t : ValueType) (v' : Value) → v ≡ v' → Typed t v' → (value_in w u v' ≡ held_in w r i u t) × (size_for v' ≡ held_size r i t)
  unfolding value_in size_for fixed_in
  held_typed w u FixedType (Number x) e h = let f : held_at r i ≡ stored_of x.value = held_here ∙ rw e in (rw (f, stored_back x.value h), refl)
  held_typed w u FixedType (Characters n) e h = absurd h
  held_typed w u FixedType (Bits n) e h = absurd h
  held_typed w u CharacterType (Number x) e h = absurd h
  held_typed w u CharacterType (Characters n) e h = let f : held_at r i ≡ n = held_here ∙ rw e (mod-eq_of_lt (let g : n < 65536 = omega (arith, h) in g)) in (rw f, sym f)
  held_typed w u CharacterType (Bits n) e h = absurd h

abbrev pub One : List ℕ → Value → Held → ℕ → ℕ → Ev.Wish → Val.Value → ℕ → Type 0
One w f k j t (Ev.as_type q) v z = (v ≡ held_in w k j t q) × (z ≡ held_size k j q) × (z ≤ 512) × (t + z ≤ 65536)
One w f k j t Ev.as_subject v z = (v ≡ value_in w t f) × (z ≡ size_for f) × (t + z ≤ 65536)

pub path_place : (w : List ℕ) (f : Value) (k : Held) (i u : ℕ) (ws : List Ev.Wish) (vs : List Val.Value) (j t : ℕ) (ws' : List Ev.Wish) → Path w f k i u ws vs j t ws' → (i + length vs ≡ j) × (u ≤ t)
path_place w f k i u ws [] j t ws' (a, b, c) = (omega (arith, a), omega (arith, b))
path_place w f k i u [] (v ∷ vs) j t ws' p = absurd p
path_place w f k i u (Ev.as_type q ∷ ws) (v ∷ vs) j t ws' (a, b, c, p) =
    let e : (suc i + length vs ≡ j) × (u + held_size k i q ≤ t) = path_place w f k (suc i) (u + held_size k i q) ws vs j t ws' p in (omega (arith, e.0), omega (arith, e.1))
path_place w f k i u (Ev.as_subject ∷ ws) (v ∷ vs) j t ws' (a, b, p) =
    let e : (suc i + length vs ≡ j) × (u + size_for f ≤ t) = path_place w f k (suc i) (u + size_for f) ws vs j t ws' p in (omega (arith, e.0), omega (arith, e.1))

size_kept : (k k' : Held) (i : ℕ) (q : ValueType) → held_at k' i ≡ held_at k i → held_size k' i q ≡ held_size k i q
size_kept k k' i FixedType e = refl
size_kept k k' i CharacterType e = e

held_kept : (w w' : List ℕ) (k k' : Held) (i u t : ℕ) (q : ValueType) → held_at k' i ≡ held_at k i → u + held_size k i q ≤ t → take t w' ≡ take t w → held_in w' k' i u q ≡ held_in w k i u q
unfolding fixed_in
held_kept w w' k k' i u t FixedType e h b = rw e
held_kept w w' k k' i u t CharacterType e h b = rw e (ap Val.characters (part_below (held_at k i) u t w w' b h))

module _ (w w' : List ℕ) (f f' : Value) (k k' : Held) (j t : ℕ) (ws' : List Ev.Wish) (b : take t w' ≡ take t w) (o : (a : ℕ) → a < j → held_at k' a ≡ held_at k a) (s : 0 < j → f' ≡ f) where
  pub path_kept : (i u : ℕ) (ws : List Ev.Wish) (vs : List Val.Value) → Path w f k i u ws vs j t ws' → Path w' f' k' i u ws vs j t ws'
  path_kept i u ws [] p = p
  path_kept i u [] (v ∷ vs) p = absurd p
  path_kept i u (Ev.as_type q ∷ ws) (v ∷ vs) (a, c, d, p) =
      let e : (suc i + length vs ≡ j) × (u + held_size k i q ≤ t) = path_place w f k (suc i) (u + held_size k i q) ws vs j t ws' p in
      let z : held_at k' i ≡ held_at k i = o i (omega (arith, e.0)) in
      let y : held_size k' i q ≡ held_size k i q = size_kept k k' i q z in
      (a ∙ sym (held_kept w w' k k' i u t q z e.1 b), rw y c, rw y d, rw y (path_kept (suc i) (u + held_size k i q) ws vs p))
  path_kept i u (Ev.as_subject ∷ ws) (v ∷ vs) (a, d, p) =
      let e : (suc i + length vs ≡ j) × (u + size_for f ≤ t) = path_place w f k (suc i) (u + size_for f) ws vs j t ws' p in
      let y : f' ≡ f = s (omega (arith, e.0)) in
      let q : Path w' f' k' (suc i) (u + size_for f) ws vs j t ws' = path_kept (suc i) (u + size_for f) ws vs p in
      (a ∙ sym (ap (value_in w' u) y ∙ R.value_below t u w w' f b e.1), rw y d, subst (λ (z : ℕ). Path w' f' k' (suc i) (u + z) ws vs j t ws') (ap size_for (sym y)) q)

module _ (w : List ℕ) (f : Value) (k : Held) (j t : ℕ) (g : Ev.Wish) (gs : List Ev.Wish) (v : Val.Value) (z : ℕ) (one : One w f k j t g v z) where
  last_by_lem : (g₁ : Ev.Wish) → One w f k j t g₁ v z → Path w f k j t (g₁ ∷ gs) (v ∷ []) (suc j) (t + z) gs
  last_by_lem (Ev.as_type q) (a, b, c, d) = (a, rw b at c, rw b at d, (refl, rw b, refl))
  last_by_lem Ev.as_subject (a, b, d) = (a, rw b at d, (refl, rw b, refl))

  pub path_more : (i u : ℕ) (ws : List Ev.Wish) (vs : List Val.Value) → Path w f k i u ws vs j t (g ∷ gs) → Path w f k i u ws (vs ++ v ∷ []) (suc j) (t + z) gs
  path_more i u ws [] (a, b, c) =
      subst (λ (x : ℕ). Path w f k x u ws (v ∷ []) (suc j) (t + z) gs) (sym a)
      (subst (λ (x : ℕ). Path w f k j x ws (v ∷ []) (suc j) (t + z) gs) (sym b)
      (subst (λ (x : List Ev.Wish). Path w f k j t x (v ∷ []) (suc j) (t + z) gs) (sym c) (last_by_lem g one)))
  path_more i u [] (x ∷ vs) p = absurd p
  path_more i u (Ev.as_type q ∷ ws) (x ∷ vs) (a, c, d, p) = (a, c, d, path_more (suc i) (u + held_size k i q) ws vs p)
  path_more i u (Ev.as_subject ∷ ws) (x ∷ vs) (a, d, p) = (a, d, path_more (suc i) (u + size_for f) ws vs p)
