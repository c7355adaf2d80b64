-- The pieces of a list as given, joined, are the list of the joined deck.
-- Assumes nothing.
use Prim.Native.Nat.{ℕ, zero, suc, ◌+◌, ◌*◌, ◌-◌, ◌/◌, ◌%◌, ◌≤◌, ◌<◌}
use native.Mathlib.Nat.{not-suc-le-zero, add-zero}
use native.Mathlib.Omega.{arith}
use mathlib.Core.Bool.{Bool, true, false, cond, ◌&&◌}
use mathlib.Core.List.{List, [], ◌∷◌}
use mathlib.Core.Path.{◌≡◌, refl, sym, ap, subst, ◌∙◌}
use lib.Dec.{eqb}
use borrow.Author.Tests.{eqb-true, eq-eqb}
use Rattle.definition.specs.declared.Layout.TheVariants.{Plain as plain, Cards as cards}
use Rattle.definition.specs.Bytes.{mixed}
use Rattle.definition.specs.Deck.{count, is_sound}
use Rattle.definition.specs.Events.{Line, line, longer}
use Rattle.definition.specs.Cards.{joined, column, given, is_first, goes_over, cut, as_given}
use Rattle.definition.specs.Choice.{when}
use Rattle.definition.specs.declared.Why.TheVariants.{ShortRoom as short_room}
use Rattle.definition.specs.Reading.{read_member}
use Rattle.definition.specs.World.{Pass}
use Rattle.definition.specs.Names.{enter}
use Rattle.definition.specs.Run.{body_of}
use Rattle.definition.specs.Expansion.{Expansion, refusal, run_main, world_for, expansion, size_in, told, expansion_of}
use Rattle.definition.proofs.Views.{and_true}
use Rattle.definition.proofs.Joined.{sound_parts, sound_joined, count_joined, size_joined}
use Rattle.promises.specs.Cards.{joined_place, ends_at, onto, rejoined, Rejoins, HonestCards}
use Rattle.promises.specs.Passes.{main_passes, Told, listed_places, active_places, Honest}
use Rattle.promises.proofs.Cutting.{Next, Cut, next_as, run_cut}
use Rattle.promises.proofs.Tied.{runs_alike}
use Rattle.promises.proofs.Passing.{run_honest}

-- ---- places come back
pub back_column : (p : ℕ) → joined_place (column p) ≡ p
back_column p = omega arith

pub back_given : (size p : ℕ) → size % 71 ≡ 0 → joined_place (given size p) ≡ p
unfolding given
back_given size p h = go (eqb p size) refl
  where
    go : (t : Bool) → eqb p size ≡ t → joined_place (cond t (80 * (p / 71)) (column p)) ≡ p
    go true e = omega (arith, eqb-true p size e)
    go false e = back_column p

-- ---- a line that is put to others
onto_longer : (k m p n : ℕ) (ls : List Line) → onto (line k m p (n + 1)) ls ≡ longer 1 (onto (line k m p n) ls)
onto_longer k m p n [] = refl
onto_longer k m p n (a ∷ ls) = go (ends_at a (line k m p n))
  where
    go : (t : Bool) → cond t (longer (n + 1) (a ∷ ls)) (line k m p (n + 1) ∷ a ∷ ls) ≡ longer 1 (cond t (longer n (a ∷ ls)) (line k m p n ∷ a ∷ ls))
    go true = let e : a.size + (n + 1) ≡ a.size + n + 1 = omega arith in λ i. line a.kind a.member a.offset (e i) ∷ ls
    go false = refl

rejoined_longer : (ls : List Line) → rejoined (longer 1 ls) ≡ longer 1 (rejoined ls)
rejoined_longer [] = refl
rejoined_longer (a ∷ ls) = onto_longer a.kind a.member (joined_place a.offset) a.size (rejoined ls)

onto_other : (l : Line) (ls : List Line) → eqb l.kind 2 ≡ false → onto l ls ≡ l ∷ ls
onto_other l [] e = refl
onto_other l (a ∷ ls) e = rw e

onto_next : (m p k n : ℕ) (ls : List Line) → onto (line 2 m (p + k) n) (line 2 m p k ∷ ls) ≡ line 2 m p (k + n) ∷ ls
onto_next m p k n ls = rw (eq-eqb m m refl, eq-eqb (p + k) (p + k) refl)

onto_apart : (l : Line) (ls : List Line) → l.kind ≡ 2 → (Next ls l → ⊥) → onto l ls ≡ l ∷ ls
onto_apart l [] k h = refl
onto_apart l (a ∷ ls) k h = go (ends_at a l) refl
  where
    go : (t : Bool) → ends_at a l ≡ t → cond t (longer l.size (a ∷ ls)) (l ∷ a ∷ ls) ≡ l ∷ a ∷ ls
    go false e = refl
    go true e =
        let x : Bool = eqb l.kind 2 in
        let y : Bool = eqb a.kind 2 in
        let z : Bool = eqb a.member l.member in
        let u : Bool = eqb (a.offset + a.size) l.offset in
        let i : (x && y && z ≡ true) × (u ≡ true) = and_true (x && y && z) u e in
        let j : (x && y ≡ true) × (z ≡ true) = and_true (x && y) z i.0 in
        absurd (h (record { first = eqb-true _ _ (and_true x y j.0).1; second = k; member = eqb-true _ _ j.1; place = eqb-true _ _ i.1 }))

-- ---- a stretch that is cut, joined
joined_over : (m p k n : ℕ) (ls zs : List Line) → rejoined zs ≡ line 2 m p k ∷ ls → rejoined (goes_over m (p + k) n zs) ≡ line 2 m p (k + n) ∷ ls
unfolding goes_over
joined_over m p k zero ls zs h = rw add-zero h
joined_over m p k (suc n) ls zs h =
    let z : suc (p + k) ≡ p + (k + 1) = omega arith in
    let y : k + suc n ≡ k + 1 + n = omega arith in
    rw (z, y) (joined_over m p (k + 1) n ls (cond (is_first (p + k)) (line 2 m (column (p + k)) 1 ∷ zs) (longer 1 zs)) (go (is_first (p + k))))
  where
    go : (t : Bool) → rejoined (cond t (line 2 m (column (p + k)) 1 ∷ zs) (longer 1 zs)) ≡ line 2 m p (k + 1) ∷ ls
    go true = rw (back_column (p + k), h) (onto_next m p k 1 ls)
    go false = rejoined_longer zs ∙ ap (longer 1) h

cut_first : (m p n : ℕ) (ls : List Line) → 1 ≤ n → cut m p n ls ≡ goes_over m (p + 1) (n - 1) (line 2 m (column p) 1 ∷ ls)
cut_first m p zero ls h = absurd (not-suc-le-zero h)
cut_first m p (suc n) ls h =
    let e : suc p ≡ p + 1 = omega arith in
    let f : n ≡ suc n - 1 = omega arith in
    λ i. goes_over m (e i) (f i) (line 2 m (column p) 1 ∷ ls)

joined_cut : (m p n : ℕ) (ls zs : List Line) → 1 ≤ n → rejoined zs ≡ ls → (Next ls (line 2 m p 1) → ⊥) → rejoined (cut m p n zs) ≡ line 2 m p n ∷ ls
joined_cut m p n ls zs h e k =
    let f : n ≡ 1 + (n - 1) = omega arith in
    ap rejoined (cut_first m p n zs h)
    ∙ joined_over m p 1 (n - 1) ls (line 2 m (column p) 1 ∷ zs) (rw (back_column p, e) (onto_apart (line 2 m p 1) ls refl k))
    ∙ (λ i. line 2 m p (sym f i) ∷ ls)

-- ---- lines as given, joined, where each joined body is whole records
module _ (d : List ℕ) (s : ℕ → ℕ) (whole : (m : ℕ) → m < count d → s m % 71 ≡ 0) where
  pub joined_lines_lem : (ls : List Line) (t : List ℕ) → Cut d ls t → rejoined (as_given s ls) ≡ ls
  unfolding as_given
  joined_lines_lem [] t c = refl
  joined_lines_lem (l ∷ ls) t c = go (eqb l.kind 2) refl (joined_lines_lem ls c.0 c.2)
    where
      go : (t : Bool) → eqb l.kind 2 ≡ t → rejoined (as_given s ls) ≡ ls → rejoined (cond t (cut l.member l.offset l.size (as_given s ls)) (line l.kind l.member (given (s l.member) l.offset) l.size ∷ as_given s ls)) ≡ l ∷ ls
      go true e h =
          let k : l.kind ≡ 2 = eqb-true l.kind 2 e in
          joined_cut l.member l.offset l.size ls (as_given s ls) (c.1.origin.stretch k).0 h (λ g. c.1.longest (next_as d ls l 1 k g))
          ∙ (λ i. line (sym k i) l.member l.offset l.size ∷ ls)
      go false e h =
          let p : joined_place (given (s l.member) l.offset) ≡ l.offset = back_given (s l.member) l.offset (whole l.member c.1.listed) in
          onto_other (line l.kind l.member (joined_place (given (s l.member) l.offset)) l.size) (rejoined (as_given s ls)) e
          ∙ (λ i. line l.kind l.member (p i) l.size ∷ h i)

-- of the joined deck
pub whole_joined : (d : List ℕ) → is_sound mixed d ≡ true → (m : ℕ) → m < count (joined d) → size_in (joined d) m % 71 ≡ 0
whole_joined d s m h = omega (arith, size_joined d s m (rw (count_joined d s) at h))

-- REJOINED
pub rejoins : (d : List ℕ) → Rejoins d
unfolding expansion_of expansion
rejoins d roomy t l s sound even = rw (sound, even, sound_joined d sound) (go roomy)
  where
    go : (y : Bool) → ((when y (λ _. told (joined d) (run_main mixed (enter 0 (read_member mixed (body_of (joined d) 0)) (world_for cards t l s)) (joined d))) (λ _. refusal short_room 0 0 0)).number ≡ 17 → ⊥) → rejoined (when y (λ _. told (joined d) (run_main mixed (enter 0 (read_member mixed (body_of (joined d) 0)) (world_for cards t l s)) (joined d))) (λ _. refusal short_room 0 0 0)).lines ≡ (when y (λ _. run_main mixed (enter 0 (read_member mixed (body_of (joined d) 0)) (world_for plain t l s)) (joined d)) (λ _. refusal short_room 0 0 0)).lines
    go true j =
        joined_lines_lem (joined d) (size_in (joined d)) (whole_joined d sound) _ _ (run_cut (joined d) cards t l s (sound_parts (joined d) (sound_joined d sound)).some)
        ∙ ap (λ (x : Expansion). x.lines) (runs_alike (joined d) t l s j)
    go false j = refl

-- THE SCAN IS HONEST over the joined deck
pub honest_cards : (d : List ℕ) → HonestCards d
unfolding expansion_of
honest_cards d t l s sound even =
    let x : Expansion = run_main mixed (enter 0 (read_member mixed (body_of (joined d) 0)) (world_for cards t l s)) (joined d) in
    let ps : List Pass = main_passes (enter 0 (read_member mixed (body_of (joined d) 0)) (world_for cards t l s)) (joined d) in
    let h : Honest (joined d) ps x = run_honest (joined d) cards t l s in
    let e : x.lines ≡ rejoined (as_given (size_in (joined d)) x.lines) = sym (joined_lines_lem (joined d) (size_in (joined d)) (whole_joined d sound) x.lines x.text (run_cut (joined d) cards t l s (sound_parts (joined d) (sound_joined d sound)).some)) in
    rw (sound, even)
    (record { told = subst (λ (ls : List Line). Told ps ls x.text) e h.told; scans = h.scans; listed = subst (λ (ls : List Line). listed_places ls ≡ active_places ps) e h.listed })
