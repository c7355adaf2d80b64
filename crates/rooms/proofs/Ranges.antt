-- `all` and `any` over a range: what they give is the test of the list of its numbers.
-- Assumes nothing.
use mathlib.Core.Path.{◌≡◌, refl, sym}
use mathlib.Core.Bool.{Bool, true, false}
use mathlib.Core.List.{List, [], ◌∷◌}
use Prim.Native.Nat.{ℕ, suc, ◌-◌, ◌<◌}
use native.Mathlib.Omega.{arith}
use lib.ListN.{length}
use denote.Param.Members.{Mut}
use Rattle.std.specs.declared.ops.Range.{Range}
use Rattle.std.specs.Prelude.{Option}
use Rattle.std.specs.Bool.{MatchBool}
use Rattle.std.specs.Option.{MatchOption}
use Rattle.std.specs.Fn.{Called}
use Rattle.std.specs.Iterator.{YieldsThen}
use Rattle.std.specs.List.{FoldsTo, range_with_len, AllWithin, HoldsAt, list_all, list_any}
use Rattle.std.proofs.iter.Yields.{nat_range_steps}
use Rattle.std.proofs.lemmas.Iterator.{YieldsList-from_range, cases_from_all, cases_from_any}
use Rattle.std.proofs.lemmas.List.Folds.{list_all_at, list_any_at}

passes : (p : ℕ → Bool) (xs : List ℕ) → AllWithin (λ x. p x ≡ true) xs 0 (length xs) → true ≡ list_all p xs
passes p [] h = refl
passes p (x ∷ xs) h = let e : p x ≡ true = h 0 0 (omega arith) (omega arith) in rw e (passes p xs (λ k d a b. h (suc k) d (omega arith) (omega arith)))

fails : (p : ℕ → Bool) (xs : List ℕ) → AllWithin (λ x. p x ≡ false) xs 0 (length xs) → false ≡ list_any p xs
fails p [] h = refl
fails p (x ∷ xs) h = let e : p x ≡ false = h 0 0 (omega arith) (omega arith) in rw e (fails p xs (λ k d a b. h (suc k) d (omega arith) (omega arith)))

module _ {F : Type 0} {g : Mut F (ℕ × Unit {0}) Bool} (s u : Range ℕ) (f : F) (r : Bool) (p : ℕ → Bool) where
  pub all_is : (xs : List ℕ) × (o : Option ℕ) × (j : F) × YieldsThen nat_range_steps s xs o u × FoldsTo (λ a x q. Called g a (x, tt) true q) f xs j × MatchOption o (r ≡ true) (λ x. (r ≡ false) × ((h : F) × Called g j (x, tt) false h))
      → ((x : ℕ) (q : F) → Called g f (x, tt) true q → (q ≡ f) × (p x ≡ true)) → ((x : ℕ) (q : F) → Called g f (x, tt) false q → p x ≡ false)
      → r ≡ list_all p (range_with_len s.start (s.end - s.start))
  all_is d h k = by r (cases_from_all u f r (λ x. p x ≡ true) (λ x. p x ≡ false) d (YieldsList-from_range s.start s.end _ refl refl) h k)
    where
      numbers : List ℕ
      numbers = range_with_len s.start (s.end - s.start)

      by : (t : Bool) → MatchBool t (AllWithin (λ x. p x ≡ true) numbers 0 (length numbers)) ((k : ℕ) × (k < length numbers) × HoldsAt (λ x. p x ≡ false) numbers k) → t ≡ list_all p numbers
      by true h = passes p numbers h
      by false h = sym (list_all_at p numbers h.0 0 h.1 (h.2 0))

  pub any_is : (xs : List ℕ) × (o : Option ℕ) × (j : F) × YieldsThen nat_range_steps s xs o u × FoldsTo (λ a x q. Called g a (x, tt) false q) f xs j × MatchOption o (r ≡ false) (λ x. (r ≡ true) × ((h : F) × Called g j (x, tt) true h))
      → ((x : ℕ) (q : F) → Called g f (x, tt) true q → p x ≡ true) → ((x : ℕ) (q : F) → Called g f (x, tt) false q → (q ≡ f) × (p x ≡ false))
      → r ≡ list_any p (range_with_len s.start (s.end - s.start))
  any_is d h k = by r (cases_from_any u f r (λ x. p x ≡ true) (λ x. p x ≡ false) d (YieldsList-from_range s.start s.end _ refl refl) h k)
    where
      numbers : List ℕ
      numbers = range_with_len s.start (s.end - s.start)

      by : (t : Bool) → MatchBool t ((k : ℕ) × (k < length numbers) × HoldsAt (λ x. p x ≡ true) numbers k) (AllWithin (λ x. p x ≡ false) numbers 0 (length numbers)) → t ≡ list_any p numbers
      by true h = sym (list_any_at p numbers h.0 0 h.1 (h.2 0))
      by false h = fails p numbers h
