-- Comparing by folded bytes.
-- Assumes nothing.
use mathlib.Core.Path.{◌≡◌, sym, ap, ◌∙◌}
use mathlib.Core.Bool.{Bool}
use mathlib.Core.List.{List}
use Prim.Native.Nat.{ℕ, ◌+◌, ◌-◌}
use lib.Dec.{eqb}
use lib.ListN.{get_or}
use Rattle.std.specs.List.{list_all, range_with_len}
use Rattle.definition.specs.Bytes.{mixed, capital, folded}
use Rattle.definition.specs.Lists.{part, same}
use Rattle.definition.proofs.Folded.{folded_at, folded_part}
use Rattle.rooms.proofs.Laws.{same_is}

module _ (a b : List ℕ) (i k : ℕ) where
  -- byte j of both, the first folded, and both
  abbrev pub is_spelled : ℕ → Bool
  is_spelled j = eqb (capital mixed (get_or a (i + j) 0)) (get_or b (k + j) 0)

  abbrev pub is_named : ℕ → Bool
  is_named j = eqb (capital mixed (get_or a (i + j) 0)) (capital mixed (get_or b (k + j) 0))

  pub spelled_is : (n : ℕ) → list_all is_spelled (range_with_len 0 (n - 0)) ≡ same (folded mixed (part n i a)) (part n k b)
  spelled_is n =
      ap (λ (p : ℕ → Bool). list_all p (range_with_len 0 (n - 0))) (λ t j. eqb (sym (folded_at mixed a (i + j)) t) (get_or b (k + j) 0))
      ∙ same_is (folded mixed a) b i k n ∙ rw (folded_part mixed n i a)

  pub named_is : (n : ℕ) → list_all is_named (range_with_len 0 (n - 0)) ≡ same (folded mixed (part n i a)) (folded mixed (part n k b))
  named_is n =
      ap (λ (p : ℕ → Bool). list_all p (range_with_len 0 (n - 0))) (λ t j. eqb (sym (folded_at mixed a (i + j)) t) (sym (folded_at mixed b (k + j)) t))
      ∙ same_is (folded mixed a) (folded mixed b) i k n ∙ rw (folded_part mixed n i a, folded_part mixed n k b)
