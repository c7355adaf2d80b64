-- The table's rule at each byte.
-- Assumes nothing.
use mathlib.Core.Path.{◌≡◌, sym, ◌∙◌, ap}
use mathlib.Core.List.{List, [], ◌∷◌}
use Prim.Native.Nat.{ℕ, zero, suc, ◌+◌, ◌<◌}
use native.Mathlib.Nat.{add-zero, zero-add, add-suc, suc-add, le_of_suc-le-suc, not-suc-le-zero}
use lib.ListN.{get_or}
use Rattle.definition.specs.declared.Class.{Class}

-- the list of a function's values at n numbers from i on, and its value at each place
abbrev pub tab : (ℕ → Class) → ℕ → ℕ → List Class
tab f i zero = []
tab f i (suc n) = f i ∷ tab f (suc i) n

from : (f : ℕ → Class) (o : Class) (i n k : ℕ) → k < n → get_or (tab f i n) k o ≡ f (i + k)
from f o i zero k h = absurd (not-suc-le-zero h)
from f o i (suc n) zero h = rw add-zero
from f o i (suc n) (suc k) h = from f o (suc i) n k (le_of_suc-le-suc h) ∙ ap f (suc-add i k ∙ sym (add-suc i k))

pub tab_at : (f : ℕ → Class) (o : Class) (n k : ℕ) → k < n → get_or (tab f 0 n) k o ≡ f k
tab_at f o n k h = from f o 0 n k h ∙ ap f (zero-add k)
