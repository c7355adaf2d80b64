-- A lent room is the list of the numbers in it. `over` is the same for a list of anything else.
use Rattle.std.specs.Prelude.{ℕ, zero, suc, List, [], ◌∷◌, replicate}

-- the room with xs over it, from a place on; what would go past the room's end is lost
abbrev pub over : {A : Type 0} → List A → ℕ → List A → List A
over [] at xs = []
over (r ∷ rs) zero [] = r ∷ rs
over (r ∷ rs) zero (x ∷ xs) = x ∷ over rs zero xs
over (r ∷ rs) (suc at) xs = r ∷ over rs at xs

-- a room of n zeros
abbrev pub zeros : ℕ → List ℕ
zeros n = replicate n 0
