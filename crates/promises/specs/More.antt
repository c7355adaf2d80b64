-- C-16: "a run that finishes also finishes with any larger step limit or rooms, with the same six numbers, text and
-- lines. A run refused with 1 or with 3 to 16 or 19 is refused alike, number, place and steps, under larger ones."
use Rattle.std.specs.Prelude.{ℕ, ◌≤◌, Bool, true, List, ◌≡◌}
use Rattle.definition.specs.declared.Layout.{Layout}
use Rattle.definition.specs.Bytes.{mixed}
use Rattle.definition.specs.Expansion.{Expansion, expansion, expansion_of}

-- an expansion, and the one with more: the same in all, unless the first wants a working room (2), room (17) or steps
-- (18)
abbrev pub Kept : Expansion → Expansion → Type 0
Kept x y = (x.number ≡ 2 → ⊥) → (x.number ≡ 17 → ⊥) → (x.number ≡ 18 → ⊥) → y ≡ x

-- MORE KEEPS: for every deck d; `roomy` and `roomier` say whether the working rooms are long enough
abbrev pub MoreKeeps : List ℕ → Type 0
MoreKeeps d =
    (roomy roomier : Bool) (text text_more list list_more steps steps_more : ℕ)
    → (roomy ≡ true → roomier ≡ true) → text ≤ text_more → list ≤ list_more → steps ≤ steps_more
    → Kept (expansion mixed roomy d text list steps) (expansion mixed roomier d text_more list_more steps_more)

-- the same of a deck that is plain or cards (C-11)
abbrev pub MoreKeepsIn : Layout → List ℕ → Type 0
MoreKeepsIn y d =
    (roomy roomier : Bool) (text text_more list list_more steps steps_more : ℕ)
    → (roomy ≡ true → roomier ≡ true) → text ≤ text_more → list ≤ list_more → steps ≤ steps_more
    → Kept (expansion_of mixed y roomy d text list steps) (expansion_of mixed y roomier d text_more list_more steps_more)
