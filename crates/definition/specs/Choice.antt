-- Choices, read from the top: the first that holds is taken, and only what is taken is computed.
use Rattle.std.specs.Prelude.{Bool, true, false}

-- if t holds the first, else the second
abbrev pub when : {A : Type 0} → Bool → (Unit {0} → A) → (Unit {0} → A) → A
when true a b = a tt
when false a b = b tt
