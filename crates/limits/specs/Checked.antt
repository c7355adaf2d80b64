-- What a checked length is: within its limit, or the refusal of one that is too long.
use Rattle.std.specs.Prelude.{ℕ, cond, leb, Result, Ok, Err}
use Rattle.definition.specs.Limits.{name_length, value_length}
use Rattle.definition.specs.declared.Why.{Why}
use Rattle.definition.specs.declared.Why.TheVariants.{OverLimit, TooLong}
use Rattle.limits.specs.declared.Name.{Name}
use Rattle.limits.specs.declared.Value.{Value}

-- Table, 4: "name in a statement over 31 bytes"
abbrev pub name_of : ℕ → Result Name Why
name_of n = cond (leb n name_length) (Ok (record { length = n })) (Err OverLimit)

-- Table, 16: "value over 512"
abbrev pub value_of : ℕ → Result Value Why
value_of n = cond (leb n value_length) (Ok (record { length = n })) (Err TooLong)
