-- What the answers of this crate stand for in the definition.
use Rattle.values.specs.declared.NumberError.TheVariants.{NoConversion, OutOfRange}
use Rattle.values.specs.declared.NumberError.{NumberError}
use Rattle.fixed.specs.declared.Fixed.{Fixed}
use Rattle.std.specs.Prelude.{Bool, not, ℤ, Result, Ok, Err}
use Rattle.definition.specs.declared.Why.{Why}
use Rattle.definition.specs.declared.Why.TheVariants.{NoConversion as no_conversion, OutOfRange as out_of_range}
use Rattle.definition.specs.declared.Operator as E
use Rattle.definition.specs.Values as D
use Rattle.std.specs.declared.cmp.Ordering.{Ordering}
use Rattle.std.specs.declared.cmp.Ordering.TheVariants as O
use Rattle.values.specs.declared.Comparison.{Comparison}
use Rattle.values.specs.declared.Comparison.TheVariants.{Greater, GreaterEqual, Equal, Less, LessEqual, NotGreater, NotEqual, NotLess}

abbrev pub order_for : D.Order → Ordering
order_for D.below = O.Less
order_for D.alike = O.Equal
order_for D.above = O.Greater

abbrev pub order_in : Ordering → D.Order
order_in O.Less = D.below
order_in O.Equal = D.alike
order_in O.Greater = D.above

-- what `infixed` tests for each comparison
abbrev pub is_wanted : Comparison → Ordering → Bool
is_wanted Greater o = D.is_above (order_in o)
is_wanted GreaterEqual o = not (D.is_below (order_in o))
is_wanted Equal o = D.is_alike (order_in o)
is_wanted Less o = D.is_below (order_in o)
is_wanted LessEqual o = not (D.is_above (order_in o))
is_wanted NotGreater o = not (D.is_above (order_in o))
is_wanted NotEqual o = not (D.is_alike (order_in o))
is_wanted NotLess o = not (D.is_below (order_in o))

abbrev pub operator_of : Comparison → E.Operator
operator_of Greater = E.TheVariants.Greater
operator_of GreaterEqual = E.TheVariants.GreaterEqual
operator_of Equal = E.TheVariants.Equal
operator_of Less = E.TheVariants.Less
operator_of LessEqual = E.TheVariants.LessEqual
operator_of NotGreater = E.TheVariants.NotGreater
operator_of NotEqual = E.TheVariants.NotEqual
operator_of NotLess = E.TheVariants.NotLess

abbrev pub why_of : NumberError → Why
why_of NoConversion = no_conversion
why_of OutOfRange = out_of_range

abbrev pub answer_of : Result Fixed NumberError → D.Answer ℤ
answer_of (Ok x) = D.gives x.value
answer_of (Err e) = D.fails (why_of e)
