-- 01, "Numbers given back": a case for each condition of the table, and its number.
use Rattle.std.specs.Prelude.{ℕ}
pub use Rattle.definition.specs.declared.Why.{Why}
pub use Rattle.definition.specs.declared.Why.TheVariants.{MalformedDeck as malformed_deck, ShortRoom as short_room, Syntax as syntax, OverLimit as over_limit, DeclaredTwice as declared_twice, WrongName as wrong_name, NoValue as no_value, NoConversion as no_conversion, OutOfRange as out_of_range, ZeroDivisor as zero_divisor, WrongArguments as wrong_arguments, WronglyRun as wrongly_run, WrongGoto as wrong_goto, UnknownMember as unknown_member, TooDeep as too_deep, TooLong as too_long, RoomFull as room_full, NoStep as no_step, SubstrOutside as substr_outside, UnevenBody as uneven_body}

abbrev pub number_of : Why → ℕ
number_of malformed_deck = 1
number_of short_room = 2
number_of syntax = 3
number_of over_limit = 4
number_of declared_twice = 5
number_of wrong_name = 6
number_of no_value = 7
number_of no_conversion = 8
number_of out_of_range = 9
number_of zero_divisor = 10
number_of wrong_arguments = 11
number_of wrongly_run = 12
number_of wrong_goto = 13
number_of unknown_member = 14
number_of too_deep = 15
number_of too_long = 16
number_of room_full = 17
number_of no_step = 18
number_of substr_outside = 19
number_of uneven_body = 20
