-- What the contracts of this crate cite beside the definition.
pub mod Answers
pub mod Digits
pub mod Bits
pub mod Substr
