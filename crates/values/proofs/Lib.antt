-- Laws that belong to no one function.
pub mod Bytes
pub mod Compare
pub mod Numbers
pub mod Written
pub mod Bits
pub mod Substr
pub mod Examples
