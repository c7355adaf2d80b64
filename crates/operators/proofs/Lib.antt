-- Laws that belong to no one function.
pub mod Room
pub mod Answers
pub mod Texts
pub mod Sides
pub mod Bitwise
pub mod Joining
pub mod Pieces
pub mod Callers
