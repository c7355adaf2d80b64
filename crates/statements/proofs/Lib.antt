-- Laws that belong to no one function.
pub mod Laws
pub mod Clauses
pub mod Listed
pub mod Items
pub mod Heads
pub mod Rereading
