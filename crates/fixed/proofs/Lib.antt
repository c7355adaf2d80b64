-- Laws that belong to no one function.
pub mod Magnitude
pub mod Laws
pub mod Examples
