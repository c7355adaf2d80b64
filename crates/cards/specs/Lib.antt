-- What the functions on card images ensure.
pub mod Joins
