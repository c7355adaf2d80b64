-- Laws that belong to no one function.
pub mod Doing
pub mod Grouping
pub mod Stepping
pub mod Going
pub mod Jumping
