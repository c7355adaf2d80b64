-- What the contracts of `evaluating` cite.
pub mod Cycle
pub mod Statements
pub mod Types
