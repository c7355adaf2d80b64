-- What the contracts of `statements` cite.
pub mod Clauses
pub mod Again
pub mod Types
