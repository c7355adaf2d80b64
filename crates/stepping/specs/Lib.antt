-- What the contracts of `stepping` cite.
pub mod Stage
pub mod Ways
pub mod Steps
pub mod Types
