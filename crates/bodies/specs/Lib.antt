-- What the contracts of `bodies` cite.
pub mod Deeds
pub mod Groups
pub mod Ways
pub mod Jumps
pub mod Types
