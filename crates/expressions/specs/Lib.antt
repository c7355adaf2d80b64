-- What the contracts of `expressions` cite.
pub mod Check
pub mod Types
