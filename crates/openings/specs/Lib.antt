-- What the contracts of `openings` cite.
pub mod Open
