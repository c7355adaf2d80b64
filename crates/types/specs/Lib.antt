-- What the contracts of `types` cite.
pub mod Kept
