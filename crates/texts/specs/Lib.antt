-- What the contracts of `texts` cite beside the definition.
pub mod Shown
pub mod Promises
pub mod Types
