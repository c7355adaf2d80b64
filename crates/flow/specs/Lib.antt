-- What the contracts of this crate cite beside the definition.
pub mod Walks
pub mod Shown
