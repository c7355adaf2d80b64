-- What the contracts of this crate cite beside the definition.
pub mod Answer
pub mod Signed
