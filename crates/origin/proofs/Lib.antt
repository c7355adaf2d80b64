-- What the proofs of `origin` share.
pub mod Lines
pub mod Telling
