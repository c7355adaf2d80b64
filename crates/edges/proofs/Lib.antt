-- What the proofs of `edges` share.
pub mod Laws
pub mod Piecing
