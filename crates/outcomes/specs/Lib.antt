-- What the contracts of `outcomes` cite beside the definition.
pub mod Texts
pub mod Places
pub mod Copies
pub mod Arguments
pub mod Types
