-- What the contracts of `running` cite.
pub mod Included
pub mod Members
pub mod Ways
pub mod Readers
