-- What the contracts of `member` cite.
pub mod Body
