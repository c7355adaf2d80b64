-- What the contracts of `origin` cite.
pub mod Written
