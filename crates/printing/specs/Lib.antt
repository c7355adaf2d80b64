-- What the contracts of `printing` cite.
pub mod Page
