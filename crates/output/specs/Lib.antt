-- What the contracts of `output` cite.
pub mod Shows
pub mod Line
