-- What the contracts of `meter` cite.
pub mod Charges
