-- What the contracts of `rows` cite.
pub mod Table
pub mod Parts
pub mod Tabled
