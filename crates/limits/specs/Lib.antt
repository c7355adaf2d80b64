-- What the contracts of `limits` cite.
pub mod Checked
