-- What the contracts of `activating` cite.
pub mod Lists
pub mod Sets
