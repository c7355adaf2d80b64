-- What the contracts of `reading` cite.
pub mod State
pub mod Labelled
pub mod Sentences
pub mod Members
