-- Laws that belong to no one function.
pub mod Laws
pub mod Stacked
pub mod Labelling
pub mod Words
pub mod Keywords
pub mod Ends
pub mod Sentences
