-- What the contracts of `entering` cite.
pub mod Book
pub mod Entry
