-- What the user was promised of every expansion, as statements about the definition.
pub mod Origin
pub mod More
pub mod Passes
pub mod Unread
pub mod Ghost
pub mod Cards
pub mod FirstLayout
pub mod LowerCase
