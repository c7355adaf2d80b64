pub mod Sources
pub mod Naming
pub mod Putting
pub mod Copying
pub mod Cutting
pub mod Meaning
