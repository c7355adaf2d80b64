pub mod Naming
pub mod Starting
pub mod Listing
pub mod Storing
