pub mod Common
pub mod Putting
pub mod Replacing
pub mod Turning
pub mod Looping
