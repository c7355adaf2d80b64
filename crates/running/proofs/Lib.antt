-- Laws that belong to no one function.
pub mod Including
pub mod Thrift
pub mod Afterwards
pub mod Turning
pub mod Looping
pub mod Values
pub mod Entering
pub mod Seeking
pub mod Naming
