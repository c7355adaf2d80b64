pub mod Reasons
pub mod Answering
pub mod Stops
pub mod Near
