-- Laws that belong to no one function.
pub mod Steps
pub mod Framing
pub mod Flows
pub mod Arriving
