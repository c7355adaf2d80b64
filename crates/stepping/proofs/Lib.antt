-- What is proved of a member's statements, and of what they lead to with the texts on the way.
pub mod Staging
pub mod Walking
pub mod Grouping
pub mod Settling
pub mod Leading
pub mod Acting
pub mod Waking
pub mod Jumping
