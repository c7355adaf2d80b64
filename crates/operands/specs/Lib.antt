-- What the contracts of `operands` cite: how the rooms show a world, and what answers stand for in it.
pub mod Shown
pub mod Answer
pub mod Blocks
pub mod Takes
pub mod Types
