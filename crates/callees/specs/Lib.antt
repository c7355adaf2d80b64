-- What the contracts of `callees` cite: how the rooms stand for the definition's world, and the answers for its answers.
pub mod Shown
pub mod Answer
