-- What the answers of `deck` stand for.
pub mod Answer
pub mod Word
