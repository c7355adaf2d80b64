-- What the answers of `tokens` stand for.
pub mod Answer
