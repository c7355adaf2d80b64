-- What the contracts of `expander` cite, and what a caller may rely on.
pub mod Answer
pub mod Promise
pub mod Corollaries
