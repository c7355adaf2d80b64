pub mod Laws
pub mod Lexemes
pub mod Contents
pub mod Reach
pub mod Pieces
