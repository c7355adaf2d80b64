pub mod Trees
pub mod Leaves
pub mod Prefixing
pub mod Ranging
pub mod Taking
pub mod Aiming
