-- What the contracts of `scanning` cite beside the definition.
pub mod Cycle
