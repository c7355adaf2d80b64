-- What the contracts of `leaving` cite.
pub mod Places
pub mod Leads
