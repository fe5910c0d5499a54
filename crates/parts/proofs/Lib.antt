pub mod Bits
pub mod Cuts
pub mod Gaps
pub mod Joins
pub mod Partway
pub mod Places
pub mod Walks
