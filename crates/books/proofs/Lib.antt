pub mod Entries
pub mod Meeting
pub mod Examples
pub mod Slots
