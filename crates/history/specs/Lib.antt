pub mod Events
pub mod Examples
pub mod Law
pub mod Lines
pub mod Offers
pub mod Operations
