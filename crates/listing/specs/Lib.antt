pub mod Lines
pub mod Listings
pub mod Reports
pub mod Rewriting
