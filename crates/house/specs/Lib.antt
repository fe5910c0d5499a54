pub mod Appointing
pub mod Calls
pub mod Guards
pub mod Opening
pub mod Retiring
pub mod States
pub mod Steps
pub mod Tables
