pub mod Acting
pub mod Appoints
pub mod Closing
pub mod Filling
pub mod Leaving
pub mod Opens
pub mod Posts
