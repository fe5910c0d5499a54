pub mod Words
pub mod Written
pub mod Sheets
pub mod Sours
pub mod Back
