pub mod Spelling
pub mod Results
mod EntryReads
pub mod EntryWalks
pub mod CallWalks
pub mod Headers
pub mod Checks
pub mod GroupFills
pub mod CallFills
pub mod Fills
pub mod Pieces
pub mod There
pub mod Back
pub mod CallPuts
pub mod Writes
pub mod Copies
