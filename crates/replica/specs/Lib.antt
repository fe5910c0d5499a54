pub mod Covering
pub mod Examples
pub mod Numbers
pub mod Operating
pub mod Receiving
pub mod Refusals
pub mod Replicas
pub mod Retiring
