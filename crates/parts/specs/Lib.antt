pub mod ChartLaws
pub mod Charts
pub mod Limits
pub mod Numbers
pub mod Sets
pub mod Stamps
