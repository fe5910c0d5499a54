pub mod CallTexts
pub mod DayTexts
pub mod HexTexts
pub mod Readings
pub mod Rewrites
