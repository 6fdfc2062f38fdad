pub mod OwnReading
pub mod RuleReading
pub mod LineReading
