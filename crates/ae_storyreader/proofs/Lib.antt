pub mod LineReading
pub mod StoryReading
pub mod WidthReading
