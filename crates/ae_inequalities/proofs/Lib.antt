mod Sources
mod JoinedTags
mod Numbered
mod Legal
pub mod More
