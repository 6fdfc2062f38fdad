pub mod SeenLaws
pub mod MatchLaws
