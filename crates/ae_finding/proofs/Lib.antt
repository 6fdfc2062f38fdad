pub mod ComputedRules
pub mod NodeLaws
pub mod OwnRules
pub mod GenerateRules
pub mod TestRules
pub mod SiteLaws
pub mod ClassNames
