mod CaseLaws
mod NodeRules
mod PlaceLaws
mod VariableLaws
