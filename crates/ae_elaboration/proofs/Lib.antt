mod CollectLaws
mod ElaborationRules
mod VariableLaws
