mod DraftLaws
mod DraftNames
mod ElaborateLaws
