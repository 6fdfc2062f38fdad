mod FileRules
mod KindLaws
