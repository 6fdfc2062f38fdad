mod PatternLaws
mod RecordLaws
mod TestLaws
