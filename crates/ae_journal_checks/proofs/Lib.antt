pub mod Terms
pub mod Entered
pub mod NoBlocks
pub mod RuleJournal
pub mod DecisionJournal
pub mod InstanceLine
pub mod LearntJournal
pub mod BackJournal
mod AnswerExamples
mod RefusedLines
mod KindTerms
mod KindFormulas
mod KindRows
mod KindMatch
mod KindLines
mod OwnForms
