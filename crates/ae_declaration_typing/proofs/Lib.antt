mod AdditionLaws
mod DefinitionLaws
mod FormalLaws
mod StatementLaws
mod UnderLaws
