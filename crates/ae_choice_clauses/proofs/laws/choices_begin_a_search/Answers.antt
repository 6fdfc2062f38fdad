use Rattle.ae_choice_clauses.proofs.Begun.{choices_stated, choices_lawful, choices_over}
use Rattle.ae_choice_clauses.proofs.laws.choices_begin_a_search.Goals as goal

pub returns-clause-stated : goal.returns-clause-stated
returns-clause-stated c = λ p g firsts lines first clauses old new places begun added size own. choices_stated p g old new firsts lines first clauses added begun places size own

pub returns-clause-lawful : goal.returns-clause-lawful
returns-clause-lawful c = λ p g firsts lines first clauses old new names begun added before. choices_lawful p g old new firsts lines first clauses added begun names before

pub returns-clause-over : goal.returns-clause-over
returns-clause-over c = λ p g firsts lines later first clauses now old new places reach begun added among stated.
    choices_over p g old new firsts lines first clauses added begun reach later now places among stated
