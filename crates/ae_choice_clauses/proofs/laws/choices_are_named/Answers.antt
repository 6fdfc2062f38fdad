use Rattle.ae_choice_clauses.proofs.Begun.{choices_named, choices_entered, choices_chosen}
use Rattle.ae_choice_clauses.proofs.laws.choices_are_named.Goals as goal

pub returns-clause-named : goal.returns-clause-named
returns-clause-named c = λ p g firsts lines first clauses old new added before. choices_named p g old new firsts lines first clauses added before

pub returns-clause-entered : goal.returns-clause-entered
returns-clause-entered c = λ p g firsts lines first clauses old new names added before t h. choices_entered p g old new firsts lines first clauses added names before t h

pub returns-clause-chosen : goal.returns-clause-chosen
returns-clause-chosen c = λ p g firsts lines first clauses old new law added u d h e. choices_chosen p g old new firsts lines first clauses added law u d h e
