use Rattle.ae_turns.proofs.Representatives.{least_names_represent, representatives_are_least, representatives_are_names}
use Rattle.ae_turns.proofs.laws.least_names_represent.Goals as goal

pub returns-clause-represent : goal.returns-clause-represent
returns-clause-represent c = least_names_represent

pub returns-clause-least : goal.returns-clause-least
returns-clause-least c = representatives_are_least

pub returns-clause-names : goal.returns-clause-names
returns-clause-names c = representatives_are_names
