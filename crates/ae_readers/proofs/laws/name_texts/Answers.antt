use Rattle.ae_readers.proofs.TextLaws.{names_exact, names_spelled}
use Rattle.ae_readers.proofs.laws.name_texts.Goals as goal

pub returns-clause-exact : goal.returns-clause-exact
returns-clause-exact c = names_exact

pub returns-clause-spelled : goal.returns-clause-spelled
returns-clause-spelled c = names_spelled
