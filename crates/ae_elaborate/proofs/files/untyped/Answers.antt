use Rattle.ae_elaborate.proofs.ElaborateLaws.{of_typing}
use Rattle.ae_elaborate.proofs.files.untyped.Goals as goal

pub returns-in-TooLarge : goal.returns-in-TooLarge
returns-in-TooLarge c = λ text file h. tt

pub returns-in_default : goal.returns-in_default
returns-in_default c = λ text file h. of_typing text file c.args.fault c.in_default.not-TooLarge h
