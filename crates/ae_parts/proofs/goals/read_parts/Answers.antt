use Rattle.ae_choices.proofs.WholeForms.{whole_memory}
use Rattle.ae_parts.specs.Codes.{parts_code}
use Rattle.ae_parts.proofs.goals.read_parts.Goals as goal

pub returns-in-Err-clause-exact : goal.returns-in-Err-clause-exact
returns-in-Err-clause-exact c = whole_memory (parts_code c.args.signature.now c.args.names.now) c.args.text.now
