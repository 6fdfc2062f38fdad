use Rattle.ae_choices.proofs.WholeForms.{whole_memory}
use Rattle.ae_stategrammar.specs.Widths.{number_code}
use Rattle.ae_storyreader.proofs.widths.read_number.Goals as goal

pub returns-in-Err : goal.returns-in-Err
returns-in-Err c = whole_memory (number_code c.args.signature.now) c.args.text.now
