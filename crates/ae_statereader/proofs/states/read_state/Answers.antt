use Rattle.ae_choices.proofs.WholeForms.{whole_memory}
use Rattle.ae_stategrammar.specs.States.{state}
use Rattle.ae_statereader.proofs.states.read_state.Goals as goal

pub returns-in-Err : goal.returns-in-Err
returns-in-Err c = whole_memory (state c.args.signature.now) c.args.text.now
