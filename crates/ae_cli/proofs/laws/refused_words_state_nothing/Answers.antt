use Rattle.ae_cli.proofs.RightWords.{refused_states_nothing}
use Rattle.ae_cli.proofs.laws.refused_words_state_nothing.Goals as goal

pub returns : goal.returns
returns c = refused_states_nothing
