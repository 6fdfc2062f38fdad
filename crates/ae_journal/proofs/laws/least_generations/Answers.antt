use Rattle.ae_journal.proofs.Generations.{least_generations}
use Rattle.ae_journal.proofs.laws.least_generations.Goals as goal

pub returns : goal.returns
returns c = least_generations
