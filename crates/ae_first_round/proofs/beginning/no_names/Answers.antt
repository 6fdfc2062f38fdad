use Rattle.ae_base.proofs.Options.{never_some}
use Rattle.ae_first_round.proofs.beginning.no_names.Goals as goal

pub returns : goal.returns
returns c = record { heads = c.new.ensures.heads; arguments = λ n x at place a arg. never_some x at }
