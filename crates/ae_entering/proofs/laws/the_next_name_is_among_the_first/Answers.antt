use Rattle.ae_entering.proofs.NextName.{first_more}
use Rattle.ae_entering.proofs.laws.the_next_name_is_among_the_first.Goals as goal

pub returns : goal.returns
returns c = λ sig nodes n number more leaf leaves store inside a b first next. first_more sig nodes store n inside number more leaf leaves a b first next
