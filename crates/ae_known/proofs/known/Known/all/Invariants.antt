use Rattle.ae_known.proofs.IndexLaws.{AreEntered, HaveArguments}
use Rattle.ae_known.proofs.known.Known.all.Given as goal

abbrev pub invariant-loop-name : goal.invariant-loop-name
invariant-loop-name l = AreEntered l.store.nodes l.name l.known × HaveArguments l.store.nodes l.name l.known
