use Rattle.std.proofs.Common.{◌∙◌, sym}
use Rattle.ae_elab.specs.declared.faults.TypeFault.TheVariants as fault
use Rattle.ae_elab.specs.Formulas.{covers}
use Rattle.ae_elab.specs.Nodes.{entries_of, trees_at}
use Rattle.ae_typing.proofs.TestLaws.{test_failed}
use Rattle.ae_typing.proofs.patterns.is_covering.Goals as goal

pub returns-clause-fault : goal.returns-clause-fault
returns-clause-fault c m =
    test_failed (covers c.args.variables.now (trees_at (entries_of c.args.nodes.now) c.args.trees.now)) (fault.BadTrigger c.args.place.from c.args.place.to) c.bad_trigger.result
    (sym c.in_ok-covers.ensures ∙ c.if-branch.false) c.bad_trigger.ensures m
