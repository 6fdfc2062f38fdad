use Rattle.std.proofs.Common.{◌∙◌, ◌&&◌, not, sym}
use Rattle.ae_elab.specs.declared.faults.TypeFault.TheVariants as fault
use Rattle.ae_elab.specs.Nodes.{entries_of, tree_at}
use Rattle.ae_elab.specs.Trees.{has_choice, is_application}
use Rattle.ae_typing.proofs.TestLaws.{test_failed}
use Rattle.ae_typing.proofs.patterns.is_trigger_term.Goals as goal

pub returns-clause-fault : goal.returns-clause-fault
returns-clause-fault c m =
    let t = tree_at (entries_of c.args.nodes.now) c.args.tree in
    test_failed (is_application t && not (has_choice t)) (fault.BadTrigger c.args.place.from c.args.place.to) c.bad_trigger.result
    (sym c.in_ok-is_pattern.ensures ∙ c.if-branch.false) c.bad_trigger.ensures m
