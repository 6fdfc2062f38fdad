use Rattle.std.proofs.Common.{sym, ◌∙◌}
use Rattle.ae_owed_instances.proofs.OwnersAdded.{literals_owned, owners_added}
use Rattle.ae_owed_instances.proofs.owning.add_owners.Goals as goal

pub returns-clause-between : goal.returns-clause-between
returns-clause-between c =
    owners_added c.args.task.problem.now c.args.task.goal c.args.task.generations c.args.search.now c.add_literals.new.owners c.requires.between
    (c.in_ok-add_literals.ensures.more c.args.task.problem.now c.args.task.goal (c.requires.between.searching.signature ∙ sym c.requires.between.searching.signature)) c.in_ok-add_literals.ensures.apart

pub returns-clause-all : goal.returns-clause-all
returns-clause-all c =
    literals_owned c.args.search.now.solver.propagation.trail c.as_slice.result.now c.add_literals.new.owners (c.as_slice.ensures.value ∙ c.trail.ensures) c.in_ok-add_literals.ensures.all
