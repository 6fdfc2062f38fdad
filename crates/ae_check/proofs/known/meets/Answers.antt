use Rattle.ae_check.proofs.Knowing.{rup_truth}
use Rattle.ae_check.proofs.Novel.{fresh_truth, fresh_numbered}
use Rattle.ae_check.proofs.known.meets.Goals as goal

pub are_new-requires : goal.are_new-requires
are_new-requires c = fresh_numbered c.args.problem.now c.args.goal c.args.earlier.now c.args.line.now c.args.codes.now c.args.stamps.now.items c.args.clauses.now _ _ c.requires.ready c.in-Fresh.is

pub returns-in_ok-are_new-in-Fresh-clause-exact : goal.returns-in_ok-are_new-in-Fresh-clause-exact
returns-in_ok-are_new-in-Fresh-clause-exact c =
    fresh_truth c.args.problem.now c.args.goal c.args.earlier.now c.args.line.now _ _ c.args.constants.now _ c.in-Fresh.is c.requires.constants c.in_ok-are_new-in-Fresh.ensures

pub returns-in-Rup-clause-exact : goal.returns-in-Rup-clause-exact
returns-in-Rup-clause-exact c =
    rup_truth c.args.problem.now c.args.goal c.args.earlier.now c.args.line.now _ _ _ c.args.codes.now c.args.stamps.now.items c.args.clauses.now c.refutes.result c.requires.ready c.in-Rup.is c.as_slice.ensures
    c.refutes.ensures.answer
