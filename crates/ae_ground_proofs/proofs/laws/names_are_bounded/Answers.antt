use Rattle.ae_ground_proofs.proofs.Chosen.{no_joins, at_most}
use Rattle.ae_ground_proofs.proofs.laws.names_are_bounded.Goals as goal

pub returns-clause-joins : goal.returns-clause-joins
returns-clause-joins c = λ p g firsts first old before s lines clauses ground none begun same empty n adds h ss a b k. no_joins p g firsts first begun old before same empty n s lines clauses adds ground none h ss a b k

pub returns-clause-count : goal.returns-clause-count
returns-clause-count c = λ p g firsts first old before s lines clauses none begun same empty n adds once us holds. at_most p g firsts first begun old before same empty n s lines clauses adds none once us holds
