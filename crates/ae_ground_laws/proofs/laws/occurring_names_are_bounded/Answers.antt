use Rattle.ae_ground_laws.proofs.Counted.{occurring_no_joins, occurring_at_most}
use Rattle.ae_ground_laws.proofs.laws.occurring_names_are_bounded.Goals as goal

pub returns-clause-joins : goal.returns-clause-joins
returns-clause-joins c = λ p g ts ground none occurs h ss a b k. occurring_no_joins p g ts ground none occurs h ss a b k

pub returns-clause-count : goal.returns-clause-count
returns-clause-count c = λ p g ts us once occurs holds. occurring_at_most p g ts us once occurs holds
