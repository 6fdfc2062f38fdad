use Rattle.ae_math.proofs.FractionOrder.{below_crosswise, below_irreflexive, below_asymmetric, below_transitive, below_total, below_sums, below_products}
use Rattle.ae_math.proofs.laws.fractions_are_ordered.Goals as goal

pub returns-clause-crosswise : goal.returns-clause-crosswise
returns-clause-crosswise c = below_crosswise

pub returns-clause-irreflexive : goal.returns-clause-irreflexive
returns-clause-irreflexive c = below_irreflexive

pub returns-clause-asymmetric : goal.returns-clause-asymmetric
returns-clause-asymmetric c = below_asymmetric

pub returns-clause-transitive : goal.returns-clause-transitive
returns-clause-transitive c = below_transitive

pub returns-clause-total : goal.returns-clause-total
returns-clause-total c = below_total

pub returns-clause-with_sums : goal.returns-clause-with_sums
returns-clause-with_sums c = below_sums

pub returns-clause-with_products : goal.returns-clause-with_products
returns-clause-with_products c = below_products
