use Rattle.ae_order_counts.proofs.Asked.{asked_fewer, asked_quantifiers}
use Rattle.ae_order_counts.proofs.laws.asked_orders_fall.Goals as goal

pub returns-clause-asked : goal.returns-clause-asked
returns-clause-asked c = asked_fewer

pub returns-clause-quantifiers : goal.returns-clause-quantifiers
returns-clause-quantifiers c = asked_quantifiers
