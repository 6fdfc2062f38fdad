use Rattle.ae_orderless.proofs.Forms.{orderless_literal}
use Rattle.ae_orderless.proofs.laws.orderless_formulas_are_no_orders.Goals as goal

pub returns : goal.returns
returns c = orderless_literal
