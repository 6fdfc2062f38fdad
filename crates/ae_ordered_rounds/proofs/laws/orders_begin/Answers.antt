use Rattle.ae_solved_orders.proofs.Passed.{orders_begin}
use Rattle.ae_ordered_rounds.proofs.laws.orders_begin.Goals as goal

pub returns : goal.returns
returns c = λ p g o k none is. orders_begin p g o k.kept none is
