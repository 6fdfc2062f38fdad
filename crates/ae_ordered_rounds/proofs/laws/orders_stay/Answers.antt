use Rattle.ae_solved_orders.proofs.Passed.{orders_stay}
use Rattle.ae_ordered_rounds.proofs.laws.orders_stay.Goals as goal

pub returns : goal.returns
returns c = λ p g o n k passes h. orders_stay p g o n k.kept passes h
