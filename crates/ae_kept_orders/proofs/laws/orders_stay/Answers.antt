use Rattle.ae_kept_orders.proofs.Staying.{orders_stay}
use Rattle.ae_kept_orders.proofs.laws.orders_stay.Goals as goal

pub returns : goal.returns
returns c = orders_stay
