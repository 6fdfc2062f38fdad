use Rattle.ae_kept_orders.proofs.Staying.{orders_begin}
use Rattle.ae_kept_orders.proofs.laws.orders_begin.Goals as goal

pub returns : goal.returns
returns c = orders_begin
