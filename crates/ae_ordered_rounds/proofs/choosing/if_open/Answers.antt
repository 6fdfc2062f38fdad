use Rattle.std.proofs.Common.{refl}
use Rattle.ae_ordered_rounds.proofs.Asking.{where_false}
use Rattle.ae_ordered_rounds.proofs.choosing.if_open.Goals as goal

pub returns : goal.returns
returns c = (refl, where_false _ _ c.in_ok-ordered.ordered c.if-ordered.false c.in_ok-ordered.ensures)
