use Rattle.std.proofs.Common.{refl}
use Rattle.ae_gaps.proofs.FirstPlaces.{placed_first, placed_again}
use Rattle.ae_gaps.proofs.orders.noted_here.Goals as goal

pub returns-in-Some-clause-placed : goal.returns-in-Some-clause-placed
returns-in-Some-clause-placed c lines x w p = placed_again lines x c.args.place p c.in-Some.field-0 w c.in-Some.is

pub returns-in-None-clause-placed : goal.returns-in-None-clause-placed
returns-in-None-clause-placed c lines x w p = placed_first lines x c.args.place p _ w c.in-None.is refl refl
