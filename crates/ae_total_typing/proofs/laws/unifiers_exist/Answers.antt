use Rattle.ae_total_typing.proofs.Unification.{unified}
use Rattle.ae_total_typing.proofs.laws.unifiers_exist.Goals as goal

pub returns : goal.returns
returns c = unified
