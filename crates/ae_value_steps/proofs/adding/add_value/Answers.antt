use Rattle.std.specs.Prelude.{ℤ}
use Rattle.std.proofs.Common.{sym, subst}
use Rattle.std.proofs.lemmas.Int.{to_z-of_z}
use mir.Syntax.{w128}
use Rattle.ae_rules.specs.Built.{AreFactorsWithin}
use Rattle.ae_value_steps.proofs.adding.add_value.Goals as goal

pub add-requires-clause-built : goal.add-requires-clause-built
add-requires-clause-built c = (c.requires.numbers, c.requires.numbers)

pub add-requires-clause-factors : goal.add-requires-clause-factors
add-requires-clause-factors c = subst (λ (z : ℤ). AreFactorsWithin z c.args.parts) (sym (to_z-of_z w128 c.args.times c.ranges.times)) c.requires.factors
