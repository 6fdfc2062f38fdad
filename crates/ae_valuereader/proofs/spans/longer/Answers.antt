use Rattle.std.proofs.Common.{arith, refl, ◌+◌, ◌*◌, ◌-◌}
use Rattle.ae_valuereader.proofs.Spanning.{goes_by_far}
use Rattle.ae_valuereader.proofs.spans.longer.Goals as goal

pub returns-then-number-span-clause-none : goal.returns-then-number-span-clause-none
returns-then-number-span-clause-none c = goes_by_far c.args.span c.args.value c.args.byte (c.args.value * 10 + (c.args.byte - 48)) refl (omega arith)
