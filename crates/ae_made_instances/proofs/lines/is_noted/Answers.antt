use Rattle.std.specs.List.{Contains}
use Rattle.std.proofs.Common.{sym, subst}
use Rattle.ae_made_instances.proofs.lines.is_noted.Goals as goal

pub returns-then-is_line : goal.returns-then-is_line
returns-then-is_line c = subst (Contains c.args.lines.now) c.if-is_line.ensures (c.loop-i.i, c.loop-i-test.true, sym c.index-lines-i.is)
