use Rattle.std.proofs.Common.{ap}
use Rattle.ae_sweeps.specs.Given.{entry_of}
use Rattle.ae_sweeps.proofs.pairs.both_gap.Goals as goal

pub returns-then-collapse-clause-some : goal.returns-then-collapse-clause-some
returns-then-collapse-clause-some c =
    λ sig nodes rep. record {
      first = c.args.one.now.entry;
      second = c.args.other.now.entry;
      pair = record { first = ap entry_of c.requires.one; second = ap entry_of c.requires.other; before = c.requires.before; symbols = c.requires.symbols };
      part = rw c.if-collapse.true at c.collapse.ensures;
    }

pub overlap_gap-requires-clause-apart : goal.overlap_gap-requires-clause-apart
overlap_gap-requires-clause-apart c = rw c.if-collapse.false at c.collapse.ensures
