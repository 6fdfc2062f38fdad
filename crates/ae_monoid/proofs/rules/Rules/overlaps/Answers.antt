use Rattle.std.proofs.Common.{sym}
use Rattle.ae_monoid.proofs.rules.Rules.overlaps.Goals as goal

pub overlap-requires-clause-first : goal.overlap-requires-clause-first
overlap-requires-clause-first c = c.self.invariant.are_rules.well c.args.first c.in-Some.one.now (sym c.in-Some.ensures.value)

pub overlap-requires-clause-second : goal.overlap-requires-clause-second
overlap-requires-clause-second c = c.self.invariant.are_rules.well c.args.second c.in-Some-get.other.now (sym c.in-Some-get.ensures.value)
