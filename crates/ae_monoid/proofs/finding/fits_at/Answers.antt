use Rattle.std.proofs.Common.{subst, sym}
use Rattle.std.specs.List.Sorted.{IsNonDecreasing}
use Rattle.ae_monoid.proofs.finding.fits_at.Goals as goal

pub part_of-requires-clause-small : goal.part_of-requires-clause-small
part_of-requires-clause-small g c = subst IsNonDecreasing (sym c.as_slice.ensures) (c.requires.rule c.in-Some.rule.now (sym c.in-Some.ensures.value))
