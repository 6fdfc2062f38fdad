use Rattle.std.proofs.Common.{take}
use Rattle.ae_owed_matches.specs.Found.{AreFound}
use Rattle.ae_owed_matches.proofs.finding.found.Given as goal

abbrev pub invariant-loop-pattern : goal.invariant-loop-pattern
invariant-loop-pattern g l = AreFound l.store (g.E.Equalities.alike l.equalities) l.number (take l.pattern-index l.patterns) l.all
