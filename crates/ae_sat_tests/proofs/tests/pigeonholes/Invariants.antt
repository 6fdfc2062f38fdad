use Rattle.ae_sat.specs.Search.{AllNamed}
use Rattle.ae_sat_tests.proofs.tests.pigeonholes.Given as goal

abbrev pub invariant-loop-pigeon : goal.invariant-loop-pigeon
invariant-loop-pigeon l = AllNamed l.store l.clauses

abbrev pub invariant-loop-other : goal.invariant-loop-other
invariant-loop-other l = AllNamed l.store l.clauses
