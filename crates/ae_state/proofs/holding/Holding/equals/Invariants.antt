use Rattle.ae_value_table.specs.Alike.{alike}
use Rattle.ae_theory.proofs.Finding.{AreFound}
use Rattle.ae_state.proofs.holding.Holding.equals.Given as goal

abbrev pub invariant-loop-other : goal.invariant-loop-other
invariant-loop-other l = AreFound (λ n. alike l.self.values l.name n) l.names l.other
