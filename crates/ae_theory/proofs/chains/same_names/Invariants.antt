use Rattle.std.specs.Prelude.{nat_eq}
use Rattle.ae_theory.specs.Paths.{list_at}
use Rattle.ae_theory.specs.Classes.{class_of}
use Rattle.ae_theory.proofs.Finding.{AreFound}
use Rattle.ae_theory.proofs.chains.same_names.Given as goal

abbrev pub invariant-loop-other : goal.invariant-loop-other
invariant-loop-other l = AreFound (λ n. nat_eq (class_of (list_at l.nodes l.place) l.name) (class_of (list_at l.nodes l.place) n)) l.names l.other
