use Rattle.std.specs.Prelude.{take}
use Rattle.ae_base.specs.Relations.{Pairwise}
use Rattle.ae_pmap.specs.Forest.{present}
use Rattle.ae_pmap.specs.Pairs.{found}
use Rattle.ae_monoid.specs.Changes.{IsEquationOf}
use Rattle.ae_monoid.proofs.pending.equations.Given as goal

abbrev pub invariant-loop-number : goal.invariant-loop-number
invariant-loop-number l = Pairwise (λ n pair. IsEquationOf (found (present l.kept) n) pair) (take l.number-index l.numbers) l.pairs
