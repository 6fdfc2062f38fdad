use Rattle.std.proofs.Common.{ℕ, ◌-◌, List, ◌++◌}
use Rattle.ae_core.specs.declared.terms.Sort.{Sort}
use Rattle.ae_elab.specs.Rules.{Passed, unknowns}
use Rattle.ae_elab.specs.Steps.{IsWalked}
use Rattle.ae_elab.proofs.term_steps.unknowns.Given as goal

-- what the rest comes to, the whole comes to with the unknowns so far
abbrev pub invariant-more : goal.invariant-more
invariant-more l =
    (m : ℕ → Sort) (q : Passed) (ss : List Sort) → IsWalked (unknowns (l.count - l._place)) m m l.passing q ss → IsWalked (unknowns l.count) m m l.fn.passing q (l.sorts ++ ss)
