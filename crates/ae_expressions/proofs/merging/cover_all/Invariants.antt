use Rattle.std.proofs.Common.{ℕ, drop}
use Rattle.ae_core.specs.declared.terms.Sort.{Sort}
use Rattle.ae_elab.specs.Formulas.{covering_all}
use Rattle.ae_elab.specs.Nodes.{entries_of, patterns_at}
use Rattle.ae_elab.proofs.NameRules.{Follows}
use Rattle.ae_expressions.proofs.merging.cover_all.Given as goal

abbrev pub invariant-loop-trigger : goal.invariant-loop-trigger
invariant-loop-trigger l = (m : ℕ → Sort)
    → Follows (covering_all l.variables (patterns_at (entries_of l.nodes) l.triggers)) (covering_all l.variables (patterns_at (entries_of l.nodes) (drop l.trigger-index l.triggers))) m
