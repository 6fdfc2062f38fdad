-- A node's parts stand among fewer nodes.
use Rattle.std.proofs.Common.{◌≡◌, ◌+◌, ◌*◌, ◌++◌, drop, length}
use Rattle.ae_elab.specs.Elaboration.{◌|>◌, leaf, terms_cases, triggers_in}
use Rattle.ae_elab.specs.Nodes.{entries_of, patterns_at, trees_at}
use Rattle.ae_lifting.specs.Lifting.{cases_of}
use Rattle.ae_types.specs.Bound.{bound}
use Rattle.ae_translation.proofs.translation.+translation.Given as goal

abbrev pub decreases-cases_boxed : goal.decreases-cases_boxed
decreases-cases_boxed l = length l.nodes.now * 8 + 1

abbrev pub decreases-node_cases : goal.decreases-node_cases
decreases-node_cases l = length l.nodes.now * 8 + 4

abbrev pub decreases-all_cases : goal.decreases-all_cases
decreases-all_cases l = length l.nodes.now * 8 + 2

abbrev pub decreases-formula_boxed : goal.decreases-formula_boxed
decreases-formula_boxed l = length l.nodes.now * 8 + 1

abbrev pub decreases-node_formula : goal.decreases-node_formula
decreases-node_formula l = length l.nodes.now * 8 + 4

abbrev pub decreases-holds_at : goal.decreases-holds_at
decreases-holds_at l = length l.nodes.now * 8 + 2

abbrev pub decreases-node_holds : goal.decreases-node_holds
decreases-node_holds l = length l.nodes.now * 8 + 5

abbrev pub decreases-triggers_at : goal.decreases-triggers_at
decreases-triggers_at l = length l.nodes.now * 8 + 3

abbrev pub invariant-all_cases-loop-place : goal.invariant-all_cases-loop-place
invariant-all_cases-loop-place l =
    (cases_of l.all |> λ us. terms_cases (bound l.bindings) l.bound (trees_at (entries_of l.nodes) (drop l.place-index l.places)) |> λ vs. leaf (us ++ vs))
    ≡ terms_cases (bound l.bindings) l.bound (trees_at (entries_of l.nodes) l.places)

abbrev pub invariant-triggers_at-loop-pattern : goal.invariant-triggers_at-loop-pattern
invariant-triggers_at-loop-pattern l =
    l.all ++ triggers_in (bound l.bindings) l.bound (patterns_at (entries_of l.nodes) (drop l.pattern-index l.patterns))
    ≡ triggers_in (bound l.bindings) l.bound (patterns_at (entries_of l.nodes) l.patterns)
