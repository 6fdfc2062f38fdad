use Rattle.std.specs.Prelude.{[], ◌≤◌, ◌+◌, ◌*◌}
use Rattle.std.specs.List.{AllByRecursion}
use Rattle.ae_state.specs.Fitting.{FitsStore}
use Rattle.ae_state.specs.Stepping.{IsInStep}
use Rattle.ae_combine_tests.specs.Marked.{IsMarkedAtFirst}
use Rattle.ae_combine_tests.proofs.marks.mark_all.Given as goal

abbrev pub invariant-loop-number : goal.invariant-loop-number
invariant-loop-number g l = FitsStore l.state l.store × IsInStep l.state [] × AllByRecursion (IsMarkedAtFirst l.state) l.marks.items × (l.steps ≤ l.fn.steps + 16 * l.number)
