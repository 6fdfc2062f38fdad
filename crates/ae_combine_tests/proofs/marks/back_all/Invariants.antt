use Rattle.std.specs.List.{AllByRecursion}
use Rattle.ae_state.specs.Fitting.{FitsStore}
use Rattle.ae_combine_tests.specs.Marked.{IsMarkedAtFirst}
use Rattle.ae_combine_tests.proofs.marks.back_all.Given as goal

abbrev pub invariant-loop-place : goal.invariant-loop-place
invariant-loop-place g l = FitsStore l.state l.store × AllByRecursion (IsMarkedAtFirst l.state) l.marks
