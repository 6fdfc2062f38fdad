-- Marks go on fitting.
use Rattle.std.specs.Prelude.{List}
use Rattle.std.specs.List.{AllByRecursion}
use Rattle.ae_base.proofs.AllOf.{all_weaker}
use Rattle.ae_combine.specs.declared.state.Mark.{Mark}
use Rattle.ae_combine.specs.Marks.{IsMarkOf}
use Rattle.ae_state.specs.declared.holding.Holding.{Holding}
use Rattle.ae_combine_tests.specs.Marked.{IsMarkedAtFirst}

pub all_marked : (o p : Holding) (marks : List Mark) → ((m : Mark) (then : Holding) → IsMarkOf o m then → IsMarkOf p m then) → AllByRecursion (IsMarkedAtFirst o) marks → AllByRecursion (IsMarkedAtFirst p) marks
all_marked o p marks kept a = all_weaker (IsMarkedAtFirst o) (IsMarkedAtFirst p) (λ m h. (h.0, kept m h.0 h.1, h.2)) marks a
