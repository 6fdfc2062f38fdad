use Rattle.ae_base.specs.Decided.{decided}
use Rattle.ae_base.proofs.Decided.{decided_of, decided_yes}
use Rattle.ae_system_checks.proofs.SaturatedTests.{decide_flat, saturated, flat}
use Rattle.ae_system_checks.proofs.laws.saturated_can_be_tested.Goals as goal

pub returns : goal.returns
returns c = λ bound. (
  λ p g st. decided (decide_flat p g st),
  λ p g st free. (λ e. saturated p g st free bound (decided_yes (decide_flat p g st) e), λ s. decided_of (decide_flat p g st) (flat p g st free bound s)),
)
