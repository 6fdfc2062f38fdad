use Rattle.std.proofs.Common.{◌≡◌}
use Rattle.ae_settled.specs.Held.{entries}
use Rattle.ae_sweeps.specs.Given.{entries_of}
use Rattle.ae_state.proofs.showing.all_rules.Given as goal

abbrev pub invariant-loop-number : goal.invariant-loop-number
invariant-loop-number l = l.rules ≡ entries (entries_of l.held) l.number
