use Rattle.ae_turns.proofs.Counts.{unsolved_at_most}
use Rattle.ae_combine.proofs.state.State.new.Goals as goal

pub returns-clause-budget : goal.returns-clause-budget
returns-clause-budget c s n joins most =
    let e = c.in_ok-held.ensures in
    record { no_joins = joins; no_rules = e.rules; none_waits = e.waiting; unsolved = unsolved_at_most s c.in_ok-held.held.values n most }
