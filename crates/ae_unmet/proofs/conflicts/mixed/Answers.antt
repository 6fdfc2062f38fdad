use Rattle.ae_conflicts.specs.declared.conflicts.Conflict.TheVariants as conflict
use Rattle.ae_unmet.proofs.Growth.{grown_pushed, own_pushed}
use Rattle.ae_unmet.proofs.OwnConflicts.{mixed_value, mixed_now}
use Rattle.ae_unmet.proofs.conflicts.mixed.Goals as goal

pub state_equal-requires-clause-same : goal.state_equal-requires-clause-same
state_equal-requires-clause-same c = mixed_value c.args.store.now c.args.held.now c.requires.taken c.args.first c.args.second c.requires.found

pub returns-clause-grown : goal.returns-clause-grown
returns-clause-grown c =
    grown_pushed c.args.store.now c.args.held.now c.state_equal.new.held c.push_conflict.new.held c.state_equal.ensures.grown c.push_conflict.ensures.front c.push_conflict.ensures.others

pub returns-clause-own : goal.returns-clause-own
returns-clause-own c =
    let s = c.args.store.now in
    let o = c.args.held.now in
    let mid = c.state_equal.new.held in
    let step = c.in_ok-step.step in
    own_pushed s o mid c.push_conflict.new.held c.requires.taken c.state_equal.ensures.grown c.push_conflict.ensures.front c.push_conflict.ensures.others (conflict.Mixed step)
    (mixed_now s o c.requires.taken c.args.first c.args.second c.requires.found mid.justs step c.in_ok-step.ensures.says) c.push_conflict.result c.push_conflict.ensures.at
