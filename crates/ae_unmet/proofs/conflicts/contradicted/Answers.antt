use Rattle.ae_conflicts.specs.declared.conflicts.Conflict.TheVariants as conflict
use Rattle.ae_unmet.proofs.Growth.{grown_pushed, own_pushed}
use Rattle.ae_unmet.proofs.OwnConflicts.{contradicted_there, contradicted_read, denied}
use Rattle.ae_unmet.proofs.conflicts.contradicted.Goals as goal

pub state_equal-requires-clause-same : goal.state_equal-requires-clause-same
state_equal-requires-clause-same c =
    (contradicted_read c.args.store.now c.args.held.now c.requires.taken c.args.literal c.requires.found _ c.in-Equal.left c.in-Equal.right c.in-Equal.ensures).value

pub returns-clause-grown : goal.returns-clause-grown
returns-clause-grown c =
    grown_pushed c.args.store.now c.args.held.now c.state_equal.new.held c.push_conflict.new.held c.state_equal.ensures.grown c.push_conflict.ensures.front c.push_conflict.ensures.others

pub returns-clause-own : goal.returns-clause-own
returns-clause-own c =
    let s = c.args.store.now in
    let o = c.args.held.now in
    let mid = c.state_equal.new.held in
    let l = c.in-Equal.left in
    let r = c.in-Equal.right in
    let step = c.in_ok-step-in-Equal.step in
    let w = contradicted_read s o c.requires.taken c.args.literal c.requires.found _ l r c.in-Equal.ensures in
    own_pushed s o mid c.push_conflict.new.held c.requires.taken c.state_equal.ensures.grown c.push_conflict.ensures.front c.push_conflict.ensures.others (conflict.Differ c.args.literal step)
    (denied s o c.requires.taken c.args.literal l r w mid.justs step c.in_ok-step-in-Equal.ensures.says) c.push_conflict.result c.push_conflict.ensures.at

pub unreachable-requires : goal.unreachable-requires
unreachable-requires c =
    let w = (contradicted_there c.args.store.now c.args.held.now c.requires.taken c.args.literal c.requires.found).said in
    let z = c.in-Atom.ensures _ w.there in
    cc z

pub unreachable-requires-in-Other : goal.unreachable-requires-in-Other
unreachable-requires-in-Other c =
    let w = (contradicted_there c.args.store.now c.args.held.now c.requires.taken c.args.literal c.requires.found).said in
    let z = c.in-Other.ensures _ w.there in
    cc z
