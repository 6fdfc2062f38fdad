use Rattle.std.proofs.Common.{refl}
use Rattle.ae_state.proofs.Explained.{steps_in_store}
use Rattle.ae_unmet.proofs.AssumedSteps.{assuming_allowed, assuming_states, assuming_rests_on}
use Rattle.ae_unmet.proofs.Growth.{front_none, pushed_front}
use Rattle.ae_unmet.proofs.OwnConflicts.{left_out_at}
use Rattle.ae_unmet.proofs.stating.state_literal.Goals as goal

pub add-requires-clause-allowed : goal.add-requires-clause-allowed
add-requires-clause-allowed c =
    let s = c.args.store.now in
    let o = c.args.held.now in
    let w = left_out_at s o c.requires.taken c.args.place c.requires.found c.args.left c.args.right c.requires.said in
    assuming_allowed s o c.args.place c.args.left c.args.right w.said c.tag_at-tag.result (c.tag_at-tag.ensures (w.said).entry (w.said).at) o.justs

pub add-requires-clause-fits : goal.add-requires-clause-fits
add-requires-clause-fits c = steps_in_store c.args.held.now c.args.store.now c.requires.taken.fits

pub returns-clause-grown : goal.returns-clause-grown
returns-clause-grown c =
    record {
      others = refl;
      justs = pushed_front c.args.held.now.justs c.add.new.self _ c.add.result c.add.ensures.ok c.add.ensures.err;
      conflicts = front_none c.args.held.now.conflicts;
      steps = c.add.ensures.fits;
    }

pub returns-clause-states : goal.returns-clause-states
returns-clause-states c =
    let s = c.args.store.now in
    let o = c.args.held.now in
    let w = left_out_at s o c.requires.taken c.args.place c.requires.found c.args.left c.args.right c.requires.said in
    assuming_states s o c.args.place c.args.left c.args.right w.said c.tag_at-tag.result (c.tag_at-tag.ensures (w.said).entry (w.said).at) o.justs c.add.new.self c.add.result c.add.ensures.ok c.add.ensures.number

pub returns-clause-rests : goal.returns-clause-rests
returns-clause-rests c =
    let s = c.args.store.now in
    let o = c.args.held.now in
    let w = left_out_at s o c.requires.taken c.args.place c.requires.found c.args.left c.args.right c.requires.said in
    assuming_rests_on s o c.args.place c.args.left c.args.right w.said c.tag_at-tag.result (c.tag_at-tag.ensures (w.said).entry (w.said).at) o.justs c.add.new.self c.add.result c.add.ensures.ok c.add.ensures.number

pub add-requires-clause-built : goal.add-requires-clause-built
add-requires-clause-built c = (tt, tt)

pub add-requires-clause-factors : goal.add-requires-clause-factors
add-requires-clause-factors c = tt
