use Rattle.ae_store.specs.Shapes.{shapes}
use Rattle.ae_store.specs.Terms.{terms}
use Rattle.ae_pmap.specs.Forest.{present}
use Rattle.ae_conflicts.proofs.SeveralSteps.{none_gathered}
use Rattle.ae_conflicts.proofs.gathering.gather_all.Goals as goal

pub alone-requires : goal.alone-requires
alone-requires c = record { there = (_, c.requires.own.tag, c.requires.own.holds) }

pub alone-requires-2 : goal.alone-requires-2
alone-requires-2 c = record { there = (_, c.requires.own.other_tag, c.requires.own.fails) }

pub loop-at-init : goal.loop-at-init
loop-at-init c =
    none_gathered c.args.store.now.signature (terms (shapes c.args.store.now.nodes)) c.args.justs.now (present c.args.assumed.now) c.args.positive c.args.negative c.args.steps.now c.requires.own
    c.in_ok-first.first c.in_ok-second.second c.in_ok-derived.derived c.new-places.result
    c.in_ok-first.ensures.hyps c.in_ok-first.ensures.tags c.in_ok-first.ensures.lines c.in_ok-second.ensures.hyps c.in_ok-second.ensures.tags c.in_ok-second.ensures.lines c.in_ok-derived.ensures c.new-places.ensures
