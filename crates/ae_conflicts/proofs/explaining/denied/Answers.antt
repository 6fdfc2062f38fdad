use Rattle.std.proofs.Common.{◌-◌, sym, ap, subst}
use Rattle.std.proofs.lemmas.Option.{slice_get_within}
use Rattle.ae_store.specs.Shapes.{shapes}
use Rattle.ae_store.specs.Terms.{terms}
use Rattle.ae_pmap.specs.Forest.{present}
use Rattle.ae_conflicts.specs.Inner.Joining.{IsFrom, IsExplained}
use Rattle.ae_conflicts.proofs.Blocks.{denied_block}
use Rattle.ae_conflicts.proofs.explaining.denied.Goals as goal

pub derived-requires-clause-step : goal.derived-requires-clause-step
derived-requires-clause-step c = slice_get_within c.args.justs.now c.args.step (c.requires.own.says).step (c.requires.own.says).is

pub alone-requires : goal.alone-requires
alone-requires c = record { there = (_, c.requires.own.tag, c.requires.own.denied) }

pub returns : goal.returns
returns c =
    let sig = c.args.store.now.signature in
    let ts = terms (shapes c.args.store.now.nodes) in
    let held = present c.args.assumed.now in
    let d = c.in_ok-first.ensures in
    let from : IsFrom sig ts held c.in_ok-first.first = record { allowed = d.allowed; sorted = d.sorted; built = d.built; tags = d.tags held (c.requires.own.says).rests } in
    subst (λ e. IsExplained sig ts held e) (sym c.ended.ensures)
    (denied_block sig (terms (shapes c.args.store.now.nodes)) c.args.justs.now held c.requires.fits c.args.step c.in_ok-first.first _ from d.stated (ap (λ n. n - 1) c.len-line.ensures) c.args.literal _ c.in_ok-second.second
    c.in_ok-all.all c.requires.own c.in_ok-second.ensures.hyps c.in_ok-second.ensures.tags c.in_ok-second.ensures.lines c.in_ok-all.ensures c.len-hyp.ensures)
