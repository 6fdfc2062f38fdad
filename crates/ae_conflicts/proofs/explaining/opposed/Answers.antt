use Rattle.std.proofs.Common.{sym, subst}
use Rattle.ae_store.specs.Shapes.{shapes}
use Rattle.ae_store.specs.Terms.{terms}
use Rattle.ae_pmap.specs.Forest.{present}
use Rattle.ae_conflicts.specs.Inner.Joining.{IsExplained}
use Rattle.ae_conflicts.proofs.Blocks.{opposed_block}
use Rattle.ae_conflicts.proofs.explaining.opposed.Goals as goal

pub returns : goal.returns
returns c =
    let sig = c.args.store.now.signature in
    let ts = terms (shapes c.args.store.now.nodes) in
    let held = present c.args.assumed.now in
    subst (λ e. IsExplained sig ts held e) (sym c.ended.ensures)
    (opposed_block sig (terms (shapes c.args.store.now.nodes)) c.args.justs.now held c.requires.fits c.args.positive c.args.negative c.args.steps.now
    c.in_ok-gathered.gathered c.requires.own c.in_ok-gathered.ensures)
