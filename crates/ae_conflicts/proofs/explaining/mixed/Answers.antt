use Rattle.std.proofs.Common.{◌-◌, sym, ap, subst}
use Rattle.ae_store.specs.Shapes.{shapes}
use Rattle.ae_store.specs.Terms.{terms}
use Rattle.ae_conflicts.specs.Inner.Joining.{IsFrom, IsExplained}
use Rattle.ae_conflicts.proofs.Blocks.{mixed_block}
use Rattle.ae_conflicts.proofs.explaining.mixed.Goals as goal

pub returns : goal.returns
returns c = λ held own.
    let sig = c.args.store.now.signature in
    let ts = terms (shapes c.args.store.now.nodes) in
    let d = c.in_ok-all.ensures in
    let from : IsFrom sig ts held c.in_ok-all.all = record { allowed = d.allowed; sorted = d.sorted; built = d.built; tags = d.tags held (own.says).rests } in
    subst (λ e. IsExplained sig ts held e) (sym c.ended.ensures)
    (mixed_block sig (terms (shapes c.args.store.now.nodes)) c.args.justs.now held c.requires.fits c.args.step c.in_ok-all.all _ from d.stated (ap (λ n. n - 1) c.len-line.ensures) own)
