use Rattle.ae_store.specs.Shapes.{shapes}
use Rattle.ae_store.specs.Terms.{terms}
use Rattle.ae_short_derivations.proofs.Carrying.{put_allowed, put_factors}
use Rattle.ae_short_derivations.proofs.Kept.{kept_added}
use Rattle.ae_short_derivations.proofs.shortening.put.Goals as goal

pub add-requires-clause-allowed : goal.add-requires-clause-allowed
add-requires-clause-allowed c =
    put_allowed c.args.store.now.signature (terms (shapes c.args.store.now.nodes)) c.args.places.needed.now c.args.places.kept.now c.args.kept.now c.args.step.now c.requires.keepable c.in_ok-left.left c.in_ok-right.right
    c.in_ok-rule.rule c.in_ok-rule.ensures c.in_ok-left.ensures c.in_ok-right.ensures

pub add-requires-clause-factors : goal.add-requires-clause-factors
add-requires-clause-factors c =
    put_factors c.args.store.now.signature (terms (shapes c.args.store.now.nodes)) c.args.places.needed.now c.args.places.kept.now c.args.kept.now c.args.step.now c.requires.keepable c.in_ok-rule.rule c.in_ok-rule.ensures

pub returns : goal.returns
returns c =
    kept_added c.args.store.now.signature (terms (shapes c.args.store.now.nodes)) c.args.places.needed.now c.args.places.kept.now c.args.kept.now c.add.new.self c.args.step.now c.in_ok-left.left c.in_ok-right.right
    c.in_ok-rule.rule c.add.result c.requires.keepable c.in_ok-rule.ensures c.in_ok-left.ensures c.in_ok-right.ensures c.add.ensures.ok c.add.ensures.number c.add.ensures.fits
