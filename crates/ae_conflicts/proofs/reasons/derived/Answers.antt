use Rattle.ae_store.specs.Shapes.{shapes}
use Rattle.ae_store.specs.Terms.{terms}
use Rattle.ae_just.proofs.BuiltSides.{built_lines}
use Rattle.ae_conflicts.proofs.Resting.{hyps_sorted, ends_with, some_lines, block_of}
use Rattle.ae_conflicts.proofs.reasons.derived.Goals as goal

pub returns-clause-allowed : goal.returns-clause-allowed
returns-clause-allowed c = c.in_ok-deriv.ensures.allowed

pub returns-clause-sorted : goal.returns-clause-sorted
returns-clause-sorted c = hyps_sorted c.args.store.now.signature (terms (shapes c.args.store.now.nodes)) c.args.justs.now c.requires.fits c.args.step c.in_ok-deriv.deriv c.in_ok-deriv.ensures

pub returns-clause-some : goal.returns-clause-some
returns-clause-some c = some_lines c.args.store.now.signature (terms (shapes c.args.store.now.nodes)) c.args.justs.now c.requires.fits c.args.step c.in_ok-deriv.deriv c.in_ok-deriv.ensures

pub returns-clause-stated : goal.returns-clause-stated
returns-clause-stated c = λ s e. ends_with c.args.store.now.signature (terms (shapes c.args.store.now.nodes)) c.args.justs.now c.requires.fits c.args.step c.in_ok-deriv.deriv c.in_ok-deriv.ensures s e

pub returns-clause-tags : goal.returns-clause-tags
returns-clause-tags c = λ held r.
    block_of c.args.store.now.signature (terms (shapes c.args.store.now.nodes)) c.args.justs.now c.requires.fits c.args.step c.in_ok-deriv.deriv c.in_ok-deriv.ensures c.in_ok-tags.tags c.in_ok-tags.ensures held r

pub returns-clause-built : goal.returns-clause-built
returns-clause-built c = built_lines c.args.store.now.signature (terms (shapes c.args.store.now.nodes)) c.args.justs.now c.args.step c.in_ok-deriv.deriv c.requires.fits c.in_ok-deriv.ensures
