use Rattle.std.proofs.lemmas.Option.{slice_get_within}
use Rattle.ae_store.specs.Shapes.{shapes}
use Rattle.ae_store.specs.Terms.{terms}
use Rattle.ae_bound_blocks.specs.Said.{kept}
use Rattle.ae_bound_blocks.proofs.Ending.{given_long, given_ends}
use Rattle.ae_bound_blocks.proofs.explaining.explain.Goals as goal

pub derive-requires-clause-place : goal.derive-requires-clause-place
derive-requires-clause-place c = slice_get_within c.args.rows.now c.args.place c.requires.refuted.row c.requires.refuted.at

pub last_line-line-requires : goal.last_line-line-requires
last_line-line-requires c =
    let r = c.requires.refuted in
    let g = c.in_ok-grounds.grounds.given in
    record { some = given_long c.args.store.now.signature (terms (shapes c.args.store.now.nodes)) c.args.real (kept r.row) g (c.in_ok-grounds.ensures.said r.row r.at) }

pub returns-clause-contradictory : goal.returns-clause-contradictory
returns-clause-contradictory c =
    let r = c.requires.refuted in
    let g = c.in_ok-grounds.grounds.given in
    let w = c.in_ok-grounds.ensures.said r.row r.at in
    (w.allowed, given_ends c.args.store.now.signature (terms (shapes c.args.store.now.nodes)) c.args.real (kept r.row) g c.last_line-line.result w r.refuted c.last_line-line.ensures)

pub returns-clause-tags : goal.returns-clause-tags
returns-clause-tags c = c.in_ok-grounds.ensures.tags

pub returns-clause-hyps : goal.returns-clause-hyps
returns-clause-hyps c = c.in_ok-grounds.ensures.hyps

pub returns-clause-built : goal.returns-clause-built
returns-clause-built c = let r = c.requires.refuted in (c.in_ok-grounds.ensures.said r.row r.at).built
