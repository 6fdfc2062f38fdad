use Rattle.std.proofs.lemmas.Option.{slice_get_within}
use Rattle.ae_journal.proofs.Splits.{contains_at}
use Rattle.ae_store.specs.Shapes.{shapes}
use Rattle.ae_store.specs.Terms.{terms}
use Rattle.ae_bound_solve.proofs.OneSort.{one_sort}
use Rattle.ae_bound_solve.proofs.refuted.refuted.Goals as goal

pub is_real-real-requires-clause-place : goal.is_real-real-requires-clause-place
is_real-real-requires-clause-place c = slice_get_within c.args.rows.now c.args.place c.requires.refuted.row c.requires.refuted.at

pub is_real-real-requires-clause-given : goal.is_real-real-requires-clause-given
is_real-real-requires-clause-given c k tag r at e = let g = c.requires.given r tag (contains_at c.args.rows.now k r at) e in slice_get_within c.args.given.now tag g.0 g.1

pub explain-requires-clause-given : goal.explain-requires-clause-given
explain-requires-clause-given c =
    let q = c.requires in
    let s = one_sort c.args.store.now.signature (terms (shapes c.args.store.now.nodes)) c.args.rows.now c.args.given.now q.founded q.were_rounded q.given q.opaque c.args.place q.refuted.row q.refuted.at in
    (s.2 c.is_real-real.result (c.is_real-real.ensures s.0 s.1)).0

pub explain-requires-clause-opaque : goal.explain-requires-clause-opaque
explain-requires-clause-opaque c =
    let q = c.requires in
    let s = one_sort c.args.store.now.signature (terms (shapes c.args.store.now.nodes)) c.args.rows.now c.args.given.now q.founded q.were_rounded q.given q.opaque c.args.place q.refuted.row q.refuted.at in
    (s.2 c.is_real-real.result (c.is_real-real.ensures s.0 s.1)).1
