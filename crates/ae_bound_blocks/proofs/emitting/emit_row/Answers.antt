use Rattle.std.proofs.Common.{arith, rules, refl}
use Rattle.ae_store.specs.Shapes.{shapes}
use Rattle.ae_store.specs.Terms.{terms}
use Rattle.ae_bound_blocks.proofs.OneMore.{emitted_skip}
use Rattle.ae_bound_blocks.proofs.emitting.emit_row.Goals as goal

pub bounds-marks-place : goal.bounds-marks-place
bounds-marks-place c = let w = c.requires.place in let s = c.requires.ready.size in omega (arith, w, s)

pub add_row-requires-clause-marked : goal.add_row-requires-clause-marked
add_row-requires-clause-marked c = c.if-is_marked.true

pub returns : goal.returns
returns c =
    emitted_skip c.args.store.now.signature (terms (shapes c.args.store.now.nodes)) c.args.real c.args.rows.now c.args.given.now c.args.marks.now c.args.place c.args.emitted _ c.requires.emitted c.if-is_marked.false refl refl refl
    (search rules)
