use Rattle.std.specs.Prelude.{suc}
use Rattle.std.proofs.Common.{◌≡◌, ◌+◌, arith, rules, refl, length}
use Rattle.ae_store.specs.Shapes.{shapes}
use Rattle.ae_store.specs.Terms.{terms}
use Rattle.ae_bounds.specs.declared.rows.Unrounded.{Unrounded}
use Rattle.ae_bound_blocks.proofs.Adding.{given_some, given_after}
use Rattle.ae_bound_blocks.proofs.Sorting.{parts_within}
use Rattle.ae_bound_blocks.proofs.emitting.after_given.Goals as goal

pub row_line-requires : goal.row_line-requires
row_line-requires c = record { within = parts_within c.args.store.now.signature (terms (shapes c.args.store.now.nodes)) c.args.real c.args.form.now.parts c.requires.given.numbers }

pub last_line-from-requires : goal.last_line-from-requires
last_line-from-requires c =
    let u : Unrounded = record { lin = c.args.form.now; strict = c.args.strict } in
    record { some = given_some c.args.store.now.signature (terms (shapes c.args.store.now.nodes)) c.args.real u c.args.given.now c.requires.given c.args.deriv c.in_ok-both.both c.in_ok-both.ensures.lines }

pub returns-clause-said : goal.returns-clause-said
returns-clause-said c =
    let sig = c.args.store.now.signature in
    let ts = terms (shapes c.args.store.now.nodes) in
    let u : Unrounded = record { lin = c.args.form.now; strict = c.args.strict } in
    let both = c.in_ok-both.both in
    let w = c.in_ok-both.ensures in
    let from = c.last_line-from.result in
    let s : suc from ≡ length both.lines = c.last_line-from.ensures in
    let at : from + 1 ≡ length both.lines = omega (arith, s) in
    given_after sig ts c.args.real u c.args.given.now c.requires.given c.args.deriv both w.lines _ from c.requires.normal w.before w.after w.factors (w.allowed sig c.requires.allowed c.requires.given.allowed) at refl (search rules)
