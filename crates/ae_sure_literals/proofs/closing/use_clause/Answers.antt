use Rattle.std.specs.Prelude.{◌+◌, Bool, take}
use Rattle.std.specs.List.{AllByRecursion}
use Rattle.std.proofs.Common.{◌∙◌, arith, subst, sym}
use Rattle.ae_sure_literals.proofs.Passing.{list_end, list_next, list_none}
use Rattle.ae_sure_literals.specs.Inner.Closing.{Forces, IsClosedAt, Passes}
use Rattle.ae_sure_literals.proofs.closing.use_clause.Goals as goal

pub loop-lit-init : goal.loop-lit-init
loop-lit-init c =
    let t = c.args.trail.now.assigned in
    let d = c.args.clause.now in
    list_none t (λ x js. Forces x js d) (λ x js. Forces x js d) (λ fs l. IsClosedAt t fs d l) d c.args.flags.now

pub use_literal-more-requires-clause-long : goal.use_literal-more-requires-clause-long
use_literal-more-requires-clause-long c = c.loop-lit.invariant.long ∙ c.requires.long

pub use_literal-more-requires-clause-among : goal.use_literal-more-requires-clause-among
use_literal-more-requires-clause-among c = (c.loop-lit.lit-index, omega arith, sym c.lit-item.is)

pub loop-lit-preserved : goal.loop-lit-preserved
loop-lit-preserved c =
    let t = c.args.trail.now.assigned in
    let d = c.args.clause.now in
    let i = c.loop-lit.lit-index in
    let now = c.use_literal-more.new.flags in
    subst (λ (b : Bool). Passes t (λ x js. Forces x js d) (λ fs. AllByRecursion (IsClosedAt t fs d) (take (i + 1) d)) c.args.flags.now now b) (sym c.one_of-changed.ensures)
    (list_next t (λ x js. Forces x js d) (λ x js. Forces x js d) (λ fs l. IsClosedAt t fs d l) d i c.lit-item.result c.args.flags.now c.loop-lit.flags now c.loop-lit.changed c.use_literal-more.result
    (omega arith) c.lit-item.is (λ x js h. h) c.loop-lit.invariant c.use_literal-more.ensures)

pub returns : goal.returns
returns c =
    let t = c.args.trail.now.assigned in
    let d = c.args.clause.now in
    list_end t (λ x js. Forces x js d) (λ x js. Forces x js d) (λ fs l. IsClosedAt t fs d l) d c.loop-lit.lit-index c.args.flags.now c.loop-lit.flags c.loop-lit.changed (omega arith) c.loop-lit.invariant
