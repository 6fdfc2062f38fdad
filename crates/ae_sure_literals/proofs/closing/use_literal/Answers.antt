use Rattle.std.specs.Prelude.{Bool, List}
use Rattle.std.proofs.Common.{subst}
use Rattle.ae_sure_literals.proofs.Passing.{nothing_passes}
use Rattle.ae_sure_literals.proofs.Using.{marked_used}
use Rattle.ae_sure_literals.specs.Inner.Closing.{Forces, IsClosedAt, OthersFail}
use Rattle.ae_sure_literals.proofs.closing.use_literal.Goals as goal

pub returns-then-not-others_fail : goal.returns-then-not-others_fail
returns-then-not-others_fail c =
    let t = c.args.trail.now.assigned in
    let d = c.args.clause.now in
    let l = c.args.lit.now in
    let no : OthersFail t c.args.flags.now d l → ⊥ = subst (λ (fs : List Bool). OthersFail t fs d l → ⊥) c.as_slice.ensures c.if-not-others_fail.ensures in
    nothing_passes t (λ x js. Forces x js d) (λ fs. IsClosedAt t fs d l) c.args.flags.now (λ others holds. absurd (no others))

pub returns : goal.returns
returns c =
    let t = c.args.trail.now.assigned in
    let d = c.args.clause.now in
    let l = c.args.lit.now in
    let all : OthersFail t c.args.flags.now d l = subst (λ (fs : List Bool). OthersFail t fs d l) c.as_slice.ensures c.if-not-others_fail.ensures in
    marked_used t d l c.requires.among c.args.flags.now c.mark.new.flags c.requires.long all c.mark.result c.mark.ensures
