use Rattle.std.proofs.Common.{rules, ◌≡◌, subst, to_z, of_z, ℤ, Some, None}
use Rattle.std.proofs.lemmas.Int.{to_z-of_z}
use mir.Syntax.{w128}
use Rattle.ae_num.specs.Forms.{first_wide, IfWide, scale_steps}
use Rattle.ae_journal.specs.declared.answers.NumStep.TheVariants.{Scale}
use Rattle.ae_ineq.specs.declared.steps.PointFail.TheVariants.{Wide}
use Rattle.ae_ineq.proofs.StepLaws.{step_wide}
use Rattle.ae_ineq.proofs.steps.multiplied.Goals as goal

pub returns-in-Err-clause-wide : goal.returns-in-Err-clause-wide
returns-in-Err-clause-wide c =
    let l = c.args.number in
    let r = c.args.by in
    let f = c.in-Err.fail in
    λ w e.
    let h : c.failed.result ≡ Wide w = cc in
    step_wide Scale l None r w f (c.failed.ensures.step w h) (c.failed.ensures.wide w h) c.requires.number.normal c.requires.by.normal
    (subst (λ (z : ℤ). IfWide f (λ wide. first_wide (scale_steps z r.den l) ≡ Some wide)) (to_z-of_z w128 r.constant (search rules))
    (subst (λ (z : ℤ). IfWide f (λ wide. first_wide (scale_steps (to_z w128 (of_z w128 r.constant)) z l) ≡ Some wide)) (to_z-of_z w128 r.den (search rules)) c.in-Err.ensures.wide))
