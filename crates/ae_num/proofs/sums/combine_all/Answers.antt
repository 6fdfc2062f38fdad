use Rattle.std.specs.Prelude.{◌≡◌, Some}
use Rattle.std.proofs.Common.{◌∙◌, rules}
use Rattle.std.proofs.lemmas.Int.{to_z-of_z}
use mir.Syntax.{w128}
use Rattle.ae_num.specs.declared.numbers.Wide.{Wide}
use Rattle.ae_num.specs.Forms.{first_wide}
use Rattle.ae_num.specs.Inner.Pairs.{all_steps}
use Rattle.ae_num.proofs.StepLaws.{wide_err}
use Rattle.ae_num.proofs.SumLaws.{combined_step, steps_step, steps_stop}
use Rattle.ae_num.proofs.sums.combine_all.Goals as goal

pub loop-pair-preserved : goal.loop-pair-preserved
loop-pair-preserved c =
    let a = c.in_ok-factor.ensures in
    let i = c.loop-pair.pair-index in
    record {
      so_far = combined_step c.args.rule c.args.pairs.now i _ _ _ _ _ c.loop-pair-test.true (to_z-of_z w128 c.in_ok-factor.factor (search rules) ∙ a.exact) c.in_ok-keep.ensures c.loop-pair.invariant.so_far;
      fits = steps_step c.args.rule c.args.pairs.now i _ c.loop-pair-test.true a.fits c.loop-pair.invariant.fits;
    }

pub returns-in_err-factor-clause-wide : goal.returns-in_err-factor-clause-wide
returns-in_err-factor-clause-wide c =
    let a = c.in_err-factor.ensures in
    wide_err c.from_residual.result c.in_err-factor.field-0.0 (λ (w : Wide). first_wide (all_steps c.args.rule c.args.pairs.now) ≡ Some w) c.from_residual.ensures.1
    (steps_stop c.args.rule c.args.pairs.now c.loop-pair.pair-index _ c.in_err-factor.field-0.0 c.loop-pair-test.true a.wide c.loop-pair.invariant.fits)
