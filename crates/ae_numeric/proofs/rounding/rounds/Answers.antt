use Rattle.std.specs.Prelude.{◌≡◌, [], Some}
use Rattle.std.proofs.Common.{subst}
use Rattle.ae_math.specs.Forms.{minus}
use Rattle.ae_num.specs.declared.numbers.Wide.{Wide}
use Rattle.ae_num.specs.Forms.{first_wide}
use Rattle.ae_num.proofs.StepLaws.{same_err, first_wide-some}
use Rattle.ae_rules.specs.Linear.{form}
use Rattle.ae_rules.specs.Lines.{Fact, at_most}
use Rattle.ae_numeric.specs.Stated.{computed, subtracted, taken_down, round_steps}
use Rattle.ae_numeric.specs.Computing.{IsFormOf, IsResult}
use Rattle.ae_numeric.specs.Inner.Rounding.{lowered}
use Rattle.ae_numeric.proofs.Meanings.{kept_form}
use Rattle.ae_numeric.proofs.RoundingLaws.{rounded_quotient, quotient_rounded}
use Rattle.ae_numeric.proofs.RoundingSteps.{two_fit, second_wide}
use Rattle.ae_numeric.proofs.rounding.rounds.Goals as goal

pub returns-in_err-gap-clause-wide : goal.returns-in_err-gap-clause-wide
returns-in_err-gap-clause-wide c =
    let from : Fact = record { relation = c.args.relation; left = c.args.low.now; right = c.args.high.now } in
    let to = at_most c.args.left.now c.args.right.now in
    let a = taken_down c.args.relation (subtracted (computed c.args.high.now) (computed c.args.low.now)) in
    let b = subtracted (computed c.args.right.now) (computed c.args.left.now) in
    same_err c.from_residual.result c.in_err-gap.field-0.0 (λ (w : Wide). first_wide (a c.new-keys.result).steps ≡ Some w) (λ (w : Wide). first_wide (round_steps from to) ≡ Some w)
    c.from_residual.ensures.1 (λ w e. first_wide-some (a []).steps (b (a []).keys).steps w (subst (λ ks. first_wide (a ks).steps ≡ Some w) c.new-keys.ensures e)) c.in_err-gap.ensures.wide

pub returns-in_err-rounded-clause-wide : goal.returns-in_err-rounded-clause-wide
returns-in_err-rounded-clause-wide c =
    let from : Fact = record { relation = c.args.relation; left = c.args.low.now; right = c.args.high.now } in
    let to = at_most c.args.left.now c.args.right.now in
    let a = taken_down c.args.relation (subtracted (computed c.args.high.now) (computed c.args.low.now)) in
    let b = subtracted (computed c.args.right.now) (computed c.args.left.now) in
    let middle = c.gap_of.new.keys in
    let x = c.in_ok-gap.gap in
    let r : IsResult a [] middle x = subst (λ ks. IsResult a ks middle x) c.new-keys.ensures c.in_ok-gap.ensures.result in
    same_err c.from_residual-in_err-rounded.result c.in_err-rounded.field-0.0 (λ (w : Wide). first_wide (b middle).steps ≡ Some w) (λ (w : Wide). first_wide (round_steps from to) ≡ Some w)
    c.from_residual-in_err-rounded.ensures.1 (second_wide a b [] middle x r) c.in_err-rounded.ensures.wide

pub returns-clause-exact : goal.returns-clause-exact
returns-clause-exact c =
    let from = minus (form c.args.high.now) (form c.args.low.now) in
    let to = minus (form c.args.right.now) (form c.args.left.now) in
    let x = c.in_ok-gap.gap in
    let y = c.in_ok-rounded.rounded in
    let ks = c.difference.new.keys in
    let j = c.in_ok-rounded.ensures.meaning in
    let i : IsFormOf ks x (lowered c.args.relation from) = kept_form c.gap_of.new.keys ks x (lowered c.args.relation from) j.distinct c.in_ok-rounded.ensures.kept c.in_ok-gap.ensures.meaning in
    (λ t. quotient_rounded c.args.relation ks x y from to i j (c.is_quotient.ensures.0 t), λ r. c.is_quotient.ensures.1 (rounded_quotient c.args.relation ks x y from to i j r))

pub returns-clause-fits : goal.returns-clause-fits
returns-clause-fits c =
    let a = taken_down c.args.relation (subtracted (computed c.args.high.now) (computed c.args.low.now)) in
    let b = subtracted (computed c.args.right.now) (computed c.args.left.now) in
    let middle = c.gap_of.new.keys in
    let x = c.in_ok-gap.gap in
    let r : IsResult a [] middle x = subst (λ ks. IsResult a ks middle x) c.new-keys.ensures c.in_ok-gap.ensures.result in
    two_fit a b [] middle x r c.difference.new.keys c.in_ok-rounded.rounded c.in_ok-rounded.ensures.result
