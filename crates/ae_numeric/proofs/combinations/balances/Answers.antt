use Rattle.std.specs.Prelude.{◌≡◌, pos, Some}
use Rattle.std.proofs.Common.{subst, to_z, of_z}
use Rattle.std.proofs.lemmas.Int.{to_z-of_z}
use mir.Syntax.{w128}
use Rattle.ae_math.specs.Forms.{scale}
use Rattle.ae_num.specs.Forms.{first_wide, IfWide}
use Rattle.ae_rules.specs.Linear.{Linear}
use Rattle.ae_rules.specs.Lines.{Fact}
use Rattle.ae_math.specs.Fractions.{whole}
use Rattle.ae_numeric.specs.Stated.{scaled, sum_steps}
use Rattle.ae_numeric.specs.Computing.{IsResult, IsFormOf, IsWideIn}
use Rattle.ae_numeric.specs.Inner.Sums as spec
use Rattle.ae_numeric.proofs.SumLaws.{own_wide, rest_wide, all_fit, balance_exact}
use Rattle.ae_numeric.proofs.Computations.{err_is}
use Rattle.ae_numeric.proofs.combinations.balances.Goals as goal

pub returns-in_err-own-clause-wide : goal.returns-in_err-own-clause-wide
returns-in_err-own-clause-wide c =
    let r = c.args.relation in
    let fact : Fact = record { relation = r; left = c.args.left.now; right = c.args.right.now } in
    let fs = spec.facts_of c.args.earlier.now c.args.parts.now in
    let e = c.in_err-own.field-0.0 in
    let z : to_z w128 (of_z w128 c.args.times) ≡ c.args.times = to_z-of_z w128 c.args.times c.ranges.times in
    err_is c.from_residual.result e (λ e. IfWide e (λ w. first_wide (sum_steps (spec.summed r) c.args.times fact fs) ≡ Some w)) c.from_residual.ensures.1
    (own_wide (spec.summed r) c.args.times fact fs c.new-keys.result c.new-keys.ensures e (subst (λ t. IsWideIn (scaled t (pos 1) (spec.summed r fact)) c.new-keys.result e) z c.in_err-own.ensures.wide))

pub returns-in_err-sum-clause-wide : goal.returns-in_err-sum-clause-wide
returns-in_err-sum-clause-wide c =
    let r = c.args.relation in
    let fact : Fact = record { relation = r; left = c.args.left.now; right = c.args.right.now } in
    let fs = spec.facts_of c.args.earlier.now c.args.parts.now in
    let e = c.in_err-sum.field-0.0 in
    let z : to_z w128 (of_z w128 c.args.times) ≡ c.args.times = to_z-of_z w128 c.args.times c.ranges.times in
    err_is c.from_residual-in_err-sum.result e (λ e. IfWide e (λ w. first_wide (sum_steps (spec.summed r) c.args.times fact fs) ≡ Some w)) c.from_residual-in_err-sum.ensures.1
    (rest_wide (spec.summed r) c.args.times fact fs c.new-keys.result c.new-keys.ensures c.scaled_difference.new.keys c.in_ok-own.own e
    (subst (λ t. IsResult (scaled t (pos 1) (spec.summed r fact)) c.new-keys.result c.scaled_difference.new.keys c.in_ok-own.own) z c.in_ok-own.ensures.result) c.in_err-sum.ensures.wide)

pub returns-clause-exact : goal.returns-clause-exact
returns-clause-exact c =
    let r = c.args.relation in
    let fs = spec.facts_of c.args.earlier.now c.args.parts.now in
    let a : Linear = spec.meant r c.args.left.now c.args.right.now in
    let z : to_z w128 (of_z w128 c.args.times) ≡ c.args.times = to_z-of_z w128 c.args.times c.ranges.times in
    balance_exact c.same_form.result c.scaled_difference.new.keys c.sum_of_parts.new.keys c.in_ok-own.own c.in_ok-sum.sum (scale (whole c.args.times) a) (spec.meant_sum r fs)
    (subst (λ t. IsFormOf c.scaled_difference.new.keys c.in_ok-own.own (scale (whole t) a)) z c.in_ok-own.ensures.meaning) c.in_ok-sum.ensures.meaning c.in_ok-sum.ensures.kept c.same_form.ensures

pub returns-clause-fits : goal.returns-clause-fits
returns-clause-fits c =
    let r = c.args.relation in
    let fact : Fact = record { relation = r; left = c.args.left.now; right = c.args.right.now } in
    let fs = spec.facts_of c.args.earlier.now c.args.parts.now in
    let z : to_z w128 (of_z w128 c.args.times) ≡ c.args.times = to_z-of_z w128 c.args.times c.ranges.times in
    all_fit (spec.summed r) c.args.times fact fs c.new-keys.result c.new-keys.ensures c.scaled_difference.new.keys c.sum_of_parts.new.keys c.in_ok-own.own c.in_ok-sum.sum
    (subst (λ t. IsResult (scaled t (pos 1) (spec.summed r fact)) c.new-keys.result c.scaled_difference.new.keys c.in_ok-own.own) z c.in_ok-own.ensures.result) c.in_ok-sum.ensures.result
