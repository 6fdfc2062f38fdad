use Rattle.std.specs.Prelude.{◌≡◌}
use Rattle.std.proofs.Common.{sym, ◌∙◌, subst, to_z, of_z}
use Rattle.std.proofs.lemmas.Int.{to_z-of_z}
use mir.Syntax.{w128}
use Rattle.ae_math.specs.Forms.{scale}
use Rattle.ae_rules.specs.Linear.{IsSame}
use Rattle.ae_rules.specs.Lines.{Fact}
use Rattle.ae_math.specs.Fractions.{whole}
use Rattle.ae_numeric.specs.Stated.{sum_steps}
use Rattle.ae_numeric.specs.Inner.Sums as spec
use Rattle.ae_num.proofs.Checks.{StepChecks}
use Rattle.ae_numeric.proofs.FitLaws.{fit_sorted, sum_not, sum_is}
use Rattle.ae_numeric.proofs.combinations.is_sum.Goals as goal

pub balances-requires : goal.balances-requires
balances-requires c =
    let fact : Fact = record { relation = c.args.relation; left = c.args.left.now; right = c.args.right.now } in
    fit_sorted c.args.signature.now fact c.args.earlier.now c.args.parts.now (sym c.in_ok-sum_fits.ensures ∙ c.if-not-branch.false)

pub returns-then-not-branch : goal.returns-then-not-branch
returns-then-not-branch c =
    let fact : Fact = record { relation = c.args.relation; left = c.args.left.now; right = c.args.right.now } in
    sum_not c.args.signature.now fact c.args.earlier.now c.args.parts.now c.args.times (sym c.in_ok-sum_fits.ensures ∙ c.if-not-branch.true)

pub returns : goal.returns
returns c =
    let r = c.args.relation in
    let fact : Fact = record { relation = r; left = c.args.left.now; right = c.args.right.now } in
    let fs = spec.facts_of c.args.earlier.now c.args.parts.now in
    let z : to_z w128 (of_z w128 c.args.times) ≡ c.args.times = to_z-of_z w128 c.args.times c.ranges.times in
    sum_is c.args.signature.now fact c.args.earlier.now c.args.parts.now c.args.times c.balances.result (sym c.in_ok-sum_fits.ensures ∙ c.if-not-branch.false)
    (subst (λ t. StepChecks (IsSame (scale (whole t) (spec.meant r fact.left fact.right)) (spec.meant_sum r fs)) (sum_steps (spec.summed r) t fact fs) c.balances.result) z c.balances.ensures)
