use Rattle.std.specs.Prelude.{◌≡◌, pos, ◌<ℤ◌}
use Rattle.std.proofs.Common.{sym, subst, to_z, of_z}
use Rattle.std.proofs.lemmas.Int.{to_z-of_z}
use mir.Syntax.{w128}
use Rattle.ae_rules.specs.Lines.{at_most}
use Rattle.ae_numeric.specs.Inner.Sums.{IsSum}
use Rattle.ae_numeric.proofs.AllowedLaws.{le_of, le_counts}
use Rattle.ae_numeric.proofs.combinations.le_sum_allowed.Goals as goal

pub returns-clause-exact : goal.returns-clause-exact
returns-clause-exact c =
    let sig = c.args.signature.now in
    let earlier = c.args.earlier.now in
    let s = c.args.left.now in
    let t = c.args.right.now in
    let d = c.args.times in
    let ps = c.args.parts.now in
    let z : to_z w128 (of_z w128 c.args.times) ≡ c.args.times = to_z-of_z w128 c.args.times c.ranges.times in
    let sum : IsSum sig earlier (at_most s t) d ps = subst (λ d. IsSum sig earlier (at_most s t) d ps) z (c.in_ok-is_sum.ensures.exact.0 c.if-not-branch.false) in (
      λ e. le_of sig earlier s t d ps (subst (λ d. pos 0 <ℤ d) z (c.counts.ensures.0 e).0) (c.counts.ensures.0 e).1 sum,
      λ a. c.counts.ensures.1 (subst (λ d. pos 0 <ℤ d) (sym z) a.0, le_counts sig earlier s t d ps a),
    )
