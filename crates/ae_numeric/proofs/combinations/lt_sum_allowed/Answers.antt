use Rattle.std.specs.Prelude.{◌≡◌, pos, ◌<ℤ◌}
use Rattle.std.proofs.Common.{sym, ◌∙◌, subst, true≢false, to_z, of_z}
use Rattle.std.proofs.lemmas.Int.{to_z-of_z}
use mir.Syntax.{w128}
use Rattle.ae_rules.specs.Lines.{below}
use Rattle.ae_numeric.specs.Inner.Sums.{IsSum}
use Rattle.ae_numeric.proofs.AllowedLaws.{lt_of, lt_counts, lt_some}
use Rattle.ae_numeric.proofs.combinations.lt_sum_allowed.Goals as goal

pub returns-then-counts-clause-exact : goal.returns-then-counts-clause-exact
returns-then-counts-clause-exact c =
    let sig = c.args.signature.now in
    let earlier = c.args.earlier.now in
    let s = c.args.left.now in
    let t = c.args.right.now in
    let d = c.args.times in
    let ps = c.args.parts.now in
    let z : to_z w128 (of_z w128 c.args.times) ≡ c.args.times = to_z-of_z w128 c.args.times c.ranges.times in
    let sum : IsSum sig earlier (below s t) d ps = subst (λ d. IsSum sig earlier (below s t) d ps) z (c.in_ok-is_sum.ensures.exact.0 c.if-not-branch.false) in
    let k = c.counts.ensures.0 c.if-counts.true in (
      λ e. lt_of sig earlier s t d ps (subst (λ d. pos 0 <ℤ d) z k.0) k.1 (sym c.some_strict.ensures ∙ e) sum,
      λ a. c.some_strict.ensures ∙ lt_some sig earlier s t d ps a,
    )

pub returns-else-counts-clause-exact : goal.returns-else-counts-clause-exact
returns-else-counts-clause-exact c =
    let sig = c.args.signature.now in
    let earlier = c.args.earlier.now in
    let s = c.args.left.now in
    let t = c.args.right.now in
    let d = c.args.times in
    let ps = c.args.parts.now in
    let z : to_z w128 (of_z w128 c.args.times) ≡ c.args.times = to_z-of_z w128 c.args.times c.ranges.times in (
      λ e. absurd (true≢false (sym e ∙ c.if-counts.false)),
      λ a. c.counts.ensures.1 (subst (λ d. pos 0 <ℤ d) (sym z) a.0, lt_counts sig earlier s t d ps a),
    )
