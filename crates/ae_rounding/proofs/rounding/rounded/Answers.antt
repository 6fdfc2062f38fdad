use Rattle.std.proofs.Common.{rules, refl, ◌≡◌, ◌-ℤ◌, pos, true, cond, ◌∙◌, sym, ap, subst, ℤ, unsigned_abs, to_z, of_z}
use Rattle.std.proofs.lemmas.Int.{to_z-of_z}
use mir.Syntax.{w128}
use Rattle.ae_num.specs.Forms.{IsCommonDivisor}
use Rattle.ae_num.specs.Limits.{FitsLimits}
use Rattle.ae_core.specs.Sorts.{within}
use Rattle.ae_rules.specs.Lines.{IsFloor}
use Rattle.ae_journal.specs.Sides.{AreDivided}
use Rattle.ae_rounding.proofs.Quotients.{Factors, with_constant, outside_limits, inside_limits, floor_is}
use Rattle.ae_rounding.proofs.rounding.rounded.Goals as goal

pub returns-then-not-is_within-clause-none : goal.returns-then-not-is_within-clause-none
returns-then-not-is_within-clause-none c =
    let l = c.args.form.now in
    let d = c.in_ok-divisor.divisor in
    let r = c.floor_of-constant.result in
    record {
      divisor = unsigned_abs d;
      greatest = c.in_ok-divisor.ensures.common;
      constant = r;
      floor = floor_is c.args.strict l.constant (to_z w128 (of_z w128 l.constant)) c.slack_of.result (to_z w128 (of_z w128 c.slack_of.result)) d (to_z w128 (of_z w128 d)) r (to_z-of_z w128 l.constant (search rules))
          (to_z-of_z w128 c.slack_of.result (search rules)) (to_z-of_z w128 d (search rules)) c.slack_of.ensures c.floor_of-constant.ensures;
      outside = outside_limits r (sym (ap within (to_z-of_z w128 r (search rules))) ∙ sym c.is_within.ensures ∙ search rules);
    }

pub quotients-requires-clause-common : goal.quotients-requires-clause-common
quotients-requires-clause-common c =
    let d = c.in_ok-divisor.divisor in
    subst (λ (z : ℤ). IsCommonDivisor (Factors c.args.form.now.parts) (unsigned_abs z)) (sym (to_z-of_z w128 d (search rules))) c.in_ok-divisor.ensures.common

pub returns-clause-exact : goal.returns-clause-exact
returns-clause-exact c =
    let l = c.args.form.now in
    let d = c.in_ok-divisor.divisor in
    let r = c.floor_of-constant.result in
    let k : to_z w128 (of_z w128 d) ≡ d = to_z-of_z w128 d (search rules) in
    record {
      divisor = unsigned_abs d;
      whole = refl;
      divided = subst (λ (z : ℤ). AreDivided (unsigned_abs z) l.parts c.in_ok-parts.parts) k c.in_ok-parts.ensures.divided;
      greatest = c.in_ok-divisor.ensures.common;
      floor = subst (λ (z : ℤ). IsFloor (cond c.args.strict (l.constant -ℤ pos 1) l.constant) (unsigned_abs d) z) (sym (to_z-of_z w128 r (search rules)))
          (floor_is c.args.strict l.constant (to_z w128 (of_z w128 l.constant)) c.slack_of.result (to_z w128 (of_z w128 c.slack_of.result)) d (to_z w128 (of_z w128 d)) r (to_z-of_z w128 l.constant (search rules))
          (to_z-of_z w128 c.slack_of.result (search rules)) (to_z-of_z w128 d (search rules)) c.slack_of.ensures c.floor_of-constant.ensures);
    }

pub returns-clause-normal : goal.returns-clause-normal
returns-clause-normal c =
    let r = c.floor_of-constant.result in
    let k : to_z w128 (of_z w128 r) ≡ r = to_z-of_z w128 r (search rules) in
    let inside : within r ≡ true = sym (ap within k) ∙ sym c.is_within.ensures ∙ search rules in
    with_constant (record { den = pos 1; parts = c.in_ok-parts.parts; constant = pos 0 }) (to_z w128 (of_z w128 r)) c.in_ok-parts.ensures.normal (subst FitsLimits (sym k) (inside_limits r inside))
