use Rattle.std.proofs.Common.{ℕ, ◌≡◌, unsigned_abs, ◌<◌, ◌^◌, arith, refl, sym, ap, ◌∙◌, subst}
use Rattle.std.specs.Int.{IsGcd}
use Rattle.std.proofs.lemmas.Int.{to_z-of_z, to_z_pos}
use Rattle.std.proofs.lemmas.Nat.Gcd.{IsGcd-from_mod, IsGcd-from_zero}
use mir.Syntax.{w128}
use Rattle.ae_num.proofs.numbers.gcd.Goals as goal

moved : (a b a' b' g g' : ℕ) → a ≡ a' → b ≡ b' → g ≡ g' → IsGcd a b g → IsGcd a' b' g'
moved a b a' b' g g' p q r i = subst (λ x. IsGcd a' b' x) r (subst (λ x. IsGcd a' x g) q (subst (λ x. IsGcd x b g) p i))

pub steps-init : goal.steps-init
steps-init c = record {
  common = λ g i. moved _ _ _ _ g g c.unsigned_abs-divisor.ensures.value c.unsigned_abs-rest.ensures.value refl i;
  divisor_within = subst (λ n. n < 2 ^ 127) (sym (c.unsigned_abs-divisor.ensures.value ∙ ap unsigned_abs (to_z-of_z w128 c.args.left c.ranges.left))) c.requires.left;
  rest_within = subst (λ n. n < 2 ^ 127) (sym (c.unsigned_abs-rest.ensures.value ∙ ap unsigned_abs (to_z-of_z w128 c.args.right c.ranges.right))) c.requires.right;
}

pub steps-preserved : goal.steps-preserved
steps-preserved c = record {
  common = λ g i. c.steps.invariant.common g (IsGcd-from_mod c.steps.divisor c.steps.rest g i);
  divisor_within = omega arith;
  rest_within = omega arith;
}

pub returns-clause-divisor : goal.returns-clause-divisor
returns-clause-divisor c =
    let left = ap unsigned_abs (to_z-of_z w128 c.args.left c.ranges.left) in
    let right = ap unsigned_abs (to_z-of_z w128 c.args.right c.ranges.right) in
    let divisor = ap unsigned_abs (to_z_pos w128 c.steps.divisor c.steps.invariant.divisor_within) in
    moved _ _ _ _ _ _ left right (sym divisor) (c.steps.invariant.common c.steps.divisor (IsGcd-from_zero c.steps.divisor c.steps.rest c.steps-test.false))
