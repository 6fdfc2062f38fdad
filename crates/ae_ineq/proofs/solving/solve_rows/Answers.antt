use Rattle.std.proofs.Common.{◌≡◌, sym, ap, ◌∙◌, subst}
use Rattle.std.specs.Prelude.{ℕ, true}
use Rattle.ae_math.specs.Fractions.{ℚ, one_ℚ, is_positive}
use Rattle.ae_math.specs.Forms.{value}
use Rattle.ae_rows.proofs.Elimination.{elimination}
use Rattle.ae_ineq.specs.declared.elimination.Verdict.TheVariants.{Open}
use Rattle.ae_ineq.specs.Inner.Sets.{HasAny}
use Rattle.ae_ineq.specs.Inner.Points.{value_in}
use Rattle.ae_ineq.specs.Inner.Derived.{IsJudged}
use Rattle.ae_ineq.proofs.PointLaws.{point_with_rest}
use Rattle.ae_ineq.proofs.solving.solve_rows.Goals as goal

pub returns-in_ok-fractions-in-Open-clause-point : goal.returns-in_ok-fractions-in-Open-clause-point
returns-in_ok-fractions-in-Open-clause-point c = λ f h.
    let a = c.in_ok-verdict.ensures in
    let all = c.in_ok-verdict.field-0 in
    let made = c.in_ok-made-in-Open.made in
    let settled : all.verdict ≡ Open = c.in-Open.is in
    let values = c.in_ok-fractions-in-Open.ensures ∙ ap value_in c.as_slice.ensures in
    subst (λ (e : ℕ → ℚ). is_positive (value e one_ℚ f) ≡ true) (sym values)
    (elimination (HasAny all.stages all.rest) (value_in made) (a.closed settled) (a.numbers settled)
    (point_with_rest all.stages all.rest (value_in made) a.good a.done c.in_ok-made-in-Open.ensures.chosen) f (a.kept f h))

pub returns-in-Tight-clause-judged : goal.returns-in-Tight-clause-judged
returns-in-Tight-clause-judged c = λ given d. subst (IsJudged given) c.in-Tight.is (c.in_ok-verdict.ensures.judged given d)

pub returns-in-Contradiction-clause-judged : goal.returns-in-Contradiction-clause-judged
returns-in-Contradiction-clause-judged c = λ given d. subst (IsJudged given) c.in-Contradiction.is (c.in_ok-verdict.ensures.judged given d)
