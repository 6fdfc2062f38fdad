use Rattle.std.specs.Prelude.{neg_ℤ, pos, ◌<ℤ◌, ◌≤ℤ◌}
use Rattle.std.proofs.Common.{rules, ap, ◌∙◌, subst}
use Rattle.std.proofs.lemmas.Int.{to_z-of_z}
use mir.Syntax.{w128}
use Rattle.ae_math.specs.Fractions.{ℚ, ratio}
use Rattle.ae_math.specs.Forms.{number}
use Rattle.ae_num.specs.Forms.{meaning, SameMeaning}
use Rattle.ae_first_values.proofs.Inverses.{inverse_above, inverse_under}
use Rattle.ae_first_values.proofs.numbers.inverse.Goals as goal

pub returns-then-top-gt0-clause-meaning : goal.returns-then-top-gt0-clause-meaning
returns-then-top-gt0-clause-meaning c =
    let h : pos 0 <ℤ c.args.top = search rules in
    subst (λ (y : ℚ). SameMeaning (meaning c.fraction.result) (number y))
    ((λ i. ratio (to_z-of_z w128 c.args.bottom (search rules) i) (to_z-of_z w128 c.args.top (search rules) i)) ∙ inverse_above c.args.top c.args.bottom h c.requires.bottom) c.fraction.ensures.meaning

pub returns-clause-meaning : goal.returns-clause-meaning
returns-clause-meaning c =
    let h : c.args.top ≤ℤ pos 0 = search rules in
    let top = to_z-of_z w128 c.negated.result (search rules) ∙ c.negated.ensures ∙ ap neg_ℤ (to_z-of_z w128 c.args.bottom (search rules)) in
    let bottom = to_z-of_z w128 c.negated-2.result (search rules) ∙ c.negated-2.ensures ∙ ap neg_ℤ (to_z-of_z w128 c.args.top (search rules)) in
    subst (λ (y : ℚ). SameMeaning (meaning c.fraction-2.result) (number y)) ((λ i. ratio (top i) (bottom i)) ∙ inverse_under c.args.top c.args.bottom h c.requires.top c.requires.bottom) c.fraction-2.ensures.meaning
