use Rattle.std.proofs.Common.{rules, ◌∙◌, sym, pos, ◌<ℤ◌}
use Rattle.ae_math.proofs.Wholes.{ratio_of_zero}
use Rattle.ae_constants.proofs.ExactLaws.{ratio_none}
use Rattle.ae_constants.proofs.table.numeral.Goals as goal

pub returns : goal.returns
returns c =
    let low : pos 0 <ℤ c.args.bottom → ⊥ = search rules in
    c.in_ok-zero.ensures ∙ ratio_of_zero (pos 1) ∙ sym (ratio_none c.args.top c.args.bottom (λ p. absurd (low p)))
