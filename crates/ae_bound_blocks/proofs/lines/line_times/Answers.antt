use Rattle.std.specs.Prelude.{ℤ, ◌*ℤ◌, ◌≡◌}
use Rattle.std.specs.Int.RustNames.{int_div}
use Rattle.std.proofs.Common.{rules, ap, ◌∙◌, to_z, of_z}
use Rattle.std.proofs.lemmas.Int.{to_z-of_z}
use mir.Syntax.{w128}
use Rattle.ae_num.proofs.ReductionLaws.{fits_in, quotient_read}
use Rattle.ae_bound_blocks.proofs.Dividing.{exact_quotient}
use Rattle.ae_bound_blocks.proofs.lines.line_times.Goals as goal

pub returns : goal.returns
returns c =
    let a = c.args.lower.now.den in
    let b = c.args.upper.now.den in
    let d = c.args.sum.now.den in
    let ka : to_z w128 (of_z w128 a) ≡ a = to_z-of_z w128 a (search rules) in
    let kb : to_z w128 (of_z w128 b) ≡ b = to_z-of_z w128 b (search rules) in
    let whole : to_z w128 (of_z w128 (int_div (to_z w128 (of_z w128 (to_z w128 (of_z w128 a) *ℤ to_z w128 (of_z w128 b)))) (to_z w128 (of_z w128 d)))) ≡ int_div (a *ℤ b) d =
    (λ i. to_z w128 (of_z w128 (int_div (to_z w128 (of_z w128 (ka i *ℤ kb i))) (to_z w128 (of_z w128 d))))) ∙ quotient_read (a *ℤ b) d (fits_in (a *ℤ b) c.requires.product) (search rules) c.requires.some in
    ap (λ (q : ℤ). q *ℤ d) whole ∙ exact_quotient (a *ℤ b) d c.requires.divides.0 c.requires.some c.requires.divides.1
