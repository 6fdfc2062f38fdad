use Rattle.std.proofs.Common.{rules, ◌≡◌, ◌≢◌, subst, pos, ◌<ℤ◌}
use Rattle.ae_math.specs.Fractions.{inverse_ℚ, ratio}
use Rattle.ae_math.specs.Forms.{scale}
use Rattle.ae_naturals.specs.Fractions.{value_of}
use Rattle.ae_store.specs.Terms.{named}
use Rattle.ae_constants.specs.Forms.{meaning, IsExact}
use Rattle.ae_constants.proofs.ExactLaws.{over_numeral, over_none}
use Rattle.ae_constants.proofs.table.numeral_quotient.Goals as goal
use Rattle.ae_constants.proofs.table.numeral_quotient.Goals.{then-top-eq0-via-then-top-eq0, then-top-eq0-via-else-top-eq0+then-bottom-le0}

pub returns-then-top-eq0 : goal.returns-then-top-eq0
returns-then-top-eq0 c =
    let none : pos 0 <ℤ c.args.bottom → c.args.top ≡ pos 0 =
    elim c.then-top-eq0.branch [
      | then-top-eq0-via-then-top-eq0 w ↦ let zero : c.args.top ≡ pos 0 = search rules in λ p. zero
      | then-top-eq0-via-else-top-eq0+then-bottom-le0 w ↦ let low : pos 0 <ℤ c.args.bottom → ⊥ = search rules in λ p. absurd (low p)
    ] in
    λ ts n g real h e. over_none ts n (named ts c.args.name) g (meaning c.in_ok-whole.whole) c.args.top c.args.bottom real none (c.in_ok-whole.ensures ts n h)

pub returns : goal.returns
returns c =
    let some : c.args.top ≢ pos 0 = search rules in
    let above : pos 0 <ℤ c.args.bottom = search rules in
    let inverse : value_of c.in_ok-inverse.inverse ≡ inverse_ℚ (ratio c.args.top c.args.bottom) = search rules in
    λ ts n g real h e.
    over_numeral ts n (named ts c.args.name) g (meaning c.in_ok-quotient.quotient) c.args.top c.args.bottom real some above
    (subst (λ q. IsExact ts n (scale q g) (meaning c.in_ok-quotient.quotient)) inverse (c.in_ok-quotient.ensures ts n g e))
