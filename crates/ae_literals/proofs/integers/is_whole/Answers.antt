use Rattle.std.specs.Prelude.{ℕ, nat_eq, true, List, ◌∷◌, ◌≡◌, ◌↔◌, map, unsigned_abs}
use Rattle.std.proofs.Common.{sym, ap, ◌∙◌, subst}
use Rattle.std.proofs.lemmas.Bool.{eqb-true, eq-eqb}
use Rattle.std.proofs.Math.Nat.{eq-one_of_dvd-one}
use Rattle.ae_num.specs.Forms.{IsCommonDivisor}
use Rattle.ae_num.proofs.ReductionLaws.{read_back}
use Rattle.ae_literals.proofs.integers.is_whole.Goals as goal

tested : (ns : List ℕ) (g n : ℕ) → IsCommonDivisor ns g → n ≡ g → (nat_eq n 1 ≡ true) ↔ IsCommonDivisor ns 1
tested ns g n c e = (λ t. subst (IsCommonDivisor ns) (sym e ∙ eqb-true n 1 t) c, λ d. eq-eqb n 1 (e ∙ eq-one_of_dvd-one (d.1 g c.0)))

pub returns : goal.returns
returns c =
    tested (unsigned_abs c.args.form.now.den ∷ map (λ p. unsigned_abs p.factor) c.args.form.now.parts) (unsigned_abs c.divisor.result) c.unsigned_abs.result c.divisor.ensures.common
    (c.unsigned_abs.ensures.value ∙ ap unsigned_abs (read_back c.divisor.result c.divisor.ensures.within))
