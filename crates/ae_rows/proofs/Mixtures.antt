-- Sums of multiples of forms: of two lists together, and times a number.
use Rattle.std.specs.Prelude.{ℕ, List, [], ◌∷◌, ◌++◌, map}
use Rattle.std.proofs.Common.{refl, sym}
use native.Mathlib.Decide.{ℕ_discrete}
use Rattle.ae_math.specs.Fractions.{ℚ, zero_ℚ, ◌*ℚ◌}
use Rattle.ae_math.specs.Forms.{Form, SameForm, number, plus, scale}
use Rattle.ae_math.proofs.FractionLaws.{mul_zero_q}
use Rattle.ae_math.proofs.FormLaws.{same_refl, same_sym, same_trans, plus-same, plus_assoc, zero_plus, scale_scale, scale_plus}
use Rattle.ae_rows.specs.Rows.{mixture}

abbrev pub multiplied : ℚ → List (ℚ × Form ℕ) → List (ℚ × Form ℕ)
multiplied a us = map (λ u. (a *ℚ u.0, u.1)) us

pub mixture-append : (us vs : List (ℚ × Form ℕ)) → SameForm ℕ_discrete (mixture (us ++ vs)) (plus (mixture us) (mixture vs))
mixture-append [] vs = same_sym ℕ_discrete (plus (number zero_ℚ) (mixture vs)) (mixture vs) (zero_plus ℕ_discrete (mixture vs))
mixture-append ((a, f) ∷ us) vs =
    same_trans ℕ_discrete (plus (scale a f) (mixture (us ++ vs))) (plus (scale a f) (plus (mixture us) (mixture vs))) (plus (plus (scale a f) (mixture us)) (mixture vs))
    (plus-same ℕ_discrete (scale a f) (scale a f) (mixture (us ++ vs)) (plus (mixture us) (mixture vs)) (same_refl ℕ_discrete (scale a f)) (mixture-append us vs))
    (same_sym ℕ_discrete (plus (plus (scale a f) (mixture us)) (mixture vs)) (plus (scale a f) (plus (mixture us) (mixture vs))) (plus_assoc ℕ_discrete (scale a f) (mixture us) (mixture vs)))

pub mixture-multiplied : (a : ℚ) (us : List (ℚ × Form ℕ)) → SameForm ℕ_discrete (mixture (multiplied a us)) (scale a (mixture us))
mixture-multiplied a [] = record { factors = λ k. refl; constants = sym (mul_zero_q a) }
mixture-multiplied a ((b, f) ∷ us) =
    same_trans ℕ_discrete (plus (scale (a *ℚ b) f) (mixture (multiplied a us))) (plus (scale a (scale b f)) (scale a (mixture us))) (scale a (plus (scale b f) (mixture us)))
    (plus-same ℕ_discrete (scale (a *ℚ b) f) (scale a (scale b f)) (mixture (multiplied a us)) (scale a (mixture us))
    (same_sym ℕ_discrete (scale a (scale b f)) (scale (a *ℚ b) f) (scale_scale ℕ_discrete a b f)) (mixture-multiplied a us))
    (same_sym ℕ_discrete (scale a (plus (scale b f) (mixture us))) (plus (scale a (scale b f)) (scale a (mixture us))) (scale_plus ℕ_discrete a (scale b f) (mixture us)))
