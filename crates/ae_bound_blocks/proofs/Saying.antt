-- A form written out says the row.
use Rattle.std.specs.Prelude.{ℕ, ℤ, pos, ◌≡◌, ◌<ℤ◌, Bool, List, [], ◌∷◌, map}
use Rattle.std.proofs.Common.{refl, sym, ap, ◌∙◌}
use Rattle.ae_math.specs.Fractions.{ℚ, zero_ℚ, one_ℚ, neg_ℚ, ◌+ℚ◌, ◌*ℚ◌, ratio, whole}
use Rattle.ae_math.specs.Forms.{sum_of, value}
use Rattle.ae_math.proofs.FractionLaws.{field, mul_zero_q, zero_mul_q, add_zero_q, zero_add_q, add_assoc_q}
use Rattle.ae_math.proofs.FormLaws.{factor_in-append, factor_in-scale, minus_factor}
use Rattle.ae_core.specs.Decided.{Term_discrete}
use Rattle.ae_core.specs.declared.terms.Term.{Term}
use Rattle.ae_num.specs.declared.forms.Part.{Part}
use Rattle.ae_num.specs.declared.forms.Lin.{Lin}
use Rattle.ae_num.specs.Forms.{meaning, IsNormal}
use Rattle.ae_rules.specs.Linear.{form, factor_of}
use Rattle.ae_rules.specs.Lines.{gap}
use Rattle.ae_rules.proofs.LinearLaws.{form-Num}
use Rattle.ae_row_lines.specs.Says.{Says}
use Rattle.ae_store.specs.Terms.{named}
use Rattle.ae_just.specs.Values.{combination}
use Rattle.ae_just.proofs.ValueLaws.{written_out}
use Rattle.ae_state_steps.specs.ValueSteps.{times_of}
use Rattle.ae_state_steps.proofs.OverTerms.{whole_ratio}
use Rattle.ae_bound_blocks.specs.Said.{sum_term, row_fact}

-- what numbers for the names make of the parts
parts_sum : (ℕ → ℚ) → List Part → ℚ
parts_sum e [] = zero_ℚ
parts_sum e (p ∷ ps) = whole p.factor *ℚ e p.key +ℚ parts_sum e ps

spread : (d a e r : ℚ) → d *ℚ (a *ℚ e +ℚ r) ≡ (d *ℚ a) *ℚ e +ℚ d *ℚ r
spread d a e r = simp field

den_sum : (e : ℕ → ℚ) (d : ℤ) → pos 0 <ℤ d → (ps : List Part) → whole d *ℚ sum_of e (map (λ p. (p.key, ratio p.factor d)) ps) ≡ parts_sum e ps
unfolding parts_sum
den_sum e d h [] = mul_zero_q (whole d)
den_sum e d h (p ∷ ps) =
    spread (whole d) (ratio p.factor d) (e p.key) (sum_of e (map (λ p. (p.key, ratio p.factor d)) ps))
    ∙ (λ i. whole_ratio p.factor d h i *ℚ e p.key +ℚ den_sum e d h ps i)

factor_sum : (ts : List Term) (t : Term) (c : ℤ) (ps : List Part) → factor_of (combination ts (times_of ps) c) t ≡ parts_sum (λ k. factor_of (form (named ts k)) t) ps
unfolding parts_sum
factor_sum ts t c [] = refl
factor_sum ts t c (p ∷ ps) =
    factor_in-append Term_discrete (map (λ x. (x.0, whole p.factor *ℚ x.1)) (form (named ts p.key)).parts) (combination ts (times_of ps) c).parts t
    ∙ (λ i. factor_in-scale Term_discrete (whole p.factor) (form (named ts p.key)).parts t i +ℚ factor_sum ts t c ps i)

constant_sum : (ts : List Term) (c : ℤ) (ps : List Part) → (combination ts (times_of ps) c).constant ≡ parts_sum (λ k. (form (named ts k)).constant) ps +ℚ whole c
unfolding parts_sum
constant_sum ts c [] = sym (zero_add_q (whole c))
constant_sum ts c (p ∷ ps) =
    ap (λ x. whole p.factor *ℚ (form (named ts p.key)).constant +ℚ x) (constant_sum ts c ps)
    ∙ sym (add_assoc_q (whole p.factor *ℚ (form (named ts p.key)).constant) (parts_sum (λ k. (form (named ts k)).constant) ps) (whole c))

less_nothing : (x : ℚ) → x +ℚ neg_ℚ one_ℚ *ℚ zero_ℚ ≡ x
less_nothing x = ap (λ y. x +ℚ y) (mul_zero_q (neg_ℚ one_ℚ)) ∙ add_zero_q x

module _ (ts : List Term) (real strict : Bool) (l : Lin) (normal : IsNormal l) where
  factors : (t : Term) → factor_of (gap (row_fact ts real strict l)) t ≡ whole l.den *ℚ value (λ k. factor_of (form (named ts k)) t) zero_ℚ (meaning l)
  factors t =
      let e : ℕ → ℚ = λ k. factor_of (form (named ts k)) t in
      minus_factor Term_discrete (form (sum_term ts real l)) (form (row_fact ts real strict l).left) t
      ∙ ap (λ x. factor_of (form (sum_term ts real l)) t +ℚ neg_ℚ one_ℚ *ℚ x) (ap (λ f. factor_of f t) (form-Num (pos 0) (pos 1) real))
      ∙ less_nothing (factor_of (form (sum_term ts real l)) t)
      ∙ (written_out ts (times_of l.parts) l.constant real).factors t
      ∙ factor_sum ts t l.constant l.parts
      ∙ sym (den_sum e l.den normal.positive l.parts)
      ∙ ap (λ x. whole l.den *ℚ x) (sym (ap (λ y. sum_of e (meaning l).parts +ℚ y) (zero_mul_q (ratio l.constant l.den)) ∙ add_zero_q (sum_of e (meaning l).parts)))

  both_sums : (d s c : ℚ) → d *ℚ s +ℚ d *ℚ c ≡ d *ℚ (s +ℚ one_ℚ *ℚ c)
  both_sums d s c = simp field

  constants : (gap (row_fact ts real strict l)).constant ≡ whole l.den *ℚ value (λ k. (form (named ts k)).constant) one_ℚ (meaning l)
  unfolding zero_ℚ ◌*ℚ◌
  constants =
      let e : ℕ → ℚ = λ k. (form (named ts k)).constant in
      ap (λ x. (form (sum_term ts real l)).constant +ℚ neg_ℚ one_ℚ *ℚ x) (ap (λ f. f.constant) (form-Num (pos 0) (pos 1) real))
      ∙ less_nothing (form (sum_term ts real l)).constant
      ∙ (written_out ts (times_of l.parts) l.constant real).constants
      ∙ constant_sum ts l.constant l.parts
      ∙ (λ i. sym (den_sum e l.den normal.positive l.parts) i +ℚ sym (whole_ratio l.constant l.den normal.positive) i)
      ∙ both_sums (whole l.den) (sum_of e (meaning l).parts) (ratio l.constant l.den)

  pub says_row : Says (named ts) l.den (meaning l) (row_fact ts real strict l)
  says_row = record { positive = normal.positive; factors = factors; constants = constants }
