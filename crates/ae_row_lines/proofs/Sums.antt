-- A sum of shares of rows is a sum of their lines.
use Rattle.std.specs.Prelude.{ℕ, ℤ, ◌≡◌, List, [], ◌∷◌, map}
use Rattle.std.proofs.Common.{refl, sym, ap, ◌∙◌}
use Rattle.std.specs.List.{AllByRecursion}
use native.Mathlib.Decide.{ℕ_discrete}
use Rattle.ae_math.specs.Fractions.{ℚ, zero_ℚ, one_ℚ, ◌+ℚ◌, ◌*ℚ◌, whole}
use Rattle.ae_math.specs.Forms.{Form, SameForm, number, plus, scale, value}
use Rattle.ae_math.proofs.FractionLaws.{field, mul_zero_q, mul_assoc_q}
use Rattle.ae_math.proofs.FormLaws.{value-same, value-plus, value-scale, value-number, factor_in-append, factor_in-scale}
use Rattle.ae_core.specs.Decided.{Term_discrete}
use Rattle.ae_rules.specs.Linear.{Linear, form, factor_of, IsSame}
use Rattle.ae_rules.specs.Lines.{Fact, gap, total}
use Rattle.ae_core.specs.declared.terms.Term.{Term}
use Rattle.ae_base.proofs.AllOf.{all_weaker}
use Rattle.ae_rows.specs.Rows.{mixture}
use Rattle.ae_row_lines.specs.Says.{Says, Used, shares_of}

regroup : (d m a v r : ℚ) → d *ℚ (m *ℚ (a *ℚ v +ℚ r)) ≡ ((d *ℚ m) *ℚ a) *ℚ v +ℚ d *ℚ (m *ℚ r)
regroup d m a v r = simp field

-- what a linear function of forms makes of the mixture, where `part` is what another makes of the facts
module _ (e : ℕ → ℚ) (u d m : ℚ) (part : Linear → ℚ) (nothing : part (number zero_ℚ) ≡ zero_ℚ) (sums : (a b : Linear) → part (plus a b) ≡ part a +ℚ part b) (multiples : (x : ℚ) (a : Linear) → part (scale x a) ≡ x *ℚ part a) where
  Agrees : Used → Type 0
  Agrees w = part (gap w.fact) ≡ whole w.multiple *ℚ value e u w.form

  pub mixed : (us : List Used) → AllByRecursion (λ w. part (gap w.fact) ≡ whole w.multiple *ℚ value e u w.form) us → AllByRecursion (λ w. (d *ℚ m) *ℚ w.share ≡ whole w.factor *ℚ whole w.multiple) us
      → d *ℚ (m *ℚ value e u (mixture (shares_of us))) ≡ part (total (map (λ w. (w.factor, w.fact)) us))
  mixed [] a b = ap (λ t. d *ℚ (m *ℚ t)) (value-number e u zero_ℚ ∙ mul_zero_q u) ∙ ap (λ t. d *ℚ t) (mul_zero_q m) ∙ mul_zero_q d ∙ sym nothing
  mixed (w ∷ ws) a b =
      ap (λ t. d *ℚ (m *ℚ t)) (value-plus e u (scale w.share w.form) (mixture (shares_of ws)) ∙ ap (λ t. t +ℚ value e u (mixture (shares_of ws))) (value-scale e u w.share w.form))
      ∙ regroup d m w.share (value e u w.form) (value e u (mixture (shares_of ws)))
      ∙ (λ i. b.0 i *ℚ value e u w.form +ℚ mixed ws a.1 b.1 i)
      ∙ ap (λ t. t +ℚ part (total (map (λ w. (w.factor, w.fact)) ws))) (mul_assoc_q (whole w.factor) (whole w.multiple) (value e u w.form) ∙ ap (λ t. whole w.factor *ℚ t) (sym a.0) ∙ sym (multiples (whole w.factor) (gap w.fact)))
      ∙ sym (sums (scale (whole w.factor) (gap w.fact)) (total (map (λ w. (w.factor, w.fact)) ws)))

pub mixture_sums : (names : ℕ → Term) (d m : ℤ) (f : Form ℕ) (fact : Fact) (us : List Used) → Says names m f fact → SameForm ℕ_discrete f (mixture (shares_of us))
    → AllByRecursion (λ u. Says names u.multiple u.form u.fact) us → AllByRecursion (λ u. (whole d *ℚ whole m) *ℚ u.share ≡ whole u.factor *ℚ whole u.multiple) us
    → IsSame (scale (whole d) (gap fact)) (total (map (λ u. (u.factor, u.fact)) us))
mixture_sums names d m f fact us s same rows shares =
    record {
      factors = λ t.
          let e : ℕ → ℚ = λ k. factor_of (form (names k)) t in
          factor_in-scale Term_discrete (whole d) (gap fact).parts t
          ∙ ap (λ x. whole d *ℚ x) (s.factors t ∙ ap (λ x. whole m *ℚ x) (value-same ℕ_discrete e zero_ℚ f (mixture (shares_of us)) same))
          ∙ mixed e zero_ℚ (whole d) (whole m) (λ a. factor_of a t) refl (λ a b. factor_in-append Term_discrete a.parts b.parts t) (λ x a. factor_in-scale Term_discrete x a.parts t) us
          (all_weaker (λ (w : Used). Says names w.multiple w.form w.fact) (λ (w : Used). factor_of (gap w.fact) t ≡ whole w.multiple *ℚ value e zero_ℚ w.form) (λ w h. h.factors t) us rows) shares;
      constants =
          let e : ℕ → ℚ = λ k. (form (names k)).constant in
          ap (λ x. whole d *ℚ x) (s.constants ∙ ap (λ x. whole m *ℚ x) (value-same ℕ_discrete e one_ℚ f (mixture (shares_of us)) same))
          ∙ mixed e one_ℚ (whole d) (whole m) (λ a. a.constant) refl (λ a b. refl) (λ x a. refl) us
          (all_weaker (λ (w : Used). Says names w.multiple w.form w.fact) (λ (w : Used). (gap w.fact).constant ≡ whole w.multiple *ℚ value e one_ℚ w.form) (λ w h. h.constants) us rows) shares;
    }
