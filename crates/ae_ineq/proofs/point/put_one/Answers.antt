use Rattle.std.proofs.Common.{ℕ, ◌≡◌, ◌≢◌, arith, sym, ◌∙◌}
use native.Mathlib.Decide.{ℕ_discrete}
use Rattle.ae_math.specs.Fractions.{ℚ, one_ℚ, zero_ℚ}
use Rattle.ae_math.specs.Forms.{value, substitute}
use Rattle.ae_num.specs.declared.forms.Lin.{Lin}
use Rattle.ae_num.specs.Forms.{meaning, SameMeaning}
use Rattle.std.proofs.lemmas.Result.{IfOk-weaker}
use Rattle.ae_rows.specs.Rows.{factor_at}
use Rattle.ae_ineq.specs.Inner.Points.{Agrees}
use Rattle.ae_ineq.specs.Widths.{IsPlaced}
use Rattle.ae_ineq.proofs.StepLaws.{placed_more, put_wide}
use Rattle.ae_ineq.proofs.Putting.{put_value, put_gone, put_other, put_zero}
use Rattle.ae_ineq.proofs.point.put_one.Goals as goal

pub returns-clause-values : goal.returns-clause-values
returns-clause-values c =
    IfOk-weaker c.replaced.result (λ (f : Lin). SameMeaning (meaning f) (substitute ℕ_discrete (meaning c.args.form) c.args.key (meaning c.in_ok-value.value)))
    (λ (f : Lin). (e : ℕ → ℚ) → Agrees c.args.name c.args.point.now e → value e one_ℚ (meaning f) ≡ value e one_ℚ (meaning c.args.form))
    (λ (f : Lin) s. λ e a. put_value c.args.form c.in_ok-value.value f c.args.key c.in_ok-value.ensures.number s e (a c.args.key (omega (arith, c.requires.key, c.if-key-name.false)) ∙ sym c.in_ok-value.ensures.value)) c.replaced.ensures.exact

pub returns-clause-gone : goal.returns-clause-gone
returns-clause-gone c =
    IfOk-weaker c.replaced.result (λ (f : Lin). SameMeaning (meaning f) (substitute ℕ_discrete (meaning c.args.form) c.args.key (meaning c.in_ok-value.value))) (λ (f : Lin). c.args.key ≢ c.args.name → factor_at c.args.key (meaning f) ≡ zero_ℚ)
    (λ (f : Lin) s. λ n. put_gone c.args.form c.in_ok-value.value f c.args.key c.in_ok-value.ensures.number s) c.replaced.ensures.exact

pub returns-clause-zeros : goal.returns-clause-zeros
returns-clause-zeros c =
    IfOk-weaker c.replaced.result (λ (f : Lin). SameMeaning (meaning f) (substitute ℕ_discrete (meaning c.args.form) c.args.key (meaning c.in_ok-value.value)))
    (λ (f : Lin). (t : ℕ) → factor_at t (meaning c.args.form) ≡ zero_ℚ → factor_at t (meaning f) ≡ zero_ℚ)
    (λ (f : Lin) s. λ t h. put_zero c.args.form c.in_ok-value.value f c.args.key c.in_ok-value.ensures.number s t h) c.replaced.ensures.exact

pub returns-clause-factor : goal.returns-clause-factor
returns-clause-factor c =
    IfOk-weaker c.replaced.result (λ (f : Lin). SameMeaning (meaning f) (substitute ℕ_discrete (meaning c.args.form) c.args.key (meaning c.in_ok-value.value)))
    (λ (f : Lin). factor_at c.args.name (meaning f) ≡ factor_at c.args.name (meaning c.args.form))
    (λ (f : Lin) s. put_other c.args.form c.in_ok-value.value f c.args.key c.in_ok-value.ensures.number s c.args.name c.if-key-name.false) c.replaced.ensures.exact

pub returns-clause-placed : goal.returns-clause-placed
returns-clause-placed c =
    let f = c.args.form in
    let v = c.in_ok-value.value in
    let k = c.args.key in
    IfOk-weaker c.replaced.result (λ (h : Lin). SameMeaning (meaning h) (substitute ℕ_discrete (meaning f) k (meaning v)))
    (λ (h : Lin). (e : ℕ → ℚ) (row : Lin) → Agrees c.args.name c.args.point.now e → IsPlaced e row f → IsPlaced e row h)
    (λ (h : Lin) s. λ e row a p. placed_more e row f v h k p c.in_ok-value.ensures.number (c.in_ok-value.ensures.value ∙ sym (a k (omega (arith, c.requires.key, c.if-key-name.false)))) s) c.replaced.ensures.exact

pub returns-clause-wide : goal.returns-clause-wide
returns-clause-wide c =
    let v = c.in_ok-value.value in
    let k = c.args.key in
    λ w h. λ e row a p.
    put_wide e c.args.name row c.args.form v k w p (omega (arith, c.requires.key, c.if-key-name.false)) c.in_ok-value.ensures.number
    (c.in_ok-value.ensures.value ∙ sym (a k (omega (arith, c.requires.key, c.if-key-name.false)))) (c.replaced.ensures.wide w h)
