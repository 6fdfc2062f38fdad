use Rattle.std.specs.Prelude.{neg_ℤ, ◌≡◌, Some, None}
use Rattle.std.proofs.Common.{rules, sym, ap, ◌∙◌, subst, to_z, of_z}
use Rattle.std.proofs.lemmas.Int.{to_z-of_z}
use mir.Syntax.{w128}
use Rattle.ae_math.specs.Fractions.{ratio}
use Rattle.ae_math.specs.Forms.{plus, scale}
use Rattle.ae_num.specs.declared.numbers.Wide.{Wide}
use Rattle.ae_num.specs.declared.forms.Lin.{Lin}
use Rattle.ae_num.specs.Forms.{meaning, SameMeaning, factor_of, multiple_of, sum_of, first_wide, scale_steps, plus_steps}
use Rattle.std.proofs.lemmas.Result.{IfOk-weaker, on_ok_weaker}
use Rattle.ae_num.proofs.StepLaws.{same_err}
use Rattle.ae_rows.specs.Rows.{combination}
use Rattle.ae_num.specs.Forms.{combine_steps}
use Rattle.ae_ineq.specs.Combining.{combined_of}
use Rattle.ae_ineq.proofs.CombiningLaws.{combination_means, err_too, in_first, in_second, in_last}
use Rattle.ae_ineq.proofs.combining.combine.Goals as goal

pub returns-in_err-left-clause-wide : goal.returns-in_err-left-clause-wide
returns-in_err-left-clause-wide c =
    let p = c.args.lower.now in
    let q = c.args.upper.now in
    let n = c.args.name in
    let top : to_z w128 (of_z w128 c.negated.result) ≡ neg_ℤ (factor_of q.parts n) = to_z-of_z w128 c.negated.result (search rules) ∙ c.negated.ensures ∙ ap neg_ℤ (to_z-of_z w128 c.args.falling (search rules) ∙ sym c.requires.falling) in
    let bottom : to_z w128 (of_z w128 c.den_of.result) ≡ q.den = to_z-of_z w128 c.den_of.result (search rules) ∙ c.den_of.ensures in
    same_err c.from_residual.result c.in_err-left.field-0.0 (λ (w : Wide). first_wide (scale_steps (to_z w128 (of_z w128 c.negated.result)) (to_z w128 (of_z w128 c.den_of.result)) p) ≡ Some w)
    (λ (w : Wide). first_wide (combine_steps p n q) ≡ Some w) c.from_residual.ensures.1
    (λ (w : Wide) h. in_first n p q w (subst (λ s. first_wide s ≡ Some w) (λ i. scale_steps (top i) (bottom i) p) h)) c.in_err-left.ensures.wide

pub returns-clause-form : goal.returns-clause-form
returns-clause-form c =
    let p = c.args.lower.now in
    let q = c.args.upper.now in
    let n = c.args.name in
    let l = c.in_ok-left.left in
    let r = c.in_ok-right.right in
    let top : to_z w128 (of_z w128 c.negated.result) ≡ neg_ℤ (factor_of q.parts n) = to_z-of_z w128 c.negated.result (search rules) ∙ c.negated.ensures ∙ ap neg_ℤ (to_z-of_z w128 c.args.falling (search rules) ∙ sym c.requires.falling) in
    let bottom : to_z w128 (of_z w128 c.den_of.result) ≡ q.den = to_z-of_z w128 c.den_of.result (search rules) ∙ c.den_of.ensures in
    let left : l ≡ multiple_of (neg_ℤ (factor_of q.parts n)) q.den p = c.in_ok-left.ensures.form ∙ (λ i. multiple_of (top i) (bottom i) p) in
    let top' : to_z w128 (of_z w128 c.args.rising) ≡ factor_of p.parts n = to_z-of_z w128 c.args.rising (search rules) ∙ sym c.requires.rising in
    let bottom' : to_z w128 (of_z w128 c.den_of-2.result) ≡ p.den = to_z-of_z w128 c.den_of-2.result (search rules) ∙ c.den_of-2.ensures in
    let right : r ≡ multiple_of (factor_of p.parts n) p.den q = c.in_ok-right.ensures.form ∙ (λ i. multiple_of (top' i) (bottom' i) q) in
    IfOk-weaker c.plus.result (λ f. f ≡ sum_of l r) (λ f. f ≡ combined_of n p q) (λ (f : Lin) e. e ∙ (λ i. sum_of (left i) (right i))) c.plus.ensures.form

pub returns-in_err-right-clause-wide : goal.returns-in_err-right-clause-wide
returns-in_err-right-clause-wide c =
    let p = c.args.lower.now in
    let q = c.args.upper.now in
    let n = c.args.name in
    let top : to_z w128 (of_z w128 c.negated.result) ≡ neg_ℤ (factor_of q.parts n) = to_z-of_z w128 c.negated.result (search rules) ∙ c.negated.ensures ∙ ap neg_ℤ (to_z-of_z w128 c.args.falling (search rules) ∙ sym c.requires.falling) in
    let bottom : to_z w128 (of_z w128 c.den_of.result) ≡ q.den = to_z-of_z w128 c.den_of.result (search rules) ∙ c.den_of.ensures in
    let here : first_wide (scale_steps (neg_ℤ (factor_of q.parts n)) q.den p) ≡ None = subst (λ s. first_wide s ≡ None) (λ i. scale_steps (top i) (bottom i) p) c.in_ok-left.ensures.fits in
    let top' : to_z w128 (of_z w128 c.args.rising) ≡ factor_of p.parts n = to_z-of_z w128 c.args.rising (search rules) ∙ sym c.requires.rising in
    let bottom' : to_z w128 (of_z w128 c.den_of-2.result) ≡ p.den = to_z-of_z w128 c.den_of-2.result (search rules) ∙ c.den_of-2.ensures in
    same_err c.from_residual-in_err-right.result c.in_err-right.field-0.0 (λ (w : Wide). first_wide (scale_steps (to_z w128 (of_z w128 c.args.rising)) (to_z w128 (of_z w128 c.den_of-2.result)) q) ≡ Some w)
    (λ (w : Wide). first_wide (combine_steps p n q) ≡ Some w) c.from_residual-in_err-right.ensures.1
    (λ (w : Wide) h.
    in_second n p q w here (subst (λ s. first_wide s ≡ Some w) (λ i. scale_steps (top' i) (bottom' i) q) h)) c.in_err-right.ensures.wide

pub returns-clause-exact : goal.returns-clause-exact
returns-clause-exact c =
    let p = c.args.lower.now in
    let q = c.args.upper.now in
    let n = c.args.name in
    let l = c.in_ok-left.left in
    let r = c.in_ok-right.right in
    let top : to_z w128 (of_z w128 c.negated.result) ≡ neg_ℤ (factor_of q.parts n) = to_z-of_z w128 c.negated.result (search rules) ∙ c.negated.ensures ∙ ap neg_ℤ (to_z-of_z w128 c.args.falling (search rules) ∙ sym c.requires.falling) in
    let bottom : to_z w128 (of_z w128 c.den_of.result) ≡ q.den = to_z-of_z w128 c.den_of.result (search rules) ∙ c.den_of.ensures in
    let here : first_wide (scale_steps (neg_ℤ (factor_of q.parts n)) q.den p) ≡ None = subst (λ s. first_wide s ≡ None) (λ i. scale_steps (top i) (bottom i) p) c.in_ok-left.ensures.fits in
    let top' : to_z w128 (of_z w128 c.args.rising) ≡ factor_of p.parts n = to_z-of_z w128 c.args.rising (search rules) ∙ sym c.requires.rising in
    let bottom' : to_z w128 (of_z w128 c.den_of-2.result) ≡ p.den = to_z-of_z w128 c.den_of-2.result (search rules) ∙ c.den_of-2.ensures in
    IfOk-weaker c.plus.result (λ (s : Lin). SameMeaning (meaning s) (plus (meaning l) (meaning r))) (λ (s : Lin). SameMeaning (meaning s) (combination n (meaning p) (meaning q)))
    (λ (s : Lin) h. combination_means n p q l r s c.requires.lower c.requires.upper
    (subst (λ t. SameMeaning (meaning l) (scale t (meaning p))) (λ i. ratio (top i) (bottom i)) c.in_ok-left.ensures.exact)
    (subst (λ t. SameMeaning (meaning r) (scale t (meaning q))) (λ i. ratio (top' i) (bottom' i)) c.in_ok-right.ensures.exact) h) c.plus.ensures.exact

pub returns-clause-fits : goal.returns-clause-fits
returns-clause-fits c =
    let p = c.args.lower.now in
    let q = c.args.upper.now in
    let n = c.args.name in
    let top : to_z w128 (of_z w128 c.negated.result) ≡ neg_ℤ (factor_of q.parts n) = to_z-of_z w128 c.negated.result (search rules) ∙ c.negated.ensures ∙ ap neg_ℤ (to_z-of_z w128 c.args.falling (search rules) ∙ sym c.requires.falling) in
    let bottom : to_z w128 (of_z w128 c.den_of.result) ≡ q.den = to_z-of_z w128 c.den_of.result (search rules) ∙ c.den_of.ensures in
    let here : first_wide (scale_steps (neg_ℤ (factor_of q.parts n)) q.den p) ≡ None = subst (λ s. first_wide s ≡ None) (λ i. scale_steps (top i) (bottom i) p) c.in_ok-left.ensures.fits in
    let top' : to_z w128 (of_z w128 c.args.rising) ≡ factor_of p.parts n = to_z-of_z w128 c.args.rising (search rules) ∙ sym c.requires.rising in
    let bottom' : to_z w128 (of_z w128 c.den_of-2.result) ≡ p.den = to_z-of_z w128 c.den_of-2.result (search rules) ∙ c.den_of-2.ensures in
    let there : first_wide (scale_steps (factor_of p.parts n) p.den q) ≡ None = subst (λ s. first_wide s ≡ None) (λ i. scale_steps (top' i) (bottom' i) q) c.in_ok-right.ensures.fits in
    let l = c.in_ok-left.left in
    let r = c.in_ok-right.right in
    let left : l ≡ multiple_of (neg_ℤ (factor_of q.parts n)) q.den p = c.in_ok-left.ensures.form ∙ (λ i. multiple_of (top i) (bottom i) p) in
    let right : r ≡ multiple_of (factor_of p.parts n) p.den q = c.in_ok-right.ensures.form ∙ (λ i. multiple_of (top' i) (bottom' i) q) in
    on_ok_weaker c.plus.result
    (λ h. in_last n p q here there ∙ subst (λ s. first_wide s ≡ None) (λ i. plus_steps (left i) (right i)) h) c.plus.ensures.fits

pub returns-clause-wide : goal.returns-clause-wide
returns-clause-wide c =
    let p = c.args.lower.now in
    let q = c.args.upper.now in
    let n = c.args.name in
    let top : to_z w128 (of_z w128 c.negated.result) ≡ neg_ℤ (factor_of q.parts n) = to_z-of_z w128 c.negated.result (search rules) ∙ c.negated.ensures ∙ ap neg_ℤ (to_z-of_z w128 c.args.falling (search rules) ∙ sym c.requires.falling) in
    let bottom : to_z w128 (of_z w128 c.den_of.result) ≡ q.den = to_z-of_z w128 c.den_of.result (search rules) ∙ c.den_of.ensures in
    let here : first_wide (scale_steps (neg_ℤ (factor_of q.parts n)) q.den p) ≡ None = subst (λ s. first_wide s ≡ None) (λ i. scale_steps (top i) (bottom i) p) c.in_ok-left.ensures.fits in
    let top' : to_z w128 (of_z w128 c.args.rising) ≡ factor_of p.parts n = to_z-of_z w128 c.args.rising (search rules) ∙ sym c.requires.rising in
    let bottom' : to_z w128 (of_z w128 c.den_of-2.result) ≡ p.den = to_z-of_z w128 c.den_of-2.result (search rules) ∙ c.den_of-2.ensures in
    let there : first_wide (scale_steps (factor_of p.parts n) p.den q) ≡ None = subst (λ s. first_wide s ≡ None) (λ i. scale_steps (top' i) (bottom' i) q) c.in_ok-right.ensures.fits in
    let l = c.in_ok-left.left in
    let r = c.in_ok-right.right in
    let left : l ≡ multiple_of (neg_ℤ (factor_of q.parts n)) q.den p = c.in_ok-left.ensures.form ∙ (λ i. multiple_of (top i) (bottom i) p) in
    let right : r ≡ multiple_of (factor_of p.parts n) p.den q = c.in_ok-right.ensures.form ∙ (λ i. multiple_of (top' i) (bottom' i) q) in
    err_too c.plus.result (λ (w : Wide). first_wide (plus_steps l r) ≡ Some w) (λ (w : Wide). first_wide (combine_steps p n q) ≡ Some w)
    (λ (w : Wide) h. in_last n p q here there ∙ subst (λ s. first_wide s ≡ Some w) (λ i. plus_steps (left i) (right i)) h) c.plus.ensures.wide
