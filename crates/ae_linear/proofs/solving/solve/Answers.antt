use Rattle.std.specs.Prelude.{◌≡◌, Some}
use Rattle.std.proofs.Common.{subst, inl, inr}
use Rattle.ae_math.specs.Forms.{minus}
use Rattle.ae_num.specs.declared.forms.Lin.{Lin}
use Rattle.ae_num.specs.declared.numbers.Wide.{Wide}
use Rattle.ae_num.specs.Forms.{meaning, first_wide}
use Rattle.std.proofs.lemmas.Result.{IfOk-weaker}
use Rattle.ae_num.proofs.StepLaws.{same_err}
use Rattle.ae_num.specs.Forms.{difference_of, difference_steps}
use Rattle.ae_linear.specs.Solving.{IsSolved, FitsScaling, IsWideScaling, IsWideSolving}
use Rattle.ae_linear.specs.declared.solving.Solved.{Solved}
use Rattle.ae_linear.proofs.Answered.{solved_same, if_wide}
use Rattle.ae_linear.proofs.solving.solve.Goals as goal

pub returns-in_err-form-clause-wide : goal.returns-in_err-form-clause-wide
returns-in_err-form-clause-wide c =
    let p = c.args.left.now in
    let q = c.args.right.now in
    same_err c.from_residual.result c.in_err-form.field-0.0 (λ (w : Wide). first_wide (difference_steps p q) ≡ Some w) (λ (w : Wide). IsWideSolving p q w) c.from_residual.ensures.1 (λ (w : Wide) h. inl h) c.in_err-form.ensures.wide

pub returns-clause-exact : goal.returns-clause-exact
returns-clause-exact c =
    let p = c.args.left.now in
    let q = c.args.right.now in
    IfOk-weaker c.solution.result (λ s. IsSolved (meaning c.in_ok-form.form) s) (λ s. IsSolved (minus (meaning p) (meaning q)) s)
    (λ (s : Solved) h. solved_same (meaning c.in_ok-form.form) (minus (meaning p) (meaning q)) s c.in_ok-form.ensures.exact h) c.solution.ensures.exact

pub returns-clause-scaled : goal.returns-clause-scaled
returns-clause-scaled c =
    IfOk-weaker c.solution.result (λ s. FitsScaling c.in_ok-form.form s) (λ s. FitsScaling (difference_of c.args.left.now c.args.right.now) s)
    (λ (s : Solved) h. subst (λ (d : Lin). FitsScaling d s) c.in_ok-form.ensures.form h) c.solution.ensures.fits

pub returns-clause-wide : goal.returns-clause-wide
returns-clause-wide c =
    if_wide c.solution.result (λ (w : Wide). IsWideScaling c.in_ok-form.form w) (λ (w : Wide). IsWideSolving c.args.left.now c.args.right.now w)
    (λ (w : Wide) h. inr (c.in_ok-form.ensures.fits, subst (λ (d : Lin). IsWideScaling d w) c.in_ok-form.ensures.form h)) c.solution.ensures.wide
