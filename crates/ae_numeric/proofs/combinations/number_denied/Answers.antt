use Rattle.std.specs.Prelude.{[]}
use Rattle.std.proofs.Common.{subst, ap, ◌∙◌, sym}
use Rattle.ae_num.specs.Forms.{first_wide}
use Rattle.ae_numeric.specs.Computing.{IsWideIn}
use Rattle.ae_numeric.specs.Inner.Sums as spec
use Rattle.ae_numeric.proofs.DenialLaws.{number_denied}
use Rattle.ae_numeric.proofs.Computations.{err_is}
use Rattle.ae_numeric.proofs.combinations.number_denied.Goals as goal

pub returns-in_err-form-clause-wide : goal.returns-in_err-form-clause-wide
returns-in_err-form-clause-wide c =
    let x = spec.difference_of c.args.relation c.args.left.now c.args.right.now in
    let e = c.in_err-form.field-0.0 in
    err_is c.from_residual.result e (IsWideIn x []) c.from_residual.ensures.1 (subst (λ ks. IsWideIn x ks e) c.new-keys.ensures c.in_err-form.ensures.wide)

pub returns-clause-exact : goal.returns-clause-exact
returns-clause-exact c =
    let n = number_denied c.args.relation c.args.left.now c.args.right.now c.difference_of.new.keys c.in_ok-form.form c.in_ok-form.ensures.meaning in
    (λ t. n.0 (c.is_denied.ensures.0 t), λ h. c.is_denied.ensures.1 (n.1 h))

pub returns-clause-fits : goal.returns-clause-fits
returns-clause-fits c =
    let x = spec.difference_of c.args.relation c.args.left.now c.args.right.now in
    ap (λ ks. first_wide (x ks).steps) (sym c.new-keys.ensures) ∙ c.in_ok-form.ensures.result.fits
