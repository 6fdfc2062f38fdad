use Rattle.std.proofs.Common.{◌++◌, ◌∙◌, ap, subst, sym}
use Rattle.ae_math.specs.Fractions.{◌+ℚ◌, ◌*ℚ◌}
use Rattle.ae_journal.specs.Values.{settled, scaled, IsSettled}
use Rattle.ae_naturals.specs.Fractions.{value_of}
use Rattle.ae_constants.specs.Forms.{meaning}
use Rattle.ae_constants.proofs.ExactLaws.{multiple_exact}
use Rattle.ae_constants.proofs.forms.multiple_of.Goals as goal

pub with_multiple-requires : goal.with_multiple-requires
with_multiple-requires c = subst IsSettled (sym (ap (λ f. f.parts) c.in_ok-nothing.ensures)) tt

pub returns : goal.returns
returns c =
    let x = value_of c.args.by.now in
    let f = meaning c.args.form.now in
    λ ts n g e.
    multiple_exact ts n x g f (meaning c.in_ok-product.product) e
    (c.in_ok-product.ensures.parts ∙ ap (λ z. settled (scaled x f.parts ++ z.parts)) c.in_ok-nothing.ensures)
    (c.in_ok-product.ensures.constant ∙ ap (λ z. x *ℚ f.constant +ℚ z.constant) c.in_ok-nothing.ensures)
