use Rattle.std.proofs.Common.{◌≡◌, ◌++◌, ◌∙◌, ap, subst, sym}
use Rattle.ae_math.specs.Fractions.{one_ℚ, ◌+ℚ◌, ◌*ℚ◌}
use Rattle.ae_journal.specs.Values.{settled, scaled, IsSettled}
use Rattle.ae_evaluation.proofs.Sums.{settles}
use Rattle.ae_naturals.specs.Fractions.{value_of}
use Rattle.ae_constants.specs.Forms.{meaning}
use Rattle.ae_constants.proofs.ExactLaws.{combined_exact, one_ratio}
use Rattle.ae_constants.proofs.forms.combination.Goals as goal

pub with_multiple-requires : goal.with_multiple-requires
with_multiple-requires c = subst IsSettled (sym (ap (λ f. f.parts) c.in_ok-nothing.ensures)) tt

pub with_multiple-requires-2 : goal.with_multiple-requires-2
with_multiple-requires-2 c = subst IsSettled (sym c.in_ok-first.ensures.parts) (settles (scaled (value_of c.in_ok-one.one) (meaning c.args.left.now).parts ++ (meaning c.in_ok-nothing.nothing).parts))

pub returns : goal.returns
returns c =
    let x = value_of c.args.by.now in
    let l = meaning c.args.left.now in
    let one : value_of c.in_ok-one.one ≡ one_ℚ = c.in_ok-one.ensures ∙ one_ratio in
    λ ts n g h a b.
    combined_exact ts n x g h l (meaning c.in_ok-first.first) (meaning c.args.right.now) (meaning c.in_ok-sum.sum) a b
    (c.in_ok-first.ensures.parts ∙ (λ j. settled (scaled (one j) l.parts ++ (c.in_ok-nothing.ensures j).parts)))
    (c.in_ok-first.ensures.constant ∙ (λ j. one j *ℚ l.constant +ℚ (c.in_ok-nothing.ensures j).constant))
    c.in_ok-sum.ensures.parts c.in_ok-sum.ensures.constant
