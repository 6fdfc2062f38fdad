use Rattle.std.proofs.Common.{◌≡◌, length, refl, sym, ◌∙◌, arith}
use Rattle.ae_base.proofs.Tests.{false_true}
use Rattle.ae_sweeps.specs.Given.{rep_in}
use Rattle.ae_literals.proofs.OpposedAtoms.{same_at, same_each}
use Rattle.ae_literals.proofs.atoms.same_representatives.Goals as goal

pub returns-then-representative : goal.returns-then-representative
returns-then-representative c = (
  λ t. absurd (false_true t),
  λ e. absurd (c.if-representative.true (c.representative.ensures ∙ same_at (rep_in c.args.reps.now) c.args.left.now c.args.right.now e c.loop-i.i c.loop-i-test.true ∙ sym c.representative-in-loop-i.ensures)),
)

pub returns : goal.returns
returns c =
    let same : length c.args.left.now ≡ length c.args.right.now = omega (arith, c.if-left-right.false) in (
      λ t. same_each (rep_in c.args.reps.now) c.args.left.now c.args.right.now same (λ k l. c.loop-i.invariant k (omega (arith, l, c.loop-i-test.false, c.loop-i.auto.i-end))),
      λ e. refl,
    )
