use Rattle.std.specs.Prelude.{ℕ, ◌≡◌, length, IsTrue}
use Rattle.std.proofs.Common.{refl, sym, ◌∙◌, arith}
use Rattle.ae_base.proofs.Relations.{pairwise_length}
use Rattle.ae_base.proofs.Tests.{false_true, true_false}
use Rattle.ae_value_table.specs.Alike.{alike}
use Rattle.ae_saturation.proofs.Looking.{pairs_of, pair_at}
use Rattle.ae_saturation.proofs.lasting.same_each.Goals as goal

pub returns-then-left-right : goal.returns-then-left-right
returns-then-left-right c = (λ t. absurd (false_true t), λ a. absurd (c.if-left-right.true (pairwise_length (λ (m n : ℕ). IsTrue (alike c.args.values.now m n)) c.args.left.now c.args.right.now a)))

pub returns-then-not-same : goal.returns-then-not-same
returns-then-not-same c = (
  λ t. absurd (false_true t),
  λ a. true_false (sym (pair_at (λ (m n : ℕ). IsTrue (alike c.args.values.now m n)) c.args.left.now c.args.right.now a c.loop-i.i c.loop-i-test.true) ∙ sym c.same-same.ensures ∙ c.if-not-same.true),
)

pub returns : goal.returns
returns c =
    let same : length c.args.left.now ≡ length c.args.right.now = omega (arith, c.if-left-right.false) in (
      λ t. pairs_of (λ (m n : ℕ). IsTrue (alike c.args.values.now m n)) c.args.left.now c.args.right.now same (λ k l. c.loop-i.invariant k (omega (arith, l, c.loop-i-test.false, c.loop-i.auto.i-end))),
      λ a. refl,
    )
