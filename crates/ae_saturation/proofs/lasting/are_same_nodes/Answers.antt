use Rattle.std.specs.Prelude.{◌≡◌}
use Rattle.std.proofs.Common.{sym, ap, ◌∙◌}
use Rattle.ae_base.proofs.Tests.{false_true, true_false}
use Rattle.ae_core.specs.declared.terms.Head.{Head}
use Rattle.ae_store.specs.declared.nodes.NodeHead.TheVariants.{Of}
use Rattle.ae_saturation.proofs.Looking.{heads_same}
use Rattle.ae_saturation.proofs.lasting.are_same_nodes.Goals as goal

pub returns-then-not-heads : goal.returns-then-not-heads
returns-then-not-heads c = (
  λ t. absurd (false_true t),
  λ a. true_false (sym (c.same_head-heads.ensures.1 (heads_same c.args.values.now c.args.left.now c.args.right.now c.in-Of.head c.in-Of-head.other c.in-Of.is c.in-Of-head.is a)) ∙ c.if-not-heads.true),
)

pub returns-then-not-sorts : goal.returns-then-not-sorts
returns-then-not-sorts c = (λ t. absurd (false_true t), λ a. true_false (sym (c.same_sorts_of-sorts.ensures.1 a.sorts) ∙ c.if-not-sorts.true))

pub returns : goal.returns
returns c =
    let heads : c.in-Of.head ≡ c.in-Of-head.other = c.same_head-heads.ensures.0 c.if-not-heads.false in (
      λ t. record {
        head = c.in-Of.head;
        first = c.in-Of.is;
        second = c.in-Of-head.is ∙ ap (λ (h : Head). Of h) (sym heads);
        sorts = c.same_sorts_of-sorts.ensures.0 c.if-not-sorts.false;
        args = c.same_args.ensures.0 t;
      },
      λ a. c.same_args.ensures.1 a.args,
    )
