use Rattle.std.proofs.Common.{sym, subst}
use Rattle.ae_core.specs.declared.terms.Term.{Term}
use Rattle.ae_order_counts.specs.Counts.{IsOrderOpen}
use Rattle.ae_ordered_rounds.proofs.Asking.{where_false}
use Rattle.ae_ordered_rounds.proofs.pending.open_copies.Goals as goal

pub returns : goal.returns
returns c = (
  λ i. record { left = c.in_ok-one.ensures i; right = c.in_ok-other.ensures i },
  subst (λ (z : Term × Term). IsOrderOpen c.args.trail.now.assigned z.0 z.1) (λ i. (sym c.in_ok-one.ensures i, sym c.in_ok-other.ensures i))
      (where_false _ _ c.in_ok-ordered.ordered c.if-ordered.false c.in_ok-ordered.ensures),
)
