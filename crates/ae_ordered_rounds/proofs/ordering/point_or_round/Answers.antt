use Rattle.std.specs.List.{AllByRecursion}
use Rattle.std.proofs.Common.{sym, subst, arith}
use Rattle.ae_ordered_rounds.proofs.Asking.{where_false, where_true}
use Rattle.ae_ordered_rounds.proofs.Pointless.{nothing_to_satisfy}
use Rattle.ae_ordered_rounds.proofs.Steps.{same_itself}
use Rattle.ae_ordered_rounds.specs.Inner.Orderable.{HasInequality, HasNoInequality}
use Rattle.ae_stategrammar.specs.Points.{PointStands}
use Rattle.ae_ordered_rounds.proofs.ordering.point_or_round.Goals as goal

pub inequality_round-requires-clause-between : goal.inequality_round-requires-clause-between
inequality_round-requires-clause-between v c = c.requires.between

pub inequality_round-requires-clause-is_open : goal.inequality_round-requires-clause-is_open
inequality_round-requires-clause-is_open v c = c.requires.is_open

pub inequality_round-requires-clause-served : goal.inequality_round-requires-clause-served
inequality_round-requires-clause-served v c = c.requires.served

pub inequality_round-requires-clause-ordered : goal.inequality_round-requires-clause-ordered
inequality_round-requires-clause-ordered v c = c.requires.ordered

pub inequality_round-requires-clause-orders : goal.inequality_round-requires-clause-orders
inequality_round-requires-clause-orders v c = c.requires.orders

pub inequality_round-requires-clause-inequal : goal.inequality_round-requires-clause-inequal
inequality_round-requires-clause-inequal v c = subst HasInequality c.trail.ensures (where_true _ _ c.has_inequality-inequal.result c.if-inequal.true c.has_inequality-inequal.ensures)

pub returns-then-inequal-clause-comes : goal.returns-then-inequal-clause-comes
returns-then-inequal-clause-comes v c = c.inequality_round.ensures.comes

pub returns-clause-comes : goal.returns-clause-comes
returns-clause-comes v c =
    let o = c.args.search.now in
    record {
      between = c.requires.between;
      is_open = c.requires.is_open;
      point = nothing_to_satisfy o c.new.result (subst HasNoInequality c.trail.ensures (where_false _ _ c.has_inequality-inequal.result c.if-inequal.false c.has_inequality-inequal.ensures));
      orders = c.requires.orders;
      written = subst (AllByRecursion PointStands) (sym c.new.ensures) tt;
      same = same_itself o;
      counted = omega arith;
    }
