use Rattle.std.proofs.Common.{◌≡◌, ◌+◌, ℕ, List, length}
use Rattle.ae_types.specs.Inner.Graphs.{slots_of, rewound}
use Rattle.ae_types.specs.Inner.Joins.{weight, Closing}
use Rattle.ae_types.specs.Inner.Orders.{Ordered}
use Rattle.ae_types.proofs.joins.close.Given as goal

abbrev pub invariant-loop-pair : goal.invariant-loop-pair
invariant-loop-pair l = record {
  closing : Closing l.nodes l.fn.classes l.classes l.fn.todo l.todo;
  rewinds : rewound l.classes l.log ≡ rewound l.fn.classes l.fn.log;
  ordered : (ls : List ℕ) → Ordered ls l.fn.joined (slots_of l.nodes l.fn.classes) → Ordered ls l.joined (slots_of l.nodes l.classes);
}

abbrev pub decreases-loop-pair : goal.decreases-loop-pair
decreases-loop-pair l = weight (slots_of l.nodes l.classes) + length l.todo
