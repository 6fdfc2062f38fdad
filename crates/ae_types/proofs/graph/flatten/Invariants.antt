use Rattle.std.proofs.Common.{◌≡◌}
use Rattle.ae_types.specs.Inner.Graphs.{rewound}
use Rattle.ae_types.specs.Inner.Joins.{Shortened}
use Rattle.ae_types.proofs.graph.flatten.Given as goal

abbrev pub invariant-loop-at : goal.invariant-loop-at
invariant-loop-at l = record {
  shortened : Shortened l.fn.classes l.classes;
  rewinds : rewound l.classes l.log ≡ rewound l.fn.classes l.fn.log;
}
