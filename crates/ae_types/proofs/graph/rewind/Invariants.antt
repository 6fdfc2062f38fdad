use Rattle.std.proofs.Common.{◌≡◌, length}
use Rattle.ae_types.specs.Inner.Graphs.{rewound}
use Rattle.ae_types.proofs.graph.rewind.Given as goal

abbrev pub invariant-loop-change : goal.invariant-loop-change
invariant-loop-change l = rewound l.classes l.log ≡ rewound l.fn.classes l.fn.log

abbrev pub decreases-loop-change : goal.decreases-loop-change
decreases-loop-change l = length l.log
