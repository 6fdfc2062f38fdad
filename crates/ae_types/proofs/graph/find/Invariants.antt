use Rattle.std.proofs.Common.{◌≡◌, ℕ, ◌<◌, length, List, Option}
use Rattle.ae_core.specs.declared.terms.Sort.{Sort}
use Rattle.ae_types.specs.declared.pairs.SortPair.{SortPair}
use Rattle.ae_types.specs.declared.graph.Node.{Node}
use Rattle.ae_types.specs.Inner.Graphs.{Solves, Same, slots_of, rewound}
use Rattle.ae_types.specs.Inner.Joins.{Shortened}
use Rattle.ae_types.proofs.graph.find.Given as goal

abbrev pub invariant-loop-at : goal.invariant-loop-at
invariant-loop-at l = record {
  shortened : Shortened l.fn.classes l.classes;
  within : l.at < length l.classes;
  same : (nodes : List Node) (e : Option (List SortPair)) (v : ℕ → Sort) → Solves e v (slots_of nodes l.fn.classes) → Same e (v l.start) (v l.at);
  rewinds : rewound l.classes l.log ≡ rewound l.fn.classes l.fn.log;
}

abbrev pub decreases-loop-at : goal.decreases-loop-at
decreases-loop-at l = l.at
