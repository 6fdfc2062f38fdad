use Rattle.std.proofs.Common.{◌≡◌, ◌≤◌, length}
use Rattle.ae_pmap.specs.Pairs.{Rises}
use Rattle.ae_pmap.specs.Trees.{pairs}
use Rattle.ae_pmap.specs.Nodes.{tree_at}
use Rattle.ae_pmap.proofs.Walks.{first_or, next_pair}
use Rattle.ae_pmap.proofs.nodes.next_after.Given as goal

abbrev pub invariant-loop-place : goal.invariant-loop-place
invariant-loop-place l = record {
  inside : l.place ≤ length l.nodes;
  rises : Rises (pairs (tree_at l.nodes l.place));
  same : first_or (next_pair l.last (pairs (tree_at l.nodes l.place))) l.best ≡ next_pair l.last (pairs (tree_at l.nodes l.root));
}

abbrev pub decreases-loop-place : goal.decreases-loop-place
decreases-loop-place l = l.place
