use Rattle.std.specs.Prelude.{◌≡◌, ◌≤◌, ◌++◌, List, length}
use Rattle.std.specs.List.{Contains}
use Rattle.ae_theory.specs.Paths.{list_at}
use Rattle.ae_theory.specs.Classes.{Clashes}
use Rattle.ae_theory.specs.declared.nodes.Node.{Node}
use Rattle.ae_theory.proofs.chains.conflict_at.Given as goal

-- the nodes from the place on don't clash
abbrev pub invariant-loop-place : goal.invariant-loop-place
invariant-loop-place l =
    (rest : List Node) × (l.place ≤ length l.nodes) × (list_at l.nodes l.last ≡ list_at l.nodes l.place ++ rest)
    × ((x : Node) → Contains rest x → ¬ Clashes (list_at l.nodes l.last) x)

abbrev pub decreases-loop-place : goal.decreases-loop-place
decreases-loop-place l = l.place
