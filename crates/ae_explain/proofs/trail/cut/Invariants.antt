use Rattle.std.specs.Prelude.{◌≡◌, ◌<◌, ◌≤◌, ℕ, List, Option, length, take}
use Rattle.ae_core.specs.declared.formulas.Formula.{Formula}
use Rattle.ae_explain.specs.Trail.{at}
use Rattle.ae_explain.specs.Inner.Index.{IsIndex}
use Rattle.ae_explain.proofs.trail.cut.Given as goal

abbrev pub invariant-loop-count : goal.invariant-loop-count
invariant-loop-count l =
    (l.count ≤ length l.fn.assigned) × (l.assigned ≡ take l.count l.fn.assigned)
    × (l.count < length l.fn.assigned → l.level < (at l.fn.assigned l.count).level)
    × ((number : Formula → Option ℕ) (places : List ℕ) → IsIndex number l.fn.assigned l.fn.standing l.fn.values places → IsIndex number l.assigned l.standing l.values places)

abbrev pub decreases-loop-count : goal.decreases-loop-count
decreases-loop-count l = l.count
