use Rattle.std.proofs.Common.{ℕ, [], ◌⊎◌, length}
use Rattle.std.specs.List.{Contains}
use Rattle.ae_brought_clauses.specs.Inner.Bringing.{AreWithin, Brings, IsServed}
use Rattle.ae_brought_clauses.proofs.bringing.bring_fallen.Given as goal

abbrev pub invariant-loop-place : goal.invariant-loop-place
invariant-loop-place l =
    AreWithin l.opened l.left
    × Brings l.opened l.generation l.fn.store l.fn.ages l.store l.ages []
    × ((k : ℕ) → Contains l.fn.places k → Contains l.left k ⊎ IsServed l.opened l.generation l.store l.ages k)

abbrev pub decreases-loop-place : goal.decreases-loop-place
decreases-loop-place l = length l.left
