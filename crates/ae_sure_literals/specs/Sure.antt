-- Which literals of a trail surely stand.
use Rattle.std.specs.Prelude.{ℕ, ◌<◌, ◌≡◌, ◌↔◌, Bool, true, false, List, length, slice_index_or}
use Rattle.ae_explain.specs.Trail.{at}
use Rattle.ae_explain.specs.declared.trail.Assigned.{Assigned}
use Rattle.ae_journal.specs.Standing.{Setting, SurelyStands}
use Rattle.ae_journal.specs.declared.lines.Line.{Line}

-- one flag for each literal of the trail, which says whether it surely stands
pub record AreSure (x : Setting) (js : List Line) (t : List Assigned) (flags : List Bool) : Type 0 where
  pub one_each : length flags ≡ length t
  pub exact : (k : ℕ) → k < length t → (slice_index_or flags k false ≡ true) ↔ SurelyStands x js (at t k).lit
