use Rattle.std.proofs.Common.{◌≡◌, ◌≤◌, ◌++◌, length, drop}
use Rattle.ae_journal.specs.Values.{settled, scaled}
use Rattle.ae_naturals.specs.Fractions.{value_of}
use Rattle.ae_constants.specs.Forms.{multiples}
use Rattle.ae_constants.proofs.forms.with_multiple.Given as goal

abbrev pub invariant-loop-place : goal.invariant-loop-place
invariant-loop-place l = record {
  within : l.place ≤ length l.added;
  parts : multiples l.parts.items ≡ settled (drop l.place (scaled (value_of l.by) (multiples l.added)) ++ multiples l.initial.parts.items);
}

abbrev pub decreases-loop-place : goal.decreases-loop-place
decreases-loop-place l = l.place
