use Rattle.std.proofs.Common.{◌≡◌, ◌-◌, ◌≤◌, ◌++◌, length, take, drop}
use Rattle.ae_math.specs.Fractions.{ℚ}
use Rattle.ae_journal.specs.Values.{enter}
use Rattle.ae_constants.specs.Forms.{multiples}
use Rattle.ae_constants.proofs.forms.place_of.Given as goal

abbrev pub invariant-places : goal.invariant-places
invariant-places l = record {
  within : l.place ≤ length l.parts;
  before : (x : ℚ) → enter l.name x (multiples l.parts) ≡ take l.place (multiples l.parts) ++ enter l.name x (drop l.place (multiples l.parts));
}

abbrev pub decreases-places : goal.decreases-places
decreases-places l = length l.parts - l.place
