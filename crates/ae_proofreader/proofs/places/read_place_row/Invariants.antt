use Rattle.std.proofs.Common.{length, ◌-◌, ◌≤◌}
use Rattle.ae_proofreader.proofs.PlaceReading.{PlacedSoFar}
use Rattle.ae_proofreader.proofs.places.read_place_row.Given as goal

abbrev pub invariant-places : goal.invariant-places
invariant-places l = (l.from ≤ l.at) × (l.from ≤ length l.text → l.at ≤ length l.text) × PlacedSoFar l.text l.from l.low l.at l.places

abbrev pub decreases-places : goal.decreases-places
decreases-places l = length l.text - l.at
