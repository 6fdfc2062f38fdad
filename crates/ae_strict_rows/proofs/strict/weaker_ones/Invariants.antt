use Rattle.std.specs.Prelude.{◌≡◌, length}
use Rattle.ae_strict_rows.proofs.strict.weaker_ones.Given as goal

abbrev pub invariant-loop-place : goal.invariant-loop-place
invariant-loop-place l = length l.flags ≡ l.place
