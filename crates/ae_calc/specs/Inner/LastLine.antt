-- How a proof ends.
use Rattle.std.specs.Prelude.{ℕ, List, [], ◌≡◌, Some}
use Rattle.ae_base.specs.Options.{◌>>=◌}
use Rattle.ae_rules.specs.Derivations.{last_of, conclusion}
use Rattle.ae_core.specs.declared.problems.Problem.{Problem}
use Rattle.ae_core.specs.declared.proofs.ClauseLine.{ClauseLine}

-- the last line states the empty clause
abbrev pub EndsEmpty : Problem → ℕ → List ClauseLine → Type 0
EndsEmpty p g lines = (last_of lines >>= conclusion p g) ≡ Some []
