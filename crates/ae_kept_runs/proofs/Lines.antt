-- The lines that come in with a run: none goes.
use Rattle.std.specs.Prelude.{◌≤◌, List, length}
use Rattle.std.proofs.Common.{ap, arith, length-append}
use Rattle.ae_core.specs.declared.proofs.ClauseLine.{ClauseLine}
use Rattle.ae_kept_runs.specs.Runs.{ComesOver}
use Rattle.ae_rules.specs.Clauses.{Clause}
use Rattle.ae_sat.proofs.Closure.{all_among, all_formulas, all_parts}
use Rattle.ae_store.specs.Stores.{Stored}

-- no line goes
pub no_fewer : (s : Stored) (clauses : List Clause) (old new : List ClauseLine) → ComesOver s clauses old new → length old ≤ length new
no_fewer s clauses old new adds =
    let a = adds (all_formulas clauses) (all_parts clauses) (all_among clauses) in
    omega (arith, ap length a.1, length-append old a.0)
