use Rattle.std.specs.Prelude.{◌≡◌, List, []}
use Rattle.std.specs.List.{Contains}
use Rattle.std.proofs.Common.{arith, subst}
use Rattle.ae_bounds.specs.declared.rows.Row.{Row}
use Rattle.ae_bound_solve_tests.proofs.tests.names.Goals as goal

none_in : (rows : List Row) (r : Row) → rows ≡ [] → Contains rows r → ⊥
none_in rows r e h = let g : Contains [] r = subst (λ (rs : List Row). Contains rs r) e h in let l = g.1 in omega (arith, l)

pub solve-requires-clause-given : goal.solve-requires-clause-given
solve-requires-clause-given c = λ r tag h e. absurd (none_in c.args.bounds.now r c.requires h)

pub solve-requires-clause-opaque : goal.solve-requires-clause-opaque
solve-requires-clause-opaque c = record { opaque = λ n w. absurd (none_in c.args.bounds.now w.row c.requires w.among); apart = λ n m w v e. absurd (none_in c.args.bounds.now w.row c.requires w.among) }
