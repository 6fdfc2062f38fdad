use Rattle.std.specs.Prelude.{◌≡◌, List}
use Rattle.std.proofs.Common.{rules, subst}
use Rattle.ae_bounds.specs.declared.rows.Row.{Row}
use Rattle.ae_bounds.specs.Findings.{StopsAtRefuted}
use Rattle.ae_bounds.proofs.bounds.Bounds.close.Goals as goal

pub returns-clause-stops : goal.returns-clause-stops
returns-clause-stops c =
    let e : c.self.inside.rows ≡ c.args.self.now = search rules in
    subst (λ (rs : List Row). StopsAtRefuted rs c.close_rows.new.rows) e c.close_rows.ensures.stops
