use Rattle.std.specs.Prelude.{◌≡◌}
use Rattle.std.proofs.Common.{rules, subst}
use Rattle.ae_bounds.specs.Rounding.{AreRounded, AreSettled}
use Rattle.ae_bounds.proofs.bounds.Bounds.rows.Goals as goal

pub returns-clause-rounded : goal.returns-clause-rounded
returns-clause-rounded c =
    let e : c.self.inside.rows ≡ c.args.self.now = search rules in
    subst AreRounded e c.self.invariant.rounded

pub returns-clause-settled : goal.returns-clause-settled
returns-clause-settled c =
    let e : c.self.inside.rows ≡ c.args.self.now = search rules in
    subst AreSettled e c.self.invariant.settled
