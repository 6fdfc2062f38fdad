use Rattle.std.proofs.Common.{refl}
use Rattle.ae_explain.specs.Assignments.{number_in}
use Rattle.ae_propagation.proofs.Fitting.{wide_coded}
use Rattle.ae_propagation.proofs.coded.number_for.Goals as goal

pub returns-clause-coded : goal.returns-clause-coded
returns-clause-coded c =
    wide_coded (number_in c.args.trail.now.numbers) (number_in c.number_of.new.trail.numbers) c.args.coded.now _
    (record { is_table = c.number_of.ensures.is_table; same = c.number_of.ensures.same; kept = c.number_of.ensures.kept }) refl refl c.requires
