use Rattle.std.specs.Prelude.{true, false}
use Rattle.std.proofs.Common.{◌≡◌}
use Rattle.ae_bounds.proofs.Stopping.{stops_one, possible_one}
use Rattle.ae_bounds.proofs.bounds.combine_and_look.Goals as goal

pub ends_refuted-requires : goal.ends_refuted-requires
ends_refuted-requires c = record { normal = c.combine_rows.ensures.indexed.normal }

pub returns-in_err-combine_rows-clause-stops : goal.returns-in_err-combine_rows-clause-stops
returns-in_err-combine_rows-clause-stops c = stops_one c.args.rows.now c.combine_rows.new.rows c.requires.possible c.combine_rows.ensures.one

pub returns-clause-done : goal.returns-clause-done
returns-clause-done c = λ e. c.in_ok-combine_rows.ensures.done

pub returns-clause-refuted : goal.returns-clause-refuted
returns-clause-refuted c = λ e. let t : c.ends_refuted.result ≡ true = cc in c.ends_refuted.ensures.yes t

pub returns-clause-possible : goal.returns-clause-possible
returns-clause-possible c = λ e.
    let t : c.ends_refuted.result ≡ false = cc in
    possible_one c.args.rows.now c.combine_rows.new.rows c.requires.possible c.combine_rows.ensures.one (c.ends_refuted.ensures.no t)

pub returns-clause-stops : goal.returns-clause-stops
returns-clause-stops c = stops_one c.args.rows.now c.combine_rows.new.rows c.requires.possible c.combine_rows.ensures.one
