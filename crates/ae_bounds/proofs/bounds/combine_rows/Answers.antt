use Rattle.std.specs.Prelude.{List, Option, IfSome}
use Rattle.std.proofs.Common.{subst, refl, inl}
use Rattle.ae_bounds.specs.declared.rows.Row.{Row}
use Rattle.ae_bounds.specs.Combinations.IsExtended.{as_it_was}
use Rattle.ae_bounds.specs.Inner.Pairs.{IsMadeOf}
use Rattle.ae_bounds.proofs.Noted.{pair_done}
use Rattle.ae_bounds.proofs.bounds.combine_rows.Goals as goal

pub returns-in_err-row-clause-extended : goal.returns-in_err-row-clause-extended
returns-in_err-row-clause-extended c = as_it_was

pub returns-in-None-clause-extended : goal.returns-in-None-clause-extended
returns-in-None-clause-extended c = as_it_was

pub returns-in_err-row-clause-one : goal.returns-in_err-row-clause-one
returns-in_err-row-clause-one c = inl refl

pub returns-in-None-clause-one : goal.returns-in-None-clause-one
returns-in-None-clause-one c = inl refl

pub returns-in-Some-clause-one : goal.returns-in-Some-clause-one
returns-in-Some-clause-one c = c.note_new.ensures.one

pub returns-in-Some-clause-done : goal.returns-in-Some-clause-done
returns-in-Some-clause-done c =
    let seen = c.as_slice.result.now in
    let made : IsMadeOf seen c.args.lower c.args.upper c.in-Some.row = subst (λ (o : Option Row). IfSome o (λ row. IsMadeOf seen c.args.lower c.args.upper row)) c.in-Some.is c.in_ok-row.ensures.pair in
    pair_done c.args.rows.now c.args.lower c.args.upper c.note_new.new.rows c.in-Some.row c.note_new.result (subst (λ (rs : List Row). IsMadeOf rs c.args.lower c.args.upper c.in-Some.row) c.as_slice.ensures made) c.note_new.ensures.held
