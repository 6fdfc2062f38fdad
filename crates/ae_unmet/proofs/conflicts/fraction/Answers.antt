use Rattle.std.specs.Prelude.{List}
use Rattle.std.proofs.Common.{sym, ap, subst}
use Rattle.ae_conflicts.specs.Conflicting.{IsConflict}
use Rattle.ae_conflicts.specs.declared.conflicts.Conflict.TheVariants as conflict
use Rattle.ae_just.specs.declared.steps.Step.{Step}
use Rattle.ae_pmap.specs.Forest.{present}
use Rattle.ae_theory.specs.Names.{terms_in}
use Rattle.ae_state.specs.declared.holding.Holding.{Holding}
use Rattle.ae_unmet.proofs.Fractions.{fraction_now, rows_said}
use Rattle.ae_unmet.proofs.Growth.{grown_none, grown_pushed, own_now}
use Rattle.ae_unmet.proofs.conflicts.fraction.Goals as goal

pub first_fraction-requires : goal.first_fraction-requires
first_fraction-requires c = record { said = rows_said c.args.held.now c.requires.taken.0 c.requires.taken.1 }

pub returns-in_err-number-in-Some-clause-grown : goal.returns-in_err-number-in-Some-clause-grown
returns-in_err-number-in-Some-clause-grown c s t = grown_pushed s c.args.held.now c.args.held.now c.push_conflict.new.held (grown_none s c.args.held.now t.fits) c.push_conflict.ensures.front c.push_conflict.ensures.others

pub returns-in_ok-number-in-Some-clause-grown : goal.returns-in_ok-number-in-Some-clause-grown
returns-in_ok-number-in-Some-clause-grown c s t = grown_pushed s c.args.held.now c.args.held.now c.push_conflict.new.held (grown_none s c.args.held.now t.fits) c.push_conflict.ensures.front c.push_conflict.ensures.others

pub returns-in_ok-number-in-Some-clause-own : goal.returns-in_ok-number-in-Some-clause-own
returns-in_ok-number-in-Some-clause-own c =
    let s = c.requires.taken.0 in
    let t = c.requires.taken.1 in
    let o = c.args.held.now in
    own_now s o c.push_conflict.new.held t (grown_pushed s o o c.push_conflict.new.held (grown_none s o t.fits) c.push_conflict.ensures.front c.push_conflict.ensures.others) c.in_ok-number-in-Some.number
    (conflict.Unsolvable c.in-Some.step) c.in_ok-number-in-Some.ensures.at
    (subst (λ (steps : List Step). IsConflict s.signature (terms_in s) steps (present o.assumed) (conflict.Unsolvable c.in-Some.step)) (sym (ap (λ (x : Holding). x.justs) c.push_conflict.ensures.others))
    (fraction_now s o t c.fractions_of_names_are_conflicts.ensures c.in-Some.step c.in-Some.ensures.some))

pub returns-in-None-clause-grown : goal.returns-in-None-clause-grown
returns-in-None-clause-grown c s t = grown_none s c.args.held.now t.fits
