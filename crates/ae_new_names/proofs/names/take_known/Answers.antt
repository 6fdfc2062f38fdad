use Rattle.std.specs.Prelude.{◌≡◌}
use Rattle.std.proofs.Common.{sym, subst}
use Rattle.ae_theory.specs.Names.{terms_in}
use Rattle.ae_theory.specs.declared.theory.Fail.TheVariants.{Steps as OutOfSteps, Number}
use Rattle.ae_take_in.specs.TakingWidths.{IsTakingWidth}
use Rattle.ae_value_fitting.specs.declared.refusals.Refused.{Refused}
use Rattle.ae_value_fitting.specs.Refusals.{IfNumber}
use Rattle.ae_new_names.proofs.Stepping.{old_entries, old_said, old_steps, old_values, all_now, step_now}
use Rattle.ae_new_names.proofs.TakenIn.{fits_now, taken_leads}
use Rattle.ae_new_names.proofs.Taking.{done_within, done_closed, done_keeps, taken_may_note, same_within, same_closed, same_keeps, taking_licensed}
use Rattle.ae_new_names.proofs.names.take_known.Goals as goal

pub take_in-requires-clause-same : goal.take_in-requires-clause-same
take_in-requires-clause-same c = sym ((c.requires.fits).terms).signature

pub take_in-requires-clause-fits : goal.take_in-requires-clause-fits
take_in-requires-clause-fits c = old_steps c.args.store.now c.args.held.now c.requires.fits c.requires.all c.len-names.ensures.store

pub take_in-requires-clause-entries : goal.take_in-requires-clause-entries
take_in-requires-clause-entries c = old_entries c.args.store.now c.args.held.now c.requires.fits c.requires.all c.len-names.ensures.store

pub take_in-requires-clause-values : goal.take_in-requires-clause-values
take_in-requires-clause-values c = old_values c.args.store.now c.args.held.now c.requires.fits c.requires.all c.len-names.ensures.store

pub take_in-requires-clause-said : goal.take_in-requires-clause-said
take_in-requires-clause-said c = old_said c.args.store.now c.args.held.now c.requires.fits c.requires.all c.len-names.ensures.store

pub take_in-requires-clause-one_each : goal.take_in-requires-clause-one_each
take_in-requires-clause-one_each c = (c.requires.constants).one_each

pub take_in-requires-clause-constants : goal.take_in-requires-clause-constants
take_in-requires-clause-constants c = (c.requires.constants).each

-- ---- all names have values
pub returns-in-Ok-clause-leads : goal.returns-in-Ok-clause-leads
returns-in-Ok-clause-leads c =
    let s = c.args.store.now in
    let o = c.args.held.now in
    let v = c.take_in.new.values in
    let t = c.take_in.ensures in
    let done = c.in-Ok.ensures.ok in
    let fits = c.requires.fits in
    let all = c.requires.all in
    let store = c.len-names.ensures.store in
    taken_leads s o fits all v c.take_in.new.justs t.front t.fits t.entries t.values t.said t.sources t.lasts (done_within s o fits all store v done t.values) (done_closed s o fits all store v done t.values)
    (done_keeps s o fits all store v done t.values)

pub returns-in-Ok-clause-taken : goal.returns-in-Ok-clause-taken
returns-in-Ok-clause-taken c =
    let s = c.args.store.now in
    let o = c.args.held.now in
    let v = c.take_in.new.values in
    let js = c.take_in.new.justs in
    let t = c.take_in.ensures in
    let done = c.in-Ok.ensures.ok in
    let fits = c.requires.fits in
    let all = c.requires.all in
    let store = c.len-names.ensures.store in
    record {
      store = store;
      fits =
          fits_now s o fits all v js t.front t.fits t.entries t.values t.said t.sources t.lasts (done_within s o fits all store v done t.values) (done_closed s o fits all store v done t.values)
          (done_keeps s o fits all store v done t.values);
      all = all_now s o fits all store v js done c.in-Ok.ensures.patterns t.values t.kept c.in-Ok.ensures.own c.new_names_are_in_step.ensures;
    }

pub returns-in-Ok-clause-step : goal.returns-in-Ok-clause-step
returns-in-Ok-clause-step c =
    step_now c.args.store.now c.args.held.now c.requires.fits c.requires.all c.len-names.ensures.store c.take_in.new.values c.take_in.new.justs c.in-Ok.ensures.ok c.in-Ok.ensures.patterns c.take_in.ensures.values
    c.take_in.ensures.kept c.in-Ok.ensures.own c.new_names_are_in_step.ensures

pub returns-in-Ok-clause-steps : goal.returns-in-Ok-clause-steps
returns-in-Ok-clause-steps c e = absurd (cc e)

pub returns-in-Ok-clause-number : goal.returns-in-Ok-clause-number
returns-in-Ok-clause-number c wide js e = absurd (cc e)

pub returns-in-Ok-clause-budget : goal.returns-in-Ok-clause-budget
returns-in-Ok-clause-budget c =
    taken_may_note c.args.store.now c.args.held.now c.requires.fits c.requires.all c.len-names.ensures.store c.take_in.new.values c.in-Ok.ensures.ok c.take_in.ensures.kept

-- ---- a refusal
pub returns-in-Err-clause-leads : goal.returns-in-Err-clause-leads
returns-in-Err-clause-leads c =
    let s = c.args.store.now in
    let o = c.args.held.now in
    let v = c.take_in.new.values in
    let t = c.take_in.ensures in
    let same = c.in-Err.ensures.err in
    let fits = c.requires.fits in
    let all = c.requires.all in
    let store = c.len-names.ensures.store in
    taken_leads s o fits all v c.take_in.new.justs t.front t.fits t.entries t.values t.said t.sources t.lasts (same_within s o fits all store v same t.known) (same_closed s o fits all store v same t.known)
    (same_keeps s o fits all store v same t.known)

pub returns-in-Err-clause-steps : goal.returns-in-Err-clause-steps
returns-in-Err-clause-steps c e = let why : c.failed.result ≡ OutOfSteps = cc e in c.failed.ensures.steps why

pub returns-in-Err-clause-number : goal.returns-in-Err-clause-number
returns-in-Err-clause-number c wide js e i =
    let s = c.args.store.now in
    let o = c.args.held.now in
    let why : c.failed.result ≡ Number wide = cc e in
    taking_licensed s o c.requires.fits c.requires.all c.len-names.ensures.store c.widths_of_names_taken_in_are_licensed.ensures wide
    (subst (λ (z : Refused). IfNumber z (λ w. IsTakingWidth s.signature (terms_in s) o.values w)) (c.failed.ensures.number wide why) c.in-Err.ensures.wide) js i
