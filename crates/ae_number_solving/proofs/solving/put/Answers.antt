use Rattle.std.proofs.Common.{ap}
use Rattle.std.proofs.lemmas.Result.{on_ok_weaker}
use Rattle.ae_state_steps.specs.ValueSteps.{sort_for}
use Rattle.ae_value_table.specs.Table.{Contents}
use Rattle.ae_turns.proofs.Unsolved.{number_solved}
use Rattle.ae_value_turns.proofs.TakenNames.{patterns_are, values_are, steps_are, said_are}
use Rattle.ae_number_solving.proofs.Puts.{put_taken, put_leads, put_step}
use Rattle.ae_number_solving.proofs.solving.put.Goals as goal

pub put_number-requires-clause-fits : goal.put_number-requires-clause-fits
put_number-requires-clause-fits c = steps_are c.args.held.now c.args.store.now c.requires.may.taken

pub put_number-requires-clause-patterns : goal.put_number-requires-clause-patterns
put_number-requires-clause-patterns c = patterns_are c.args.held.now c.args.store.now c.requires.may.taken

pub put_number-requires-clause-values : goal.put_number-requires-clause-values
put_number-requires-clause-values c = values_are c.args.held.now c.args.store.now c.requires.may.taken

pub put_number-requires-clause-said : goal.put_number-requires-clause-said
put_number-requires-clause-said c = said_are c.args.held.now c.args.store.now c.requires.may.taken

pub put_number-requires-clause-own : goal.put_number-requires-clause-own
put_number-requires-clause-own c = c.requires.may.own

pub put_number-requires-clause-normal : goal.put_number-requires-clause-normal
put_number-requires-clause-normal c = c.requires.may.normal

pub put_number-requires-clause-over : goal.put_number-requires-clause-over
put_number-requires-clause-over c = c.requires.may.over

pub put_number-requires-clause-other : goal.put_number-requires-clause-other
put_number-requires-clause-other c = c.requires.may.other

pub put_number-requires-clause-just : goal.put_number-requires-clause-just
put_number-requires-clause-just c = c.requires.may.states

pub returns-clause-leads : goal.returns-clause-leads
returns-clause-leads c =
    let p = c.put_number.ensures in
    put_leads c.args.store.now c.args.held.now c.args.real c.args.name c.args.number c.args.just c.requires.may c.put_number.new.values c.put_number.new.justs p.front p.fits p.others p.values p.said p.sources p.lasts

pub returns-clause-taken : goal.returns-clause-taken
returns-clause-taken c =
    let p = c.put_number.ensures in
    put_taken c.args.store.now c.args.held.now c.args.real c.args.name c.args.number c.args.just c.requires.may c.put_number.new.values c.put_number.new.justs p.front p.fits p.others p.values p.said p.sources p.lasts

pub returns-clause-step : goal.returns-clause-step
returns-clause-step c =
    let p = c.put_number.ensures in
    on_ok_weaker c.put_number.result
    (put_step c.args.store.now c.args.held.now c.args.real c.args.name c.args.number c.args.just c.requires.may c.put_number.new.values c.put_number.new.justs p.front p.fits p.others p.values p.said p.sources p.lasts) p.put

pub returns-clause-solved : goal.returns-clause-solved
returns-clause-solved c =
    let p = c.put_number.ensures in
    let s = c.args.store.now in
    let o = c.args.held.now in
    on_ok_weaker c.put_number.result
    (number_solved s o.values c.put_number.new.values (values_are o s c.requires.may.taken) p.values (ap (λ (x : Contents). x.taken) p.others) (sort_for c.args.real) c.args.name c.args.number) p.put

pub returns-clause-wide : goal.returns-clause-wide
returns-clause-wide c = c.put_number.ensures.wide
