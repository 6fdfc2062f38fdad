use Rattle.std.specs.Prelude.{[]}
use Rattle.std.proofs.Common.{sym}
use Rattle.ae_store.specs.Shapes.{shapes}
use Rattle.ae_store.specs.Terms.{terms}
use Rattle.ae_store.proofs.PartLaws.{in_none}
use Rattle.ae_state_steps.specs.ValueSteps.{name_side, value_side}
use Rattle.ae_value_fitting.specs.Sources.{by_number}
use Rattle.ae_equal_steps.proofs.Adding.{own_number, stated_added, rests_on, front_added, row_stated, says_rests}
use Rattle.ae_equal_steps.proofs.numbers.number_step.Goals as goal

pub state_own-requires-clause-own : goal.state_own-requires-clause-own
state_own-requires-clause-own c = own_number c.args.values.now c.args.name c.args.number.now c.requires.number (sym c.in-None.ensures.row)

pub returns-in-None-clause-stated : goal.returns-in-None-clause-stated
returns-in-None-clause-stated c =
    stated_added c.args.store.now.signature (terms (shapes c.args.store.now.nodes)) c.args.justs.now c.state_own.new.justs c.args.real c.args.name c.args.number.now [] c.state_own.result c.requires.written c.state_own.ensures.added

pub returns-in-None-clause-rests : goal.returns-in-None-clause-rests
returns-in-None-clause-rests c =
    let old = c.args.justs.now in
    rests_on old c.state_own.new.justs (name_side c.args.real c.args.name c.args.number.now) (value_side c.args.real c.args.number.now) [] c.args.store.now.signature (terms (shapes c.args.store.now.nodes)) old c.args.values.now c.state_own.result
    c.state_own.ensures.added c.state_own.ensures.fits (λ p m. absurd (in_none p m))

pub returns-in-None-clause-front : goal.returns-in-None-clause-front
returns-in-None-clause-front c =
    front_added c.args.justs.now c.state_own.new.justs (name_side c.args.real c.args.name c.args.number.now) (value_side c.args.real c.args.number.now) [] c.state_own.result c.state_own.ensures.added c.state_own.ensures.err

-- ---- where a row is held
pub said_by-requires : goal.said_by-requires
said_by-requires c = let w = c.requires.said.numbers c.args.name c.in-Some._row.now (sym c.in-Some.ensures.row) in (w.step, w.just)

pub returns-in-Some-clause-stated : goal.returns-in-Some-clause-stated
returns-in-Some-clause-stated c =
    row_stated c.args.store.now.signature (terms (shapes c.args.store.now.nodes)) c.args.justs.now c.args.values.now c.requires.said c.args.real c.args.name c.args.number.now c.in-Some._row.now c.said_by.result (sym c.in-Some.ensures.row) c.requires.number c.said_by.ensures
    c.requires.written

pub returns-in-Some-clause-rests : goal.returns-in-Some-clause-rests
returns-in-Some-clause-rests c =
    says_rests c.args.store.now.signature (terms (shapes c.args.store.now.nodes)) c.args.justs.now c.args.values.now c.requires.fits c.requires.said c.said_by.result
    (record { name = c.args.name; put = by_number c.in-Some._row.now (sym c.in-Some.ensures.row); just = c.said_by.ensures })
