use Rattle.std.specs.Prelude.{List}
use Rattle.std.proofs.Common.{ap}
use Rattle.std.proofs.lemmas.Result.{on_ok_weaker}
use Rattle.ae_base.proofs.Results.{on_ok_always}
use Rattle.ae_journal.specs.Journals.{live}
use Rattle.ae_journal.specs.declared.lines.Line.{Line}
use Rattle.ae_state.specs.declared.holding.Holding.{Holding}
use Rattle.ae_state.specs.Stepping.{IsInStep}
use Rattle.ae_turns.proofs.Steps.{going_on_leads}
use Rattle.ae_saturation.proofs.Keeping.{taken_still, reps_still}
use Rattle.ae_saturation.proofs.Spending.{composed_may_note}
use Rattle.ae_saturation.proofs.upkeep.keep_up.Goals as goal

pub compose_rights-requires-clause-taken : goal.compose_rights-requires-clause-taken
compose_rights-requires-clause-taken c =
    taken_still c.args.store.now c.args.held.now c.clear.new.held (ap (λ (h : Holding). h.values) c.clear.ensures.others) (ap (λ (h : Holding). h.shapes) c.clear.ensures.others)
    (c.clear.ensures.leads).fits c.requires.taken

pub compose_rights-requires-clause-reps : goal.compose_rights-requires-clause-reps
compose_rights-requires-clause-reps c =
    reps_still c.args.store.now c.args.held.now c.clear.new.held (ap (λ (h : Holding). h.values) c.clear.ensures.others) c.args.reps.now c.requires.reps

pub returns-clause-leads : goal.returns-clause-leads
returns-clause-leads c =
    going_on_leads c.args.store.now c.args.held.now c.clear.new.held c.compose_rights.new.held c.args.journal.now c.clear.new.journal c.clear.new.journal c.clear.ensures.leads
    (c.compose_rights.ensures.leads c.clear.new.journal)

pub returns-clause-taken : goal.returns-clause-taken
returns-clause-taken c =
    let s = c.args.store.now in
    let cleared = c.clear.ensures in
    let composed = c.compose_rights.ensures in
    let before = taken_still s c.args.held.now c.clear.new.held (ap (λ (h : Holding). h.values) cleared.others) (ap (λ (h : Holding). h.shapes) cleared.others) (cleared.leads).fits c.requires.taken in
    on_ok_always c.compose_rights.result
    (taken_still s c.clear.new.held c.compose_rights.new.held (ap (λ (h : Holding). h.values) composed.others) (ap (λ (h : Holding). h.shapes) composed.others) (composed.leads c.clear.new.journal).fits before)

pub returns-clause-reps : goal.returns-clause-reps
returns-clause-reps c =
    let s = c.args.store.now in
    on_ok_always c.compose_rights.result
    (reps_still s c.clear.new.held c.compose_rights.new.held (ap (λ (h : Holding). h.values) c.compose_rights.ensures.others) c.args.reps.now
    (reps_still s c.args.held.now c.clear.new.held (ap (λ (h : Holding). h.values) c.clear.ensures.others) c.args.reps.now c.requires.reps))

pub returns-clause-step : goal.returns-clause-step
returns-clause-step c =
    on_ok_weaker c.compose_rights.result (λ (f : (js : List Line) → IsInStep c.clear.new.held js → IsInStep c.compose_rights.new.held js). f (live c.clear.new.journal.lines) c.in_ok-clear.ensures.step)
    c.compose_rights.ensures.step

pub returns-clause-budget : goal.returns-clause-budget
returns-clause-budget c n h =
    let composed = c.compose_rights.ensures in
    composed_may_note c.args.store.now c.clear.new.held c.compose_rights.new.held composed.others composed.lefts composed.queue n (c.clear.ensures.budget n h)
