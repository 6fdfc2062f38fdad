use Rattle.std.specs.Prelude.{List, []}
use Rattle.std.proofs.Common.{sym, subst}
use Rattle.std.proofs.lemmas.Result.{on_ok_weaker}
use Rattle.ae_journal.specs.Journals.{live}
use Rattle.ae_theory.specs.Noting.{MayAll, literals}
use Rattle.ae_theory.specs.Tagged.{Tagged}
use Rattle.ae_turns.proofs.Steps.{going_on_leads}
use Rattle.ae_new_names.proofs.names.take_new.Goals as goal

-- ---- a refusal
pub returns-in_err-learn_all-clause-leads : goal.returns-in_err-learn_all-clause-leads
returns-in_err-learn_all-clause-leads c = c.learn_all.ensures.leads

-- ---- all are known
pub take_known-requires-clause-fits : goal.take_known-requires-clause-fits
take_known-requires-clause-fits c = (c.learn_all.ensures.leads (record { lines = []; limit = 0 })).fits

pub take_known-requires-clause-all : goal.take_known-requires-clause-all
take_known-requires-clause-all c = c.in_ok-learn_all.ensures.all

pub take_known-requires-clause-constants : goal.take_known-requires-clause-constants
take_known-requires-clause-constants c = c.requires.constants

pub returns-clause-leads : goal.returns-clause-leads
returns-clause-leads c j =
    going_on_leads c.args.store.now c.args.held.now c.learn_all.new.held c.take_known.new.held j j j (c.learn_all.ensures.leads j) (c.take_known.ensures.leads j)

pub returns-clause-taken : goal.returns-clause-taken
returns-clause-taken c = c.take_known.ensures.taken

pub returns-clause-step : goal.returns-clause-step
returns-clause-step c = on_ok_weaker c.take_known.result (λ step js i. step js (c.learn_all.ensures.step js i)) c.take_known.ensures.step

pub returns-clause-steps : goal.returns-clause-steps
returns-clause-steps c = c.take_known.ensures.steps

pub returns-clause-number : goal.returns-clause-number
returns-clause-number c wide js e i x named may =
    let assumed = (c.learn_all.ensures.leads (record { lines = []; limit = 0 })).assumed in
    c.take_known.ensures.number wide js e (c.learn_all.ensures.step (live js) i) x named (subst (λ (ts : List Tagged). MayAll x (literals ts) js) (sym assumed) may)

pub returns-clause-budget : goal.returns-clause-budget
returns-clause-budget c = on_ok_weaker c.take_known.result (λ still n h. still n (c.learn_all.ensures.budget n h)) c.take_known.ensures.budget
