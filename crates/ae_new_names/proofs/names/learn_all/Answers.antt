use Rattle.std.proofs.Common.{sym, subst}
use Rattle.ae_state.specs.declared.holding.Holding.{Holding}
use Rattle.ae_turns.specs.Budget.{MayNote}
use Rattle.ae_new_names.proofs.Learning.{learnt_leads, learnt_step}
use Rattle.ae_new_names.proofs.names.learn_all.Goals as goal

pub returns-clause-leads : goal.returns-clause-leads
returns-clause-leads c =
    learnt_leads c.args.store.now c.args.held.now c.learn.new.self (c.requires.fits).right c.learn.ensures.front c.learn.ensures.others c.learn.ensures.fits

pub returns-clause-all : goal.returns-clause-all
returns-clause-all c = c.learn.ensures.all

pub returns-clause-step : goal.returns-clause-step
returns-clause-step c = learnt_step c.args.store.now c.args.held.now c.learn.new.self (c.requires.fits).right c.learn.ensures.front c.learn.ensures.others

pub returns-clause-budget : goal.returns-clause-budget
returns-clause-budget c n h = subst (λ (o : Holding). MayNote o c.args.store.now n) (sym c.learn.ensures.others) h
