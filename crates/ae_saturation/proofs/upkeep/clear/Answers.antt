use Rattle.std.proofs.Common.{ap, ◌∙◌}
use Rattle.std.proofs.lemmas.Result.{on_ok_weaker}
use Rattle.ae_monoid.specs.Rules.{rule_at}
use Rattle.ae_state.specs.declared.holding.Holding.{Holding}
use Rattle.ae_turns.proofs.Steps.{going_on_leads}
use Rattle.ae_saturation.proofs.Keeping.{taken_still, cleared_by}
use Rattle.ae_saturation.proofs.upkeep.clear.Goals as goal

pub collapse-requires-clause-taken : goal.collapse-requires-clause-taken
collapse-requires-clause-taken c =
    taken_still c.args.store.now c.args.held.now c.release.new.held (ap (λ (h : Holding). h.values) c.release.ensures.others) (ap (λ (h : Holding). h.shapes) c.release.ensures.others)
    (c.release.ensures.leads).fits c.requires.taken

pub returns-clause-leads : goal.returns-clause-leads
returns-clause-leads c =
    going_on_leads c.args.store.now c.args.held.now c.release.new.held c.collapse.new.held c.args.journal.now c.release.new.journal c.collapse.new.journal c.release.ensures.leads c.collapse.ensures.leads

pub returns-clause-others : goal.returns-clause-others
returns-clause-others c = c.collapse.ensures.others ∙ ap (λ (h : Holding). record h { equations = c.collapse.new.held.equations }) c.release.ensures.others

pub returns-clause-cleared : goal.returns-clause-cleared
returns-clause-cleared c =
    on_ok_weaker c.collapse.result
    (cleared_by c.args.reps.now (λ n. rule_at c.release.new.held.equations.rules n) (λ n. rule_at c.collapse.new.held.equations.rules n) c.in_ok-release.ensures.own c.collapse.ensures.stay)
    c.collapse.ensures.alone

pub returns-clause-counted : goal.returns-clause-counted
returns-clause-counted c = c.collapse.ensures.counted ∙ c.release.ensures.counted

pub returns-clause-budget : goal.returns-clause-budget
returns-clause-budget c n h = c.collapse.ensures.budget n (c.release.ensures.budget n h)
