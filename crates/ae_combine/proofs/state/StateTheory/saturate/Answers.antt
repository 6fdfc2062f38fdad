use Rattle.std.proofs.Common.{sym, subst}
use Rattle.std.proofs.lemmas.Result.{IfOk-at_ok}
use Rattle.ae_core.specs.declared.problems.Signature.{Signature}
use Rattle.ae_journal.specs.Journals.{live}
use Rattle.ae_pmap.specs.Forest.{present}
use Rattle.ae_rules.specs.Derivations.{AreContradictory}
use Rattle.ae_theory.specs.Noting.{literals}
use Rattle.ae_state.specs.declared.holding.Holding.{Holding}
use Rattle.ae_state.specs.Fitting.{FitsStore}
use Rattle.ae_state.specs.Names.{all_terms, assumed_in}
use Rattle.ae_state.specs.Stepping.{IsInStep}
use Rattle.ae_theory.specs.declared.theory.Outcome.{Outcome}
use Rattle.ae_turns.specs.Budget.{KeepsWithin}
use Rattle.ae_turns.specs.Ending.{MayBeWide}
use Rattle.ae_turns.specs.Leading.{Leads}
use Rattle.ae_turns.specs.Representing.{IsTaken}
use Rattle.ae_combine.proofs.Knowing.{known_complete}
use Rattle.ae_combine.proofs.state.StateTheory.saturate.Goals as goal

pub saturate-found-requires-clause-fits : goal.saturate-found-requires-clause-fits
saturate-found-requires-clause-fits c = subst (λ (h : Holding). FitsStore h c.args.store.now) (sym c.self.view_is) c.requires.fits

pub saturate-found-requires-clause-step : goal.saturate-found-requires-clause-step
saturate-found-requires-clause-step c = subst (λ (h : Holding). IsInStep h (live c.args.journal.now.lines)) (sym c.self.view_is) c.requires.step

pub saturate-found-requires-clause-known : goal.saturate-found-requires-clause-known
saturate-found-requires-clause-known c = c.self.invariant.1

pub invariant_of-self : goal.invariant_of-self
invariant_of-self c =
    let holds = ((c.saturate-found.ensures.leads).fits).right in
    (holds, known_complete c.saturate-found.new.held holds c.saturate-found.result c.saturate-found.ensures.complete c.known_after-self-inside.result c.known_after-self-inside.ensures)

pub returns-clause-complete : goal.returns-clause-complete
returns-clause-complete c e = (c.saturate-found.ensures.complete e, (IfOk-at_ok (λ _. IsTaken c.saturate-found.new.held c.args.store.now) e c.saturate-found.ensures.taken).all)

pub returns-clause-conflict : goal.returns-clause-conflict
returns-clause-conflict c k e =
    let o = c.saturate-found.new.held in
    let own = c.saturate-found.ensures.conflict k e in
    let fits = (c.saturate-found.ensures.leads).fits in (
      own,
      subst (λ (sig : Signature). AreContradictory sig (literals (assumed_in o))) (sym (fits.terms).signature)
          (c.conflicts_are_contradictory.ensures o.signature (all_terms o) o.justs (present o.assumed) own.conflict (fits.right).steps own.is),
    )

pub returns-clause-legal : goal.returns-clause-legal
returns-clause-legal c x bound named may =
    (subst (λ (h : Holding). Leads c.args.store.now h c.args.journal.now c.saturate-found.new.held c.saturate-found.new.journal) c.self.view_is c.saturate-found.ensures.leads).legal x bound named may

pub returns-clause-number : goal.returns-clause-number
returns-clause-number c wide e x named may =
    (subst (λ (h : Holding). MayBeWide c.args.store.now h c.args.journal.now.lines c.saturate-found.new.journal.lines wide) c.self.view_is (c.saturate-found.ensures.number wide e)) x named may

pub returns-clause-marks : goal.returns-clause-marks
returns-clause-marks c m then h =
    ((subst (λ (h : Holding). Leads c.args.store.now h c.args.journal.now c.saturate-found.new.held c.saturate-found.new.journal) c.self.view_is c.saturate-found.ensures.leads).marks m.held then h.0, h.1)

pub returns-clause-conflicts : goal.returns-clause-conflicts
returns-clause-conflicts c k h =
    (subst (λ (h : Holding). Leads c.args.store.now h c.args.journal.now c.saturate-found.new.held c.saturate-found.new.journal) c.self.view_is c.saturate-found.ensures.leads).conflicts k h

-- ---- how many lines may be noted
pub returns-clause-budget : goal.returns-clause-budget
returns-clause-budget c n h =
    (subst (λ (h : Holding). KeepsWithin Outcome c.args.store.now h c.args.journal.now.lines c.saturate-found.result c.saturate-found.new.held c.saturate-found.new.journal.lines) c.self.view_is c.saturate-found.ensures.budget).most n h

pub returns-clause-budget_left : goal.returns-clause-budget_left
returns-clause-budget_left c =
    (subst (λ (h : Holding). KeepsWithin Outcome c.args.store.now h c.args.journal.now.lines c.saturate-found.result c.saturate-found.new.held c.saturate-found.new.journal.lines) c.self.view_is c.saturate-found.ensures.budget).left

pub returns-clause-budget_steps : goal.returns-clause-budget_steps
returns-clause-budget_steps c e n h =
    (subst (λ (h : Holding). KeepsWithin Outcome c.args.store.now h c.args.journal.now.lines c.saturate-found.result c.saturate-found.new.held c.saturate-found.new.journal.lines) c.self.view_is c.saturate-found.ensures.budget).fewer e n h
