use Rattle.std.specs.Prelude.{◌<◌, ◌≤◌, List, Ok, Err}
use Rattle.std.proofs.Common.{refl, sym, ap, ◌∙◌, subst, arith}
use Rattle.ae_core.specs.declared.proofs.Proof.{Proof}
use Rattle.ae_rules.specs.Clauses.{Clause}
use Rattle.ae_sat.specs.Apart.{AreConjunctive}
use Rattle.ae_journal.specs.Ground.{IsGroundProof}
use Rattle.ae_journal.specs.Journals.{counted_in}
use Rattle.ae_journal.specs.Noted.{Noted}
use Rattle.ae_journal.specs.declared.answers.Answer.TheVariants.{Unknown}
use Rattle.ae_journal.specs.declared.systems.Saturated.{Saturated}
use Rattle.ae_open_states.specs.Shown.{shown}
use Rattle.ae_state.specs.Names.{system_now}
use Rattle.ae_search.specs.Promises.{IsRightAnswer}
use Rattle.ae_refuted.proofs.Ends.{derives_so}
use Rattle.ae_goal_search.specs.Ended.{IsRefutation, IsSettled}
use Rattle.ae_goal_search.specs.Started.{IsStarted}
use Rattle.ae_goal_search.proofs.Begun.{same_signature}
use Rattle.ae_search.proofs.Counted.{of_terms}
use Rattle.ae_search.proofs.Ended.{of_none, of_some}
use Rattle.ae_search.proofs.Finishing.{shows_saturated, shows_writable}
use Rattle.ae_search.proofs.Right.{valid_right, unknown_right, steps_right, number_right}
use Rattle.ae_writable.specs.Writable.{IsWritableProof, IsWritableState}
use Rattle.ae_writable_answers.proofs.Refuted.{refutation_writable}
use Rattle.ae_search.proofs.ending.answer_from.Goals as goal

pub search-end-requires-clause-nothing : goal.search-end-requires-clause-nothing
search-end-requires-clause-nothing g c = c.in_ok-theory.ensures.assumed

pub search-end-requires-clause-fits : goal.search-end-requires-clause-fits
search-end-requires-clause-fits g c = c.in_ok-theory.ensures.fits c.args.store.now (sym (same_signature c.args.problem.now c.args.goal c.args.first.lines.items c.args.first.clauses c.args.store.now c.requires.started))

pub search-end-requires-clause-step : goal.search-end-requires-clause-step
search-end-requires-clause-step g c = c.in_ok-theory.ensures.step

pub search-end-requires-clause-started : goal.search-end-requires-clause-started
search-end-requires-clause-started g c = subst (λ (cs : List Clause). IsStarted c.args.problem.now c.args.goal c.args.first.lines.items cs c.args.store.now) (sym c.as_slice.ensures) c.requires.started

pub search-end-requires-clause-none : goal.search-end-requires-clause-none
search-end-requires-clause-none g c = ap (λ (j : Noted). j.lines) c.in_ok-journal.ensures

pub returns-in-Ok-None : goal.returns-in-Ok-None
returns-in-Ok-None g c =
    let p = c.args.problem.now in
    let n = c.args.goal in
    let lines = c.search-end.new.lines.items in
    let start = c.requires.started in
    let names = start.names in
    let left = c.search-end.ensures.left in
    let e = of_none c.search-end.result _ _ c.search-end.ensures.end (c.in-Ok-None.is ∙ ap Ok c.in-Ok-None.field-0-is) in
    let refuted = subst (λ (cs : List Clause). IsRefutation c.args.store.now c.args.first.lines.items cs lines) c.as_slice.ensures e in
    let same = sym c.refutation-proof.ensures.is in
    record {
      right = valid_right p n c.args.first.lines.items c.args.first.clauses c.args.store.now start c.args.limits.now c.refutation-proof.result
          (c.refutation-proof.ensures.derives p n left.allowed e.ends)
          (λ gr. subst (λ (x : Proof). IsGroundProof p n x) same
          (c.refutations_are_ground.ensures p n start.firsts start.first names.before start.before c.args.store.now c.args.first.lines.items c.args.first.clauses start.lawful.signature start.reach gr
          start.begun names.signature names.empty names.named start.choices (record { lines = lines }) refuted.over (derives_so p n (record { lines = lines }) lines refl left.allowed e.ends)));
      written = λ low. subst (λ (x : Proof). IsWritableProof x) same
          (refutation_writable p n low c.args.first.lines.items c.args.first.clauses c.args.store.now start (record { lines = lines }) refuted);
    }

pub opened-requires : goal.opened-requires
opened-requires g c = record { fits = (of_some c.search-end.result _ _ c.in-Ok-Some.solver c.search-end.ensures.end (c.in-Ok-Some.is ∙ ap Ok c.in-Ok-Some.field-0-is)).1 }

pub returns-in-Ok-Some : goal.returns-in-Ok-Some
returns-in-Ok-Some g c =
    let p = c.args.problem.now in
    let w = c.in-Ok-Some.solver in
    let e = of_some c.search-end.result _ _ w c.search-end.ensures.end (c.in-Ok-Some.is ∙ ap Ok c.in-Ok-Some.field-0-is) in
    let settled = subst (λ (cs : List Clause). IsSettled p c.args.goal c.args.store.now cs w.propagation.trail w.propagation.clauses) c.as_slice.ensures e.0 in
    let is = c.in_ok-state-in-Ok-Some.ensures.is in
    record {
      right = subst (λ (x : Saturated). IsRightAnswer p c.args.goal c.args.limits.now (Unknown x)) (sym is)
          (unknown_right p c.args.goal c.args.first.lines.items c.args.first.clauses c.args.store.now c.requires.started c.args.limits.now c.saturated_goals_have_no_ground_proof.ensures.none
          (shown w.propagation.trail (system_now w.theory))
          (shows_saturated p c.args.goal c.args.first.lines.items c.args.first.clauses c.args.store.now c.requires.started w.propagation.trail w.propagation.clauses w.theory settled e.1 e.2 e.3));
      written = λ low. subst (λ (x : Saturated). IsWritableState p.signature x) (sym is)
          (shows_writable p c.args.goal c.args.first.lines.items c.args.first.clauses c.args.store.now c.requires.started w.propagation.trail w.propagation.clauses w.theory settled e.1 e.2 e.3 low
          c.in_ok-state-in-Ok-Some.ensures.rules);
    }

pub returns-in-Err-Steps : goal.returns-in-Err-Steps
returns-in-Err-Steps g c =
    let js = c.search-end.new.journal.lines in
    let right = steps_right c.args.problem.now c.args.goal c.args.first.lines.items c.args.first.clauses c.args.store.now c.requires.started c.args.limits.now
    js c.search-end.new.lines.items c.search-end.ensures.left c.in_ok-told-in-Err-Steps.told c.in_ok-told-in-Err-Steps.ensures
    (c.search-end.ensures.steps (c.in-Err-Steps.is ∙ ap Err c.in-Err-Steps.field-0-is) ∙ ap (λ (j : Noted). j.limit) c.in_ok-journal.ensures)
    (of_terms c.args.problem.now c.args.goal c.args.first.lines.items c.args.first.clauses c.args.store.now c.requires.started c.in_ok-theory.theory (c.in_ok-theory.ensures.budget c.args.store.now) (λ n. counted_in js < n)
    (λ n cj may. c.search-end.ensures.fewer (c.in-Err-Steps.is ∙ ap Err c.in-Err-Steps.field-0-is) n (subst AreConjunctive (sym c.as_slice.ensures) cj) may)) in
    record {
      right = right;
      written = λ low. c.legal_journals_are_writable.ensures c.args.problem.now c.args.goal c.args.limits.now.generations c.in_ok-told-in-Err-Steps.told c.requires.started.lawful low right.answer.0;
    }

pub returns-in-Err-Number : goal.returns-in-Err-Number
returns-in-Err-Number g c =
    let js = c.search-end.new.journal.lines in
    let right = number_right c.args.problem.now c.args.goal c.args.first.lines.items c.args.first.clauses c.args.store.now c.requires.started c.args.limits.now
    js c.search-end.new.lines.items c.search-end.ensures.left c.in_ok-told-in-Err-Number.told c.in_ok-told-in-Err-Number.ensures c.in-Err-Number.at
    (omega (arith, c.counted-counted.ensures.within, c.counted-counted.ensures.count, c.search-end.ensures.limit, ap (λ (j : Noted). j.limit) c.in_ok-journal.ensures))
    (of_terms c.args.problem.now c.args.goal c.args.first.lines.items c.args.first.clauses c.args.store.now c.requires.started c.in_ok-theory.theory (c.in_ok-theory.ensures.budget c.args.store.now) (λ n. counted_in js ≤ n)
    (λ n cj may. c.search-end.ensures.few n (subst AreConjunctive (sym c.as_slice.ensures) cj) may))
    (c.search-end.ensures.number c.in-Err-Number.at (c.in-Err-Number.is ∙ ap Err c.in-Err-Number.field-0-is)) in
    record {
      right = right;
      written = λ low. c.legal_journals_are_writable.ensures c.args.problem.now c.args.goal c.args.limits.now.generations c.in_ok-told-in-Err-Number.told c.requires.started.lawful low right.answer.legal;
    }
