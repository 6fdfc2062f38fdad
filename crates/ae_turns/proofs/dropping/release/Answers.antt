use Rattle.std.specs.Prelude.{List, ◌++◌, ◌≡◌, map, OnOk}
use Rattle.std.proofs.Common.{sym, ap, ◌∙◌, subst}
use Rattle.std.proofs.lemmas.Result.{on_ok_weaker}
use Rattle.ae_base.proofs.Results.{on_ok_always}
use Rattle.ae_monoid.specs.Rules.{Contents, rule_at, AreRules}
use Rattle.ae_monoid.specs.declared.pending.PendingPair.{PendingPair}
use Rattle.ae_equations.specs.Paired.{partners}
use Rattle.ae_equations.specs.Stale.{IsStale}
use Rattle.ae_rule_changes.specs.Entries.{entry_of}
use Rattle.ae_rule_passes.specs.Passes.{drop_line}
use Rattle.ae_turns.specs.Inner.Drops.{IsDropNoted}
use Rattle.ae_turns.proofs.Budgets.{rules_still, none_comes, drops_uncounted}
use Rattle.ae_turns.proofs.DroppedRules.{same_leads, dropped_leads, dropped_step, stays}
use Rattle.ae_turns.proofs.Staleness.{stale_legal, own_after}
use Rattle.ae_turns.proofs.dropping.release.Goals as goal

pub returns-in_err-pairs-clause-leads : goal.returns-in_err-pairs-clause-leads
returns-in_err-pairs-clause-leads c =
    same_leads c.args.store.now c.args.held.now (c.requires.taken).fits c.release_stale.new.self c.release_stale.ensures.lasts c.args.journal.now
    (record {
      rules = c.in_err-pairs.ensures.err;
      len = c.release_stale.ensures.len;
      pairs = λ n. ap (λ p. partners p n) c.release_stale.ensures.paired;
      waiting = c.in_err-pairs.ensures.err_waiting;
    })

pub returns-in_err-pairs-clause-stay : goal.returns-in_err-pairs-clause-stay
returns-in_err-pairs-clause-stay c n rule at = sym (c.in_err-pairs.ensures.err n) ∙ at

pub returns-clause-leads : goal.returns-clause-leads
returns-clause-leads c =
    let old = c.args.held.now.equations in
    let well = subst (λ (r : Contents). AreRules (λ n. rule_at r n) r.next) c.rules.ensures.rules c.rule-rule.ensures.rules in
    dropped_leads c.args.store.now c.args.held.now (c.requires.taken).fits c.release_stale.new.self c.release_stale.ensures.lasts c.args.journal.now (λ n. IsStale c.args.reps.now (rule_at old.rules n))
    c.in_ok-pairs.pairs c.in_ok-pairs.ensures.pairs c.in_ok-pairs.ensures.waiting well c.note_drops.new.journal
    (subst (λ (ps : List PendingPair). IsDropNoted c.args.journal.now c.note_drops.new.journal (map entry_of ps)) c.as_slice.ensures c.note_drops.ensures.noted)
    (λ x bound named. stale_legal c.args.held.now c.args.store.now c.args.reps.now c.requires.taken c.requires.reps c.least_names_represent.ensures.others x c.args.journal.now.lines named c.requires.step
    well bound c.release_stale.new.self c.in_ok-pairs.pairs c.in_ok-pairs.ensures.pairs c.in_ok-pairs.ensures.waiting)

pub returns-clause-step : goal.returns-clause-step
returns-clause-step c =
    let old = c.args.held.now.equations in
    let well = subst (λ (r : Contents). AreRules (λ n. rule_at r n) r.next) c.rules.ensures.rules c.rule-rule.ensures.rules in
    on_ok_weaker c.note_drops.result
    (dropped_step c.args.store.now c.args.held.now (c.requires.taken).fits c.release_stale.new.self c.release_stale.ensures.lasts c.args.journal.now (λ n. IsStale c.args.reps.now (rule_at old.rules n))
    c.in_ok-pairs.pairs c.in_ok-pairs.ensures.pairs c.in_ok-pairs.ensures.waiting well c.note_drops.new.journal c.release_stale.ensures.paired c.requires.step)
    (subst
    (λ (ps : List PendingPair). OnOk c.note_drops.result (c.note_drops.new.journal ≡ record c.args.journal.now { lines = c.args.journal.now.lines ++ map drop_line (map entry_of ps) }))
    c.as_slice.ensures c.note_drops.ensures.all)

pub returns-clause-stay : goal.returns-clause-stay
returns-clause-stay c n rule at =
    stays c.args.held.now c.release_stale.new.self (λ k. IsStale c.args.reps.now (rule_at c.args.held.now.equations.rules k)) c.in_ok-pairs.pairs c.in_ok-pairs.ensures.pairs c.in_ok-pairs.ensures.waiting n rule at

pub returns-clause-own : goal.returns-clause-own
returns-clause-own c =
    on_ok_always c.note_drops.result
    (λ n rule at. own_after c.args.reps.now c.args.held.now c.release_stale.new.self c.in_ok-pairs.pairs c.in_ok-pairs.ensures.pairs c.in_ok-pairs.ensures.waiting n rule at)

-- ---- how many lines may be noted
pub returns-in_err-pairs-clause-budget : goal.returns-in_err-pairs-clause-budget
returns-in_err-pairs-clause-budget c n h =
    let o = c.args.held.now in
    let e = c.release_stale.new.self in
    rules_still c.args.store.now o.values o.equations e (λ k rule at. (rule, sym (c.in_err-pairs.ensures.err k) ∙ at)) (λ none waits. c.in_err-pairs.ensures.err_waiting ∙ waits) n h

pub returns-clause-counted : goal.returns-clause-counted
returns-clause-counted c = drops_uncounted c.args.journal.now c.note_drops.new.journal _ c.note_drops.ensures.noted

pub returns-clause-budget : goal.returns-clause-budget
returns-clause-budget c n h =
    let o = c.args.held.now in
    let e = c.release_stale.new.self in
    let out = c.in_ok-pairs.ensures.pairs in
    let queue = c.in_ok-pairs.ensures.waiting in
    rules_still c.args.store.now o.values o.equations e (λ k rule at. (rule, stays o e (λ k. IsStale c.args.reps.now (rule_at c.args.held.now.equations.rules k)) c.in_ok-pairs.pairs out queue k rule at)) (none_comes o.equations e (λ k. IsStale c.args.reps.now (rule_at c.args.held.now.equations.rules k)) c.in_ok-pairs.pairs out queue) n h
