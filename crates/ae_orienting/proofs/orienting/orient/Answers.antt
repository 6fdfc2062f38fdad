use Rattle.std.specs.Prelude.{ℕ, ◌<◌, List, length}
use Rattle.std.proofs.Common.{refl, sym, ap, subst, arith, inl}
use Rattle.ae_equations.specs.Paired.{partners}
use Rattle.ae_journal.specs.Journals.{live}
use Rattle.ae_journal.specs.Noted.{Noted}
use Rattle.ae_journal.specs.declared.lines.Line.TheVariants as line
use Rattle.ae_journal.specs.declared.lines.Oriented.TheVariants as oriented
use Rattle.ae_monoid.specs.Rules.{Contents as Rules, rule_at, AreRules}
use Rattle.ae_multiset.specs.Multisets.{IsSame}
use Rattle.ae_multiset.proofs.Comparing.{less_differs}
use Rattle.ae_multiset.proofs.Counts.{back}
use Rattle.ae_state.specs.Stepping.{IsInStep}
use Rattle.ae_turns.specs.Leading.{Leads}
use Rattle.ae_turns.proofs.DroppedRules.{right_same}
use Rattle.ae_turns.proofs.Steps.{staying_leads}
use Rattle.ae_orienting.proofs.Entering.{line_legal, right_entered, step_entered, oriented_as, line_counted}
use Rattle.ae_orienting.proofs.Frames.{taken_after, line_leads}
use Rattle.ae_orienting.proofs.orienting.orient.Goals as goal

-- ---- no line
pub returns-in_err-note_rule-clause-leads : goal.returns-in_err-note_rule-clause-leads
returns-in_err-note_rule-clause-leads c =
    subst (Leads c.args.store.now c.args.held.now c.args.journal.now c.args.held.now) (sym c.in_err-note_rule.ensures.err) (staying_leads c.args.store.now c.args.held.now c.args.journal.now (c.requires.taken).fits)

-- ---- no rule
pub orient_first-requires-clause-differ : goal.orient_first-requires-clause-differ
orient_first-requires-clause-differ c = λ h.
    less_differs c.args.equation.now.right c.args.equation.now.left c.requires.falls
    (back (subst (λ (z : List ℕ × List ℕ). IsSame z.0 z.1) (λ i. (c.as_slice-left.ensures i, c.as_slice-right.ensures i)) h))

pub orient_first-requires-clause-left : goal.orient_first-requires-clause-left
orient_first-requires-clause-left c = subst (λ (xs : List ℕ). 0 < length xs) (sym c.as_slice-left.ensures) (((c.requires.first).to).said).left_some

pub orient_first-requires-clause-right : goal.orient_first-requires-clause-right
orient_first-requires-clause-right c = subst (λ (xs : List ℕ). 0 < length xs) (sym c.as_slice-right.ensures) (((c.requires.first).to).said).right_some

pub orient_first-requires-clause-two : goal.orient_first-requires-clause-two
orient_first-requires-clause-two c = inl (omega (arith, c.requires.two, ap length c.as_slice-left.ensures))

pub returns-in_err-orient_first-clause-leads : goal.returns-in_err-orient_first-clause-leads
returns-in_err-orient_first-clause-leads c =
    let o = c.args.held.now in
    let s = c.args.store.now in
    let d = c.orient_first.new.self in
    let right = right_same o d (record {
      rules = c.in_err-orient_first.ensures.err;
      len = c.in_err-orient_first.ensures.err_len;
      pairs = λ n. ap (λ ps. partners ps n) c.orient_first.ensures.paired;
      waiting = c.in_err-orient_first.ensures.err_waiting;
    }) ((c.requires.taken).fits).right in
    line_leads o s c.requires.taken d right c.orient_first.ensures.lasts c.args.journal.now c.note_rule.new.journal
    (line.Orient (oriented.Rule c.args.equation.now.symbol c.args.equation.now.left c.args.equation.now.right)) c.in_ok-note_rule.ensures.ok refl
    (line_legal o s c.requires.taken c.args.reps.now c.requires.reps c.args.equation.now c.requires.first c.requires.falls c.least_names_represent.ensures.least c.least_names_represent.ensures.now
    c.args.journal.now.lines c.requires.step c.requires.two)

-- ---- the rule
pub returns-clause-leads : goal.returns-clause-leads
returns-clause-leads c =
    let o = c.args.held.now in
    let s = c.args.store.now in
    let e = c.args.equation.now in
    let d = c.orient_first.new.self in
    let well = subst (λ (r : Rules). AreRules (λ n. rule_at r n) r.next) c.rules.ensures.rules c.rule-rule.ensures.rules in
    let rule = oriented_as (rule_at d.rules o.equations.rules.next) e.symbol c.as_slice-left.result.now c.as_slice-right.result.now e.left e.right e.step c.as_slice-left.ensures c.as_slice-right.ensures
    c.in_ok-orient_first.ensures.rule in
    let right = right_entered o s c.requires.taken c.args.reps.now c.requires.reps e c.requires.first c.requires.falls d well c.rules.ensures.given rule c.orient_first.ensures.others
    c.in_ok-orient_first.ensures.waiting c.orient_first.ensures.paired ((c.requires.taken).fits).right in
    line_leads o s c.requires.taken d right c.orient_first.ensures.lasts c.args.journal.now c.note_rule.new.journal (line.Orient (oriented.Rule e.symbol e.left e.right)) c.in_ok-note_rule.ensures.ok refl
    (line_legal o s c.requires.taken c.args.reps.now c.requires.reps e c.requires.first c.requires.falls c.least_names_represent.ensures.least c.least_names_represent.ensures.now c.args.journal.now.lines
    c.requires.step c.requires.two)

pub returns-clause-taken : goal.returns-clause-taken
returns-clause-taken c =
    let o = c.args.held.now in
    let s = c.args.store.now in
    let e = c.args.equation.now in
    let d = c.orient_first.new.self in
    let well = subst (λ (r : Rules). AreRules (λ n. rule_at r n) r.next) c.rules.ensures.rules c.rule-rule.ensures.rules in
    let rule = oriented_as (rule_at d.rules o.equations.rules.next) e.symbol c.as_slice-left.result.now c.as_slice-right.result.now e.left e.right e.step c.as_slice-left.ensures c.as_slice-right.ensures
    c.in_ok-orient_first.ensures.rule in
    taken_after o s c.requires.taken d
    (right_entered o s c.requires.taken c.args.reps.now c.requires.reps e c.requires.first c.requires.falls d well c.rules.ensures.given rule c.orient_first.ensures.others
    c.in_ok-orient_first.ensures.waiting c.orient_first.ensures.paired ((c.requires.taken).fits).right)

pub returns-clause-step : goal.returns-clause-step
returns-clause-step c =
    let o = c.args.held.now in
    let s = c.args.store.now in
    let e = c.args.equation.now in
    let d = c.orient_first.new.self in
    let well = subst (λ (r : Rules). AreRules (λ n. rule_at r n) r.next) c.rules.ensures.rules c.rule-rule.ensures.rules in
    let rule = oriented_as (rule_at d.rules o.equations.rules.next) e.symbol c.as_slice-left.result.now c.as_slice-right.result.now e.left e.right e.step c.as_slice-left.ensures c.as_slice-right.ensures
    c.in_ok-orient_first.ensures.rule in
    subst (λ (k : Noted). IsInStep (record o { equations = d }) (live k.lines)) (sym c.in_ok-note_rule.ensures.ok)
    (step_entered o s c.requires.taken c.args.reps.now c.requires.reps e c.requires.first c.requires.falls d well c.rules.ensures.given rule c.orient_first.ensures.others c.in_ok-orient_first.ensures.waiting
    c.orient_first.ensures.paired c.args.journal.now.lines c.requires.step)

pub returns-clause-advanced : goal.returns-clause-advanced
returns-clause-advanced c = λ h.
    line_counted c.args.journal.now c.note_rule.new.journal c.args.equation.now.symbol c.args.equation.now.left c.args.equation.now.right c.in_ok-note_rule.ensures.ok
