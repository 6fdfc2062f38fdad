use Rattle.std.proofs.Common.{sym, subst}
use Rattle.ae_monoid.specs.Rules.{Contents as Rules}
use Rattle.ae_settled.specs.Swept.{IsSwept}
use Rattle.ae_state.specs.Names.{rules_now}
use Rattle.ae_sweeps.specs.Gaps.{IsGap}
use Rattle.ae_sweeps.specs.Given.{rep_in, entries_of}
use Rattle.ae_sweeps.proofs.Bridges.{none_then}
use Rattle.ae_turns.proofs.DroppedRules.{kept_in}
use Rattle.ae_gaps.proofs.Composed.{none_of_sides}
use Rattle.ae_gaps.proofs.openings.first_opening.Goals as goal

pub first_gap-requires-clause-same : goal.first_gap-requires-clause-same
first_gap-requires-clause-same c = sym ((c.requires.taken).fits.terms).signature

pub first_gap-requires-clause-reps : goal.first_gap-requires-clause-reps
first_gap-requires-clause-reps c = c.least_names_represent.ensures.names c.args.held.now c.args.store.now c.args.reps.now c.requires.taken c.requires.reps

pub returns-in-Some-clause-swept : goal.returns-in-Some-clause-swept
returns-in-Some-clause-swept c =
    let o = c.args.held.now in
    let s = c.args.store.now in
    let reps = c.args.reps.now in
    let gap = c.in-Some.gap in
    let is : IsGap s.signature s.nodes (rep_in reps) (rules_now o) gap =
    subst (λ (r : Rules). IsGap s.signature s.nodes (rep_in reps) (entries_of r) gap) c.rules-rules.ensures.rules (rw c.in-Some.is at c.in_ok-found.ensures.gap) in
    none_then c.opening_of.result c.opening_of.ensures.none (λ q. absurd (none_of_sides reps (kept_in o.equations) c.requires.composed s.signature s.nodes gap is q))

pub returns-in-Some-clause-open : goal.returns-in-Some-clause-open
returns-in-Some-clause-open c =
    let o = c.args.held.now in
    let s = c.args.store.now in
    let reps = c.args.reps.now in
    let gap = c.in-Some.gap in
    let is : IsGap s.signature s.nodes (rep_in reps) (rules_now o) gap =
    subst (λ (r : Rules). IsGap s.signature s.nodes (rep_in reps) (entries_of r) gap) c.rules-rules.ensures.rules (rw c.in-Some.is at c.in_ok-found.ensures.gap) in
    c.opening_of.ensures.some s.signature s.nodes (rep_in reps) (rules_now o) is

pub returns-in-None-clause-swept : goal.returns-in-None-clause-swept
returns-in-None-clause-swept c =
    let s = c.args.store.now in
    subst (λ (r : Rules). IsSwept s.signature s.nodes (rep_in c.args.reps.now) (entries_of r)) c.rules-rules.ensures.rules (rw c.in-None.is at c.in_ok-found.ensures.swept)
