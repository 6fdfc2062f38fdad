use Rattle.std.specs.Prelude.{ℕ, List, ◌∷◌, ◌++◌, map}
use Rattle.std.specs.List.{AllByRecursion}
use Rattle.std.proofs.Common.{sym, subst}
use Rattle.ae_base.specs.Relations.{Pairwise}
use Rattle.ae_conflicts.specs.Saying.{RestsOnAssumed}
use Rattle.ae_equation_turns.specs.Said.{RestsOnHeld}
use Rattle.ae_monoid.specs.Rules.{Contents as Rules, rule_at}
use Rattle.ae_multiset_steps.specs.Equating.{AreEquated}
use Rattle.ae_pmap.specs.Forest.{present}
use Rattle.ae_rule_steps.specs.Said.{AreSaid}
use Rattle.ae_store.proofs.EnterLaws.{front_then}
use Rattle.ae_sweeps.specs.Given.{rep_in}
use Rattle.ae_theory.specs.Names.{terms_in}
use Rattle.ae_state.specs.Names.{all_terms}
use Rattle.ae_turns.proofs.Representatives.{valued}
use Rattle.ae_representatives.specs.Equal.{IsRepresented, IsEqualTo}
use Rattle.ae_representatives.proofs.EqualTo.{said_kept}
use Rattle.ae_representatives.proofs.MoreSteps.{taken_more, steps_lead}
use Rattle.ae_representatives.proofs.Taken.{patterns, said_all, fits_all}
use Rattle.ae_orienting.proofs.Reduced.{rules_said, first_said, left_represented, right_represented, left_with_reps, right_with_reps, first_grounded}
use Rattle.ae_orienting.proofs.Reduced.{left_equated, right_equated, left_rests, right_rests, side_of, descend_of, first_reduced}
use Rattle.ae_orienting.proofs.reducing.reduced_first.Goals as goal

-- ---- steps of the left names
pub equal_to_representatives-requires-clause-fits : goal.equal_to_representatives-requires-clause-fits
equal_to_representatives-requires-clause-fits c = fits_all c.args.held.now c.args.store.now c.requires.taken

pub equal_to_representatives-requires-clause-patterns : goal.equal_to_representatives-requires-clause-patterns
equal_to_representatives-requires-clause-patterns c = patterns c.args.held.now c.args.store.now c.requires.taken c.entries_of_all_names_fit.ensures

pub equal_to_representatives-requires-clause-values : goal.equal_to_representatives-requires-clause-values
equal_to_representatives-requires-clause-values c = valued c.args.held.now c.args.store.now c.requires.taken

pub equal_to_representatives-requires-clause-said : goal.equal_to_representatives-requires-clause-said
equal_to_representatives-requires-clause-said c = said_all c.args.held.now c.args.store.now c.requires.taken

pub equal_to_representatives-requires-clause-same : goal.equal_to_representatives-requires-clause-same
equal_to_representatives-requires-clause-same c =
    subst (λ (xs : List ℕ). AllByRecursion (IsRepresented c.args.store.now.signature (terms_in c.args.store.now) c.args.held.now.values c.args.reps.now) xs) (sym c.as_slice-left.ensures)
    (left_represented c.args.held.now c.args.store.now c.requires.taken c.in-Some.first.now (sym c.in-Some.ensures) c.args.reps.now c.requires.reps)

pub returns-in_err-left_equal-clause-leads : goal.returns-in_err-left_equal-clause-leads
returns-in_err-left_equal-clause-leads c =
    steps_lead c.args.held.now c.equal_to_representatives.new.justs c.equal_to_representatives.ensures.front c.args.store.now c.requires.taken c.equal_to_representatives.ensures.fits

pub returns-in_err-left_equal-clause-taken : goal.returns-in_err-left_equal-clause-taken
returns-in_err-left_equal-clause-taken c =
    taken_more c.args.held.now c.equal_to_representatives.new.justs c.equal_to_representatives.ensures.front c.args.store.now c.requires.taken c.equal_to_representatives.ensures.fits

-- ---- steps of the right names
pub equal_to_representatives-requires-2-clause-patterns : goal.equal_to_representatives-requires-2-clause-patterns
equal_to_representatives-requires-2-clause-patterns c = patterns c.args.held.now c.args.store.now c.requires.taken c.entries_of_all_names_fit.ensures

pub equal_to_representatives-requires-2-clause-values : goal.equal_to_representatives-requires-2-clause-values
equal_to_representatives-requires-2-clause-values c = valued c.args.held.now c.args.store.now c.requires.taken

pub equal_to_representatives-requires-2-clause-said : goal.equal_to_representatives-requires-2-clause-said
equal_to_representatives-requires-2-clause-said c =
    said_kept c.args.store.now.signature (terms_in c.args.store.now) c.args.held.now.justs c.equal_to_representatives.new.justs c.equal_to_representatives.ensures.front c.args.held.now.values
    (said_all c.args.held.now c.args.store.now c.requires.taken)

pub equal_to_representatives-requires-2-clause-same : goal.equal_to_representatives-requires-2-clause-same
equal_to_representatives-requires-2-clause-same c =
    subst (λ (xs : List ℕ). AllByRecursion (IsRepresented c.args.store.now.signature (terms_in c.args.store.now) c.args.held.now.values c.args.reps.now) xs) (sym c.as_slice-right.ensures)
    (right_represented c.args.held.now c.args.store.now c.requires.taken c.in-Some.first.now (sym c.in-Some.ensures) c.args.reps.now c.requires.reps)

pub returns-in_err-right_equal-clause-leads : goal.returns-in_err-right_equal-clause-leads
returns-in_err-right_equal-clause-leads c =
    let j0 = c.args.held.now.justs in
    let j1 = c.equal_to_representatives.new.justs in
    let j2 = c.equal_to_representatives-2.new.justs in
    steps_lead c.args.held.now j2 (front_then j0 j1 j2 c.equal_to_representatives.ensures.front c.equal_to_representatives-2.ensures.front) c.args.store.now c.requires.taken c.equal_to_representatives-2.ensures.fits

pub returns-in_err-right_equal-clause-taken : goal.returns-in_err-right_equal-clause-taken
returns-in_err-right_equal-clause-taken c =
    let j0 = c.args.held.now.justs in
    let j1 = c.equal_to_representatives.new.justs in
    let j2 = c.equal_to_representatives-2.new.justs in
    taken_more c.args.held.now j2 (front_then j0 j1 j2 c.equal_to_representatives.ensures.front c.equal_to_representatives-2.ensures.front) c.args.store.now c.requires.taken c.equal_to_representatives-2.ensures.fits

-- ---- the reduced sides
pub reduced_equation-requires-clause-said : goal.reduced_equation-requires-clause-said
reduced_equation-requires-clause-said c =
    let j0 = c.args.held.now.justs in
    let j1 = c.equal_to_representatives.new.justs in
    let j2 = c.equal_to_representatives-2.new.justs in
    subst (λ (r : Rules). AreSaid c.args.store.now.signature (terms_in c.args.store.now) j2 (λ n. rule_at r n)) (sym c.rules.ensures.rules)
    (rules_said c.args.held.now c.args.store.now c.requires.taken c.in-Some.first.now (sym c.in-Some.ensures) j2
    (front_then j0 j1 j2 c.equal_to_representatives.ensures.front c.equal_to_representatives-2.ensures.front))

pub reduced_equation-requires-clause-waiting : goal.reduced_equation-requires-clause-waiting
reduced_equation-requires-clause-waiting c =
    let j0 = c.args.held.now.justs in
    let j1 = c.equal_to_representatives.new.justs in
    let j2 = c.equal_to_representatives-2.new.justs in
    first_said c.args.held.now c.args.store.now c.requires.taken c.in-Some.first.now (sym c.in-Some.ensures) j2
    (front_then j0 j1 j2 c.equal_to_representatives.ensures.front c.equal_to_representatives-2.ensures.front)

pub reduced_equation-requires-clause-left_names : goal.reduced_equation-requires-clause-left_names
reduced_equation-requires-clause-left_names c =
    left_with_reps c.args.held.now c.args.store.now c.requires.taken c.in-Some.first.now (sym c.in-Some.ensures) c.args.reps.now c.requires.reps

pub reduced_equation-requires-clause-right_names : goal.reduced_equation-requires-clause-right_names
reduced_equation-requires-clause-right_names c =
    right_with_reps c.args.held.now c.args.store.now c.requires.taken c.in-Some.first.now (sym c.in-Some.ensures) c.args.reps.now c.requires.reps

pub reduced_equation-requires-clause-left_equal : goal.reduced_equation-requires-clause-left_equal
reduced_equation-requires-clause-left_equal c =
    let w = c.in-Some.first.now in
    let j0 = c.args.held.now.justs in
    let j1 = c.equal_to_representatives.new.justs in
    let v = c.args.held.now.values in
    let reps = c.args.reps.now in
    let ls = c.in_ok-left_equal.left_equal in
    subst (λ (ids : List ℕ). AreEquated c.equal_to_representatives-2.new.justs w.left (map (rep_in reps) w.left) ids) (sym c.as_slice.ensures)
    (left_equated c.args.held.now c.args.store.now c.requires.taken w (sym c.in-Some.ensures) reps j1 c.equal_to_representatives-2.new.justs c.equal_to_representatives-2.ensures.front
    c.equal_to_representatives-2.ensures.fits ls (subst (λ (xs : List ℕ). Pairwise (IsEqualTo j0 j1 v reps) xs ls) c.as_slice-left.ensures c.in_ok-left_equal.ensures.equal))

pub reduced_equation-requires-clause-right_equal : goal.reduced_equation-requires-clause-right_equal
reduced_equation-requires-clause-right_equal c =
    let w = c.in-Some.first.now in
    let j1 = c.equal_to_representatives.new.justs in
    let j2 = c.equal_to_representatives-2.new.justs in
    let v = c.args.held.now.values in
    let reps = c.args.reps.now in
    let rs = c.in_ok-right_equal.right_equal in
    subst (λ (ids : List ℕ). AreEquated j2 w.right (map (rep_in reps) w.right) ids) (sym c.as_slice-2.ensures)
    (right_equated c.args.held.now c.args.store.now c.requires.taken w (sym c.in-Some.ensures) reps j1 j2 c.equal_to_representatives-2.ensures.front c.equal_to_representatives-2.ensures.fits rs
    (subst (λ (xs : List ℕ). Pairwise (IsEqualTo j1 j2 v reps) xs rs) c.as_slice-right.ensures c.in_ok-right_equal.ensures.equal))

pub returns-in_err-sides-clause-leads : goal.returns-in_err-sides-clause-leads
returns-in_err-sides-clause-leads c =
    let j0 = c.args.held.now.justs in
    let j1 = c.equal_to_representatives.new.justs in
    let j2 = c.equal_to_representatives-2.new.justs in
    let j3 = c.reduced_equation.new.justs in
    steps_lead c.args.held.now j3 (front_then j0 j2 j3 (front_then j0 j1 j2 c.equal_to_representatives.ensures.front c.equal_to_representatives-2.ensures.front) c.reduced_equation.ensures.kept) c.args.store.now
    c.requires.taken c.reduced_equation.ensures.fits

pub returns-in_err-sides-clause-taken : goal.returns-in_err-sides-clause-taken
returns-in_err-sides-clause-taken c =
    let j0 = c.args.held.now.justs in
    let j1 = c.equal_to_representatives.new.justs in
    let j2 = c.equal_to_representatives-2.new.justs in
    let j3 = c.reduced_equation.new.justs in
    taken_more c.args.held.now j3 (front_then j0 j2 j3 (front_then j0 j1 j2 c.equal_to_representatives.ensures.front c.equal_to_representatives-2.ensures.front) c.reduced_equation.ensures.kept) c.args.store.now
    c.requires.taken c.reduced_equation.ensures.fits

-- ---- the larger side on the left
pub returns-clause-leads : goal.returns-clause-leads
returns-clause-leads c =
    let j0 = c.args.held.now.justs in
    let j1 = c.equal_to_representatives.new.justs in
    let j2 = c.equal_to_representatives-2.new.justs in
    let j3 = c.reduced_equation.new.justs in
    let j4 = c.with_larger_left.new.justs in
    let f3 = front_then j0 j2 j3 (front_then j0 j1 j2 c.equal_to_representatives.ensures.front c.equal_to_representatives-2.ensures.front) c.reduced_equation.ensures.kept in
    steps_lead c.args.held.now j4 (front_then j0 j3 j4 f3 c.with_larger_left.ensures.kept) c.args.store.now c.requires.taken c.with_larger_left.ensures.fits

pub returns-clause-taken : goal.returns-clause-taken
returns-clause-taken c =
    let j0 = c.args.held.now.justs in
    let j1 = c.equal_to_representatives.new.justs in
    let j2 = c.equal_to_representatives-2.new.justs in
    let j3 = c.reduced_equation.new.justs in
    let j4 = c.with_larger_left.new.justs in
    let f3 = front_then j0 j2 j3 (front_then j0 j1 j2 c.equal_to_representatives.ensures.front c.equal_to_representatives-2.ensures.front) c.reduced_equation.ensures.kept in
    taken_more c.args.held.now j4 (front_then j0 j3 j4 f3 c.with_larger_left.ensures.kept) c.args.store.now c.requires.taken c.with_larger_left.ensures.fits

pub returns-clause-first : goal.returns-clause-first
returns-clause-first c =
    let o = c.args.held.now in
    let s = c.args.store.now in
    let t = c.requires.taken in
    let w = c.in-Some.first.now in
    let at = sym c.in-Some.ensures in
    let reps = c.args.reps.now in
    let j0 = o.justs in
    let j1 = c.equal_to_representatives.new.justs in
    let j2 = c.equal_to_representatives-2.new.justs in
    let j3 = c.reduced_equation.new.justs in
    let f1 = c.equal_to_representatives.ensures.front in
    let f2 = c.equal_to_representatives-2.ensures.front in
    let ls = c.in_ok-left_equal.left_equal in
    let rs = c.in_ok-right_equal.right_equal in
    let left_all = subst (λ (xs : List ℕ). Pairwise (IsEqualTo j0 j1 o.values reps) xs ls) c.as_slice-left.ensures c.in_ok-left_equal.ensures.equal in
    let right_all = subst (λ (xs : List ℕ). Pairwise (IsEqualTo j1 j2 o.values reps) xs rs) c.as_slice-right.ensures c.in_ok-right_equal.ensures.equal in
    let sides = c.in_ok-sides.sides in
    let ok = c.in_ok-sides.ensures in
    let rules = c.rules.result.now in
    let same = c.rules.ensures.rules in
    let rests = subst (λ (z : Rules × List ℕ × List ℕ). RestsOnHeld (λ n. rule_at z.0 n) w.symbol (w.step ∷ z.1 ++ z.2) j2 j3 sides.step) (λ i. (same i, c.as_slice.ensures i, c.as_slice-2.ensures i)) ok.rests in
    let grounded : RestsOnAssumed (all_terms o) j3 (present o.assumed) sides.step = first_grounded o s t w at j2 (front_then j0 j1 j2 f1 f2) j3 ls rs sides.step
    (left_rests o s t w at reps j1 j2 f2 c.equal_to_representatives-2.ensures.fits ls left_all)
    (right_rests o s t w at reps j1 j2 f2 c.equal_to_representatives-2.ensures.fits f1 c.equal_to_representatives.ensures.fits rs right_all) rests in
    first_reduced o s t w at reps c.with_larger_left.new.justs sides.left sides.right
    (side_of o s t w at reps c.requires.reps rules same c.requires.rights sides.left ok.left_own ok.left_reduced ok.left_rises ok.left_some)
    (side_of o s t w at reps c.requires.reps rules same c.requires.rights sides.right ok.right_own ok.right_reduced ok.right_rises ok.right_some)
    (descend_of o s t w at reps c.requires.reps rules same sides.left sides.right ok.left_descends ok.right_descends) ok.names j3 sides.step c.with_larger_left.result grounded c.with_larger_left.ensures.symbol
    c.with_larger_left.ensures.sides c.with_larger_left.ensures.states c.with_larger_left.ensures.rests
