use Rattle.std.proofs.Common.{◌≡◌, ◌∙◌, ℕ, List, ◌≤◌, arith, sym, length, subst, map, ap}
use Rattle.std.specs.List.{Contains}
use Rattle.std.specs.Prelude.{count_by, ◌==◌}
use Rattle.ae_rules.specs.Clauses.{Clause, opposite}
use Rattle.ae_core.specs.declared.formulas.Lit.{Lit}
use Rattle.ae_explain.specs.Trail.{clause}
use Rattle.ae_explain.specs.Levels.{greatest_of, level_of}
use Rattle.ae_explain.specs.Hints.{Propagates}
use Rattle.ae_explain.specs.Inner.Marks.{IsMarked, State, kept_at, lits_below, hints_from}
use Rattle.ae_explain.proofs.Places.{there}
use Rattle.ae_explain.proofs.Marking.{start, nothing_kept}
use Rattle.ae_explain.proofs.Reading.{is_false, empty_at_0, one_at_top, above_ground, at_most}
use Rattle.ae_explain.proofs.Hinting.{derived}
use Rattle.ae_explain.proofs.conflict.learnt_from.Goals as goal

pub keep_clause-count-requires-clause-count : goal.keep_clause-count-requires-clause-count
keep_clause-count-requires-clause-count c = sym (nothing_kept c.args.trail.now.assigned c.args.marks.now c.greatest_level-level.result c.requires.blank)

pub resolve-requires-clause-before : goal.resolve-requires-clause-before
resolve-requires-clause-before c =
    let t = c.args.trail.now.assigned in
    let e = c.greatest_level-level.ensures in
    let s : State t c.args.clauses.now c.keep_clause-count.new.marks (greatest_of t c.args.given.now) (length t) c.keep_clause-count.result =
    start t c.args.clauses.now c.requires.lawful c.args.given.now c.requires.falsified c.args.marks.now c.keep_clause-count.new.marks c.requires.blank c.keep_clause-count.ensures.kept (c.keep_clause-count.auto.marks ∙ c.requires.len)
    c.keep_clause-count.result (c.keep_clause-count.ensures.count ∙ ap (kept_at t c.keep_clause-count.new.marks) e) in
    subst (λ (w : ℕ). State t c.args.clauses.now c.keep_clause-count.new.marks w (length t) c.keep_clause-count.result) (sym e) s

pub returns-clause-false_ones : goal.returns-clause-false_ones
returns-clause-false_ones c m h =
    is_false c.args.trail.now.assigned c.resolve.new.marks (length c.args.trail.now.assigned) (omega arith) m (subst (λ (w : Clause). Contains w m) c.in_ok-clause.ensures h)

pub returns-clause-derived : goal.returns-clause-derived
returns-clause-derived c =
    let t = c.args.trail.now.assigned in
    let u = c.args.clauses.now in
    let s = c.resolve.ensures.after.1 in
    let marked_all : (m : Lit) → Contains (clause u c.args.falsified) m → IsMarked t c.resolve.new.marks (length t) m = λ m h.
    let k : Contains c.args.given.now m = subst (λ (w : Clause). Contains w m) (sym c.requires.given) h in
    let f = c.requires.falsified m k in
    (f.0, f.1, f.2, c.resolve.ensures.grows f.0 (c.keep_clause-count.ensures.kept.all m k f.0 (there t f.0 m.formula c.requires.lawful.apart f.1 (ap (λ (x : Lit). x.formula) f.2)))) in
    let d : Propagates u (map opposite (lits_below t c.resolve.new.marks (length t))) (hints_from t c.resolve.new.marks c.args.falsified 0 (length t)) =
    derived t u c.requires.lawful c.resolve.new.marks c.args.falsified (λ p l r. s.closed p (omega arith) l r) c.requires.within marked_all in
    subst (λ (w : Clause). Propagates u w c.in_ok-hints.hints) (sym c.in_ok-clause.ensures)
    (subst (λ (w : List ℕ). Propagates u (map opposite (lits_below t c.resolve.new.marks (length t))) w) (sym c.in_ok-hints.ensures) d)

pub returns-clause-empty : goal.returns-clause-empty
returns-clause-empty c z =
    c.in_ok-clause.ensures ∙ ap (map opposite) (empty_at_0 c.args.trail.now.assigned c.args.clauses.now c.resolve.new.marks c.greatest_level-level.result c.resolve.ensures.after.0 c.resolve.ensures.after.1 (c.greatest_level-level.ensures ∙ z))

pub returns-clause-one : goal.returns-clause-one
returns-clause-one c h =
    let t = c.args.trail.now.assigned in
    let s : State t c.args.clauses.now c.resolve.new.marks (greatest_of t c.args.given.now) 0 c.resolve.ensures.after.0 =
    subst (λ (w : ℕ). State t c.args.clauses.now c.resolve.new.marks w 0 c.resolve.ensures.after.0) c.greatest_level-level.ensures c.resolve.ensures.after.1 in
    subst (λ (w : Clause). count_by (λ m. level_of t m == greatest_of t c.args.given.now) w ≡ 1) (sym c.in_ok-clause.ensures)
    (one_at_top t c.args.clauses.now c.resolve.new.marks (greatest_of t c.args.given.now) c.resolve.ensures.after.0 s c.requires.lawful.apart h)

pub returns-clause-ground : goal.returns-clause-ground
returns-clause-ground c m h =
    above_ground c.args.trail.now.assigned c.args.clauses.now c.resolve.new.marks c.greatest_level-level.result c.resolve.ensures.after.0 c.resolve.ensures.after.1 c.requires.lawful.apart m
    (subst (λ (w : Clause). Contains w m) c.in_ok-clause.ensures h)

pub returns-clause-highest : goal.returns-clause-highest
returns-clause-highest c m h =
    subst (λ (w : ℕ). level_of c.args.trail.now.assigned m ≤ w) c.greatest_level-level.ensures
    (at_most c.args.trail.now.assigned c.args.clauses.now c.resolve.new.marks c.greatest_level-level.result c.resolve.ensures.after.0 c.resolve.ensures.after.1 c.requires.lawful.apart m
    (subst (λ (w : Clause). Contains w m) c.in_ok-clause.ensures h))
