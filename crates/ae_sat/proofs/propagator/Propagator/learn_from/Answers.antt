use Rattle.std.proofs.Common.{◌≡◌, ◌<◌, ◌≤◌, ◌==◌, [], List, sym, subst, length}
use Rattle.std.specs.Prelude.{IfOk, count_by}
use Rattle.std.specs.List.{Contains}
use Rattle.ae_core.specs.declared.formulas.Lit.{Lit}
use Rattle.ae_rules.specs.Clauses.{Clause}
use Rattle.ae_explain.specs.declared.trail.Assigned.{Assigned}
use Rattle.ae_explain.specs.Trail.{clause, AreFalse, IsLawful}
use Rattle.ae_explain.specs.Hints.{Propagates}
use Rattle.ae_explain.specs.Levels.{level_of, greatest_of, literals_under}
use Rattle.ae_sat.proofs.propagator.Propagator.learn_from.Goals as goal

pub conflict_clause-requires-clause-lawful : goal.conflict_clause-requires-clause-lawful
conflict_clause-requires-clause-lawful c =
    subst (λ (w : List Assigned). IsLawful w c.clauses.result.now) (sym c.trail.ensures) (subst (IsLawful c.args.self.now.trail) (sym c.clauses.ensures) c.requires.lawful)

pub conflict_clause-requires-clause-within : goal.conflict_clause-requires-clause-within
conflict_clause-requires-clause-within c = subst (λ (v : List Clause). c.args.falsified < length v) (sym c.clauses.ensures) c.requires.within

pub conflict_clause-requires-clause-falsified : goal.conflict_clause-requires-clause-falsified
conflict_clause-requires-clause-falsified c =
    subst (λ (w : List Assigned). AreFalse w (clause c.clauses.result.now c.args.falsified)) (sym c.trail.ensures)
    (subst (λ (v : List Clause). AreFalse c.args.self.now.trail (clause v c.args.falsified)) (sym c.clauses.ensures) c.requires.falsified)

pub returns-clause-false_ones : goal.returns-clause-false_ones
returns-clause-false_ones c = subst (λ (w : List Assigned). IfOk c.conflict_clause.result (λ r. AreFalse w r.clause)) c.trail.ensures c.conflict_clause.ensures.false_ones

pub returns-clause-derived : goal.returns-clause-derived
returns-clause-derived c = subst (λ (v : List Clause). IfOk c.conflict_clause.result (λ r. Propagates v r.clause r.hints)) c.clauses.ensures c.conflict_clause.ensures.derived

pub returns-clause-empty : goal.returns-clause-empty
returns-clause-empty c =
    subst (λ (w : List Assigned). IfOk c.conflict_clause.result (λ r. greatest_of w (clause c.args.self.now.clauses c.args.falsified) ≡ 0 → r.clause ≡ [])) c.trail.ensures
    (subst (λ (v : List Clause). IfOk c.conflict_clause.result (λ r. greatest_of c.trail.result.now.assigned (clause v c.args.falsified) ≡ 0 → r.clause ≡ [])) c.clauses.ensures c.conflict_clause.ensures.empty)

pub returns-clause-one : goal.returns-clause-one
returns-clause-one c =
    subst (λ (w : List Assigned). IfOk c.conflict_clause.result (λ r. 0 < greatest_of w (clause c.args.self.now.clauses c.args.falsified) →
    count_by (λ m. level_of w m == greatest_of w (clause c.args.self.now.clauses c.args.falsified)) r.clause ≡ 1)) c.trail.ensures
    (subst (λ (v : List Clause). IfOk c.conflict_clause.result (λ r. 0 < greatest_of c.trail.result.now.assigned (clause v c.args.falsified) →
    count_by (λ m. level_of c.trail.result.now.assigned m == greatest_of c.trail.result.now.assigned (clause v c.args.falsified)) r.clause ≡ 1)) c.clauses.ensures c.conflict_clause.ensures.one)

pub returns-clause-highest : goal.returns-clause-highest
returns-clause-highest c =
    subst (λ (w : List Assigned). IfOk c.conflict_clause.result (λ r. (m : Lit) → Contains r.clause m → level_of w m ≤ greatest_of w (clause c.args.self.now.clauses c.args.falsified))) c.trail.ensures
    (subst (λ (v : List Clause). IfOk c.conflict_clause.result (λ r. (m : Lit) → Contains r.clause m → level_of c.trail.result.now.assigned m ≤ greatest_of c.trail.result.now.assigned (clause v c.args.falsified))) c.clauses.ensures
    c.conflict_clause.ensures.highest)

pub returns-clause-level : goal.returns-clause-level
returns-clause-level c =
    subst (λ (w : List Assigned). IfOk c.conflict_clause.result (λ r. r.level ≡ greatest_of w (literals_under w (greatest_of w r.clause) r.clause))) c.trail.ensures c.conflict_clause.ensures.level
