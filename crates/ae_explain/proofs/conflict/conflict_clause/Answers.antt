use Rattle.std.proofs.Common.{◌≡◌, ◌<◌, ◌≤◌, subst}
use Rattle.std.proofs.lemmas.Result.{IfOk-weaker}
use Rattle.std.specs.Prelude.{count_by, ◌==◌}
use Rattle.ae_rules.specs.Clauses.{Clause}
use Rattle.ae_explain.specs.Levels.{greatest_of, level_of}
use Rattle.ae_explain.proofs.conflict.conflict_clause.Goals as goal

pub returns-clause-one : goal.returns-clause-one
returns-clause-one c =
    let t = c.args.trail.now.assigned in
    IfOk-weaker c.learnt_from.result _ _ (λ r k. subst (λ (g : Clause). 0 < greatest_of t g → count_by (λ m. level_of t m == greatest_of t g) r.clause ≡ 1) c.clause_at.ensures k) c.learnt_from.ensures.one

pub returns-clause-highest : goal.returns-clause-highest
returns-clause-highest c =
    let t = c.args.trail.now.assigned in
    IfOk-weaker c.learnt_from.result _ _ (λ r k m h. subst (λ (g : Clause). level_of t m ≤ greatest_of t g) c.clause_at.ensures (k m h)) c.learnt_from.ensures.highest
