use Rattle.std.proofs.lemmas.Result.{IfOk-weaker}
use Rattle.ae_conflicts.proofs.explaining.explained.Goals as goal

pub returns-clause-contradictory : goal.returns-clause-contradictory
returns-clause-contradictory c = IfOk-weaker c.explained_by.result _ _ (λ e x. x.contradictory) c.explained_by.ensures

pub returns-clause-sorted : goal.returns-clause-sorted
returns-clause-sorted c = IfOk-weaker c.explained_by.result _ _ (λ e x. x.sorted) c.explained_by.ensures

pub returns-clause-tags : goal.returns-clause-tags
returns-clause-tags c = IfOk-weaker c.explained_by.result _ _ (λ e x. x.tags) c.explained_by.ensures

pub returns-clause-built : goal.returns-clause-built
returns-clause-built c = IfOk-weaker c.explained_by.result _ _ (λ e x. x.built) c.explained_by.ensures
