use Rattle.std.proofs.Common.{[], ap, ◌∙◌, ◌++◌, ◌∷◌}
use Rattle.std.proofs.lemmas.Result.{on_ok_weaker}
use Rattle.ae_first_clauses.proofs.beginning.add_goal.Goals as goal

pub returns : goal.returns
returns c = on_ok_weaker c.keep_line.result (λ h. (h.0, h.1 ∙ ap (λ z. c.args.first.now.clauses ++ z ∷ []) c.in_ok-clause.ensures)) c.keep_line.ensures
