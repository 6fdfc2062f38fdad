use Rattle.std.proofs.Common.{[], ◌∷◌}
use Rattle.std.proofs.lemmas.Result.{on_ok_weaker}
use Rattle.ae_goal_names.proofs.Joining.{both_named}
use Rattle.ae_goal_names.proofs.naming.name_both.Goals as goal

pub returns : goal.returns
returns c =
    on_ok_weaker c.name_term-2.result
    (λ h. both_named c.args.store.now c.name_term.new.store c.name_term-2.new.store (c.args.left.now ∷ []) (c.args.right.now ∷ []) c.in_ok-name_term.ensures h) c.name_term-2.ensures
