use Rattle.std.proofs.lemmas.Result.{IfOk-weaker}
use Rattle.ae_unordered.proofs.Deciding.{none_at, pair_found}
use Rattle.ae_unordered.proofs.pairs.pair_at.Goals as goal

pub returns-in-None : goal.returns-in-None
returns-in-None c = none_at c.args.trail.now.assigned c.args.literal.now c.in-None.ensures.none

pub returns-in-Some : goal.returns-in-Some
returns-in-Some c =
    IfOk-weaker c.open_pair.result _ _ (λ found h. pair_found c.args.trail.now.assigned c.args.literal.now c.in-Some.sides.left.now c.in-Some.sides.right.now found c.in-Some.ensures.some h) c.open_pair.ensures
