use Rattle.std.proofs.lemmas.Result.{IfOk-weaker}
use Rattle.ae_monoid.proofs.Holding.{holding}
use Rattle.ae_monoid.proofs.rules.Rules.having.Goals as goal

pub returns-clause-are : goal.returns-clause-are
returns-clause-are c =
    IfOk-weaker c.standing_on.result _ _
    (λ numbers are n.
    let h =
    holding c.args.self.now _ c.self.view_is c.deref.result.now c.deref-2.result.now c.deref.ensures.value c.deref-2.ensures.value c.args.name c.head_of-head.result c.head_of-head.ensures.all c.head_of-head.ensures.only
    c.self.invariant n in
    (λ t. h.0 ((are n).0 t), λ p. (are n).1 (h.1 p))) c.standing_on.ensures.are
