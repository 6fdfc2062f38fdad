use Rattle.std.specs.Prelude.{◌≡◌, ◌++◌, OnOk, Option}
use Rattle.std.proofs.Common.{append-nil, subst, sym}
use Rattle.ae_rules.specs.Clauses.{Clause}
use Rattle.ae_sure_literals.specs.Inner.Given.{listed}
use Rattle.ae_sure_literals.proofs.given.add_clause.Goals as goal

pub returns-in-None : goal.returns-in-None
returns-in-None c =
    subst (λ (o : Option Clause). c.args.given.now ≡ c.args.given.now ++ listed o) (sym c.in-None.is) (sym (append-nil c.args.given.now))

pub returns-in-Some : goal.returns-in-Some
returns-in-Some c = subst (λ (o : Option Clause). OnOk c.push.result (c.push.new.self ≡ c.args.given.now ++ listed o)) (sym c.in-Some.is) c.push.ensures.ok
