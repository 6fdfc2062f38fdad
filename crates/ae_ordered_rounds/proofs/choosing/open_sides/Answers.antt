use Rattle.std.specs.Prelude.{Option, IfSome}
use Rattle.std.proofs.Common.{subst}
use Rattle.std.proofs.lemmas.Result.{IfOk-weaker}
use Rattle.ae_ordered_rounds.proofs.Asking.{sides_open}
use Rattle.ae_theory.specs.Names.{terms_in}
use Rattle.ae_tight_sides.specs.Sides.{AreSidesOf}
use Rattle.ae_tight_sides.specs.declared.sides.Sides.{Sides}
use Rattle.ae_ordered_rounds.proofs.choosing.open_sides.Goals as goal

pub tight_sides-requires-clause-right : goal.tight_sides-requires-clause-right
tight_sides-requires-clause-right c = c.requires.fine.right

pub tight_sides-requires-clause-normal : goal.tight_sides-requires-clause-normal
tight_sides-requires-clause-normal c = c.requires.fine.normal

pub returns-in-Some : goal.returns-in-Some
returns-in-Some c =
    let ts = terms_in c.args.store.now in
    let r = c.args.row.now in
    let are = subst (λ (o : Option Sides). IfSome o (AreSidesOf ts r)) c.in-Some.is c.in_ok-tight_sides.ensures in
    IfOk-weaker c.if_open.result _ _ (λ found h. sides_open (AreSidesOf ts r) c.args.trail.now.assigned c.in-Some.both found are h) c.if_open.ensures
