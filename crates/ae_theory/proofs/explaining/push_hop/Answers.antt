use Rattle.std.proofs.Common.{Bool, OnOk, sym, subst}
use Rattle.ae_theory.specs.Inner.Hops.{Pushes}
use Rattle.ae_theory.proofs.Ways.{pushes_on, pushes_turned}
use Rattle.ae_theory.proofs.explaining.push_hop.Goals as goal

pub returns-then-turned-clause-shows : goal.returns-then-turned-clause-shows
returns-then-turned-clause-shows c =
    subst (λ (b : Bool). OnOk c.push_turned.result (Pushes c.args.lit.now b c.args.hyp c.args.start.now c.args.lines.now c.push_turned.new.lines)) (sym c.if-turned.true)
    (pushes_turned c.push_turned.result c.args.lit.now c.in-Eq.left c.in-Eq.right c.args.hyp c.args.start.now c.args.lines.now c.push_turned.new.lines c.in-Eq.is c.push_turned.ensures)

pub returns-else-turned-clause-shows : goal.returns-else-turned-clause-shows
returns-else-turned-clause-shows c =
    subst (λ (b : Bool). OnOk c.push_on.result (Pushes c.args.lit.now b c.args.hyp c.args.start.now c.args.lines.now c.push_on.new.lines)) (sym c.if-turned.false)
    (pushes_on c.push_on.result c.args.lit.now c.in-Eq.left c.in-Eq.right c.args.hyp c.args.start.now c.args.lines.now c.push_on.new.lines c.in-Eq.is c.push_on.ensures)
