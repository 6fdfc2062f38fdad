use Rattle.std.proofs.Common.{[], ◌∷◌, ◌++◌, sym, ◌∙◌, subst}
use Rattle.std.proofs.lemmas.Result.{on_ok_weaker}
use Rattle.ae_core.specs.declared.proofs.ClauseLine.{ClauseLine}
use Rattle.ae_core.specs.declared.proofs.ClauseLine.TheVariants.{Tri}
use Rattle.ae_searching.specs.Steps.{MayCome}
use Rattle.ae_added_orders.proofs.adding.add_order_line.Goals as goal

pub returns-clause-searching : goal.returns-clause-searching
returns-clause-searching c p g bound level s opened js may h =
    c.add_line.ensures.searching p g bound level s opened js
    (subst (λ (l : ClauseLine). MayCome p g s opened c.args.lines.now.items js l c.args.clause) (λ i. Tri (sym c.in_ok-left.ensures i) (sym c.in_ok-right.ensures i)) may) h

pub returns-clause-lines : goal.returns-clause-lines
returns-clause-lines c =
    on_ok_weaker c.add_line.result (λ h. h ∙ (λ i. c.args.lines.now.items ++ Tri (c.in_ok-left.ensures i) (c.in_ok-right.ensures i) ∷ [])) c.add_line.ensures.lines
