use Rattle.std.proofs.Common.{[], ◌∷◌, ◌++◌, sym, ap, ◌∙◌, subst}
use Rattle.std.proofs.lemmas.Result.{on_ok_weaker}
use Rattle.ae_core.specs.declared.proofs.ClauseLine.TheVariants.{Exh}
use Rattle.ae_core.specs.declared.terms.Term.{Term}
use Rattle.ae_searching.specs.Steps.{MayCome}
use Rattle.ae_entered_names.proofs.choices.add_choice_line.Goals as goal

pub returns-clause-searching : goal.returns-clause-searching
returns-clause-searching c p g bound level s opened js may h =
    c.add_line.ensures.searching p g bound level s opened js (subst (λ (w : Term). MayCome p g s opened c.args.lines.now.items js (Exh w) c.args.clause) (sym c.in_ok-term.ensures) may) h

pub returns-clause-lines : goal.returns-clause-lines
returns-clause-lines c = on_ok_weaker c.add_line.result (λ h. h ∙ ap (λ (w : Term). c.args.lines.now.items ++ Exh w ∷ []) c.in_ok-term.ensures) c.add_line.ensures.lines
