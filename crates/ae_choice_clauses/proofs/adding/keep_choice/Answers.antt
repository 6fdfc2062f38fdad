use Rattle.std.proofs.Common.{sym, ap, subst, ◌∙◌, ◌++◌, ◌∷◌, [], inl, List}
use Rattle.std.proofs.lemmas.Result.{on_ok_weaker}
use Rattle.ae_core.specs.declared.proofs.ClauseLine.{ClauseLine}
use Rattle.ae_core.specs.declared.proofs.ClauseLine.TheVariants.{Exh}
use Rattle.ae_rules.specs.Clauses.{Clause}
use Rattle.ae_choice_clauses.specs.Inner.Added.{IsKept, left_out, with_clause}
use Rattle.ae_choice_clauses.proofs.adding.keep_choice.Goals as goal

pub returns-in-None : goal.returns-in-None
returns-in-None c = left_out (inl (sym c.in_ok-exhaust.ensures.clause ∙ c.in-None.is))

pub returns-in_ok-term-in-Some : goal.returns-in_ok-term-in-Some
returns-in_ok-term-in-Some c =
    let ls = c.args.first.now.lines.items in
    let cs = c.args.first.now.clauses in
    on_ok_weaker c.keep_line.result
    (λ h. subst (λ (x : List ClauseLine × List Clause). IsKept c.args.signature.now c.args.term.now ls cs x.0 x.1)
    (λ i. (sym (h.0 ∙ ap (λ z. ls ++ Exh z ∷ []) c.in_ok-term-in-Some.ensures) i, sym h.1 i))
    (with_clause c.in-Some.clause (sym c.in_ok-exhaust.ensures.clause ∙ c.in-Some.is))) c.keep_line.ensures
