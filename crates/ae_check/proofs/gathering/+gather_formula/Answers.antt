use Rattle.std.proofs.Common.{[], ◌∷◌, ◌||◌, sym, ap, ◌∙◌}
use Rattle.std.proofs.lemmas.Result.{on_ok_weaker}
use Rattle.std.specs.List.{list_any}
use Rattle.ae_calc.specs.Inner.Mentions.{mentions, formula_mentions}
use Rattle.ae_calc.proofs.Mentioning.{quant_block, formula_true, formula_false, formula_eq, formula_lt, formula_le, formula_pred, formula_not, formula_and, formula_or, formula_xor, formula_iff, formula_all, formula_ex}
use Rattle.ae_check.proofs.Gathered.{gathered_none, gathered_as, gathered_then}
use Rattle.ae_check.proofs.gathering.+gather_formula.Goals as goal

pub gather_quant-returns : goal.gather_quant-returns
gather_quant-returns t c =
    on_ok_weaker c.gather_formula.result (λ h. gathered_then _ _ _ _ _ _ c.in_ok-gather_triggers.ensures h (λ n s. quant_block n (s ∷ []) c.args.quant.now
    ∙ (λ i. list_any (list_any (mentions n (s ∷ []))) (sym c.as_slice.ensures i) || formula_mentions n (s ∷ []) (sym c.get.ensures i)))) c.gather_formula.ensures

pub gather_formula-returns-in-True : goal.gather_formula-returns-in-True
gather_formula-returns-in-True t c = gathered_none _ _ (λ n s. ap (formula_mentions n (s ∷ [])) c.in-True.is ∙ formula_true n (s ∷ []))

pub gather_formula-returns-in-False : goal.gather_formula-returns-in-False
gather_formula-returns-in-False t c = gathered_none _ _ (λ n s. ap (formula_mentions n (s ∷ [])) c.in-False.is ∙ formula_false n (s ∷ []))

pub gather_formula-returns-in-Eq : goal.gather_formula-returns-in-Eq
gather_formula-returns-in-Eq t c =
    on_ok_weaker c.gather_sides.result (λ g. gathered_as _ _ _ _ g (λ n s. ap (formula_mentions n (s ∷ [])) c.in-Eq.is ∙ formula_eq n (s ∷ []) _ _)) c.gather_sides.ensures

pub gather_formula-returns-in-Lt : goal.gather_formula-returns-in-Lt
gather_formula-returns-in-Lt t c =
    on_ok_weaker c.gather_sides-in-Lt.result (λ g. gathered_as _ _ _ _ g (λ n s. ap (formula_mentions n (s ∷ [])) c.in-Lt.is ∙ formula_lt n (s ∷ []) _ _)) c.gather_sides-in-Lt.ensures

pub gather_formula-returns-in-Le : goal.gather_formula-returns-in-Le
gather_formula-returns-in-Le t c =
    on_ok_weaker c.gather_sides-in-Le.result (λ g. gathered_as _ _ _ _ g (λ n s. ap (formula_mentions n (s ∷ [])) c.in-Le.is ∙ formula_le n (s ∷ []) _ _)) c.gather_sides-in-Le.ensures

pub gather_formula-returns-in-Pred : goal.gather_formula-returns-in-Pred
gather_formula-returns-in-Pred t c =
    on_ok_weaker c.gather_terms.result (λ g. gathered_as _ _ _ _ g (λ n s. ap (formula_mentions n (s ∷ [])) c.in-Pred.is ∙ formula_pred n (s ∷ []) _ _ _ ∙ ap (list_any (mentions n (s ∷ []))) (sym c.as_slice.ensures))) c.gather_terms.ensures

pub gather_formula-returns-in-Not : goal.gather_formula-returns-in-Not
gather_formula-returns-in-Not t c =
    on_ok_weaker c.gather_formula.result (λ g. gathered_as _ _ _ _ g (λ n s. ap (formula_mentions n (s ∷ [])) c.in-Not.is ∙ formula_not n (s ∷ []) _ ∙ ap (formula_mentions n (s ∷ [])) (sym c.get.ensures))) c.gather_formula.ensures

pub gather_formula-returns-in_ok-gather_formula-in-And : goal.gather_formula-returns-in_ok-gather_formula-in-And
gather_formula-returns-in_ok-gather_formula-in-And t c =
    on_ok_weaker c.gather_formula-in-And-2.result (λ h. gathered_then _ _ _ _ _ _ c.in_ok-gather_formula-in-And.ensures h (λ n s. ap (formula_mentions n (s ∷ [])) c.in-And.is ∙ formula_and n (s ∷ []) _ _
    ∙ (λ i. formula_mentions n (s ∷ []) (sym c.get-in-And.ensures i) || formula_mentions n (s ∷ []) (sym c.get-in-And-2.ensures i)))) c.gather_formula-in-And-2.ensures

pub gather_formula-returns-in_ok-gather_formula-in-Or : goal.gather_formula-returns-in_ok-gather_formula-in-Or
gather_formula-returns-in_ok-gather_formula-in-Or t c =
    on_ok_weaker c.gather_formula-in-Or-2.result (λ h. gathered_then _ _ _ _ _ _ c.in_ok-gather_formula-in-Or.ensures h (λ n s. ap (formula_mentions n (s ∷ [])) c.in-Or.is ∙ formula_or n (s ∷ []) _ _
    ∙ (λ i. formula_mentions n (s ∷ []) (sym c.get-in-Or.ensures i) || formula_mentions n (s ∷ []) (sym c.get-in-Or-2.ensures i)))) c.gather_formula-in-Or-2.ensures

pub gather_formula-returns-in_ok-gather_formula-in-Xor : goal.gather_formula-returns-in_ok-gather_formula-in-Xor
gather_formula-returns-in_ok-gather_formula-in-Xor t c =
    on_ok_weaker c.gather_formula-in-Xor-2.result (λ h. gathered_then _ _ _ _ _ _ c.in_ok-gather_formula-in-Xor.ensures h (λ n s. ap (formula_mentions n (s ∷ [])) c.in-Xor.is ∙ formula_xor n (s ∷ []) _ _
    ∙ (λ i. formula_mentions n (s ∷ []) (sym c.get-in-Xor.ensures i) || formula_mentions n (s ∷ []) (sym c.get-in-Xor-2.ensures i)))) c.gather_formula-in-Xor-2.ensures

pub gather_formula-returns-in_ok-gather_formula-in-Iff : goal.gather_formula-returns-in_ok-gather_formula-in-Iff
gather_formula-returns-in_ok-gather_formula-in-Iff t c =
    on_ok_weaker c.gather_formula-in-Iff-2.result (λ h. gathered_then _ _ _ _ _ _ c.in_ok-gather_formula-in-Iff.ensures h (λ n s. ap (formula_mentions n (s ∷ [])) c.in-Iff.is ∙ formula_iff n (s ∷ []) _ _
    ∙ (λ i. formula_mentions n (s ∷ []) (sym c.get-in-Iff.ensures i) || formula_mentions n (s ∷ []) (sym c.get-in-Iff-2.ensures i)))) c.gather_formula-in-Iff-2.ensures

pub gather_formula-returns-in-All : goal.gather_formula-returns-in-All
gather_formula-returns-in-All t c =
    on_ok_weaker c.gather_quant.result (λ g. gathered_as _ _ _ _ g (λ n s. ap (formula_mentions n (s ∷ [])) c.in-All.is ∙ formula_all n (s ∷ []) _)) c.gather_quant.ensures

pub gather_formula-returns-in-Ex : goal.gather_formula-returns-in-Ex
gather_formula-returns-in-Ex t c =
    on_ok_weaker c.gather_quant-in-Ex.result (λ g. gathered_as _ _ _ _ g (λ n s. ap (formula_mentions n (s ∷ [])) c.in-Ex.is ∙ formula_ex n (s ∷ []) _)) c.gather_quant-in-Ex.ensures
