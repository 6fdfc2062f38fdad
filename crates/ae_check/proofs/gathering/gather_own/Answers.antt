use Rattle.std.proofs.Common.{[], ◌∷◌, ◌||◌, sym, ap, ◌∙◌}
use Rattle.std.proofs.lemmas.Result.{on_ok_weaker}
use Rattle.std.specs.List.{list_any}
use Rattle.ae_calc.specs.Inner.Mentions.{mentions, formula_mentions, clause_mentions, derived_mentions, own_mentions}
use Rattle.ae_check.proofs.Gathered.{gathered_none, gathered_as, gathered_then}
use Rattle.ae_check.proofs.gathering.gather_own.Goals as goal

pub returns-in-Hyp : goal.returns-in-Hyp
returns-in-Hyp c = gathered_none _ _ (λ n s. ap (own_mentions n (s ∷ [])) c.in-Hyp.is)

pub returns-in-Goal : goal.returns-in-Goal
returns-in-Goal c = gathered_none _ _ (λ n s. ap (own_mentions n (s ∷ [])) c.in-Goal.is)

pub returns-in-Def : goal.returns-in-Def
returns-in-Def c = on_ok_weaker c.gather_formula.result (λ g. gathered_as _ _ _ _ g (λ n s. ap (own_mentions n (s ∷ [])) c.in-Def.is)) c.gather_formula.ensures

pub returns-in_ok-gather_formula-in-Inst : goal.returns-in_ok-gather_formula-in-Inst
returns-in_ok-gather_formula-in-Inst c = on_ok_weaker c.gather_terms.result (λ h. gathered_then _ _ _ _ _ _ c.in_ok-gather_formula-in-Inst.ensures h (λ n s. ap (own_mentions n (s ∷ [])) c.in-Inst.is
    ∙ ap (λ ts. formula_mentions n (s ∷ []) c.in-Inst.formula || list_any (mentions n (s ∷ [])) ts) (sym c.as_slice.ensures))) c.gather_terms.ensures

pub returns-in_ok-gather_formula-in-Fresh : goal.returns-in_ok-gather_formula-in-Fresh
returns-in_ok-gather_formula-in-Fresh c = on_ok_weaker c.gather_put.result (λ h. gathered_then _ _ _ _ _ _ c.in_ok-gather_formula-in-Fresh.ensures h (λ n s. ap (own_mentions n (s ∷ [])) c.in-Fresh.is)) c.gather_put.ensures

pub returns-in-Exh : goal.returns-in-Exh
returns-in-Exh c = on_ok_weaker c.gather_term.result (λ g. gathered_as _ _ _ _ g (λ n s. ap (own_mentions n (s ∷ [])) c.in-Exh.is)) c.gather_term.ensures

pub returns-in-Tri : goal.returns-in-Tri
returns-in-Tri c = on_ok_weaker c.gather_sides.result (λ g. gathered_as _ _ _ _ g (λ n s. ap (own_mentions n (s ∷ [])) c.in-Tri.is)) c.gather_sides.ensures

pub returns-in_ok-gather_clause-in-Block : goal.returns-in_ok-gather_clause-in-Block
returns-in_ok-gather_clause-in-Block c = on_ok_weaker c.gather_derived.result (λ h. gathered_then _ _ _ _ _ _ c.in_ok-gather_clause-in-Block.ensures h (λ n s. ap (own_mentions n (s ∷ [])) c.in-Block.is
    ∙ (λ i. clause_mentions n (s ∷ []) (sym c.as_slice-in-Block.ensures i) || list_any (derived_mentions n (s ∷ [])) (sym c.as_slice-in-Block-2.ensures i)))) c.gather_derived.ensures

pub returns-in-Rup : goal.returns-in-Rup
returns-in-Rup c = on_ok_weaker c.gather_clause-in-Rup.result (λ g. gathered_as _ _ _ _ g (λ n s. ap (own_mentions n (s ∷ [])) c.in-Rup.is ∙ ap (clause_mentions n (s ∷ [])) (sym c.as_slice-in-Rup.ensures))) c.gather_clause-in-Rup.ensures
