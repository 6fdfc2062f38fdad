use Rattle.std.proofs.Common.{[], ◌∷◌, refl, sym, ap, ◌∙◌}
use Rattle.std.proofs.lemmas.Result.{on_ok_weaker}
use Rattle.std.specs.List.{list_any}
use Rattle.ae_calc.specs.Inner.Mentions.{is_put, mentions}
use Rattle.ae_core.specs.declared.terms.Term.{Fresh}
use Rattle.ae_calc.proofs.Mentioning.{mentions_bound, mentions_num, mentions_fresh, mentions_apply}
use Rattle.ae_check.proofs.Gathered.{gathered_none, gathered_as, gathered_read, gathered_all}
use Rattle.ae_check.proofs.gathering.+gather_term.Goals as goal

pub gather_term-returns-in-Bound : goal.gather_term-returns-in-Bound
gather_term-returns-in-Bound t c = gathered_none _ _ (λ n s. ap (mentions n (s ∷ [])) c.in-Bound.is ∙ mentions_bound n (s ∷ []) _)

pub gather_term-returns-in-Num : goal.gather_term-returns-in-Num
gather_term-returns-in-Num t c = gathered_none _ _ (λ n s. ap (mentions n (s ∷ [])) c.in-Num.is ∙ mentions_num n (s ∷ []) _ _ _)

pub gather_term-returns-in-Fresh : goal.gather_term-returns-in-Fresh
gather_term-returns-in-Fresh t c =
    on_ok_weaker c.add_constant.result (λ g. gathered_as _ _ _ _ g (λ n s. ap (mentions n (s ∷ [])) c.in-Fresh.is ∙ mentions_fresh n (s ∷ []) _ _ ∙ ap (λ x. is_put n (s ∷ []) (Fresh c.in-Fresh.number x)) (sym c.get.ensures)))
    c.add_constant.ensures

pub gather_term-returns-in-Apply : goal.gather_term-returns-in-Apply
gather_term-returns-in-Apply t c =
    on_ok_weaker c.gather_terms.result (λ g. gathered_as _ _ _ _ g (λ n s. ap (mentions n (s ∷ [])) c.in-Apply.is ∙ mentions_apply n (s ∷ []) _ _ _ ∙ ap (list_any (mentions n (s ∷ []))) (sym c.as_slice.ensures)))
    c.gather_terms.ensures

pub gather_terms-loop-term-init : goal.gather_terms-loop-term-init
gather_terms-loop-term-init t c = gathered_none _ _ (λ n s. refl)

pub gather_terms-loop-term-preserved : goal.gather_terms-loop-term-preserved
gather_terms-loop-term-preserved t c =
    gathered_read (λ n s. mentions n (s ∷ [])) _ _ _ c.args.terms.now c.loop-term.term-index c.term-item.result c.loop-term-test.true c.term-item.is c.loop-term.invariant c.in_ok-gather_term.ensures

pub gather_terms-returns : goal.gather_terms-returns
gather_terms-returns t c = gathered_all (λ n s. mentions n (s ∷ [])) _ _ c.args.terms.now c.loop-term.term-index c.loop-term-test.false c.loop-term.invariant
