use Rattle.std.proofs.Common.{List, true, ◌<◌, ◌≡◌, [], ◌∷◌, ◌++◌, ap, sym, subst, ◌∙◌}
use Rattle.std.proofs.lemmas.Result.{on_ok_weaker}
use Rattle.ae_core.specs.Sorts.{formula_ok}
use Rattle.ae_core.specs.declared.formulas.Formula.{Formula, size-Formula}
use Rattle.ae_core.specs.declared.terms.Sort.{Sort}
use Rattle.ae_core.specs.declared.terms.Term.{Term, Apply}
use Rattle.ae_core.specs.declared.terms.Head.TheVariants as head
use Rattle.ae_store.specs.Names.{enterable}
use Rattle.ae_journal.specs.States.{outside}
use Rattle.ae_goal_names.proofs.Falls.{not_falls, and_falls, or_falls, xor_falls, iff_falls}
use Rattle.ae_goal_names.proofs.Known.{eq_known, lt_known, le_known, pred_known}
use Rattle.ae_goal_names.proofs.Outer.{outside_true, outside_false, outside_eq, outside_lt, outside_le, outside_pred, outside_not, outside_and, outside_or, outside_xor, outside_iff, outside_all, outside_ex}
use Rattle.ae_goal_names.proofs.Outer.{not_ok, and_ok, or_ok, xor_ok, iff_ok}
use Rattle.ae_ages.specs.Ages.{quantified}
use Rattle.ae_ages.proofs.Having.{brought_terms, brought_formula, brought_part, brought_parts}
use Rattle.ae_ages.proofs.Entered.{none_interned}
use Rattle.ae_ages.proofs.Quantified.{quantified_true, quantified_false, quantified_eq, quantified_lt, quantified_le, quantified_pred, quantified_not, quantified_and, quantified_or, quantified_xor, quantified_iff, quantified_all, quantified_ex}
use Rattle.ae_ages.proofs.bringing.+bring.Goals as goal

pub intern_both-requires-clause-left : goal.intern_both-requires-clause-left
intern_both-requires-clause-left t c = (eq_known c.args.signature.now c.in-Eq.left c.in-Eq.right (subst (λ (f : Formula). formula_ok c.args.signature.now f ≡ true) c.in-Eq.is c.requires.sorted)).0

pub intern_both-requires-clause-right : goal.intern_both-requires-clause-right
intern_both-requires-clause-right t c = (eq_known c.args.signature.now c.in-Eq.left c.in-Eq.right (subst (λ (f : Formula). formula_ok c.args.signature.now f ≡ true) c.in-Eq.is c.requires.sorted)).1

pub intern_both-requires-in-Lt-clause-left : goal.intern_both-requires-in-Lt-clause-left
intern_both-requires-in-Lt-clause-left t c = (lt_known c.args.signature.now c.in-Lt.left c.in-Lt.right (subst (λ (f : Formula). formula_ok c.args.signature.now f ≡ true) c.in-Lt.is c.requires.sorted)).0

pub intern_both-requires-in-Lt-clause-right : goal.intern_both-requires-in-Lt-clause-right
intern_both-requires-in-Lt-clause-right t c = (lt_known c.args.signature.now c.in-Lt.left c.in-Lt.right (subst (λ (f : Formula). formula_ok c.args.signature.now f ≡ true) c.in-Lt.is c.requires.sorted)).1

pub intern_both-requires-in-Le-clause-left : goal.intern_both-requires-in-Le-clause-left
intern_both-requires-in-Le-clause-left t c = (le_known c.args.signature.now c.in-Le.left c.in-Le.right (subst (λ (f : Formula). formula_ok c.args.signature.now f ≡ true) c.in-Le.is c.requires.sorted)).0

pub intern_both-requires-in-Le-clause-right : goal.intern_both-requires-in-Le-clause-right
intern_both-requires-in-Le-clause-right t c = (le_known c.args.signature.now c.in-Le.left c.in-Le.right (subst (λ (f : Formula). formula_ok c.args.signature.now f ≡ true) c.in-Le.is c.requires.sorted)).1

pub intern_application-requires-clause-known : goal.intern_application-requires-clause-known
intern_application-requires-clause-known t c =
    subst (λ (x : List Sort × List Term). enterable c.args.signature.now (Apply (head.Symbol c.in-Pred.symbol) x.0 x.1) ≡ true) (λ i. (sym c.as_slice.ensures i, sym c.as_slice-in-Pred.ensures i))
    (pred_known c.args.signature.now c.in-Pred.symbol c.in-Pred.sorts c.in-Pred.args (subst (λ (f : Formula). formula_ok c.args.signature.now f ≡ true) c.in-Pred.is c.requires.sorted))

pub returns-in-True : goal.returns-in-True
returns-in-True t c =
    brought_terms c.args.generation c.args.store.now c.args.entries.now c.args.store.now c.args.formula.now [] (ap outside c.in-True.is ∙ outside_true) (ap quantified c.in-True.is ∙ quantified_true)
    (none_interned c.args.generation c.args.store.now)

pub returns-in-False : goal.returns-in-False
returns-in-False t c =
    brought_terms c.args.generation c.args.store.now c.args.entries.now c.args.store.now c.args.formula.now [] (ap outside c.in-False.is ∙ outside_false) (ap quantified c.in-False.is ∙ quantified_false)
    (none_interned c.args.generation c.args.store.now)

pub returns-in-All : goal.returns-in-All
returns-in-All t c =
    on_ok_weaker c.age.result
    (λ h. brought_formula c.args.generation c.args.store.now c.args.entries.now c.age.new.entries c.args.formula.now (ap outside c.in-All.is ∙ outside_all _)
    (ap quantified c.in-All.is ∙ quantified_all _ ∙ ap (λ (f : Formula). f ∷ []) (sym c.in-All.is)) h) c.age.ensures

pub returns-in-Ex : goal.returns-in-Ex
returns-in-Ex t c =
    on_ok_weaker c.age-in-Ex.result
    (λ h. brought_formula c.args.generation c.args.store.now c.args.entries.now c.age-in-Ex.new.entries c.args.formula.now (ap outside c.in-Ex.is ∙ outside_ex _)
    (ap quantified c.in-Ex.is ∙ quantified_ex _ ∙ ap (λ (f : Formula). f ∷ []) (sym c.in-Ex.is)) h) c.age-in-Ex.ensures

pub returns-in-Eq : goal.returns-in-Eq
returns-in-Eq t c =
    on_ok_weaker c.intern_both.result
    (λ h. brought_terms c.args.generation c.args.store.now c.args.entries.now c.intern_both.new.store c.args.formula.now (c.in-Eq.left ∷ c.in-Eq.right ∷ []) (ap outside c.in-Eq.is ∙ outside_eq c.in-Eq.left c.in-Eq.right)
    (ap quantified c.in-Eq.is ∙ quantified_eq c.in-Eq.left c.in-Eq.right) h) c.intern_both.ensures

pub returns-in-Lt : goal.returns-in-Lt
returns-in-Lt t c =
    on_ok_weaker c.intern_both-in-Lt.result
    (λ h. brought_terms c.args.generation c.args.store.now c.args.entries.now c.intern_both-in-Lt.new.store c.args.formula.now (c.in-Lt.left ∷ c.in-Lt.right ∷ []) (ap outside c.in-Lt.is ∙ outside_lt c.in-Lt.left c.in-Lt.right)
    (ap quantified c.in-Lt.is ∙ quantified_lt c.in-Lt.left c.in-Lt.right) h) c.intern_both-in-Lt.ensures

pub returns-in-Le : goal.returns-in-Le
returns-in-Le t c =
    on_ok_weaker c.intern_both-in-Le.result
    (λ h. brought_terms c.args.generation c.args.store.now c.args.entries.now c.intern_both-in-Le.new.store c.args.formula.now (c.in-Le.left ∷ c.in-Le.right ∷ []) (ap outside c.in-Le.is ∙ outside_le c.in-Le.left c.in-Le.right)
    (ap quantified c.in-Le.is ∙ quantified_le c.in-Le.left c.in-Le.right) h) c.intern_both-in-Le.ensures

pub returns-in-Pred : goal.returns-in-Pred
returns-in-Pred t c =
    on_ok_weaker c.intern_application.result
    (λ h. brought_terms c.args.generation c.args.store.now c.args.entries.now c.intern_application.new.store c.args.formula.now (Apply (head.Symbol c.in-Pred.symbol) c.as_slice.result.now c.as_slice-in-Pred.result.now ∷ [])
    (ap outside c.in-Pred.is ∙ outside_pred c.in-Pred.symbol c.in-Pred.sorts c.in-Pred.args ∙ (λ i. Apply (head.Symbol c.in-Pred.symbol) (sym c.as_slice.ensures i) (sym c.as_slice-in-Pred.ensures i) ∷ []))
    (ap quantified c.in-Pred.is ∙ quantified_pred c.in-Pred.symbol c.in-Pred.sorts c.in-Pred.args) h) c.intern_application.ensures

pub returns-in-Not : goal.returns-in-Not
returns-in-Not t c =
    on_ok_weaker c.bring.result
    (λ h. brought_part c.args.generation c.args.store.now c.args.entries.now c.bring.new.store c.bring.new.entries c.args.formula.now c.get.result.now (ap outside c.in-Not.is ∙ outside_not c.in-Not.part ∙ ap outside (sym c.get.ensures))
    (ap quantified c.in-Not.is ∙ quantified_not c.in-Not.part ∙ ap quantified (sym c.get.ensures)) h) c.bring.ensures

pub bring-requires : goal.bring-requires
bring-requires t c =
    (subst (λ k. size-Formula c.get.result.now < k) c.decreases (not_falls c.args.formula.now c.get.result.now c.in-Not.part c.in-Not.is c.get.ensures), (c.requires.same, subst (λ (f : Formula). formula_ok c.args.signature.now f ≡ true) (sym c.get.ensures) (not_ok c.args.signature.now c.in-Not.part (subst (λ (f : Formula). formula_ok c.args.signature.now f ≡ true) c.in-Not.is c.requires.sorted))))

pub returns-in_ok-bring-in-And : goal.returns-in_ok-bring-in-And
returns-in_ok-bring-in-And t c =
    on_ok_weaker c.bring-in-And-2.result
    (λ h. brought_parts c.args.generation c.args.store.now c.args.entries.now c.bring-in-And.new.store c.bring-in-And.new.entries c.bring-in-And-2.new.store c.bring-in-And-2.new.entries c.args.formula.now c.get-in-And.result.now c.get-in-And-2.result.now
    (ap outside c.in-And.is ∙ outside_and c.in-And.left c.in-And.right ∙ (λ i. outside (sym c.get-in-And.ensures i) ++ outside (sym c.get-in-And-2.ensures i)))
    (ap quantified c.in-And.is ∙ quantified_and c.in-And.left c.in-And.right ∙ (λ i. quantified (sym c.get-in-And.ensures i) ++ quantified (sym c.get-in-And-2.ensures i)))
    c.in_ok-bring-in-And.ensures h) c.bring-in-And-2.ensures

pub bring-requires-in-And : goal.bring-requires-in-And
bring-requires-in-And t c =
    (subst (λ k. size-Formula c.get-in-And.result.now < k) c.decreases ((and_falls c.args.formula.now c.get-in-And.result.now c.in-And.left c.in-And.right c.in-And.is).0 c.get-in-And.ensures), (c.requires.same, subst (λ (f : Formula). formula_ok c.args.signature.now f ≡ true) (sym c.get-in-And.ensures) (and_ok c.args.signature.now c.in-And.left c.in-And.right (subst (λ (f : Formula). formula_ok c.args.signature.now f ≡ true) c.in-And.is c.requires.sorted)).0))

pub bring-requires-in-And-2 : goal.bring-requires-in-And-2
bring-requires-in-And-2 t c =
    (subst (λ k. size-Formula c.get-in-And-2.result.now < k) c.decreases ((and_falls c.args.formula.now c.get-in-And-2.result.now c.in-And.left c.in-And.right c.in-And.is).1 c.get-in-And-2.ensures), (c.requires.same ∙ sym c.in_ok-bring-in-And.ensures.terms.named.signature, subst (λ (f : Formula). formula_ok c.args.signature.now f ≡ true) (sym c.get-in-And-2.ensures) (and_ok c.args.signature.now c.in-And.left c.in-And.right (subst (λ (f : Formula). formula_ok c.args.signature.now f ≡ true) c.in-And.is c.requires.sorted)).1))

pub returns-in_ok-bring-in-Or : goal.returns-in_ok-bring-in-Or
returns-in_ok-bring-in-Or t c =
    on_ok_weaker c.bring-in-Or-2.result
    (λ h. brought_parts c.args.generation c.args.store.now c.args.entries.now c.bring-in-Or.new.store c.bring-in-Or.new.entries c.bring-in-Or-2.new.store c.bring-in-Or-2.new.entries c.args.formula.now c.get-in-Or.result.now c.get-in-Or-2.result.now
    (ap outside c.in-Or.is ∙ outside_or c.in-Or.left c.in-Or.right ∙ (λ i. outside (sym c.get-in-Or.ensures i) ++ outside (sym c.get-in-Or-2.ensures i)))
    (ap quantified c.in-Or.is ∙ quantified_or c.in-Or.left c.in-Or.right ∙ (λ i. quantified (sym c.get-in-Or.ensures i) ++ quantified (sym c.get-in-Or-2.ensures i)))
    c.in_ok-bring-in-Or.ensures h) c.bring-in-Or-2.ensures

pub bring-requires-in-Or : goal.bring-requires-in-Or
bring-requires-in-Or t c =
    (subst (λ k. size-Formula c.get-in-Or.result.now < k) c.decreases ((or_falls c.args.formula.now c.get-in-Or.result.now c.in-Or.left c.in-Or.right c.in-Or.is).0 c.get-in-Or.ensures), (c.requires.same, subst (λ (f : Formula). formula_ok c.args.signature.now f ≡ true) (sym c.get-in-Or.ensures) (or_ok c.args.signature.now c.in-Or.left c.in-Or.right (subst (λ (f : Formula). formula_ok c.args.signature.now f ≡ true) c.in-Or.is c.requires.sorted)).0))

pub bring-requires-in-Or-2 : goal.bring-requires-in-Or-2
bring-requires-in-Or-2 t c =
    (subst (λ k. size-Formula c.get-in-Or-2.result.now < k) c.decreases ((or_falls c.args.formula.now c.get-in-Or-2.result.now c.in-Or.left c.in-Or.right c.in-Or.is).1 c.get-in-Or-2.ensures), (c.requires.same ∙ sym c.in_ok-bring-in-Or.ensures.terms.named.signature, subst (λ (f : Formula). formula_ok c.args.signature.now f ≡ true) (sym c.get-in-Or-2.ensures) (or_ok c.args.signature.now c.in-Or.left c.in-Or.right (subst (λ (f : Formula). formula_ok c.args.signature.now f ≡ true) c.in-Or.is c.requires.sorted)).1))

pub returns-in_ok-bring-in-Xor : goal.returns-in_ok-bring-in-Xor
returns-in_ok-bring-in-Xor t c =
    on_ok_weaker c.bring-in-Xor-2.result
    (λ h. brought_parts c.args.generation c.args.store.now c.args.entries.now c.bring-in-Xor.new.store c.bring-in-Xor.new.entries c.bring-in-Xor-2.new.store c.bring-in-Xor-2.new.entries c.args.formula.now c.get-in-Xor.result.now c.get-in-Xor-2.result.now
    (ap outside c.in-Xor.is ∙ outside_xor c.in-Xor.left c.in-Xor.right ∙ (λ i. outside (sym c.get-in-Xor.ensures i) ++ outside (sym c.get-in-Xor-2.ensures i)))
    (ap quantified c.in-Xor.is ∙ quantified_xor c.in-Xor.left c.in-Xor.right ∙ (λ i. quantified (sym c.get-in-Xor.ensures i) ++ quantified (sym c.get-in-Xor-2.ensures i)))
    c.in_ok-bring-in-Xor.ensures h) c.bring-in-Xor-2.ensures

pub bring-requires-in-Xor : goal.bring-requires-in-Xor
bring-requires-in-Xor t c =
    (subst (λ k. size-Formula c.get-in-Xor.result.now < k) c.decreases ((xor_falls c.args.formula.now c.get-in-Xor.result.now c.in-Xor.left c.in-Xor.right c.in-Xor.is).0 c.get-in-Xor.ensures), (c.requires.same, subst (λ (f : Formula). formula_ok c.args.signature.now f ≡ true) (sym c.get-in-Xor.ensures) (xor_ok c.args.signature.now c.in-Xor.left c.in-Xor.right (subst (λ (f : Formula). formula_ok c.args.signature.now f ≡ true) c.in-Xor.is c.requires.sorted)).0))

pub bring-requires-in-Xor-2 : goal.bring-requires-in-Xor-2
bring-requires-in-Xor-2 t c =
    (subst (λ k. size-Formula c.get-in-Xor-2.result.now < k) c.decreases ((xor_falls c.args.formula.now c.get-in-Xor-2.result.now c.in-Xor.left c.in-Xor.right c.in-Xor.is).1 c.get-in-Xor-2.ensures), (c.requires.same ∙ sym c.in_ok-bring-in-Xor.ensures.terms.named.signature, subst (λ (f : Formula). formula_ok c.args.signature.now f ≡ true) (sym c.get-in-Xor-2.ensures) (xor_ok c.args.signature.now c.in-Xor.left c.in-Xor.right (subst (λ (f : Formula). formula_ok c.args.signature.now f ≡ true) c.in-Xor.is c.requires.sorted)).1))

pub returns-in_ok-bring-in-Iff : goal.returns-in_ok-bring-in-Iff
returns-in_ok-bring-in-Iff t c =
    on_ok_weaker c.bring-in-Iff-2.result
    (λ h. brought_parts c.args.generation c.args.store.now c.args.entries.now c.bring-in-Iff.new.store c.bring-in-Iff.new.entries c.bring-in-Iff-2.new.store c.bring-in-Iff-2.new.entries c.args.formula.now c.get-in-Iff.result.now c.get-in-Iff-2.result.now
    (ap outside c.in-Iff.is ∙ outside_iff c.in-Iff.left c.in-Iff.right ∙ (λ i. outside (sym c.get-in-Iff.ensures i) ++ outside (sym c.get-in-Iff-2.ensures i)))
    (ap quantified c.in-Iff.is ∙ quantified_iff c.in-Iff.left c.in-Iff.right ∙ (λ i. quantified (sym c.get-in-Iff.ensures i) ++ quantified (sym c.get-in-Iff-2.ensures i)))
    c.in_ok-bring-in-Iff.ensures h) c.bring-in-Iff-2.ensures

pub bring-requires-in-Iff : goal.bring-requires-in-Iff
bring-requires-in-Iff t c =
    (subst (λ k. size-Formula c.get-in-Iff.result.now < k) c.decreases ((iff_falls c.args.formula.now c.get-in-Iff.result.now c.in-Iff.left c.in-Iff.right c.in-Iff.is).0 c.get-in-Iff.ensures), (c.requires.same, subst (λ (f : Formula). formula_ok c.args.signature.now f ≡ true) (sym c.get-in-Iff.ensures) (iff_ok c.args.signature.now c.in-Iff.left c.in-Iff.right (subst (λ (f : Formula). formula_ok c.args.signature.now f ≡ true) c.in-Iff.is c.requires.sorted)).0))

pub bring-requires-in-Iff-2 : goal.bring-requires-in-Iff-2
bring-requires-in-Iff-2 t c =
    (subst (λ k. size-Formula c.get-in-Iff-2.result.now < k) c.decreases ((iff_falls c.args.formula.now c.get-in-Iff-2.result.now c.in-Iff.left c.in-Iff.right c.in-Iff.is).1 c.get-in-Iff-2.ensures), (c.requires.same ∙ sym c.in_ok-bring-in-Iff.ensures.terms.named.signature, subst (λ (f : Formula). formula_ok c.args.signature.now f ≡ true) (sym c.get-in-Iff-2.ensures) (iff_ok c.args.signature.now c.in-Iff.left c.in-Iff.right (subst (λ (f : Formula). formula_ok c.args.signature.now f ≡ true) c.in-Iff.is c.requires.sorted)).1))
