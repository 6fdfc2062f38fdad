use Rattle.std.proofs.Common.{List, true, ◌<◌, ◌≡◌, [], ◌∷◌, ◌++◌, ap, sym, subst, ◌∙◌}
use Rattle.std.proofs.lemmas.Result.{on_ok_weaker}
use Rattle.ae_core.specs.Sorts.{formula_ok}
use Rattle.ae_core.specs.declared.formulas.Formula.{Formula, size-Formula}
use Rattle.ae_core.specs.declared.terms.Sort.{Sort}
use Rattle.ae_core.specs.declared.terms.Term.{Term, Apply}
use Rattle.ae_core.specs.declared.terms.Head.TheVariants as head
use Rattle.ae_store.specs.Names.{enterable}
use Rattle.ae_journal.specs.States.{outside}
use Rattle.ae_goal_names.specs.Named.{HasNamed}
use Rattle.ae_goal_names.proofs.Joining.{none_named, both_named}
use Rattle.ae_goal_names.proofs.Falls.{not_falls, and_falls, or_falls, xor_falls, iff_falls}
use Rattle.ae_goal_names.proofs.Known.{eq_known, lt_known, le_known, pred_known}
use Rattle.ae_goal_names.proofs.Outer.{outside_true, outside_false, outside_eq, outside_lt, outside_le, outside_pred, outside_not, outside_and, outside_or, outside_xor, outside_iff, outside_all, outside_ex}
use Rattle.ae_goal_names.proofs.Outer.{not_ok, and_ok, or_ok, xor_ok, iff_ok}
use Rattle.ae_goal_names.proofs.naming.+name_formula.Goals as goal

pub name_both-requires-clause-left : goal.name_both-requires-clause-left
name_both-requires-clause-left t c = (eq_known c.args.signature.now c.in-Eq.left c.in-Eq.right (subst (λ (f : Formula). formula_ok c.args.signature.now f ≡ true) c.in-Eq.is c.requires.sorted)).0

pub name_both-requires-clause-right : goal.name_both-requires-clause-right
name_both-requires-clause-right t c = (eq_known c.args.signature.now c.in-Eq.left c.in-Eq.right (subst (λ (f : Formula). formula_ok c.args.signature.now f ≡ true) c.in-Eq.is c.requires.sorted)).1

pub name_both-requires-in-Lt-clause-left : goal.name_both-requires-in-Lt-clause-left
name_both-requires-in-Lt-clause-left t c = (lt_known c.args.signature.now c.in-Lt.left c.in-Lt.right (subst (λ (f : Formula). formula_ok c.args.signature.now f ≡ true) c.in-Lt.is c.requires.sorted)).0

pub name_both-requires-in-Lt-clause-right : goal.name_both-requires-in-Lt-clause-right
name_both-requires-in-Lt-clause-right t c = (lt_known c.args.signature.now c.in-Lt.left c.in-Lt.right (subst (λ (f : Formula). formula_ok c.args.signature.now f ≡ true) c.in-Lt.is c.requires.sorted)).1

pub name_both-requires-in-Le-clause-left : goal.name_both-requires-in-Le-clause-left
name_both-requires-in-Le-clause-left t c = (le_known c.args.signature.now c.in-Le.left c.in-Le.right (subst (λ (f : Formula). formula_ok c.args.signature.now f ≡ true) c.in-Le.is c.requires.sorted)).0

pub name_both-requires-in-Le-clause-right : goal.name_both-requires-in-Le-clause-right
name_both-requires-in-Le-clause-right t c = (le_known c.args.signature.now c.in-Le.left c.in-Le.right (subst (λ (f : Formula). formula_ok c.args.signature.now f ≡ true) c.in-Le.is c.requires.sorted)).1

pub name_application-requires-clause-known : goal.name_application-requires-clause-known
name_application-requires-clause-known t c =
    subst (λ (x : List Sort × List Term). enterable c.args.signature.now (Apply (head.Symbol c.in-Pred.symbol) x.0 x.1) ≡ true) (λ i. (sym c.as_slice.ensures i, sym c.as_slice-in-Pred.ensures i))
    (pred_known c.args.signature.now c.in-Pred.symbol c.in-Pred.sorts c.in-Pred.args (subst (λ (f : Formula). formula_ok c.args.signature.now f ≡ true) c.in-Pred.is c.requires.sorted))

pub returns-in-True : goal.returns-in-True
returns-in-True t c = subst (HasNamed c.args.store.now c.args.store.now) (sym (ap outside c.in-True.is ∙ outside_true)) (none_named c.args.store.now)

pub returns-in-False : goal.returns-in-False
returns-in-False t c = subst (HasNamed c.args.store.now c.args.store.now) (sym (ap outside c.in-False.is ∙ outside_false)) (none_named c.args.store.now)

pub returns-in-All : goal.returns-in-All
returns-in-All t c = subst (HasNamed c.args.store.now c.args.store.now) (sym (ap outside c.in-All.is ∙ outside_all _)) (none_named c.args.store.now)

pub returns-in-Ex : goal.returns-in-Ex
returns-in-Ex t c = subst (HasNamed c.args.store.now c.args.store.now) (sym (ap outside c.in-Ex.is ∙ outside_ex _)) (none_named c.args.store.now)

pub returns-in-Eq : goal.returns-in-Eq
returns-in-Eq t c =
    on_ok_weaker c.name_both.result (λ h. subst (HasNamed c.args.store.now c.name_both.new.store) (sym (ap outside c.in-Eq.is ∙ outside_eq c.in-Eq.left c.in-Eq.right)) h) c.name_both.ensures

pub returns-in-Lt : goal.returns-in-Lt
returns-in-Lt t c =
    on_ok_weaker c.name_both-in-Lt.result (λ h. subst (HasNamed c.args.store.now c.name_both-in-Lt.new.store) (sym (ap outside c.in-Lt.is ∙ outside_lt c.in-Lt.left c.in-Lt.right)) h) c.name_both-in-Lt.ensures

pub returns-in-Le : goal.returns-in-Le
returns-in-Le t c =
    on_ok_weaker c.name_both-in-Le.result (λ h. subst (HasNamed c.args.store.now c.name_both-in-Le.new.store) (sym (ap outside c.in-Le.is ∙ outside_le c.in-Le.left c.in-Le.right)) h) c.name_both-in-Le.ensures

pub returns-in_ok-name_formula-in-And : goal.returns-in_ok-name_formula-in-And
returns-in_ok-name_formula-in-And t c =
    on_ok_weaker c.name_formula-in-And-2.result
    (λ h. subst (HasNamed c.args.store.now c.name_formula-in-And-2.new.store)
    (sym (ap outside c.in-And.is ∙ outside_and c.in-And.left c.in-And.right ∙ (λ i. outside (sym c.get-in-And.ensures i) ++ outside (sym c.get-in-And-2.ensures i))))
    (both_named c.args.store.now c.name_formula-in-And.new.store c.name_formula-in-And-2.new.store (outside c.get-in-And.result.now) (outside c.get-in-And-2.result.now) c.in_ok-name_formula-in-And.ensures h)) c.name_formula-in-And-2.ensures

pub returns-in_ok-name_formula-in-Or : goal.returns-in_ok-name_formula-in-Or
returns-in_ok-name_formula-in-Or t c =
    on_ok_weaker c.name_formula-in-Or-2.result
    (λ h. subst (HasNamed c.args.store.now c.name_formula-in-Or-2.new.store)
    (sym (ap outside c.in-Or.is ∙ outside_or c.in-Or.left c.in-Or.right ∙ (λ i. outside (sym c.get-in-Or.ensures i) ++ outside (sym c.get-in-Or-2.ensures i))))
    (both_named c.args.store.now c.name_formula-in-Or.new.store c.name_formula-in-Or-2.new.store (outside c.get-in-Or.result.now) (outside c.get-in-Or-2.result.now) c.in_ok-name_formula-in-Or.ensures h)) c.name_formula-in-Or-2.ensures

pub returns-in_ok-name_formula-in-Xor : goal.returns-in_ok-name_formula-in-Xor
returns-in_ok-name_formula-in-Xor t c =
    on_ok_weaker c.name_formula-in-Xor-2.result
    (λ h. subst (HasNamed c.args.store.now c.name_formula-in-Xor-2.new.store)
    (sym (ap outside c.in-Xor.is ∙ outside_xor c.in-Xor.left c.in-Xor.right ∙ (λ i. outside (sym c.get-in-Xor.ensures i) ++ outside (sym c.get-in-Xor-2.ensures i))))
    (both_named c.args.store.now c.name_formula-in-Xor.new.store c.name_formula-in-Xor-2.new.store (outside c.get-in-Xor.result.now) (outside c.get-in-Xor-2.result.now) c.in_ok-name_formula-in-Xor.ensures h)) c.name_formula-in-Xor-2.ensures

pub returns-in_ok-name_formula-in-Iff : goal.returns-in_ok-name_formula-in-Iff
returns-in_ok-name_formula-in-Iff t c =
    on_ok_weaker c.name_formula-in-Iff-2.result
    (λ h. subst (HasNamed c.args.store.now c.name_formula-in-Iff-2.new.store)
    (sym (ap outside c.in-Iff.is ∙ outside_iff c.in-Iff.left c.in-Iff.right ∙ (λ i. outside (sym c.get-in-Iff.ensures i) ++ outside (sym c.get-in-Iff-2.ensures i))))
    (both_named c.args.store.now c.name_formula-in-Iff.new.store c.name_formula-in-Iff-2.new.store (outside c.get-in-Iff.result.now) (outside c.get-in-Iff-2.result.now) c.in_ok-name_formula-in-Iff.ensures h)) c.name_formula-in-Iff-2.ensures

pub returns-in-Pred : goal.returns-in-Pred
returns-in-Pred t c =
    on_ok_weaker c.name_application.result
    (λ h. subst (HasNamed c.args.store.now c.name_application.new.store)
    (sym (ap outside c.in-Pred.is ∙ outside_pred c.in-Pred.symbol c.in-Pred.sorts c.in-Pred.args ∙ (λ i. Apply (head.Symbol c.in-Pred.symbol) (sym c.as_slice.ensures i) (sym c.as_slice-in-Pred.ensures i) ∷ []))) h) c.name_application.ensures

pub returns-in-Not : goal.returns-in-Not
returns-in-Not t c =
    on_ok_weaker c.name_formula.result
    (λ h. subst (HasNamed c.args.store.now c.name_formula.new.store) (sym (ap outside c.in-Not.is ∙ outside_not c.in-Not.part ∙ ap outside (sym c.get.ensures))) h) c.name_formula.ensures

pub name_formula-requires : goal.name_formula-requires
name_formula-requires t c =
    (subst (λ k. size-Formula c.get.result.now < k) c.decreases (not_falls c.args.formula.now c.get.result.now c.in-Not.part c.in-Not.is c.get.ensures), (c.requires.same, subst (λ (f : Formula). formula_ok c.args.signature.now f ≡ true) (sym c.get.ensures) (not_ok c.args.signature.now c.in-Not.part (subst (λ (f : Formula). formula_ok c.args.signature.now f ≡ true) c.in-Not.is c.requires.sorted))))

pub name_formula-requires-in-And : goal.name_formula-requires-in-And
name_formula-requires-in-And t c =
    (subst (λ k. size-Formula c.get-in-And.result.now < k) c.decreases ((and_falls c.args.formula.now c.get-in-And.result.now c.in-And.left c.in-And.right c.in-And.is).0 c.get-in-And.ensures), (c.requires.same, subst (λ (f : Formula). formula_ok c.args.signature.now f ≡ true) (sym c.get-in-And.ensures) (and_ok c.args.signature.now c.in-And.left c.in-And.right (subst (λ (f : Formula). formula_ok c.args.signature.now f ≡ true) c.in-And.is c.requires.sorted)).0))

pub name_formula-requires-in-And-2 : goal.name_formula-requires-in-And-2
name_formula-requires-in-And-2 t c =
    (subst (λ k. size-Formula c.get-in-And-2.result.now < k) c.decreases ((and_falls c.args.formula.now c.get-in-And-2.result.now c.in-And.left c.in-And.right c.in-And.is).1 c.get-in-And-2.ensures), (c.requires.same ∙ sym c.in_ok-name_formula-in-And.ensures.signature, subst (λ (f : Formula). formula_ok c.args.signature.now f ≡ true) (sym c.get-in-And-2.ensures) (and_ok c.args.signature.now c.in-And.left c.in-And.right (subst (λ (f : Formula). formula_ok c.args.signature.now f ≡ true) c.in-And.is c.requires.sorted)).1))

pub name_formula-requires-in-Or : goal.name_formula-requires-in-Or
name_formula-requires-in-Or t c =
    (subst (λ k. size-Formula c.get-in-Or.result.now < k) c.decreases ((or_falls c.args.formula.now c.get-in-Or.result.now c.in-Or.left c.in-Or.right c.in-Or.is).0 c.get-in-Or.ensures), (c.requires.same, subst (λ (f : Formula). formula_ok c.args.signature.now f ≡ true) (sym c.get-in-Or.ensures) (or_ok c.args.signature.now c.in-Or.left c.in-Or.right (subst (λ (f : Formula). formula_ok c.args.signature.now f ≡ true) c.in-Or.is c.requires.sorted)).0))

pub name_formula-requires-in-Or-2 : goal.name_formula-requires-in-Or-2
name_formula-requires-in-Or-2 t c =
    (subst (λ k. size-Formula c.get-in-Or-2.result.now < k) c.decreases ((or_falls c.args.formula.now c.get-in-Or-2.result.now c.in-Or.left c.in-Or.right c.in-Or.is).1 c.get-in-Or-2.ensures), (c.requires.same ∙ sym c.in_ok-name_formula-in-Or.ensures.signature, subst (λ (f : Formula). formula_ok c.args.signature.now f ≡ true) (sym c.get-in-Or-2.ensures) (or_ok c.args.signature.now c.in-Or.left c.in-Or.right (subst (λ (f : Formula). formula_ok c.args.signature.now f ≡ true) c.in-Or.is c.requires.sorted)).1))

pub name_formula-requires-in-Xor : goal.name_formula-requires-in-Xor
name_formula-requires-in-Xor t c =
    (subst (λ k. size-Formula c.get-in-Xor.result.now < k) c.decreases ((xor_falls c.args.formula.now c.get-in-Xor.result.now c.in-Xor.left c.in-Xor.right c.in-Xor.is).0 c.get-in-Xor.ensures), (c.requires.same, subst (λ (f : Formula). formula_ok c.args.signature.now f ≡ true) (sym c.get-in-Xor.ensures) (xor_ok c.args.signature.now c.in-Xor.left c.in-Xor.right (subst (λ (f : Formula). formula_ok c.args.signature.now f ≡ true) c.in-Xor.is c.requires.sorted)).0))

pub name_formula-requires-in-Xor-2 : goal.name_formula-requires-in-Xor-2
name_formula-requires-in-Xor-2 t c =
    (subst (λ k. size-Formula c.get-in-Xor-2.result.now < k) c.decreases ((xor_falls c.args.formula.now c.get-in-Xor-2.result.now c.in-Xor.left c.in-Xor.right c.in-Xor.is).1 c.get-in-Xor-2.ensures), (c.requires.same ∙ sym c.in_ok-name_formula-in-Xor.ensures.signature, subst (λ (f : Formula). formula_ok c.args.signature.now f ≡ true) (sym c.get-in-Xor-2.ensures) (xor_ok c.args.signature.now c.in-Xor.left c.in-Xor.right (subst (λ (f : Formula). formula_ok c.args.signature.now f ≡ true) c.in-Xor.is c.requires.sorted)).1))

pub name_formula-requires-in-Iff : goal.name_formula-requires-in-Iff
name_formula-requires-in-Iff t c =
    (subst (λ k. size-Formula c.get-in-Iff.result.now < k) c.decreases ((iff_falls c.args.formula.now c.get-in-Iff.result.now c.in-Iff.left c.in-Iff.right c.in-Iff.is).0 c.get-in-Iff.ensures), (c.requires.same, subst (λ (f : Formula). formula_ok c.args.signature.now f ≡ true) (sym c.get-in-Iff.ensures) (iff_ok c.args.signature.now c.in-Iff.left c.in-Iff.right (subst (λ (f : Formula). formula_ok c.args.signature.now f ≡ true) c.in-Iff.is c.requires.sorted)).0))

pub name_formula-requires-in-Iff-2 : goal.name_formula-requires-in-Iff-2
name_formula-requires-in-Iff-2 t c =
    (subst (λ k. size-Formula c.get-in-Iff-2.result.now < k) c.decreases ((iff_falls c.args.formula.now c.get-in-Iff-2.result.now c.in-Iff.left c.in-Iff.right c.in-Iff.is).1 c.get-in-Iff-2.ensures), (c.requires.same ∙ sym c.in_ok-name_formula-in-Iff.ensures.signature, subst (λ (f : Formula). formula_ok c.args.signature.now f ≡ true) (sym c.get-in-Iff-2.ensures) (iff_ok c.args.signature.now c.in-Iff.left c.in-Iff.right (subst (λ (f : Formula). formula_ok c.args.signature.now f ≡ true) c.in-Iff.is c.requires.sorted)).1))
