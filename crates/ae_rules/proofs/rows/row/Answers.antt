-- Each form of formula has its rows.
use Rattle.std.proofs.Common.{◌≡◌, IfOk, sym, ap, ◌∙◌, subst}
use Rattle.ae_rules.specs.Clauses as spec
use Rattle.ae_rules.proofs.ClauseLaws as laws
use Rattle.ae_rules.proofs.rows.row.Goals as goal

pub returns-in-And : goal.returns-in-And
returns-in-And c =
    subst (λ g. IfOk c.and_row.result (λ x. x ≡ g))
    ((λ i. spec.and_row c.args.number (c.in-And.is i) (c.get.ensures i) (c.get-in-And.ensures i)) ∙ sym (laws.row_and c.args.number c.in-And.a c.in-And.b) ∙ ap (spec.row c.args.number) (sym c.in-And.is))
    c.and_row.ensures

pub returns-in-Or : goal.returns-in-Or
returns-in-Or c =
    subst (λ g. IfOk c.or_row.result (λ x. x ≡ g))
    ((λ i. spec.or_row c.args.number (c.in-Or.is i) (c.get-in-Or.ensures i) (c.get-in-Or-2.ensures i)) ∙ sym (laws.row_or c.args.number c.in-Or.a c.in-Or.b) ∙ ap (spec.row c.args.number) (sym c.in-Or.is))
    c.or_row.ensures

pub returns-in-Iff : goal.returns-in-Iff
returns-in-Iff c =
    subst (λ g. IfOk c.iff_row.result (λ x. x ≡ g))
    ((λ i. spec.iff_row c.args.number (c.in-Iff.is i) (c.get-in-Iff.ensures i) (c.get-in-Iff-2.ensures i)) ∙ sym (laws.row_iff c.args.number c.in-Iff.a c.in-Iff.b) ∙ ap (spec.row c.args.number) (sym c.in-Iff.is))
    c.iff_row.ensures

pub returns-in-Xor : goal.returns-in-Xor
returns-in-Xor c =
    subst (λ g. IfOk c.xor_row.result (λ x. x ≡ g))
    ((λ i. spec.xor_row c.args.number (c.in-Xor.is i) (c.get-in-Xor.ensures i) (c.get-in-Xor-2.ensures i)) ∙ sym (laws.row_xor c.args.number c.in-Xor.a c.in-Xor.b) ∙ ap (spec.row c.args.number) (sym c.in-Xor.is))
    c.xor_row.ensures

pub returns-in-True : goal.returns-in-True
returns-in-True c =
    subst (λ g. IfOk c.true_row.result (λ x. x ≡ g))
    ((λ i. spec.true_row c.args.number (c.in-True.is i)) ∙ sym (laws.row_true c.args.number) ∙ ap (spec.row c.args.number) (sym c.in-True.is))
    c.true_row.ensures

pub returns-in-False : goal.returns-in-False
returns-in-False c =
    subst (λ g. IfOk c.false_row.result (λ x. x ≡ g))
    ((λ i. spec.false_row c.args.number (c.in-False.is i)) ∙ sym (laws.row_false c.args.number) ∙ ap (spec.row c.args.number) (sym c.in-False.is))
    c.false_row.ensures

pub returns-in-Eq : goal.returns-in-Eq
returns-in-Eq c = sym (laws.row_eq c.args.number c.in-Eq.left c.in-Eq.right) ∙ ap (spec.row c.args.number) (sym c.in-Eq.is)

pub returns-in-Lt : goal.returns-in-Lt
returns-in-Lt c = sym (laws.row_lt c.args.number c.in-Lt.left c.in-Lt.right) ∙ ap (spec.row c.args.number) (sym c.in-Lt.is)

pub returns-in-Le : goal.returns-in-Le
returns-in-Le c = sym (laws.row_le c.args.number c.in-Le.left c.in-Le.right) ∙ ap (spec.row c.args.number) (sym c.in-Le.is)

pub returns-in-Pred : goal.returns-in-Pred
returns-in-Pred c = sym (laws.row_pred c.args.number c.in-Pred.symbol c.in-Pred.sorts c.in-Pred.args) ∙ ap (spec.row c.args.number) (sym c.in-Pred.is)

pub returns-in-Not : goal.returns-in-Not
returns-in-Not c = sym (laws.row_not c.args.number c.in-Not.field-0) ∙ ap (spec.row c.args.number) (sym c.in-Not.is)

pub returns-in-All : goal.returns-in-All
returns-in-All c = sym (laws.row_all c.args.number c.in-All.field-0) ∙ ap (spec.row c.args.number) (sym c.in-All.is)

pub returns-in-Ex : goal.returns-in-Ex
returns-in-Ex c = sym (laws.row_ex c.args.number c.in-Ex.field-0) ∙ ap (spec.row c.args.number) (sym c.in-Ex.is)
