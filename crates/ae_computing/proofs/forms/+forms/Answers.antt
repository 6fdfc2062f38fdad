use Rattle.std.proofs.Common.{rules, ◌≡◌, ◌∙◌, sym, ap, ◌++◌, [], ◌∷◌, map, take}
use Rattle.std.proofs.lemmas.Int.{to_z-of_z}
use Rattle.std.proofs.lemmas.List.{take_more, map-append}
use Rattle.std.proofs.lemmas.Result.{IfOk-weaker}
use mir.Syntax.{w128}
use mir.Val.{to_z, of_z}
use Rattle.ae_math.specs.Fractions.{ratio}
use Rattle.ae_math.specs.Forms.{number, single}
use Rattle.ae_core.specs.declared.terms.Term.{Term}
use Rattle.ae_rules.specs.Linear.{form, ruled}
use Rattle.ae_rules.proofs.LinearLaws.{form-Bound, form-Num, form-Fresh}
use Rattle.ae_computing.specs.Inner.Operations.{ruled_by}
use Rattle.ae_computing.specs.Inner.Exact.{meaning, with_form}
use Rattle.ae_computing.proofs.ExactLaws.{application_form}
use Rattle.ae_computing.proofs.forms.+forms.Goals as goal

pub form_of-applied-requires : goal.form_of-applied-requires
form_of-applied-requires t c =
    ap (map meaning) c.as_slice-in-Apply-2.ensures.value ∙ c.in_ok-forms-in-Apply.ensures
    ∙ ap (map form) (c.as_slice.ensures ∙ sym c.as_slice-in-Apply.ensures)

pub form_of-returns-in_ok-constant-in-Num : goal.form_of-returns-in_ok-constant-in-Num
form_of-returns-in_ok-constant-in-Num t c =
    let top : to_z w128 (of_z w128 c.in-Num.top) ≡ c.in-Num.top = to_z-of_z w128 c.in-Num.top (search rules) in
    let bottom : to_z w128 (of_z w128 c.in-Num.bottom) ≡ c.in-Num.bottom = to_z-of_z w128 c.in-Num.bottom (search rules) in
    c.number.ensures ∙ ap (number {K = Term}) (c.in_ok-constant-in-Num.ensures ∙ (λ j. ratio (top j) (bottom j)))
    ∙ sym (form-Num c.in-Num.top c.in-Num.bottom c.in-Num.real) ∙ sym (ap form c.in-Num.is)

pub form_of-returns-in_ok-forms-in-Apply : goal.form_of-returns-in_ok-forms-in-Apply
form_of-returns-in_ok-forms-in-Apply t c =
    let u = c.args.term.now in
    let us = c.as_slice-in-Apply.result.now in
    let o = c.operation_of.result in
    IfOk-weaker c.applied.result (λ f. meaning f ≡ ruled u (ruled_by o (map with_form us))) (λ f. meaning f ≡ form u)
    (λ f e. e ∙ application_form u c.in-Apply.head c.in-Apply.sorts c.in-Apply.args us o c.in-Apply.is c.as_slice-in-Apply.ensures c.operation_of.ensures)
    c.applied.ensures

pub form_of-returns-in-Bound : goal.form_of-returns-in-Bound
form_of-returns-in-Bound t c =
    let u = c.args.term.now in
    IfOk-weaker c.single.result (λ f. meaning f ≡ single u) (λ f. meaning f ≡ form u)
    (λ f e. e ∙ ap (single {K = Term}) c.in-Bound.is ∙ sym (form-Bound c.in-Bound.field-0) ∙ sym (ap form c.in-Bound.is)) c.single.ensures

pub form_of-returns-in-Fresh : goal.form_of-returns-in-Fresh
form_of-returns-in-Fresh t c =
    let u = c.args.term.now in
    IfOk-weaker c.single-in-Fresh.result (λ f. meaning f ≡ single u) (λ f. meaning f ≡ form u)
    (λ f e. e ∙ ap (single {K = Term}) c.in-Fresh.is ∙ sym (form-Fresh c.in-Fresh.number c.in-Fresh.sort) ∙ sym (ap form c.in-Fresh.is))
    c.single-in-Fresh.ensures

pub forms_of-loop-term-preserved : goal.forms_of-loop-term-preserved
forms_of-loop-term-preserved t c =
    let ts = c.args.terms.now in
    let i = c.loop-term.term-index in
    let d = c.term-item.result in
    let f = c.in_ok-form_of.field-0 in
    ap (map meaning) c.in_ok-push.ensures.items ∙ map-append meaning c.loop-term.forms.items (f ∷ [])
    ∙ (λ j. c.loop-term.invariant j ++ (c.in_ok-form_of.ensures ∙ ap form c.term-item.is) j ∷ [])
    ∙ sym (ap (map form) (take_more ts i d c.loop-term-test.true) ∙ map-append form (take i ts) _)
