use Rattle.std.proofs.Common.{rules, arith, ◌≡◌, ◌∙◌, ◌<◌, ◌≤◌, [], ◌∷◌, map, length}
use Rattle.std.proofs.lemmas.Result.{IfOk-weaker}
use Rattle.ae_math.specs.Forms.{single}
use Rattle.ae_core.specs.declared.terms.Term.{Term}
use Rattle.ae_rules.specs.Linear.{ruled}
use Rattle.ae_computing.specs.Inner.Operations.{ruled_by}
use Rattle.ae_computing.specs.Inner.Exact.{meaning, with_form}
use Rattle.ae_computing.proofs.ExactLaws.{one_argument, two_arguments, no_argument, many_arguments, as_many}
use Rattle.ae_computing.proofs.forms.applied.Goals as goal
use Rattle.ae_computing.proofs.forms.applied.Goals.{in_default-args-via-then-args-lt2, in_default-args-via-else-args-lt2+else-args-lt3, in_default-via-then-forms-lt1, in_default-via-else-forms-lt1+else-forms-lt2+else-forms-lt3}

pub returns-in-len1 : goal.returns-in-len1
returns-in-len1 c =
    let w = c.args.whole.now in
    let o = c.args.operation in
    let f = c.of-item.result in
    IfOk-weaker c.turned.result (λ p. (first : Term) → meaning p ≡ ruled w (ruled_by o ((first, meaning f) ∷ [])))
    (λ p. meaning p ≡ ruled w (ruled_by o (map with_form c.args.args.now)))
    (λ p e. one_argument w o (meaning p) c.args.forms.now c.args.args.now f c.requires c.in-len1.len_at_least c.in-len1.len_below c.of-item.is e)
    c.turned.ensures

pub returns-in-len2-args : goal.returns-in-len2-args
returns-in-len2-args c =
    let w = c.args.whole.now in
    let o = c.args.operation in
    let f = c.left-item.result in
    let k = c.right-item.result in
    let u = c.second-item.result in
    IfOk-weaker c.joined.result (λ p. (first : Term) → meaning p ≡ ruled w (ruled_by o ((first, meaning f) ∷ (u, meaning k) ∷ [])))
    (λ p. meaning p ≡ ruled w (ruled_by o (map with_form c.args.args.now)))
    (λ p e. two_arguments w o (meaning p) c.args.forms.now c.args.args.now f k u c.requires c.in-len2-args.len_below c.in-len2-args.len_at_least
    c.left-item.is c.right-item.is c.second-item.is e) c.joined.ensures

pub returns-in_default-args : goal.returns-in_default-args
returns-in_default-args c =
    let n = length c.args.args.now in
    let same = as_many c.args.forms.now c.args.args.now c.requires in
    elim c.in_default-args.branch [
      | in_default-args-via-then-args-lt2 w ↦
          let few : n < 2 = search rules in absurd (omega (arith, same, few, c.in-len2.len_at_least))
      | in_default-args-via-else-args-lt2+else-args-lt3 w ↦
          let many : 3 ≤ n = search rules in absurd (omega (arith, same, many, c.in-len2.len_below))
    ]

pub returns-in_default : goal.returns-in_default
returns-in_default c =
    let w = c.args.whole.now in
    let o = c.args.operation in
    let ts = c.args.args.now in
    let same = as_many c.args.forms.now ts c.requires in
    IfOk-weaker c.single-in_default.result (λ p. meaning p ≡ single w) (λ p. meaning p ≡ ruled w (ruled_by o (map with_form ts)))
    (λ p e. e ∙ elim c.in_default.branch [
      | in_default-via-then-forms-lt1 x ↦
          let none : length c.args.forms.now < 1 = search rules in no_argument w o ts (omega (arith, same, none))
      | in_default-via-else-forms-lt1+else-forms-lt2+else-forms-lt3 x ↦
          let many : 3 ≤ length c.args.forms.now = search rules in many_arguments w o ts (omega (arith, same, many))
    ]) c.single-in_default.ensures
