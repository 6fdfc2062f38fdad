use Rattle.std.proofs.Common.{arith, ◌≡◌, ◌∙◌, ℕ, ◌++◌, ◌∷◌, [], ◌-◌, ◌+◌, List, sym, ap, append_assoc}
use Rattle.std.proofs.lemmas.List.{append-nil}
use Rattle.ae_core.specs.declared.terms.Term.{Term}
use Rattle.ae_elab.specs.Elaboration.{fields_from, field_term, value_at}
use Rattle.ae_elaboration.proofs.ElaborationRules.{fields_next, fields_end}
use Rattle.ae_elaboration.proofs.elaboration.fields_of.Goals as goal

pub loop-place-init : goal.loop-place-init
loop-place-init c =
    let f = λ (k : ℕ). fields_from k 0 c.args.of c.args.sorts.now c.args.base.now c.args.places.now c.args.values.now in
    ap (λ (z : List Term). z ++ f (c.args.count - 0)) c.new-args.ensures ∙ ap f (let e : c.args.count - 0 ≡ c.args.count = omega arith in e)

pub loop-place-preserved : goal.loop-place-preserved
loop-place-preserved c =
    let n = c.args.count in
    let p = c.loop-place.place in
    let f = λ (k q : ℕ). fields_from k q c.args.of c.args.sorts.now c.args.base.now c.args.places.now c.args.values.now in
    let t = field_term c.args.of c.args.sorts.now c.args.base.now p (value_at p c.args.places.now c.args.values.now) in
    ap (λ (z : List Term). z ++ f (n - (p + 1)) (p + 1)) (c.in_ok-push.ensures.ok ∙ ap (λ (x : Term). c.loop-place.args ++ x ∷ []) c.in_ok-field_value.ensures)
    ∙ append_assoc c.loop-place.args (t ∷ []) (f (n - (p + 1)) (p + 1))
    ∙ ap (λ (z : List Term). c.loop-place.args ++ z) (sym (fields_next n p c.args.of c.args.sorts.now c.args.base.now c.args.places.now c.args.values.now c.loop-place-test.true))
    ∙ c.loop-place.invariant

pub returns : goal.returns
returns c =
    sym (append-nil c.loop-place.args)
    ∙ ap (λ (z : List Term). c.loop-place.args ++ z)
    (sym (fields_end c.args.count c.loop-place.place c.args.of c.args.sorts.now c.args.base.now c.args.places.now c.args.values.now c.loop-place-test.false))
    ∙ c.loop-place.invariant
