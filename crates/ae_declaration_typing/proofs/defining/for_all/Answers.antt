use Rattle.std.proofs.Common.{◌≡◌, ◌∙◌, ◌++◌, ◌∷◌, [], List, length, sym, ap, subst, true≢false}
use Rattle.std.proofs.lemmas.Bool.{eqb-true, eq-eqb}
use Rattle.ae_elab.specs.declared.nodes.Pattern.{Pattern}
use Rattle.ae_elab.specs.Environments.{entries}
use Rattle.ae_elab.specs.Nodes.{IsClaim}
use Rattle.ae_declaration_typing.proofs.AdditionLaws.{adds_none, none_defined, block_adds}
use Rattle.ae_declaration_typing.proofs.defining.for_all.Goals as goal

pub returns-then-is_empty : goal.returns-then-is_empty
returns-then-is_empty c text t f a b =
    let old = c.args.environment.now in
    let bs = c.args.bounds.now in
    let none : length bs ≡ 0 = eqb-true (length bs) 0 (sym c.is_empty.ensures ∙ c.if-is_empty.true) in
    record { adds = adds_none old; stands = subst (λ z. IsClaim (entries old) c.args.claim z) (sym (none_defined text bs c.args.place t f none)) b }

pub returns : goal.returns
returns c text t f a b =
    let old = c.args.environment.now in
    let bs = c.args.bounds.now in
    let place = c.args.place in
    let i = c.args.head in
    let terms = c.in_ok-push.ensures.ok ∙ ap (λ z. z ++ i ∷ []) c.new-terms.ensures in
    let triggers = c.in_ok-push-2.ensures.ok ∙ ap (λ (z : List Pattern). z ++ record { place = place; terms = c.push.new.self } ∷ []) c.new-triggers.ensures
    ∙ ap (λ z. record { place = place; terms = z } ∷ []) terms in
    block_adds old c.push-3.new.self text bs (λ e. true≢false (sym (eq-eqb (length bs) 0 (ap length e)) ∙ (sym c.is_empty.ensures ∙ c.if-is_empty.false))) place i c.args.claim c.in_ok-whole.whole t f a b
    c.in_ok-variables.variables c.in_ok-sorts.sorts c.push-2.new.self c.in_ok-variables.ensures c.in_ok-sorts.ensures triggers c.in_ok-whole.ensures.place c.in_ok-whole.ensures.nodes c.push-3.ensures.locals
