use Rattle.std.proofs.Common.{◌-◌, ◌<◌, ◌≤◌, ◌≡◌, sym, ◌∙◌, subst, arith}
use Rattle.std.proofs.lemmas.Option.{same_Some}
use Rattle.ae_between_rounds.specs.declared.search.Instance.{Instance}
use Rattle.ae_owed_instances.proofs.Lists.{read_at}
use Rattle.ae_owed_instances.specs.Inner.Falling.{IsMatchNow}
use Rattle.ae_owed_instances.proofs.lowering.lower_at.Goals as goal

pub lower-requires-clause-found : goal.lower-requires-clause-found
lower-requires-clause-found c =
    c.in_ok-number.ensures.found c.index-as_slice-place.result
    (read_at c.args.search.now.instances.made c.as_slice.result.now c.args.place c.index-as_slice-place.result c.as_slice.ensures c.requires.within c.index-as_slice-place.is)
    (subst (λ (z : Instance). c.in_ok-number.number < z.number) (sym c.index-as_slice-place.is) c.if-number-as_slice.false)

pub lower-requires-clause-less : goal.lower-requires-clause-less
lower-requires-clause-less c = λ i at.
    let here = read_at c.args.search.now.instances.made c.as_slice.result.now c.args.place c.index-as_slice-place.result c.as_slice.ensures c.requires.within c.index-as_slice-place.is in
    let one = same_Some c.index-as_slice-place.result i (sym here ∙ at) in
    subst (λ (z : Instance). c.in_ok-number.number < z.number) (sym c.index-as_slice-place.is ∙ one) c.if-number-as_slice.false

pub returns-then-number-as_slice-clause-least : goal.returns-then-number-as_slice-clause-least
returns-then-number-as_slice-clause-least c = λ e i at pos m.
    let here = read_at c.args.search.now.instances.made c.as_slice.result.now c.args.place c.index-as_slice-place.result c.as_slice.ensures c.requires.within c.index-as_slice-place.is in
    let one = same_Some c.index-as_slice-place.result i (sym here ∙ at) in
    let above = subst (λ (z : Instance). z.number ≤ c.in_ok-number.number) (sym c.index-as_slice-place.is ∙ one) c.if-number-as_slice.true in
    let most = c.in_ok-number.ensures.most i at in
    let same : i.number ≡ c.in_ok-number.number = omega (arith, above, most) in
    let left : 0 < c.in_ok-number.number = omega (arith, same, pos) in
    c.in_ok-number.ensures.least left
    (subst (λ k. IsMatchNow c.args.task.problem.now c.args.task.goal c.args.search.now c.args.place (k - 1)) same m)
