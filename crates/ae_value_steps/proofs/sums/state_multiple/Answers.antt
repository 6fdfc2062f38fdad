use Rattle.std.specs.Prelude.{ℤ, ◌*ℤ◌, ◌≡◌}
use Rattle.std.proofs.Common.{sym, ◌∙◌, subst}
use Rattle.std.proofs.lemmas.Int.{to_z-of_z}
use Rattle.ae_num.proofs.ReductionLaws.{read_back}
use Rattle.ae_denominators.specs.Denominators.{Divides}
use Rattle.std.proofs.Common.{rules}
use mir.Syntax.{w128}
use mir.Val.{SFits}
use Rattle.ae_store.specs.Shapes.{shapes}
use Rattle.ae_store.specs.Terms.{terms}
use Rattle.ae_just.proofs.BuiltSides.{numbers_of}
use Rattle.ae_value_steps.proofs.Readings.{r, multiple_allowed}
use Rattle.ae_value_steps.proofs.Factors.{positive_fits, read_fits, one_factor}
use Rattle.ae_value_steps.proofs.sums.state_multiple.Goals as goal

pub add_value-requires-clause-allowed : goal.add_value-requires-clause-allowed
add_value-requires-clause-allowed c =
    let fq : SFits w128 c.quotient-times.result = search rules in
    let fp : SFits w128 c.product.result = search rules in
    multiple_allowed c.args.store.now.signature (terms (shapes c.args.store.now.nodes)) c.args.justs.now c.args.real c.args.name c.args.of.now.name c.args.of.now.step c.args.value.now c.args.of.now.value.now c.args.top c.args.bottom c.quotient-times.result c.product.result c.in_ok-parts.parts c.requires.written c.requires.of c.quotient-times.ensures.positive fq fp c.ranges.top c.ranges.bottom
    c.quotient-times.ensures.times c.product.ensures c.requires.bottom c.multiples_have_a_step.ensures c.requires.is c.requires.multiple c.in_ok-parts.ensures

pub quotient-times-requires-clause-divides : goal.quotient-times-requires-clause-divides
quotient-times-requires-clause-divides c =
    let value = c.args.value.now in
    let of = c.args.of.now.value.now in
    let fp : SFits w128 c.product.result = search rules in
    let n = c.requires.written.normal in
    let a = c.requires.of.written.normal in
    let whole : r c.product.result ≡ of.den *ℤ c.args.bottom = to_z-of_z w128 c.product.result fp ∙ c.product.ensures ∙ (λ i. read_back of.den a.within.0 i *ℤ to_z-of_z w128 c.args.bottom c.ranges.bottom i) in
    subst (λ (z : ℤ). Divides z (r c.product.result)) (sym (read_back value.den n.within.0))
    (subst (λ (z : ℤ). Divides value.den z) (sym whole) (c.multiples_are_over_the_product.ensures value of c.args.top c.args.bottom n a c.requires.bottom c.requires.multiple))

pub add_value-requires-clause-numbers : goal.add_value-requires-clause-numbers
add_value-requires-clause-numbers c = numbers_of c.args.store.now.signature (terms (shapes c.args.store.now.nodes)) c.args.real c.args.name c.requires.written.name

pub add_value-requires-clause-factors : goal.add_value-requires-clause-factors
add_value-requires-clause-factors c =
    let fq : SFits w128 c.quotient-times.result = search rules in
    one_factor (r c.quotient-times.result) _ _ _ (positive_fits c.quotient-times.result c.quotient-times.ensures.positive fq) (read_fits c.args.top c.requires.top) c.in_ok-parts.ensures
