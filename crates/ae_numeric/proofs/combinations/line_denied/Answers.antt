use Rattle.std.specs.Prelude.{true, false}
use Rattle.std.proofs.Common.{ap, ◌∙◌, sym}
use Rattle.ae_core.specs.Sorts.{sort_of, same_numeric}
use Rattle.ae_rules.specs.Lines.{Fact, states}
use Rattle.ae_numeric.proofs.DenialLaws.{numbers_sorted, line_not, line_is}
use Rattle.ae_numeric.proofs.combinations.line_denied.Goals as goal

pub number_denied-requires : goal.number_denied-requires
number_denied-requires c =
    let g : Fact = record { relation = c.stated-relation.result.0; left = (c.stated-relation.result.1).now; right = (c.stated-relation.result.2).now } in
    numbers_sorted c.args.signature.now g (ap (λ o. same_numeric o (sort_of c.args.signature.now g.right)) (sym c.in_ok-sort.ensures) ∙ sym c.in_ok-is_of_sort.ensures ∙ c.if-not-branch.false)

pub returns-then-not-branch : goal.returns-then-not-branch
returns-then-not-branch c =
    let g : Fact = record { relation = c.stated-relation.result.0; left = (c.stated-relation.result.1).now; right = (c.stated-relation.result.2).now } in
    line_not c.args.signature.now (states c.args.line.now) g c.stated-relation.ensures
    (ap (λ o. same_numeric o (sort_of c.args.signature.now g.right)) (sym c.in_ok-sort.ensures) ∙ sym c.in_ok-is_of_sort.ensures ∙ c.if-not-branch.true)

pub returns : goal.returns
returns c =
    let g : Fact = record { relation = c.stated-relation.result.0; left = (c.stated-relation.result.1).now; right = (c.stated-relation.result.2).now } in
    line_is c.args.signature.now (states c.args.line.now) g c.stated-relation.ensures c.number_denied.result
    (ap (λ o. same_numeric o (sort_of c.args.signature.now g.right)) (sym c.in_ok-sort.ensures) ∙ sym c.in_ok-is_of_sort.ensures ∙ c.if-not-branch.false) c.number_denied.ensures
