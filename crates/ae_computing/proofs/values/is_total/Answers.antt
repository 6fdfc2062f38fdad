use Rattle.std.proofs.Common.{rules, ◌≡◌, ◌∙◌, true, map}
use Rattle.std.specs.List.{list_all}
use Rattle.std.proofs.lemmas.Result.{IfOk-weaker}
use Rattle.ae_computing.specs.Inner.Totals.{summand, is_number, agrees_at, agrees_on, agrees_on_summand, is_total}
use Rattle.ae_computing.specs.declared.values.Place.TheVariants.{Constant}
use Rattle.ae_computing.proofs.TotalLaws.{by_tests}
use Rattle.ae_computing.proofs.values.is_total.Goals as goal

pub returns : goal.returns
returns c =
    let v = c.args.value.now in
    let us = c.args.summands.now in
    let a : is_number v ≡ true = search rules in
    let b : agrees_at v (map summand us) Constant ≡ true = search rules in
    let d : agrees_on v (map summand us) v ≡ true = search rules in
    IfOk-weaker c.agrees_on_each.result (λ r. r ≡ list_all (agrees_on_summand v (map summand us)) us) (λ r. r ≡ is_total v (map summand us))
    (λ r e. e ∙ by_tests v us a b d) c.agrees_on_each.ensures
