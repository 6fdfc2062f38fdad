use Rattle.std.proofs.Common.{◌∙◌, sym, ap, ℕ, Option, reverse, slice_get}
use Rattle.ae_finding.specs.Sites.{value_of}
use Rattle.ae_finding.proofs.SiteLaws.{value_bound, value_back}
use Rattle.ae_finding.proofs.sites.put_name.Goals as goal

pub returns-then-variable-values : goal.returns-then-variable-values
returns-then-variable-values c =
    let value : ℕ → Option ℕ = λ i. slice_get (reverse c.args.values.now) i in
    value_back c.args.values.now c.in-Bound.variable c.if-variable-values.true ∙ sym (value_bound value c.in-Bound.variable) ∙ ap (value_of value) (sym c.in-Bound.is)
