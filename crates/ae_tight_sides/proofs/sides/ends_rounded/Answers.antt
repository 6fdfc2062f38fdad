use Rattle.std.specs.Prelude.{ℕ, ◌-◌, false, Option, Some, slice_get}
use Rattle.std.proofs.Common.{ap, ◌∙◌}
use Rattle.ae_base.specs.Options.{or_else, ◌>>=◌}
use Rattle.ae_core.specs.declared.proofs.EqLine.{EqLine}
use Rattle.ae_tight_sides.specs.Rounded.{is_rounding}
use Rattle.ae_tight_sides.proofs.sides.ends_rounded.Goals as goal

pub returns-in-None : goal.returns-in-None
returns-in-None c =
    ap (λ (o : Option EqLine). or_else (o >>= λ l. Some (is_rounding l)) false)
    (c.in-None.ensures ∙ (λ i. slice_get (c.as_slice.ensures i) c.saturating_sub-last.result) ∙ ap (slice_get c.args.deriv.now.lines) (c.saturating_sub-last.ensures ∙ ap (λ (n : ℕ). n - 1) c.len-count.ensures))

pub returns-in-Some : goal.returns-in-Some
returns-in-Some c =
    c.is_rounding.ensures
    ∙ ap (λ (o : Option EqLine). or_else (o >>= λ l. Some (is_rounding l)) false)
    (c.in-Some.ensures ∙ (λ i. slice_get (c.as_slice.ensures i) c.saturating_sub-last.result) ∙ ap (slice_get c.args.deriv.now.lines) (c.saturating_sub-last.ensures ∙ ap (λ (n : ℕ). n - 1) c.len-count.ensures))
