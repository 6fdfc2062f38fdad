use Rattle.std.proofs.Common.{◌∙◌, sym, ap, subst}
use Rattle.std.specs.List.{Contains}
use Rattle.ae_trim.specs.Used.{hints_of}
use Rattle.ae_trim.proofs.trim.renumbered.Goals as goal

pub renumbered_hints-requires : goal.renumbered_hints-requires
renumbered_hints-requires c = λ k h. c.requires k (subst (λ z. Contains z k) (c.as_slice-in-Rup.ensures ∙ ap hints_of (sym c.in-Rup.is)) h)
