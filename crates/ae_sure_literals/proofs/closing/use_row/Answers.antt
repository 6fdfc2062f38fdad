use Rattle.std.proofs.Common.{◌∙◌, ap, sym}
use Rattle.ae_core.specs.declared.formulas.Lit.{Lit}
use Rattle.ae_rules.specs.Clauses.{row}
use Rattle.ae_sure_literals.proofs.Using.{no_row}
use Rattle.ae_sure_literals.proofs.closing.use_row.Goals as goal

pub returns-in-None : goal.returns-in-None
returns-in-None c =
    no_row c.args.trail.now.assigned c.args.place c.args.number c.args.flags.now
    (ap (λ (l : Lit). row c.args.number l.formula) (sym c.lit_at.ensures) ∙ sym c.in_ok-row.ensures ∙ c.in-None.is)
