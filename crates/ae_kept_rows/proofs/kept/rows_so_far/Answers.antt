use Rattle.std.proofs.Common.{refl, sym, ap, ◌∙◌}
use Rattle.std.proofs.lemmas.Option.{none-some, same_Some}
use Rattle.ae_kept_rows.specs.declared.kept.KeptRows.{KeptRows}
use Rattle.ae_kept_rows.specs.Inner.Going.GoesOnFrom.{same, anew}
use Rattle.ae_kept_rows.proofs.kept.rows_so_far.Goals as goal

pub returns-in-None : goal.returns-in-None
returns-in-None c = anew (λ k e d. none-some k (sym c.in-None.is ∙ e)) c.none_yet.ensures.empty c.none_yet.ensures.fits c.none_yet.ensures.literals

pub returns-then-held-lines : goal.returns-then-held-lines
returns-then-held-lines c = same c.in-Some.rows c.in-Some.is c.if-held-lines.true refl

pub returns-else-held-lines : goal.returns-else-held-lines
returns-else-held-lines c =
    let e = c.none_yet-else-held-lines.ensures in
    anew (λ k there was. c.if-held-lines.false (ap (λ (r : KeptRows). r.lines) (same_Some c.in-Some.rows k (sym c.in-Some.is ∙ there)) ∙ was)) e.empty e.fits e.literals
