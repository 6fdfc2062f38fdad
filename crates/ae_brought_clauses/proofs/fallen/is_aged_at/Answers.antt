use Rattle.std.proofs.Common.{ap, sym, ◌∙◌}
use Rattle.std.specs.List.{list_any}
use Rattle.std.proofs.lemmas.Option.{same_Some}
use Rattle.ae_ages.specs.Ages.{gives_age}
use Rattle.ae_block_constants.specs.declared.opened.Opened.{Opened}
use Rattle.ae_brought_clauses.proofs.Places.{read_at}
use Rattle.ae_brought_clauses.proofs.fallen.is_aged_at.Goals as goal

pub returns : goal.returns
returns c o at =
    c.is_aged.ensures
    ∙ ap (λ (w : Opened). list_any (gives_age w.formula c.args.generation) c.args.ages.now)
    (same_Some c.index-opened-place.result o (sym (read_at c.args.opened.now c.args.place c.index-opened-place.result c.requires c.index-opened-place.is) ∙ at))
