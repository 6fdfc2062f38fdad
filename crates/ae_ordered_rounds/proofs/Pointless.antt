-- Where no inequality is true, any point satisfies them.
use Rattle.std.specs.Prelude.{List}
use Rattle.std.proofs.Common.{sym, ◌∙◌}
use Rattle.std.proofs.lemmas.Option.{none-some}
use Rattle.ae_between_rounds.specs.Finished.{IsPointOf}
use Rattle.ae_between_rounds.specs.declared.search.Search.{Search}
use Rattle.ae_journal.specs.declared.systems.PointAt.{PointAt}
use Rattle.ae_open_states.proofs.Trails.{place_of}
use Rattle.ae_ordered_rounds.specs.Inner.Orderable.{HasNoInequality}

pub nothing_to_satisfy : (o : Search) (made : List PointAt) → HasNoInequality o.solver.propagation.trail → IsPointOf o made
nothing_to_satisfy o made none l s t strict v w c e first second = absurd (none-some (s, t, strict) (sym (none l (place_of o.solver.propagation.trail l c)) ∙ e))
