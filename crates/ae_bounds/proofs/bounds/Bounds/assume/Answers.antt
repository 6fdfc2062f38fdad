use Rattle.std.specs.Prelude.{nat_eq}
use Rattle.indexmap.specs.IndexMap.{get}
use Rattle.ae_bounds.proofs.Keeping.{kept_added, assumed_rounded, row_settled, unrounded_normal, not_combined}
use Rattle.std.proofs.Common.{sym, ◌∙◌}
use Rattle.ae_bounds.proofs.bounds.Bounds.assume.Goals as goal

pub invariant_of-self : goal.invariant_of-self
invariant_of-self c =
    kept_added c.add_assumed.result c.self.inside.rows c.add_assumed.new.rows c.in_ok-row.row c.self.inside.directions.keys c.add_assumed.new.directions.keys (get nat_eq c.self.inside.latest) c.self.inside.earlier
    c.add_assumed.ensures.added c.add_assumed.ensures.kept (λ lower upper e. not_combined c.args.tag lower upper (sym c.in_ok-row.ensures.from ∙ e))
    (assumed_rounded c.args.lin c.args.strict c.in_ok-row.row c.requires.normal c.in_ok-row.ensures.normal c.in_ok-row.ensures.row) (row_settled c.args.lin c.args.strict c.in_ok-row.row c.in_ok-row.ensures.row) c.self.invariant
    c.add_assumed.ensures.indexed

pub earlier_direction-requires-clause-normal : goal.earlier_direction-requires-clause-normal
earlier_direction-requires-clause-normal c =
    unrounded_normal c.in_ok-row.row (assumed_rounded c.args.lin c.args.strict c.in_ok-row.row c.requires.normal c.in_ok-row.ensures.normal c.in_ok-row.ensures.row)
