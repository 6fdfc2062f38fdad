use Rattle.std.proofs.Common.{refl, sym, subst, inl, inr}
use Rattle.std.specs.Prelude.{List}
use Rattle.ae_bounds.specs.declared.rows.Row.{Row}
use Rattle.ae_bounds.specs.Combinations.{IsExtended}
use Rattle.ae_bounds.specs.Combinations.IsExtended.{as_it_was}
use Rattle.ae_bounds.proofs.Zeros.{zero_form, direction_normal}
use Rattle.ae_bounds.proofs.Indexing.{seen_there}
use Rattle.ae_bounds.proofs.Noted.{held_added, held_seen, extended_added}
use Rattle.ae_bounds.proofs.OwnForms.{combined_counts}
use Rattle.ae_bounds.proofs.bounds.keep_zero.Goals as goal

pub add-requires-clause-counts : goal.add-requires-clause-counts
add-requires-clause-counts c = combined_counts c.args.row c.requires.combined.lower c.requires.combined.upper c.requires.combined.from

pub returns-then-not-is_zero-clause-held : goal.returns-then-not-is_zero-clause-held
returns-then-not-is_zero-clause-held c =
    held_seen c.args.rows.now c.args.rows.now c.args.row refl (direction_normal c.args.row.lin c.args.direction.form c.requires.direction)
    (seen_there c.args.rows.now c.args.directions.now.keys c.args.row c.args.direction c.requires.indexed c.requires.direction c.requires.seen) (c.is_zero.ensures.nonzero c.if-not-is_zero.true)

pub returns-then-not-is_zero-clause-extended : goal.returns-then-not-is_zero-clause-extended
returns-then-not-is_zero-clause-extended c = λ js. as_it_was

pub returns-then-not-is_zero-clause-one : goal.returns-then-not-is_zero-clause-one
returns-then-not-is_zero-clause-one c = inl refl

pub returns-in_err-add-clause-one : goal.returns-in_err-add-clause-one
returns-in_err-add-clause-one c = inl c.in_err-add.ensures.kept.0

pub returns-clause-one : goal.returns-clause-one
returns-clause-one c = inr (c.args.row, c.in_ok-add.ensures.added)

pub returns-in_err-add-clause-extended : goal.returns-in_err-add-clause-extended
returns-in_err-add-clause-extended c = λ js. subst (λ (rs : List Row). IsExtended c.args.rows.now js rs js) (sym c.in_err-add.ensures.kept.0) as_it_was

pub returns-clause-held : goal.returns-clause-held
returns-clause-held c = held_added c.args.rows.now c.add.new.rows c.args.row c.requires.combined.lower c.requires.combined.upper c.requires.combined.from c.in_ok-add.ensures.added

pub returns-clause-indexed : goal.returns-clause-indexed
returns-clause-indexed c = c.add.ensures.indexed

pub returns-clause-extended : goal.returns-clause-extended
returns-clause-extended c =
    λ js. (let z = c.is_zero.ensures.zero c.if-not-is_zero.false in extended_added c.args.rows.now c.add.new.rows js c.args.row c.requires.combined (zero_form c.args.row.lin z.0 z.1) c.in_ok-add.ensures.added)
