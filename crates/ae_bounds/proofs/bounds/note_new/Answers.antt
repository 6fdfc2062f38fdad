use Rattle.std.proofs.Common.{◌∙◌, sym, refl, inl}
use Rattle.ae_bounds.specs.Combinations.IsExtended.{as_it_was}
use Rattle.ae_bounds.proofs.Indexing.{unseen_there}
use Rattle.ae_bounds.proofs.Noted.{held_noted, extended_noted, one_noted}
use Rattle.ae_bounds.proofs.OwnForms.{combined_counts}
use Rattle.ae_bounds.proofs.bounds.note_new.Goals as goal

pub note-requires-clause-counts : goal.note-requires-clause-counts
note-requires-clause-counts c = combined_counts c.args.row c.requires.combined.lower c.requires.combined.upper c.requires.combined.from

pub returns-in_err-direction-clause-extended : goal.returns-in_err-direction-clause-extended
returns-in_err-direction-clause-extended c = as_it_was

pub returns-then-has_direction-clause-extended : goal.returns-then-has_direction-clause-extended
returns-then-has_direction-clause-extended c = c.keep_zero.ensures.extended c.args.journal.now.lines

pub returns-in_err-direction-clause-one : goal.returns-in_err-direction-clause-one
returns-in_err-direction-clause-one c = inl refl

pub returns-then-has_direction-clause-one : goal.returns-then-has_direction-clause-one
returns-then-has_direction-clause-one c = c.keep_zero.ensures.one

pub returns-clause-one : goal.returns-clause-one
returns-clause-one c = one_noted c.args.rows.now c.note.new.rows c.args.journal.now c.note.new.journal c.args.row c.note.result c.note.ensures.rows c.note.ensures.kept

pub returns-clause-held : goal.returns-clause-held
returns-clause-held c = held_noted c.args.rows.now c.note.new.rows c.args.row c.requires.combined.lower c.requires.combined.upper c.note.result c.requires.combined.from c.note.ensures.rows

pub returns-clause-extended : goal.returns-clause-extended
returns-clause-extended c =
    extended_noted c.args.rows.now c.note.new.rows c.args.journal.now c.note.new.journal c.args.row c.note.result c.requires.combined
    (unseen_there c.args.rows.now c.args.directions.now.keys c.args.row c.in_ok-direction.direction c.requires.indexed c.in_ok-direction.ensures (sym c.has_direction.ensures ∙ c.if-has_direction.false))
    c.note.ensures.rows c.note.ensures.lines c.note.ensures.kept
