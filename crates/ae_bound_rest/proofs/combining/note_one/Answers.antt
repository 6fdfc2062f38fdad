use Rattle.std.proofs.Common.{sym, ◌∙◌}
use Rattle.ae_bounds.proofs.Indexing.{seen_there, unseen_there}
use Rattle.ae_bound_rest.specs.Rest.IsGrown.{as_it_was}
use Rattle.ae_bound_rest.proofs.Counting.{there_noted, grown_noted, there_kept}
use Rattle.ae_bound_rest.proofs.combining.note_one.Goals as goal

pub returns-in_err-direction-clause-grown : goal.returns-in_err-direction-clause-grown
returns-in_err-direction-clause-grown c = λ m. as_it_was

pub returns-then-has_direction-clause-there : goal.returns-then-has_direction-clause-there
returns-then-has_direction-clause-there c =
    seen_there c.args.sure.now c.args.directions.now.keys c.args.row c.in_ok-direction.direction c.requires.indexed c.in_ok-direction.ensures (sym c.has_direction.ensures ∙ c.if-has_direction.true)

pub returns-then-has_direction-clause-grown : goal.returns-then-has_direction-clause-grown
returns-then-has_direction-clause-grown c = λ m. as_it_was

pub note-requires-clause-counts : goal.note-requires-clause-counts
note-requires-clause-counts c = λ tag e. c.requires.counts

pub returns-clause-there : goal.returns-clause-there
returns-clause-there c = there_noted c.args.sure.now c.note.new.rows c.args.row c.note.result c.requires.counts c.requires.plain c.note.ensures.rows

pub returns-clause-grown : goal.returns-clause-grown
returns-clause-grown c = λ m.
    grown_noted c.args.sure.now c.note.new.rows c.args.journal.now c.note.new.journal c.args.row c.note.result m c.requires.normal
    (unseen_there c.args.sure.now c.args.directions.now.keys c.args.row c.in_ok-direction.direction c.requires.indexed c.in_ok-direction.ensures (sym c.has_direction.ensures ∙ c.if-has_direction.false))
    c.note.ensures.rows c.note.ensures.lines c.note.ensures.kept

pub returns-clause-keeps : goal.returns-clause-keeps
returns-clause-keeps c = there_kept c.args.sure.now c.note.new.rows c.args.row c.args.journal.now c.note.new.journal c.note.result c.note.ensures.rows c.note.ensures.kept
