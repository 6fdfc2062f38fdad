use Rattle.std.specs.Prelude.{◌≡◌, [], ◌∷◌, ◌++◌, OnOk}
use Rattle.std.proofs.Common.{subst}
use Rattle.ae_journal.specs.declared.lines.Line.TheVariants.{Combine}
use Rattle.ae_num.specs.declared.forms.Lin.{Lin}
use Rattle.ae_bounds.proofs.Pushed.{noted_kept, indexed_noted}
use Rattle.ae_bounds.proofs.noting.note.Goals as goal

pub returns-in_err-form-clause-indexed : goal.returns-in_err-form-clause-indexed
returns-in_err-form-clause-indexed c = c.requires.indexed

pub returns-clause-lines : goal.returns-clause-lines
returns-clause-lines c =
    subst (λ (f : Lin). OnOk c.note_line.result (c.note_line.new.journal ≡ record c.args.journal.now { lines = c.args.journal.now.lines ++ Combine c.args.row.strict f ∷ [] })) c.in_ok-form.ensures c.note_line.ensures.lines

pub returns-clause-kept : goal.returns-clause-kept
returns-clause-kept c = noted_kept c.note_line.result c.args.rows.now c.note_line.new.rows c.args.journal.now c.note_line.new.journal c.note_line.ensures.taken c.note_line.ensures.kept

pub returns-clause-indexed : goal.returns-clause-indexed
returns-clause-indexed c =
    indexed_noted c.note_line.result c.args.rows.now c.note_line.new.rows c.args.directions.now.keys c.note_line.new.directions.keys c.args.row c.args.direction c.requires.counts c.requires.indexed c.requires.direction c.requires.alone
    c.requires.new c.note_line.ensures.rows c.note_line.ensures.directions c.note_line.ensures.taken c.note_line.ensures.cut
