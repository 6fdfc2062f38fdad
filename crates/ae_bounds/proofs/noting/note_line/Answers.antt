use Rattle.std.specs.Prelude.{◌≡◌}
use Rattle.std.proofs.Common.{◌∙◌}
use Rattle.std.proofs.lemmas.Result.{on_ok_weaker}
use Rattle.ae_bounds.proofs.Pushed.{some_added, taken_off}
use Rattle.ae_bounds.proofs.noting.note_line.Goals as goal

pub note_last-requires-clause-rows : goal.note_last-requires-clause-rows
note_last-requires-clause-rows c = some_added c.args.rows.now c.push_new.new.rows c.args.row c.in_ok-push_new.ensures.rows

pub note_last-requires-clause-directions : goal.note_last-requires-clause-directions
note_last-requires-clause-directions c = some_added c.args.directions.now.keys c.push_new.new.directions.keys c.args.direction c.in_ok-push_new.ensures.directions

pub returns-clause-rows : goal.returns-clause-rows
returns-clause-rows c = on_ok_weaker c.note_last.result (λ (e : c.note_last.new.rows ≡ c.push_new.new.rows). e ∙ c.in_ok-push_new.ensures.rows) c.note_last.ensures.rows

pub returns-clause-directions : goal.returns-clause-directions
returns-clause-directions c = on_ok_weaker c.note_last.result (λ (e : c.note_last.new.directions.keys ≡ c.push_new.new.directions.keys). e ∙ c.in_ok-push_new.ensures.directions) c.note_last.ensures.directions

pub returns-clause-taken : goal.returns-clause-taken
returns-clause-taken c = taken_off c.args.rows.now c.push_new.new.rows c.args.row c.in_ok-push_new.ensures.rows c.note_last.result c.note_last.new.rows c.note_last.ensures.taken

pub returns-clause-cut : goal.returns-clause-cut
returns-clause-cut c = taken_off c.args.directions.now.keys c.push_new.new.directions.keys c.args.direction c.in_ok-push_new.ensures.directions c.note_last.result c.note_last.new.directions.keys c.note_last.ensures.cut
