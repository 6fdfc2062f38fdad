use Rattle.std.proofs.lemmas.Result.{err_from_is_err_and}
use Rattle.ae_statereader.specs.Items.{point_item}
use Rattle.ae_statereader.specs.Lines.{AnyLine}
use Rattle.ae_statereader.proofs.LineLaws.{line_fails, rest_fails, rest_read}
use Rattle.ae_statereader.proofs.StateReading.{end_read, points_off, points_on, points_read}
use Rattle.ae_statereader.proofs.sections.read_points.Goals as goal

pub returns-in_err-lines-clause-read : goal.returns-in_err-lines-clause-read
returns-in_err-lines-clause-read c =
    let t = c.args.text.now in
    let f = c.in_err-lines.field-0.0 in
    let p = err_from_is_err_and c.from_residual.result c.from_residual.ensures.1 in
    rw (p.1, p.2) ((line_fails AnyLine point_item 112 points_read end_read points_on points_off t c.args.at f c.in_err-lines.ensures.lines))

pub returns-in_err-end-clause-read : goal.returns-in_err-end-clause-read
returns-in_err-end-clause-read c =
    let t = c.args.text.now in
    let f = c.in_err-end.field-0.0 in
    let p = err_from_is_err_and c.from_residual-in_err-end.result c.from_residual-in_err-end.ensures.1 in
    rw (p.1, p.2) ((rest_fails AnyLine point_item 112 points_read end_read points_on points_off
    t c.args.at (c.in_ok-lines.lines, c.in_ok-lines.behind) f c.in_ok-lines.ensures.lines c.in_err-end.ensures.read))

pub returns-clause-read : goal.returns-clause-read
returns-clause-read c =
    let t = c.args.text.now in
    rest_read AnyLine point_item 112 points_read end_read points_on points_off
    t c.args.at (c.in_ok-lines.lines, c.in_ok-lines.behind) c.in_ok-end.end c.in_ok-end.next c.in_ok-lines.ensures.lines c.in_ok-end.ensures.read
