use Rattle.std.proofs.lemmas.Result.{err_from_is_err_and}
use Rattle.ae_statereader.specs.Items.{rule_item}
use Rattle.ae_statereader.specs.Lines.{AnyLine}
use Rattle.ae_statereader.proofs.LineLaws.{line_fails, rest_fails, rest_read}
use Rattle.ae_statereader.proofs.StateReading.{points_read, rules_off, rules_on, rules_read}
use Rattle.ae_statereader.proofs.sections.read_rules.Goals as goal

pub returns-in_err-lines-clause-read : goal.returns-in_err-lines-clause-read
returns-in_err-lines-clause-read c =
    let s = c.args.tables.now.terms.signature.now in
    let t = c.args.text.now in
    let f = c.in_err-lines.field-0.0 in
    let p = err_from_is_err_and c.from_residual.result c.from_residual.ensures.1 in
    rw (p.1, p.2) ((line_fails AnyLine (rule_item s) 114 (rules_read s) (points_read 0) (rules_on s) (rules_off s) t c.args.at f c.in_err-lines.ensures.lines))

pub returns-in_err-rest-clause-read : goal.returns-in_err-rest-clause-read
returns-in_err-rest-clause-read c =
    let s = c.args.tables.now.terms.signature.now in
    let t = c.args.text.now in
    let f = c.in_err-rest.field-0.0 in
    let p = err_from_is_err_and c.from_residual-in_err-rest.result c.from_residual-in_err-rest.ensures.1 in
    rw (p.1, p.2) ((rest_fails AnyLine (rule_item s) 114 (rules_read s) (points_read 0) (rules_on s) (rules_off s)
    t c.args.at (c.in_ok-lines.lines, c.in_ok-lines.behind) f c.in_ok-lines.ensures.lines c.in_err-rest.ensures.read))

pub returns-clause-read : goal.returns-clause-read
returns-clause-read c =
    let s = c.args.tables.now.terms.signature.now in
    let t = c.args.text.now in
    rest_read AnyLine (rule_item s) 114 (rules_read s) (points_read 0) (rules_on s) (rules_off s)
    t c.args.at (c.in_ok-lines.lines, c.in_ok-lines.behind) c.in_ok-rest.rest c.in_ok-rest.next c.in_ok-lines.ensures.lines c.in_ok-rest.ensures.read
