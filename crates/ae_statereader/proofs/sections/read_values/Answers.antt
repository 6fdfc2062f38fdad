use Rattle.std.proofs.Common.{drop, sym, ◌∙◌, subst}
use Rattle.std.proofs.lemmas.Result.{err_from_is_err_and}
use Rattle.ae_readers.specs.Readers.{FaultIs}
use Rattle.ae_statereader.specs.Items.{value_item}
use Rattle.ae_statereader.specs.Lines.{HasNumber}
use Rattle.ae_statereader.proofs.LineLaws.{line_fails, rest_fails, rest_read}
use Rattle.ae_statereader.proofs.StateReading.{rules_read, values_are, values_off, values_on, values_read}
use Rattle.ae_statereader.proofs.sections.read_values.Goals as goal

pub returns-in_err-lines-clause-read : goal.returns-in_err-lines-clause-read
returns-in_err-lines-clause-read c =
    let s = c.args.tables.now.terms.signature.now in
    let t = c.args.text.now in
    let f = c.in_err-lines.field-0.0 in
    let p = err_from_is_err_and c.from_residual.result c.from_residual.ensures.1 in
    rw (p.1, p.2) (subst (FaultIs t f) (sym (values_are s (drop c.args.at t)))
    (line_fails HasNumber value_item 118 (values_read s) (rules_read s 0) (values_on s) (values_off s) t c.args.at f c.in_err-lines.ensures.lines))

pub returns-in_err-rest-clause-read : goal.returns-in_err-rest-clause-read
returns-in_err-rest-clause-read c =
    let s = c.args.tables.now.terms.signature.now in
    let t = c.args.text.now in
    let f = c.in_err-rest.field-0.0 in
    let p = err_from_is_err_and c.from_residual-in_err-rest.result c.from_residual-in_err-rest.ensures.1 in
    rw (p.1, p.2) (subst (FaultIs t f) (sym (values_are s (drop c.args.at t)))
    (rest_fails HasNumber value_item 118 (values_read s) (rules_read s 0) (values_on s) (values_off s)
    t c.args.at (c.in_ok-lines.lines, c.in_ok-lines.behind) f c.in_ok-lines.ensures.lines c.in_err-rest.ensures.read))

pub returns-clause-read : goal.returns-clause-read
returns-clause-read c =
    let s = c.args.tables.now.terms.signature.now in
    let t = c.args.text.now in
    values_are s (drop c.args.at t)
    ∙ rest_read HasNumber value_item 118 (values_read s) (rules_read s 0) (values_on s) (values_off s)
    t c.args.at (c.in_ok-lines.lines, c.in_ok-lines.behind) c.in_ok-rest.rest c.in_ok-rest.next c.in_ok-lines.ensures.lines c.in_ok-rest.ensures.read
