use Rattle.std.proofs.Common.{drop, sym, ◌∙◌, subst}
use Rattle.std.proofs.lemmas.Result.{err_from_is_err_and}
use Rattle.ae_readers.specs.Readers.{FaultIs}
use Rattle.ae_statereader.specs.Items.{name_item}
use Rattle.ae_statereader.specs.Lines.{HasNumber}
use Rattle.ae_statereader.proofs.LineLaws.{line_fails, rest_fails, rest_read}
use Rattle.ae_storyreader.proofs.StoryReading.{lines_read, names_are, names_off, names_on, names_read}
use Rattle.ae_storyreader.proofs.stories.read_names.Goals as goal

pub returns-in_err-terms-clause-read : goal.returns-in_err-terms-clause-read
returns-in_err-terms-clause-read c =
    let s = c.args.tables.now.terms.signature.now in
    let t = c.args.text.now in
    let f = c.in_err-terms.field-0.0 in
    let p = err_from_is_err_and c.from_residual.result c.from_residual.ensures.1 in
    rw (p.1, p.2) (subst (FaultIs t f) (sym (names_are s (drop c.args.at t)))
    (line_fails HasNumber (name_item s) 110 (names_read s) (lines_read s) (names_on s) (names_off s) t c.args.at f c.in_err-terms.ensures.lines))

pub returns-in_err-rest-clause-read : goal.returns-in_err-rest-clause-read
returns-in_err-rest-clause-read c =
    let s = c.args.tables.now.terms.signature.now in
    let t = c.args.text.now in
    let f = c.in_err-rest.field-0.0 in
    let p = err_from_is_err_and c.from_residual-in_err-rest.result c.from_residual-in_err-rest.ensures.1 in
    rw (p.1, p.2) (subst (FaultIs t f) (sym (names_are s (drop c.args.at t)))
    (rest_fails HasNumber (name_item s) 110 (names_read s) (lines_read s) (names_on s) (names_off s)
    t c.args.at (c.in_ok-terms.terms, c.in_ok-terms.behind) f c.in_ok-terms.ensures.lines c.in_err-rest.ensures.read))

pub returns-clause-read : goal.returns-clause-read
returns-clause-read c =
    let s = c.args.tables.now.terms.signature.now in
    let t = c.args.text.now in
    names_are s (drop c.args.at t)
    ∙ rest_read HasNumber (name_item s) 110 (names_read s) (lines_read s) (names_on s) (names_off s)
    t c.args.at (c.in_ok-terms.terms, c.in_ok-terms.behind) c.in_ok-rest.rest c.in_ok-rest.next c.in_ok-terms.ensures.lines c.in_ok-rest.ensures.read
