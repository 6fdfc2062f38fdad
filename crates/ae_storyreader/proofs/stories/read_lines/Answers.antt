use Rattle.std.proofs.Common.{drop, ap, ◌∙◌, arith}
use Rattle.ae_codes.specs.Codes.{got}
use Rattle.ae_storyreader.proofs.StoryReading.{lines_begin, lines_on, lines_end, lines_fail}
use Rattle.ae_storyreader.proofs.stories.read_lines.Goals as goal

pub lines-init : goal.lines-init
lines-init c = (omega arith, λ l. l, lines_begin c.args.tables.now.terms.signature.now c.new-lines.result (drop c.args.from c.args.text.now) c.new-lines.ensures)

pub returns-in-Err-clause-read : goal.returns-in-Err-clause-read
returns-in-Err-clause-read c = lines_fail c.args.tables.now.terms.signature.now c.args.text.now c.args.from c.lines.at c.lines.lines c.lines.invariant.2 c.in-Err.fault c.in-Err.ensures.read

pub returns-in-None-clause-read : goal.returns-in-None-clause-read
returns-in-None-clause-read c =
    let t = c.args.text.now in
    let n = c.in-Ok.read.1 in
    lines_end c.args.tables.now.terms.signature.now t c.args.from c.lines.at c.lines.lines c.lines.invariant.2 n (c.in-Ok.ensures.read ∙ ap (λ z. got z (drop n t)) c.in-None.is)

pub lines-preserved : goal.lines-preserved
lines-preserved c =
    let t = c.args.text.now in
    let n = c.in-Ok.read.1 in
    let low = c.lines.invariant.0 in
    let ahead = c.in-Ok.ensures.ahead.0 in (
      omega arith,
      λ l. c.in-Ok.ensures.ahead.1,
      lines_on c.args.tables.now.terms.signature.now t c.args.from c.lines.at c.lines.lines c.lines.invariant.2 c.in-Some.line n c.push.new.self
          (c.in-Ok.ensures.read ∙ ap (λ z. got z (drop n t)) c.in-Some.is) c.in_default.ensures.ok,
    )
