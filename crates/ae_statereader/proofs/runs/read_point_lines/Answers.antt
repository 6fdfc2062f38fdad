use Rattle.std.proofs.Common.{length, drop, refl, arith}
use Rattle.ae_readers.specs.declared.fault.Fault.TheVariants.{Memory}
use Rattle.ae_statereader.specs.Items.{point_item}
use Rattle.ae_statereader.specs.Lines.{AnyLine}
use Rattle.ae_statereader.proofs.LineLaws.{lines_done, lines_failed, lines_on}
use Rattle.ae_statereader.proofs.runs.read_point_lines.Goals as goal

pub returns-then-not-stands-clause-lines : goal.returns-then-not-stands-clause-lines
returns-then-not-stands-clause-lines c = lines_done AnyLine point_item 112
    c.args.text.now c.args.from c.lines.at c.lines.points c.lines.invariant.2 c.if-not-stands.ensures

pub returns-in-Err-clause-lines : goal.returns-in-Err-clause-lines
returns-in-Err-clause-lines c = lines_failed AnyLine point_item 112
    c.args.text.now c.args.from c.lines.at c.lines.points c.lines.invariant.2 (length c.lines.points) c.in-Err.fault refl tt c.if-not-stands.ensures c.in-Err.ensures.read

pub returns-in-Err-push-clause-lines : goal.returns-in-Err-push-clause-lines
returns-in-Err-push-clause-lines c = lines_failed AnyLine point_item 112
    c.args.text.now c.args.from c.lines.at c.lines.points c.lines.invariant.2 (length c.lines.points) Memory refl tt c.if-not-stands.ensures tt

pub lines-preserved : goal.lines-preserved
lines-preserved c =
    let low = c.lines.invariant.0 in
    let ahead = c.in-Ok.ensures.ahead.0 in (
      omega arith,
      λ l. c.in-Ok.ensures.ahead.1,
      lines_on AnyLine point_item 112 c.lines.points c.push.new.self
          (drop c.args.from c.args.text.now) (drop c.lines.at c.args.text.now) (drop c.in-Ok.found.1 c.args.text.now) (length c.lines.points) c.in-Ok.found.0
          c.lines.invariant.2 refl tt c.if-not-stands.ensures c.in-Ok.ensures.read c.in_default.ensures.ok,
    )
