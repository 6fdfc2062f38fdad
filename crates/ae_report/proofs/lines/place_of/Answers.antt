use Rattle.std.proofs.Common.{rules, take}
use Rattle.ae_report.proofs.Places.{nothing_before, line_ended_at, line_goes_on_at, place_bounds_at}
use Rattle.ae_report.proofs.lines.place_of.Goals as goal
use Rattle.ae_report.proofs.lines.place_of.Goals.{then-ends_line, else-ends_line}

pub loop-byte-init : goal.loop-byte-init
loop-byte-init c = nothing_before

pub overflow_add-line : goal.overflow_add-line
overflow_add-line c =
    let b = place_bounds_at (take c.args.at c.args.text.now) c.loop-byte.byte-index c.loop-byte.line c.loop-byte.column c.loop-byte.invariant in
    search (rules, b)

pub overflow_add-column : goal.overflow_add-column
overflow_add-column c =
    let b = place_bounds_at (take c.args.at c.args.text.now) c.loop-byte.byte-index c.loop-byte.line c.loop-byte.column c.loop-byte.invariant in
    search (rules, b)

pub loop-byte-preserved : goal.loop-byte-preserved
loop-byte-preserved c =
    elim c.if-ends_line.branch [
      | then-ends_line w ↦ search (rules, w, line_ended_at (take c.args.at c.args.text.now) c.loop-byte.byte-index c.loop-byte.line c.loop-byte.column)
      | else-ends_line w ↦ search (rules, w, line_goes_on_at (take c.args.at c.args.text.now) c.loop-byte.byte-index c.loop-byte.line c.loop-byte.column)
    ]
