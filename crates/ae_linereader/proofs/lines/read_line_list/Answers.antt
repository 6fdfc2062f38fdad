use Rattle.std.proofs.Common.{ap, arith, drop}
use Rattle.ae_codes.specs.Codes.{got}
use Rattle.ae_prooftext.specs.Grammar.{is_real}
use Rattle.ae_prooftext.specs.Proofs as proofs
use Rattle.ae_readers.specs.Readers.{after_read}
use Rattle.ae_choices.specs.Choices.{picked}
use Rattle.ae_linereader.specs.Lines.{proof_part, line_all, line_arms, proof_lines_code}
use Rattle.ae_linereader.proofs.LineReading.{line_step_is, lines_turn, lines_begin, lines_on, lines_end, lines_fail, lists_fail}
use Rattle.ae_linereader.proofs.lines.read_line_list.Goals as goal

pub lines-init : goal.lines-init
lines-init c =
    let sig = c.args.tables.now.signature.now in
    let start = lines_begin proof_part (proof_lines_code sig).read (proofs.line_code sig (is_real sig)).read (picked line_all (line_arms sig)) (line_step_is sig) (lines_turn sig)
    c.args.text.now c.args.from c.new-lines.result c.new-lines.ensures in
    (omega arith, λ l. l, start)

pub returns-in-Err-clause-read : goal.returns-in-Err-clause-read
returns-in-Err-clause-read c =
    let sig = c.args.tables.now.signature.now in
    lists_fail c.args.text.now c.in-Err.fault ((proof_lines_code sig).read (drop c.args.from c.args.text.now)) (
    lines_fail proof_part (proof_lines_code sig).read (proofs.line_code sig (is_real sig)).read (picked line_all (line_arms sig)) (line_step_is sig) (lines_turn sig) c.args.text.now c.args.from
    c.lines.at c.lines.lines c.lines.invariant.2 c.in-Err.fault c.in-Err.ensures.read)

pub returns-in-End-clause-read : goal.returns-in-End-clause-read
returns-in-End-clause-read c =
    let sig = c.args.tables.now.signature.now in
    ap (λ z. after_read z (λ v rest. got v.0 rest)) (
    lines_end proof_part (proof_lines_code sig).read (proofs.line_code sig (is_real sig)).read (picked line_all (line_arms sig)) (line_step_is sig) (lines_turn sig) c.args.text.now c.args.from
    c.lines.at c.lines.lines c.lines.invariant.2 c.in-Ok.found.0 tt c.in-Ok.found.1 c.in-Ok.ensures.read (ap proof_part c.in-End.is))

pub lines-preserved : goal.lines-preserved
lines-preserved c =
    let sig = c.args.tables.now.signature.now in
    let low = c.lines.invariant.0 in
    let ahead = c.in-Ok.ensures.ahead.0 in
    let more = lines_on proof_part (proof_lines_code sig).read (proofs.line_code sig (is_real sig)).read (picked line_all (line_arms sig)) (line_step_is sig) (lines_turn sig) c.args.text.now c.args.from
    c.lines.at c.lines.lines c.lines.invariant.2
    c.in-Ok.found.0 c.in-Line.line c.in-Ok.found.1 c.push.new.self c.in-Ok.ensures.read (ap proof_part c.in-Line.is) c.in_default.ensures.ok in
    (omega arith, λ l. c.in-Ok.ensures.ahead.1, more)
