use Rattle.std.proofs.Common.{ap, arith}
use Rattle.ae_prooftext.specs.Grammar.{is_real}
use Rattle.ae_prooftext.specs.Proofs as proofs
use Rattle.ae_linereader.specs.Lines.{derived_part, derived_step_read, derivation_code}
use Rattle.ae_linereader.proofs.LineReading.{derived_step_is, derivation_turn, lines_begin, lines_on, lines_end, lines_fail}
use Rattle.ae_linereader.proofs.blocks.read_derivation.Goals as goal

pub lines-init : goal.lines-init
lines-init c =
    let sig = c.args.tables.now.signature.now in
    let start = lines_begin derived_part (derivation_code sig).read (proofs.derived_or_end sig (is_real sig)).read (derived_step_read sig) (derived_step_is sig) (derivation_turn sig)
    c.args.text.now c.args.from c.new-lines.result c.new-lines.ensures in
    (omega arith, λ l. l, start)

pub returns-in-Err-clause-read : goal.returns-in-Err-clause-read
returns-in-Err-clause-read c =
    let sig = c.args.tables.now.signature.now in
    lines_fail derived_part (derivation_code sig).read (proofs.derived_or_end sig (is_real sig)).read (derived_step_read sig) (derived_step_is sig) (derivation_turn sig) c.args.text.now c.args.from
    c.lines.at c.lines.lines c.lines.invariant.2 c.in-Err.fault c.in-Err.ensures.read

pub returns-in-End-clause-read : goal.returns-in-End-clause-read
returns-in-End-clause-read c =
    let sig = c.args.tables.now.signature.now in
    lines_end derived_part (derivation_code sig).read (proofs.derived_or_end sig (is_real sig)).read (derived_step_read sig) (derived_step_is sig) (derivation_turn sig) c.args.text.now c.args.from
    c.lines.at c.lines.lines c.lines.invariant.2 c.in-Ok.found.0 c.in-End.ending c.in-Ok.found.1 c.in-Ok.ensures.read (ap derived_part c.in-End.is)

pub lines-preserved : goal.lines-preserved
lines-preserved c =
    let sig = c.args.tables.now.signature.now in
    let low = c.lines.invariant.0 in
    let ahead = c.in-Ok.ensures.ahead.0 in
    let more = lines_on derived_part (derivation_code sig).read (proofs.derived_or_end sig (is_real sig)).read (derived_step_read sig) (derived_step_is sig) (derivation_turn sig) c.args.text.now c.args.from
    c.lines.at c.lines.lines c.lines.invariant.2
    c.in-Ok.found.0 c.in-Line.line c.in-Ok.found.1 c.push.new.self c.in-Ok.ensures.read (ap derived_part c.in-Line.is) c.in_default.ensures.ok in
    (omega arith, λ l. c.in-Ok.ensures.ahead.1, more)
