use Rattle.std.proofs.Common.{ap, arith}
use Rattle.ae_prooftext.specs.Grammar.{is_real}
use Rattle.ae_prooftext.specs.Proofs as proofs
use Rattle.ae_linereader.specs.Lines.{block_part, block_step_read, block_lines_code}
use Rattle.ae_linereader.proofs.LineReading.{block_step_is, block_turn, lines_begin, lines_on, lines_end, lines_fail}
use Rattle.ae_linereader.proofs.blocks.read_block_lines.Goals as goal

pub lines-init : goal.lines-init
lines-init c =
    let sig = c.args.tables.now.signature.now in
    let start = lines_begin block_part (block_lines_code sig).read (proofs.block_step sig (is_real sig)).read (block_step_read sig) (block_step_is sig) (block_turn sig)
    c.args.text.now c.args.from c.new-hyps.result c.new-hyps.ensures in
    (omega arith, λ l. l, start)

pub returns-in-Err-clause-read : goal.returns-in-Err-clause-read
returns-in-Err-clause-read c =
    let sig = c.args.tables.now.signature.now in
    lines_fail block_part (block_lines_code sig).read (proofs.block_step sig (is_real sig)).read (block_step_read sig) (block_step_is sig) (block_turn sig) c.args.text.now c.args.from
    c.lines.at c.lines.hyps c.lines.invariant.2 c.in-Err.fault c.in-Err.ensures.read

pub returns-in-Derivation-clause-read : goal.returns-in-Derivation-clause-read
returns-in-Derivation-clause-read c =
    let sig = c.args.tables.now.signature.now in
    lines_end block_part (block_lines_code sig).read (proofs.block_step sig (is_real sig)).read (block_step_read sig) (block_step_is sig) (block_turn sig) c.args.text.now c.args.from
    c.lines.at c.lines.hyps c.lines.invariant.2 c.in-Ok.found.0 (c.in-Derivation.lines, c.in-Derivation.ending) c.in-Ok.found.1 c.in-Ok.ensures.read (ap block_part c.in-Derivation.is)

pub lines-preserved : goal.lines-preserved
lines-preserved c =
    let sig = c.args.tables.now.signature.now in
    let low = c.lines.invariant.0 in
    let ahead = c.in-Ok.ensures.ahead.0 in
    let more = lines_on block_part (block_lines_code sig).read (proofs.block_step sig (is_real sig)).read (block_step_read sig) (block_step_is sig) (block_turn sig) c.args.text.now c.args.from
    c.lines.at c.lines.hyps c.lines.invariant.2
    c.in-Ok.found.0 c.in-Hypothesis.literal c.in-Ok.found.1 c.push.new.self c.in-Ok.ensures.read (ap block_part c.in-Hypothesis.is) c.in_default.ensures.ok in
    (omega arith, λ l. c.in-Ok.ensures.ahead.1, more)
