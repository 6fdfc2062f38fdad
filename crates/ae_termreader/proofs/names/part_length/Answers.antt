use Rattle.std.proofs.Common.{arith}
use Rattle.ae_readers.specs.Readers.{closes}
use Rattle.ae_readers.proofs.NameReading.{part_within}
use Rattle.ae_termreader.proofs.names.part_length.Goals as goal

pub returns-after-loop-end-clause-within : goal.returns-after-loop-end-clause-within
returns-after-loop-end-clause-within c = λ h.
    let i = c.loop-end.invariant.1 in
    let e = c.loop-end.invariant.0 in
    let b = part_within (closes c.args.closing) c.args.text.now c.args.at h in
    omega (arith, i, b)
