use Rattle.std.proofs.Common.{arith, ◌≡◌, ◌-◌, ◌+◌, ◌<◌, length}
use Rattle.ae_readers.specs.Names.{form_of}
use Rattle.ae_readers.specs.Readers.{closes}
use Rattle.ae_readers.proofs.NameReading.{part_found}
use Rattle.ae_termreader.proofs.names.find_named.Goals as goal

pub returns-in-Some-clause-read : goal.returns-in-Some-clause-read
returns-in-Some-clause-read c =
    let count = c.part_length-count.result in
    let h : c.args.at + count < length c.args.text.now = omega arith in
    let cut : c.args.at + count - c.args.at ≡ count = omega arith in
    part_found (closes c.args.closing) (form_of c.args.form) c.args.names.now.words c.args.text.now c.args.at count (c.args.at + count - c.args.at) c.in-Some.found
    c.part_length-count.ensures.count cut h c.in-Some.ensures.some c.in-Some.ensures.place
