use Rattle.std.proofs.Common.{arith, ap, sym, ◌∙◌, ◌≡◌, ◌-◌, ◌+◌, ◌<◌, length}
use Rattle.ae_codes.specs.Codes.{stops}
use Rattle.ae_readers.specs.Names.{form_of}
use Rattle.ae_readers.specs.Readers.{closes}
use Rattle.ae_readers.proofs.NameReading.{part_found, part_lost}
use Rattle.ae_readers.proofs.names.read_word.Goals as goal

pub returns-in-Some-clause-read : goal.returns-in-Some-clause-read
returns-in-Some-clause-read c =
    let count = c.part_length-count.result in
    let h : c.args.at + count < length c.args.text.now = omega arith in
    let cut : c.args.at + count - c.args.at ≡ count = omega arith in
    part_found (closes c.args.closing) (form_of c.args.form) c.args.words.now c.args.text.now c.args.at count (c.args.at + count - c.args.at) c.in-Some.found
    c.part_length-count.ensures.count cut h c.in-Some.ensures.some c.in-Some.ensures.place

pub returns-in-None-clause-read : goal.returns-in-None-clause-read
returns-in-None-clause-read c =
    let count = c.part_length-count.result in
    let h : c.args.at + count < length c.args.text.now = omega arith in
    let cut : c.args.at + count - c.args.at ≡ count = omega arith in
    part_lost (closes c.args.closing) (form_of c.args.form) c.args.words.now c.args.text.now c.args.at count (c.args.at + count - c.args.at)
    c.part_length-count.ensures.count cut h c.in-None.ensures.none
    ∙ ap stops (sym c.wrong_place-in-None.ensures.behind)
