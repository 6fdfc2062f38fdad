use Rattle.std.proofs.Common.{◌+◌, drop}
use Rattle.ae_choices.proofs.WholeForms.{whole_end, whole_fault, whole_more}
use Rattle.ae_stategrammar.specs.Journals.{story}
use Rattle.ae_storyreader.proofs.stories.read_whole.Goals as goal

pub returns-in-Some : goal.returns-in-Some
returns-in-Some c =
    whole_more (story c.args.tables.now.terms.signature.now) c.args.text.now c.in-Ok.found c.in-Ok.next c.in-Some.field-0 (drop (c.in-Ok.next + 1) c.args.text.now) c.in-Ok.ensures.exact c.in-Some.ensures.some

pub returns-in-Err : goal.returns-in-Err
returns-in-Err c = whole_fault (story c.args.tables.now.terms.signature.now) c.args.text.now c.in-Err.fault c.in-Err.ensures.exact

pub returns-in_default : goal.returns-in_default
returns-in_default c = whole_end (story c.args.tables.now.terms.signature.now) c.args.text.now c.in-Ok.found c.in-Ok.next c.in-Ok.ensures.exact c.in_default.ensures.none
