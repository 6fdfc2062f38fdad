use Rattle.std.proofs.Common.{ap, sym, ◌∙◌, ◌&&◌}
use Rattle.ae_readers.specs.Readers.{closes, no_end}
use Rattle.ae_termreader.proofs.Forms.{lone_is}
use Rattle.ae_termreader.proofs.names.may_be_lone.Goals as goal

pub returns : goal.returns
returns c = c.may_stand.ensures ∙ sym (ap (λ f. f c.args.word.now && no_end (closes c.args.closing) c.args.word.now) lone_is)
