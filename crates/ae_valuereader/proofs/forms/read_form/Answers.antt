use Rattle.std.proofs.Common.{drop}
use Rattle.ae_readers.proofs.Exactness.{exactly_by, same_read}
use Rattle.ae_valuereader.proofs.FormReading.{form_is}
use Rattle.ae_valuereader.proofs.forms.read_form.Goals as goal
use Rattle.ae_valuetext.specs.Lins.{linear_form}

pub returns-clause-read : goal.returns-clause-read
returns-clause-read c = same_read c.args.text.now _ _ _ (form_is (drop c.args.at c.args.text.now)) c.read_opened.ensures.read

pub returns-clause-exact : goal.returns-clause-exact
returns-clause-exact c = exactly_by linear_form _ form_is c.args.text.now c.args.at _ c.read_opened.ensures.read
