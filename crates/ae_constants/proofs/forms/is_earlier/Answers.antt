use Rattle.std.proofs.Common.{sym}
use Rattle.std.proofs.lemmas.Bool.{ltb-true}
use Rattle.ae_constants.proofs.forms.is_earlier.Goals as goal

pub returns-in-Some-clause-yes : goal.returns-in-Some-clause-yes
returns-in-Some-clause-yes c = λ h. (c.in-Some.part.now, sym c.in-Some.ensures, ltb-true c.in-Some.part.now.name c.args.name h)
