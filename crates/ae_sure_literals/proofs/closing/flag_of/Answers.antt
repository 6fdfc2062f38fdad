use Rattle.std.proofs.Common.{◌∙◌, sym}
use Rattle.std.proofs.lemmas.Option.{none-some}
use Rattle.ae_sure_literals.proofs.closing.flag_of.Goals as goal

pub returns-in-None : goal.returns-in-None
returns-in-None c = λ k l e. absurd (none-some k (sym c.in-None.is ∙ c.place_of.ensures.only k l e))
