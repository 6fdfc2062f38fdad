use Rattle.std.proofs.Common.{[], ◌∷◌, ◌||◌, ap}
use Rattle.std.proofs.lemmas.Result.{on_ok_weaker}
use Rattle.ae_rules.specs.Lines.{Fact}
use Rattle.ae_calc.specs.Inner.Mentions.{mentions}
use Rattle.ae_check.proofs.Gathered.{gathered_as}
use Rattle.ae_check.proofs.gathering.gather_stated.Goals as goal

pub returns : goal.returns
returns c =
    on_ok_weaker c.gather_sides.result (λ g. gathered_as _ _ _ _ g (λ n s. ap (λ (f : Fact). mentions n (s ∷ []) f.left || mentions n (s ∷ []) f.right) c.stated-relation.ensures)) c.gather_sides.ensures
