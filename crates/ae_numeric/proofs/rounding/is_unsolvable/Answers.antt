use Rattle.ae_rules.specs.Linear.{form}
use Rattle.ae_rules.specs.Lines.{gap, equal}
use Rattle.ae_numeric.proofs.RoundingLaws.{Reading, turned_reading, unsolvable_apart, apart_unsolvable}
use Rattle.ae_numeric.proofs.rounding.is_unsolvable.Goals as goal

pub returns-clause-exact : goal.returns-clause-exact
returns-clause-exact c =
    let s = c.args.left.now in
    let t = c.args.right.now in
    let f = c.in_ok-gap.gap in
    let i = c.in_ok-gap.ensures.meaning in
    let r : Reading f (gap (equal s t)) = turned_reading c.difference.new.keys f (form s) (form t) i in
    (λ z. apart_unsolvable f (gap (equal s t)) i.normal r (c.is_apart.ensures.0 z), λ u. c.is_apart.ensures.1 (unsolvable_apart f (gap (equal s t)) i.normal r u))
