use Rattle.std.proofs.Common.{ap, sym, ◌∙◌, subst}
use Rattle.ae_types.specs.Inner.Graphs.{class_at}
use Rattle.ae_types.specs.Inner.Joins.{Shortened}
use Rattle.ae_types.proofs.LinkLaws.{shortened_set}
use Rattle.ae_types.proofs.graph.shorten.Goals as goal

pub returns-in_ok-write-clause-shortened : goal.returns-in_ok-write-clause-shortened
returns-in_ok-write-clause-shortened c =
    subst (Shortened c.args.classes.now) (sym c.in_ok-write.ensures.ok)
    (shortened_set c.args.classes.now c.args.at c.args.next c.in-Link.far c.requires.down c.requires.within c.requires.link
    (ap (λ xs. class_at xs c.args.next) (sym c.as_slice.ensures) ∙ c.in-Link.is))
