use Rattle.ae_sweeps.proofs.pairs.first_partner.Goals as goal

pub returns-in-Some-clause-some : goal.returns-in-Some-clause-some
returns-in-Some-clause-some c = λ sig nodes rep. rw c.in-Some.is at (c.in_ok-gap.ensures.some sig nodes rep)
