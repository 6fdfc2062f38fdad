use Rattle.std.proofs.Common.{below_more}
use Rattle.ae_sweeps.specs.Given.{rep_in, entries_of}
use Rattle.ae_sweeps.specs.Inner.Parts.{AreSidesSwept}
use Rattle.ae_sweeps.proofs.Bridges.{from_none}
use Rattle.ae_sweeps.proofs.sides.first_side.Goals as goal

pub returns-in-Some-clause-some : goal.returns-in-Some-clause-some
returns-in-Some-clause-some c = λ sig nodes. rw c.in-Some.is at (c.in_ok-gap.ensures.some sig nodes)

pub loop-number-preserved : goal.loop-number-preserved
loop-number-preserved c =
    let swept : AreSidesSwept (rep_in c.args.reps.now) (entries_of c.args.rules.now) c.loop-number.number = from_none c.in_ok-gap.field-0 c.in_default.not-Some c.in_ok-gap.ensures.none in
    λ n l. below_more (AreSidesSwept (rep_in c.args.reps.now) (entries_of c.args.rules.now)) c.loop-number.number c.loop-number.invariant swept n l
