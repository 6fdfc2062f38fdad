use Rattle.std.specs.Prelude.{ℕ, ◌<◌}
use Rattle.std.proofs.Common.{below_more}
use Rattle.ae_sweeps.specs.Given.{entries_of}
use Rattle.ae_sweeps.specs.Inner.Parts.{IsPairSwept}
use Rattle.ae_sweeps.proofs.Bridges.{from_none}
use Rattle.ae_sweeps.proofs.pairs.first_pair.Goals as goal

pub returns-in-Some-clause-some : goal.returns-in-Some-clause-some
returns-in-Some-clause-some c = λ sig nodes rep. rw c.in-Some.is at (c.in_ok-gap.ensures.some sig nodes rep)

pub loop-second-preserved : goal.loop-second-preserved
loop-second-preserved c =
    let swept : (m : ℕ) → m < c.loop-second.second → IsPairSwept (entries_of c.args.rules.now) m c.loop-second.second = from_none c.in_ok-gap.field-0 c.in_default.not-Some c.in_ok-gap.ensures.none in
    λ m n l k. below_more (λ j. (i : ℕ) → i < j → IsPairSwept (entries_of c.args.rules.now) i j) c.loop-second.second (λ j h i b. c.loop-second.invariant i j b h) swept n k m l
