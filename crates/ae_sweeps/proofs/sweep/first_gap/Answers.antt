use Rattle.std.specs.Prelude.{ℕ, ◌<◌, Option, IfNone, length}
use Rattle.std.proofs.lemmas.Result.{IfOk-weaker}
use Rattle.ae_monoid.specs.declared.rules.Kept.{Kept}
use Rattle.ae_monoid.specs.Rules.{rule_at}
use Rattle.ae_settled.specs.Swept.{IsSwept}
use Rattle.ae_sweeps.specs.Given.{rep_in, entries_of}
use Rattle.ae_sweeps.specs.Inner.Parts.{AreSidesSwept, IsPairSwept, IsNameSwept}
use Rattle.ae_sweeps.specs.Inner.Entered.{AreEqual}
use Rattle.ae_sweeps.proofs.Bridges.{none_then, from_none}
use Rattle.ae_sweeps.proofs.Together.{swept}
use Rattle.ae_sweeps.proofs.sweep.first_gap.Goals as goal

pub returns-in-Some-clause-gap : goal.returns-in-Some-clause-gap
returns-in-Some-clause-gap c = rw c.in-Some.is at (c.in_ok-gap.ensures.some c.args.store.now.signature c.args.store.now.nodes)

pub returns-in-Some-2-clause-gap : goal.returns-in-Some-2-clause-gap
returns-in-Some-2-clause-gap c = rw c.in-Some-2.is at (c.in_ok-gap-2.ensures.some (entries_of c.args.rules.now))

pub returns-clause-gap : goal.returns-clause-gap
returns-clause-gap c = c.first_pair.ensures.some c.args.store.now.signature c.args.store.now.nodes (rep_in c.args.reps.now)

pub returns-clause-swept : goal.returns-clause-swept
returns-clause-swept c =
    let sig = c.args.store.now.signature in
    let nodes = c.args.store.now.nodes in
    let rep = rep_in c.args.reps.now in
    let rules = entries_of c.args.rules.now in
    let K : ℕ → Option Kept = λ n. rule_at c.args.rules.now n in
    let pairs = (m n : ℕ) → m < n → n < c.args.rules.now.next → IsPairSwept rules m n in
    let all = IsSwept sig nodes rep rules in
    let sides : (n : ℕ) → n < c.args.rules.now.next → AreSidesSwept rep rules n = from_none c.in_ok-gap.field-0 c.in_default.not-Some c.in_ok-gap.ensures.none in
    let equal : AreEqual sig nodes rep (length nodes) = from_none c.in_ok-gap-2.field-0 c.in_default-2.not-Some c.in_ok-gap-2.ensures.none in
    let names : (n : ℕ) → n < length nodes → IsNameSwept sig nodes rep rules n = from_none c.in_ok-gap-3.field-0 c.in_default-3.not-Some c.in_ok-gap-3.ensures.none in
    IfOk-weaker c.first_pair.result (λ g. IfNone g pairs) (λ g. IfNone g all)
    (λ g h. none_then g h (swept sig nodes c.len-len.ensures.store rep K c.args.rules.now.next c.rule-none.ensures.rules sides equal names)) c.first_pair.ensures.none
