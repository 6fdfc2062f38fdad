use Rattle.std.specs.Prelude.{◌≡◌, Option, MatchOption}
use Rattle.std.proofs.Common.{arith, subst}
use Rattle.ae_core.specs.declared.formulas.Formula.{Eq}
use Rattle.ae_core.specs.declared.formulas.Lit.{Lit}
use Rattle.ae_core.specs.declared.terms.Term.{Term}
use Rattle.ae_rules.specs.Clauses.{is_false}
use Rattle.ae_unordered.proofs.Deciding.{all_ordered, one_more}
use Rattle.ae_unordered.specs.Inner.Sides.{BothSaid}
use Rattle.ae_unordered.specs.Unordered.{IsOpenPair}
use Rattle.ae_unordered.specs.declared.pairs.Pair.{Pair}
use Rattle.ae_unordered.proofs.pairs.next_unordered.Goals as goal

pub loop-place-init : goal.loop-place-init
loop-place-init c = λ k l. absurd (omega (arith, l))

pub returns-in-Some : goal.returns-in-Some
returns-in-Some c =
    let t = c.args.trail.now.assigned in
    subst (λ (found : Option Pair). MatchOption found ((v w : Term) → c.lit_at.result.now ≡ is_false (Eq v w) → BothSaid t v w) (IsOpenPair t)) c.in-Some.is c.in_ok-found.ensures

pub loop-place-preserved : goal.loop-place-preserved
loop-place-preserved c =
    let t = c.args.trail.now.assigned in
    one_more t c.loop-place.place c.loop-place.invariant
    (subst (λ (m : Lit). (v w : Term) → m ≡ is_false (Eq v w) → BothSaid t v w) c.lit_at.ensures
    (subst (λ (found : Option Pair). MatchOption found ((v w : Term) → c.lit_at.result.now ≡ is_false (Eq v w) → BothSaid t v w) (IsOpenPair t)) c.in-None.is c.in_ok-found.ensures))

pub returns : goal.returns
returns c =
    let e = c.loop-place-test.false in
    let n = c.len-place-end.ensures in
    all_ordered c.args.trail.now.assigned c.loop-place.place c.loop-place.invariant (λ l. omega (arith, l, e, n))
