use Rattle.std.proofs.Common.{arith, refl, sym, subst, ◌∙◌, inl, inr, ◌<◌}
use Rattle.std.specs.List.{Contains}
use Rattle.std.proofs.lemmas.Bool.{cases_eq}
use Rattle.ae_base.proofs.Tests.{false_true}
use Rattle.ae_trim.specs.Used.{hints_at}
use Rattle.ae_trim.proofs.Marking.{hints_here}
use Rattle.ae_trim.proofs.Keeping.{hints_there}
use Rattle.ae_trim.proofs.used.hint_earlier.Goals as goal

pub returns-then-not-are_before : goal.returns-then-not-are_before
returns-then-not-are_before c =
    let ls = c.args.lines.now in let i = c.loop-i.i in
    let e = hints_here ls i c.index-lines-i.result c.hints_of.result.now c.loop-i-test.true c.index-lines-i.is c.hints_of.ensures in
    (λ t. false_true t, λ h. sym c.if-not-are_before.true ∙ c.are_before.ensures.1 (λ k w. h.each i k (subst (λ z. Contains z k) (sym e) w)))

pub loop-i-preserved : goal.loop-i-preserved
loop-i-preserved c =
    let ls = c.args.lines.now in let i = c.loop-i.i in
    let e = hints_here ls i c.index-lines-i.result c.hints_of.result.now c.loop-i-test.true c.index-lines-i.is c.hints_of.ensures in
    λ j k l h. elim (cases_eq j i) [
      | inl q ↦ subst (λ n. k < n) (sym q) (c.are_before.ensures.0 c.if-not-are_before.false k (subst (λ z. Contains z k) e (subst (λ n. Contains (hints_at ls n) k) q h)))
      | inr d ↦ c.loop-i.invariant j k (omega (arith, l, d)) h
    ]

pub returns : goal.returns
returns c =
    let ls = c.args.lines.now in let i = c.loop-i.i in
    (λ t. record { each = λ j k h. (let b = hints_there ls j k h in c.loop-i.invariant j k (omega (arith, b, c.loop-i-test.false)) h) }, λ h. refl)
