use Rattle.std.proofs.Common.{arith, refl, sym, subst, inl, inr, ◌<◌, get_or, take, take_all}
use Rattle.std.specs.List.{Contains}
use Rattle.std.proofs.lemmas.List.{take_more}
use Rattle.std.proofs.lemmas.List.Elements.{Contains-get_or, Contains-push_cases}
use Rattle.ae_base.proofs.Tests.{false_true}
use Rattle.ae_trim.proofs.used.are_before.Goals as goal

pub returns-then-other-place : goal.returns-then-other-place
returns-then-other-place c =
    let ps = c.args.places.now in let i = c.loop-other.other-index in
    (λ t. false_true t, λ h. absurd (let l = h (get_or ps i 0) (Contains-get_or ps i 0 c.loop-other-test.true) in omega (arith, l, c.if-other-place.true)))

pub loop-other-preserved : goal.loop-other-preserved
loop-other-preserved c =
    let ps = c.args.places.now in let i = c.loop-other.other-index in
    λ k h. elim (Contains-push_cases (take i ps) (get_or ps i 0) k (subst (λ z. Contains z k) (take_more ps i 0 c.loop-other-test.true) h)) [
      | inl w ↦ c.loop-other.invariant k w
      | inr q ↦ subst (λ m. m < c.args.place) q c.if-other-place.false
    ]

pub returns : goal.returns
returns c =
    let ps = c.args.places.now in let i = c.loop-other.other-index in
    (λ t k h. c.loop-other.invariant k (subst (λ z. Contains z k) (sym (take_all i ps c.loop-other-test.false)) h), λ h. refl)
