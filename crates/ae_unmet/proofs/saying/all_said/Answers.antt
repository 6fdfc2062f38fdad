use Rattle.std.specs.Prelude.{ℕ, ◌≡◌}
use Rattle.std.proofs.Common.{subst, arith}
use Rattle.ae_unmet.specs.Inner.Found.{AreFirstSaid}
use Rattle.ae_unmet.proofs.SaidPlaces.{none_said, said_more}
use Rattle.ae_unmet.proofs.saying.all_said.Goals as goal

pub loop-place-init : goal.loop-place-init
loop-place-init c = none_said c.args.held.now c.new-said.result c.new-said.ensures

pub loop-place-preserved : goal.loop-place-preserved
loop-place-preserved c =
    said_more c.args.held.now c.loop-place.said c.push.new.self c.loop-place.place c.said_at.result c.loop-place.invariant c.in_ok-push.ensures.ok c.said_at.ensures

pub returns : goal.returns
returns c =
    let end : c.loop-place.place ≡ c.args.held.now.next = omega (arith, c.loop-place-test.false, c.loop-place.auto.place-end) in
    subst (λ (n : ℕ). AreFirstSaid c.args.held.now n c.loop-place.said) end c.loop-place.invariant
