use Rattle.std.proofs.Common.{◌≡◌, take, ap, ◌∙◌, arith}
use Rattle.ae_theory.specs.Names.{terms_in}
use Rattle.ae_state.proofs.Shown.{first_pushed}
use Rattle.ae_state.proofs.showing.first_terms.Goals as goal

pub loop-name-preserved : goal.loop-name-preserved
loop-name-preserved c =
    first_pushed (terms_in c.args.store.now) c.loop-name.terms c.push.new.self c.loop-name.name c.in_ok-term.field-0 c.loop-name.invariant c.in_ok-push.ensures.ok c.in_ok-term.ensures.term

pub returns : goal.returns
returns c =
    let here : c.loop-name.name ≡ c.args.count = omega (arith, c.loop-name-test.false, c.loop-name.auto.name-end) in
    c.loop-name.invariant ∙ ap (λ n. take n (terms_in c.args.store.now)) here
