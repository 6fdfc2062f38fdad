use Rattle.std.proofs.Common.{◌≡◌, take, length, ap, ◌∙◌, arith}
use Rattle.std.proofs.Math.Seq.{take-length}
use Rattle.ae_theory.specs.Names.{terms_in}
use Rattle.ae_stories.proofs.Names.{term_pushed, as_many}
use Rattle.ae_stories.proofs.telling.names_of.Goals as goal

pub loop-name-preserved : goal.loop-name-preserved
loop-name-preserved c =
    term_pushed (terms_in c.args.store.now) c.loop-name.names c.push.new.self c.loop-name.name c.in_ok-term.field-0 c.loop-name.invariant c.in_ok-push.ensures.ok c.in_ok-term.ensures.term

pub returns : goal.returns
returns c =
    let here : c.loop-name.name ≡ length (terms_in c.args.store.now) = omega (arith, c.loop-name-test.false, c.loop-name.auto.name-end, c.len-name-end.ensures.len, as_many c.args.store.now) in
    c.loop-name.invariant ∙ ap (λ n. take n (terms_in c.args.store.now)) here ∙ take-length (terms_in c.args.store.now)
