use Rattle.std.proofs.Common.{rules, ◌≡◌, ℕ, false, sym, subst}
use Rattle.ae_explain.specs.Trail.{IsFalseBelow}
use Rattle.ae_explain.proofs.Testing.{refuted}
use Rattle.ae_explain.proofs.lawful.are_false.Goals as goal

pub returns-then-not-is_false_below : goal.returns-then-not-is_false_below
returns-then-not-is_false_below c =
    let no : c.is_false_below.result ≡ false = search rules in
    let item = c.lit-item.result in
    refuted c.is_false_below.result no c.is_false_below.ensures (λ all. subst (λ (n : ℕ). IsFalseBelow c.args.trail.now.assigned n item) (sym c.len.ensures) (all item (c.loop-lit.lit-index, c.loop-lit-test.true, sym c.lit-item.is)))
