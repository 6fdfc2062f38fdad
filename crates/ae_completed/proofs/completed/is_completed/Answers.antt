use Rattle.std.proofs.Common.{rules, ◌≡◌, true, false}
use Rattle.std.specs.Prelude.{◌↔◌}
use Rattle.std.proofs.lemmas.Result.{IfOk-weaker}
use Rattle.ae_journal.specs.Systems.{IsCompleted}
use Rattle.ae_completed.specs.Groups.{HasRules}
use Rattle.ae_completed.proofs.Together.{refuted, completed, names_of, values_of, rules_of}
use Rattle.ae_completed.proofs.completed.is_completed.Goals as goal

pub returns-then-not-named : goal.returns-then-not-named
returns-then-not-named c =
    let no : c.in_ok-named.named ≡ false = search rules in
    refuted c.in_ok-named.named no c.in_ok-named.ensures (names_of c.args.signature.now c.args.system.now)

pub returns-then-not-valued : goal.returns-then-not-valued
returns-then-not-valued c =
    let no : c.in_ok-valued.valued ≡ false = search rules in
    refuted c.in_ok-valued.valued no c.in_ok-valued.ensures (values_of c.args.signature.now c.args.system.now)

pub returns : goal.returns
returns c =
    let sig = c.args.signature.now in
    let y = c.args.system.now in
    let named : c.in_ok-named.named ≡ true = search rules in
    let valued : c.in_ok-valued.valued ≡ true = search rules in
    IfOk-weaker c.has_rules.result (λ b. (b ≡ true) ↔ HasRules sig y) (λ b. (b ≡ true) ↔ IsCompleted sig y)
    (λ b t. (
      (λ e. completed sig y (c.in_ok-named.ensures.0 named) (c.in_ok-valued.ensures.0 valued) (t.0 e)),
      λ q. t.1 (rules_of sig y q),
    )) c.has_rules.ensures
