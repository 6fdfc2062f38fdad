use Rattle.std.proofs.Common.{rules, ◌≡◌, true, false}
use Rattle.std.specs.Prelude.{◌↔◌}
use Rattle.std.proofs.lemmas.Result.{IfOk-weaker}
use Rattle.ae_decide.specs.Clauses.{IsCongruent}
use Rattle.ae_completed.specs.Groups.{HasValues}
use Rattle.ae_completed.proofs.Together.{refuted}
use Rattle.ae_completed.proofs.completed.has_values.Goals as goal

pub returns-then-not-computed : goal.returns-then-not-computed
returns-then-not-computed c =
    let no : c.in_ok-computed.computed ≡ false = search rules in
    refuted c.in_ok-computed.computed no c.in_ok-computed.ensures (λ q. q.computing)

pub returns-then-not-written : goal.returns-then-not-written
returns-then-not-written c =
    let no : c.in_ok-written.written ≡ false = search rules in
    refuted c.in_ok-written.written no c.in_ok-written.ensures (λ q. q.records)

pub returns : goal.returns
returns c =
    let sig = c.args.signature.now in
    let y = c.args.system.now in
    let computed : c.in_ok-computed.computed ≡ true = search rules in
    let written : c.in_ok-written.written ≡ true = search rules in
    IfOk-weaker c.is_congruent.result (λ b. (b ≡ true) ↔ IsCongruent sig y) (λ b. (b ≡ true) ↔ HasValues sig y)
    (λ b t. (
      (λ e. record { computing = c.in_ok-computed.ensures.0 computed; records = c.in_ok-written.ensures.0 written; congruence = t.0 e }),
      λ q. t.1 q.congruence,
    )) c.is_congruent.ensures
