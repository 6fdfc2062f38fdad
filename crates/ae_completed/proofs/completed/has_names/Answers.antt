use Rattle.std.proofs.Common.{rules, ◌≡◌, true, false}
use Rattle.std.specs.Prelude.{◌↔◌}
use Rattle.std.proofs.lemmas.Result.{IfOk-weaker}
use Rattle.ae_decide.specs.Clauses.{HasLeaves}
use Rattle.ae_completed.specs.Groups.{HasNames}
use Rattle.ae_completed.proofs.Together.{refuted}
use Rattle.ae_completed.proofs.completed.has_names.Goals as goal

pub returns-then-not-closed : goal.returns-then-not-closed
returns-then-not-closed c =
    let no : c.in_ok-closed.closed ≡ false = search rules in
    refuted c.in_ok-closed.closed no c.in_ok-closed.ensures (λ q. q.terms)

pub returns : goal.returns
returns c =
    let sig = c.args.signature.now in
    let y = c.args.system.now in
    let yes : c.in_ok-closed.closed ≡ true = search rules in
    IfOk-weaker c.has_leaves.result (λ b. (b ≡ true) ↔ HasLeaves sig y) (λ b. (b ≡ true) ↔ HasNames sig y)
    (λ b t. ((λ e. record { terms = c.in_ok-closed.ensures.0 yes; leaves = t.0 e }), λ q. t.1 q.leaves)) c.has_leaves.ensures
