use Rattle.std.proofs.Common.{rules, ◌≡◌, true, false}
use Rattle.std.specs.Prelude.{◌↔◌}
use Rattle.std.proofs.lemmas.Result.{IfOk-weaker}
use Rattle.ae_decide.specs.Clauses.{AllNamesJoin}
use Rattle.ae_completed.specs.Groups.{HasRules}
use Rattle.ae_completed.proofs.Together.{refuted, rules_fall}
use Rattle.ae_completed.proofs.completed.has_rules.Goals as goal

pub returns-then-not-fit : goal.returns-then-not-fit
returns-then-not-fit c =
    let no : c.in_ok-fit.fit ≡ false = search rules in
    refuted c.in_ok-fit.fit no c.in_ok-fit.ensures (λ q. q.rules)

pub returns-then-not-reduced : goal.returns-then-not-reduced
returns-then-not-reduced c =
    let no : c.in_ok-reduced.reduced ≡ false = search rules in
    refuted c.in_ok-reduced.reduced no (c.in_ok-reduced.ensures c.args.signature.now) (λ q. q.reduction)

pub returns-then-not-deduced : goal.returns-then-not-deduced
returns-then-not-deduced c =
    let no : c.in_ok-deduced.deduced ≡ false = search rules in
    refuted c.in_ok-deduced.deduced no (c.in_ok-deduced.ensures c.args.signature.now) (λ q. q.overlaps)

pub overlaps_join-requires : goal.overlaps_join-requires
overlaps_join-requires c =
    let fit : c.in_ok-fit.fit ≡ true = search rules in
    record { falls = rules_fall c.args.signature.now c.args.system.now (c.in_ok-fit.ensures.0 fit) }

pub names_join-requires-clause-overlaps : goal.names_join-requires-clause-overlaps
names_join-requires-clause-overlaps c =
    let deduced : c.in_ok-deduced.deduced ≡ true = search rules in
    (c.in_ok-deduced.ensures c.args.signature.now).0 deduced

pub returns : goal.returns
returns c =
    let sig = c.args.signature.now in
    let y = c.args.system.now in
    let fit : c.in_ok-fit.fit ≡ true = search rules in
    let reduced : c.in_ok-reduced.reduced ≡ true = search rules in
    let deduced : c.in_ok-deduced.deduced ≡ true = search rules in
    IfOk-weaker c.names_join.result (λ b. (b ≡ true) ↔ AllNamesJoin sig y) (λ b. (b ≡ true) ↔ HasRules sig y)
    (λ b t. (
      (λ e. record {
        rules = c.in_ok-fit.ensures.0 fit;
        reduction = (c.in_ok-reduced.ensures sig).0 reduced;
        overlaps = (c.in_ok-deduced.ensures sig).0 deduced;
        joins = t.0 e;
      }),
      λ q. t.1 q.joins,
    )) c.names_join.ensures
