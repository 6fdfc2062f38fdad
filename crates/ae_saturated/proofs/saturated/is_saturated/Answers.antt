use Rattle.std.proofs.Common.{rules, ◌≡◌, true, false, sym, ◌∙◌, length}
use Rattle.std.specs.List.{list_all}
use Rattle.ae_saturated.specs.Firsts.{none_generic}
use Rattle.ae_saturated.specs.Literals.{is_closed}
use Rattle.ae_base.proofs.Tests.{false_true}
use Rattle.ae_saturated.proofs.FirstTests.{open_literal, open_axiom}
use Rattle.ae_saturated.proofs.StateTests.{told_yes, told_no, not_completed}
use Rattle.ae_saturated.proofs.saturated.is_saturated.Goals as goal

pub returns-then-not-closed : goal.returns-then-not-closed
returns-then-not-closed c =
    let no : list_all is_closed c.args.state.now.literals ≡ false = search rules in
    open_literal c.args.problem.now c.args.goal c.args.state.now no

pub returns-then-not-plain : goal.returns-then-not-plain
returns-then-not-plain c =
    let no : none_generic c.args.problem.now c.args.goal (length c.args.problem.now.items) ≡ false = search rules in
    open_axiom c.args.problem.now c.args.goal c.args.state.now no

pub returns-then-not-completed : goal.returns-then-not-completed
returns-then-not-completed c =
    let closed : list_all is_closed c.args.state.now.literals ≡ true = search rules in
    let plain : none_generic c.args.problem.now c.args.goal (length c.args.problem.now.items) ≡ true = search rules in
    let no : c.in_ok-completed.completed ≡ false = search rules in
    not_completed c.args.problem.now c.args.goal c.args.state.now closed plain (λ k. false_true (sym no ∙ c.in_ok-completed.ensures.1 k))

pub returns-then-not-fitting : goal.returns-then-not-fitting
returns-then-not-fitting c =
    let closed : list_all is_closed c.args.state.now.literals ≡ true = search rules in
    let plain : none_generic c.args.problem.now c.args.goal (length c.args.problem.now.items) ≡ true = search rules in
    let yes : c.in_ok-completed.completed ≡ true = search rules in
    let no : c.in_ok-fitting.fitting ≡ false = search rules in
    told_no c.args.problem.now c.args.goal c.args.state.now (c.in_ok-completed.ensures.0 yes) closed plain (sym c.in_ok-fitting.ensures ∙ no)

pub returns : goal.returns
returns c =
    let closed : list_all is_closed c.args.state.now.literals ≡ true = search rules in
    let plain : none_generic c.args.problem.now c.args.goal (length c.args.problem.now.items) ≡ true = search rules in
    let completed : c.in_ok-completed.completed ≡ true = search rules in
    let fitting : c.in_ok-fitting.fitting ≡ true = search rules in
    told_yes c.args.problem.now c.args.goal c.args.state.now (c.in_ok-completed.ensures.0 completed) closed plain (sym c.in_ok-fitting.ensures ∙ fitting)
