use Rattle.std.specs.Prelude.{ℕ, List, ◌≡◌, ◌<◌, ◌++◌, length, Some, Option}
use Rattle.std.proofs.Common.{refl, sym, ap, ◌∙◌, subst}
use Rattle.ae_multiset.specs.Multisets.{rising}
use Rattle.ae_store.specs.Shapes.{shapes}
use Rattle.ae_store.specs.Terms.{terms}
use Rattle.ae_state_steps.specs.ManySteps.{StatesMany}
use Rattle.ae_multiset_steps.specs.Equating.{AreNamesOf}
use Rattle.ae_monoid.specs.declared.rules.Kept.{Kept}
use Rattle.ae_monoid.specs.Rules.{Contents, rule_at}
use Rattle.ae_rule_steps.specs.Said.{AreSaid}
use Rattle.ae_equation_turns.specs.Turned.{IsRightReduced}
use Rattle.ae_equation_turns.proofs.OrderLaws.{some_reduced, rising_same}
use Rattle.ae_equation_turns.proofs.RightLaws.{reduced_falls, falls_there, falls_as, held_same, held_composed, right_as}
use Rattle.ae_equation_turns.proofs.SideLaws.{names_reduced, own_reduced, descends_reduced}
use Rattle.ae_equation_turns.proofs.rights.reduce_right.Goals as goal

pub returns-in_default-clause-ok : goal.returns-in_default-clause-ok
returns-in_default-clause-ok c = absurd (c.requires.stands (sym (ap (λ (r : Contents). rule_at r c.args.number) c.rules-rules.ensures.rules) ∙ sym c.in_default.ensures.rule))

pub right_reduced-requires-clause-well : goal.right_reduced-requires-clause-well
right_reduced-requires-clause-well c = c.in-Some.ensures.rules.well c.args.number c.in-Some.rule.now (sym c.in-Some.ensures.rule)

pub right_reduced-requires-clause-there : goal.right_reduced-requires-clause-there
right_reduced-requires-clause-there c = sym c.in-Some.ensures.rule

pub right_reduced-requires-clause-said : goal.right_reduced-requires-clause-said
right_reduced-requires-clause-said c =
    subst (λ (r : Contents). AreSaid c.args.store.now.signature (terms (shapes c.args.store.now.nodes)) c.args.justs.now (λ n. rule_at r n)) (sym c.rules-rules.ensures.rules) c.requires.held.rules

pub compose-requires-clause-some : goal.compose-requires-clause-some
compose-requires-clause-some c =
    let rule = c.in-Some.rule.now in
    let rules = c.in-Some.ensures.rules in
    let well = rules.well c.args.number rule (sym c.in-Some.ensures.rule) in
    subst (λ (zs : List ℕ). 0 < length zs) (sym c.as_slice.ensures) (some_reduced (λ n. rule_at c.rules-rules.result.now n) c.rules-rules.result.now.next rule.entry.symbol rules c.in_ok-reached.ensures.follows well.some)

pub compose-requires-clause-smaller : goal.compose-requires-clause-smaller
compose-requires-clause-smaller c =
    let rule = c.in-Some.rule.now in
    let there = sym (ap (λ (r : Contents). rule_at r c.args.number) c.rules-rules.ensures.rules) ∙ sym c.in-Some.ensures.rule in
    let rules = c.in-Some.ensures.rules in
    let well = rules.well c.args.number rule (sym c.in-Some.ensures.rule) in
    let falls = reduced_falls (λ n. rule_at c.rules-rules.result.now n) c.rules-rules.result.now.next rule c.in_ok-reached.reached.names rules well c.in_ok-reached.ensures.follows in
    falls_there (λ n. rule_at c.args.equations.now.rules n) c.args.number rule c.as_slice.result.now there (falls_as rule c.as_slice.result.now c.in_ok-reached.reached.names c.as_slice.ensures falls)

pub returns-in_err-reached-clause-held : goal.returns-in_err-reached-clause-held
returns-in_err-reached-clause-held c =
    held_same c.args.store.now.signature (terms (shapes c.args.store.now.nodes)) c.args.justs.now c.right_reduced.new.justs c.right_reduced.ensures.kept c.args.equations.now c.args.equations.now c.requires.held refl (λ n. refl)

pub returns-in_err-compose-clause-held : goal.returns-in_err-compose-clause-held
returns-in_err-compose-clause-held c =
    held_same c.args.store.now.signature (terms (shapes c.args.store.now.nodes)) c.args.justs.now c.right_reduced.new.justs c.right_reduced.ensures.kept c.args.equations.now c.compose.new.self c.requires.held c.compose.ensures.queue
    c.in_err-compose.ensures.err

pub returns-clause-ok : goal.returns-clause-ok
returns-clause-ok c =
    let kept : ℕ → Option Kept = λ n. rule_at c.rules-rules.result.now n in
    let rule = c.in-Some.rule.now in
    let u = rule.entry.symbol in
    let now = c.in_ok-reached.reached.names in
    let just = c.in_ok-reached.reached.step in
    let there = sym (ap (λ (r : Contents). rule_at r c.args.number) c.rules-rules.ensures.rules) ∙ sym c.in-Some.ensures.rule in
    let well = c.in-Some.ensures.rules.well c.args.number rule (sym c.in-Some.ensures.rule) in
    subst (λ (r : Contents). IsRightReduced (λ n. rule_at r n) (λ n. rule_at c.compose.new.self.rules n) c.args.justs.now c.right_reduced.new.justs c.args.number) c.rules-rules.ensures.rules
    (record {
      rule = rule;
      right = now;
      just = just;
      composed =
          record {
            there = sym c.in-Some.ensures.rule;
            is = c.in_ok-compose.ensures.rule rule there ∙ ap Some (right_as rule just c.as_slice.result.now now c.as_slice.ensures);
            others = λ n d. c.compose.ensures.others n d ∙ sym (ap (λ (r : Contents). rule_at r n) c.rules-rules.ensures.rules);
          };
      reduced = c.in_ok-reached.ensures.reduced;
      descends = λ reps. descends_reduced reps kept u c.in_ok-reached.ensures.follows;
      own = λ reps rights. own_reduced reps kept u rights c.in_ok-reached.ensures.follows (rights.each c.args.number rule (sym c.in-Some.ensures.rule));
      rests = c.in_ok-reached.ensures.rests;
    })

pub returns-clause-held : goal.returns-clause-held
returns-clause-held c =
    let sig = c.args.store.now.signature in
    let ts = terms (shapes c.args.store.now.nodes) in
    let kept : ℕ → Option Kept = λ n. rule_at c.rules-rules.result.now n in
    let rule = c.in-Some.rule.now in
    let u = rule.entry.symbol in
    let now = c.in_ok-reached.reached.names in
    let just = c.in_ok-reached.reached.step in
    let there = sym (ap (λ (r : Contents). rule_at r c.args.number) c.rules-rules.ensures.rules) ∙ sym c.in-Some.ensures.rule in
    let all = subst (λ (r : Contents). AreSaid sig ts c.args.justs.now (λ n. rule_at r n)) (sym c.rules-rules.ensures.rules) c.requires.held.rules in
    let said = c.requires.held.rules.each c.args.number rule there in
    let e : now ≡ rising c.as_slice.result.now = sym (ap rising c.as_slice.ensures ∙ rising_same now c.in_ok-reached.ensures.rises) in
    held_composed sig ts c.args.justs.now c.right_reduced.new.justs c.right_reduced.ensures.kept c.args.equations.now c.compose.new.self c.requires.held c.compose.ensures.queue c.args.number rule c.as_slice.result.now just
    (record { there = there; is = c.in_ok-compose.ensures.rule rule there; others = c.compose.ensures.others })
    (subst (λ (zs : List ℕ). AreNamesOf sig ts u (rule.entry.left ++ zs)) e
    (names_reduced sig ts c.args.justs.now kept c.rules-rules.result.now.next u c.in-Some.ensures.rules all rule.entry.left rule.entry.right said.names c.in_ok-reached.ensures.follows))
    (subst (λ (zs : List ℕ). StatesMany c.right_reduced.new.justs just u rule.entry.left zs) e c.in_ok-reached.ensures.states)
