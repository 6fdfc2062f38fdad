use Rattle.std.specs.Prelude.{ℕ, List, ◌≡◌, ◌++◌, map, Some}
use Rattle.std.proofs.Common.{refl, sym, ap, ◌∙◌, subst}
use Rattle.ae_multiset.specs.Multisets.{rising}
use Rattle.ae_multiset.proofs.Rising.{rising_rises}
use Rattle.ae_store.specs.Shapes.{shapes}
use Rattle.ae_store.specs.Terms.{terms}
use Rattle.ae_state_steps.specs.ManySteps.{StatesMany}
use Rattle.ae_multiset_steps.specs.Equating.{AreNamesOf}
use Rattle.ae_monoid.specs.Rules.{Contents, rule_at}
use Rattle.ae_sweeps.specs.Given.{rep_in}
use Rattle.ae_equation_turns.proofs.OrderLaws.{rising_same}
use Rattle.ae_equation_turns.proofs.RestLaws.{held_ruled}
use Rattle.ae_equation_turns.proofs.RightLaws.{renamed_falls, falls_there, held_same, held_composed, right_renamed_as}
use Rattle.ae_equation_turns.proofs.SideLaws.{names_joined, names_spelled, some_spelled}
use Rattle.ae_equation_turns.proofs.rights.rename_right.Goals as goal

pub returns-in_default-clause-ok : goal.returns-in_default-clause-ok
returns-in_default-clause-ok c = absurd (c.requires.stands (sym (ap (λ (r : Contents). rule_at r c.args.number) c.rules.ensures.rules) ∙ sym c.in_default.ensures.rule))

pub right_renamed-requires-clause-well : goal.right_renamed-requires-clause-well
right_renamed-requires-clause-well c = c.in-Some.ensures.rules.well c.args.number c.in-Some.rule.now (sym c.in-Some.ensures.rule)

pub right_renamed-requires-clause-said : goal.right_renamed-requires-clause-said
right_renamed-requires-clause-said c = c.requires.held.rules.each c.args.number c.in-Some.rule.now (sym (ap (λ (r : Contents). rule_at r c.args.number) c.rules.ensures.rules) ∙ sym c.in-Some.ensures.rule)

pub right_renamed-requires-clause-names : goal.right_renamed-requires-clause-names
right_renamed-requires-clause-names c = c.requires.names c.in-Some.rule.now (sym (ap (λ (r : Contents). rule_at r c.args.number) c.rules.ensures.rules) ∙ sym c.in-Some.ensures.rule)

pub right_renamed-requires-clause-equal : goal.right_renamed-requires-clause-equal
right_renamed-requires-clause-equal c = c.requires.equal c.in-Some.rule.now (sym (ap (λ (r : Contents). rule_at r c.args.number) c.rules.ensures.rules) ∙ sym c.in-Some.ensures.rule)

pub compose-requires-clause-some : goal.compose-requires-clause-some
compose-requires-clause-some c =
    let rule = c.in-Some.rule.now in
    let well = c.in-Some.ensures.rules.well c.args.number rule (sym c.in-Some.ensures.rule) in
    some_spelled (rep_in c.args.reps.now) rule.entry.right c.as_slice.result.now (c.as_slice.ensures ∙ c.in_ok-renamed.ensures.renamed) well.some

pub compose-requires-clause-smaller : goal.compose-requires-clause-smaller
compose-requires-clause-smaller c =
    let rule = c.in-Some.rule.now in
    let there = sym (ap (λ (r : Contents). rule_at r c.args.number) c.rules.ensures.rules) ∙ sym c.in-Some.ensures.rule in
    let well = c.in-Some.ensures.rules.well c.args.number rule (sym c.in-Some.ensures.rule) in
    falls_there (λ n. rule_at c.args.equations.now.rules n) c.args.number rule c.as_slice.result.now there
    (renamed_falls c.args.reps.now rule c.as_slice.result.now c.requires.least well (c.as_slice.ensures ∙ c.in_ok-renamed.ensures.renamed))

pub returns-in_err-renamed-clause-held : goal.returns-in_err-renamed-clause-held
returns-in_err-renamed-clause-held c =
    held_same c.args.store.now.signature (terms (shapes c.args.store.now.nodes)) c.args.justs.now c.right_renamed.new.justs c.right_renamed.ensures.kept c.args.equations.now c.args.equations.now c.requires.held refl (λ n. refl)

pub returns-in_err-compose-clause-held : goal.returns-in_err-compose-clause-held
returns-in_err-compose-clause-held c =
    held_same c.args.store.now.signature (terms (shapes c.args.store.now.nodes)) c.args.justs.now c.right_renamed.new.justs c.right_renamed.ensures.kept c.args.equations.now c.compose.new.self c.requires.held c.compose.ensures.queue
    c.in_err-compose.ensures.err

pub returns-clause-ok : goal.returns-clause-ok
returns-clause-ok c =
    let rule = c.in-Some.rule.now in
    let there = sym (ap (λ (r : Contents). rule_at r c.args.number) c.rules.ensures.rules) ∙ sym c.in-Some.ensures.rule in
    let just = c.in_ok-renamed.renamed.step in
    let e = right_renamed_as c.args.reps.now rule just c.as_slice.result.now c.in_ok-renamed.renamed.names c.as_slice.ensures c.in_ok-renamed.ensures.renamed in
    record {
      rule = rule;
      just = just;
      composed = record { there = there; is = c.in_ok-compose.ensures.rule rule there ∙ ap Some e; others = c.compose.ensures.others };
      rests = held_ruled (λ n. rule_at c.args.equations.now.rules n) rule.entry.symbol c.args.equal.now c.args.number rule there refl c.args.justs.now c.right_renamed.new.justs just c.in_ok-renamed.ensures.rests;
    }

pub returns-clause-held : goal.returns-clause-held
returns-clause-held c =
    let sig = c.args.store.now.signature in
    let ts = terms (shapes c.args.store.now.nodes) in
    let rule = c.in-Some.rule.now in
    let u = rule.entry.symbol in
    let there = sym (ap (λ (r : Contents). rule_at r c.args.number) c.rules.ensures.rules) ∙ sym c.in-Some.ensures.rule in
    let well = c.in-Some.ensures.rules.well c.args.number rule (sym c.in-Some.ensures.rule) in
    let said = c.requires.held.rules.each c.args.number rule there in
    let just = c.in_ok-renamed.renamed.step in
    let now = c.in_ok-renamed.renamed.names in
    let own = map (rep_in c.args.reps.now) rule.entry.right in
    let e : now ≡ rising c.as_slice.result.now = c.in_ok-renamed.ensures.renamed ∙ sym (ap rising (c.as_slice.ensures ∙ c.in_ok-renamed.ensures.renamed) ∙ rising_same (rising own) (rising_rises own)) in
    held_composed sig ts c.args.justs.now c.right_renamed.new.justs c.right_renamed.ensures.kept c.args.equations.now c.compose.new.self c.requires.held c.compose.ensures.queue c.args.number rule c.as_slice.result.now just
    (record { there = there; is = c.in_ok-compose.ensures.rule rule there; others = c.compose.ensures.others })
    (subst (λ (zs : List ℕ). AreNamesOf sig ts u (rule.entry.left ++ zs)) (sym c.in_ok-renamed.ensures.renamed ∙ e)
    (names_spelled sig ts u rule.entry.left own (names_joined sig ts u rule.entry.left rule.entry.right own well.some said.names (c.requires.names rule there))))
    (subst (λ (zs : List ℕ). StatesMany c.right_renamed.new.justs just u rule.entry.left zs) e c.in_ok-renamed.ensures.states)
