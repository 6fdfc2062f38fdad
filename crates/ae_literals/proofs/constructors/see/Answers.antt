use Rattle.std.proofs.Common.{◌≡◌, ◌+◌, set, get_or, Some, None, sym, ◌∙◌, subst}
use Rattle.ae_base.proofs.Tests.{false_true}
use Rattle.ae_sweeps.specs.Given.{rep_in}
use Rattle.ae_literals.specs.Inner.Seen.{AreSeen}
use Rattle.ae_literals.proofs.SeenConstructors.{skipped, noted, seen_again, constructor_within, rep_below, is_none}
use Rattle.ae_literals.proofs.constructors.see.Goals as goal

pub returns-then-not-names_constructor-clause-none : goal.returns-then-not-names_constructor-clause-none
returns-then-not-names_constructor-clause-none c =
    skipped c.args.store.now.signature c.args.store.now.nodes (rep_in c.args.reps.now) c.args.seen.now.items c.args.name c.requires.seen
    (λ k. false_true (sym c.if-not-names_constructor.true ∙ c.names_constructor.ensures.1 k))

pub returns-in_default-clause-none : goal.returns-in_default-clause-none
returns-in_default-clause-none c =
    let sig = c.args.store.now.signature in
    let nodes = c.args.store.now.nodes in
    let rep = rep_in c.args.reps.now in
    let seen = c.args.seen.now.items in
    let is : c.representative-rep.result ≡ rep c.args.name = c.representative-rep.ensures in
    let none : get_or seen (rep c.args.name) None ≡ None =
    (λ i. get_or (sym c.deref.ensures.value i) (sym is i) None) ∙ sym c.seen_of.ensures ∙ is_none c.seen_of.result c.in_default.not-Some in
    subst (λ r. AreSeen sig nodes rep (set seen r (Some c.args.name)) (c.args.name + 1)) (sym is)
    (noted sig nodes rep seen c.args.name c.requires.seen none (rep_below _ c.args.reps.now c.args.name c.requires.reps c.requires.name) (c.names_constructor.ensures.0 c.if-not-names_constructor.false))

pub clash-requires-clause-left : goal.clash-requires-clause-left
clash-requires-clause-left c =
    let seen = c.args.seen.now.items in
    let is : get_or seen c.representative-rep.result None ≡ Some c.in-Some.first = (λ i. get_or (sym c.deref.ensures.value i) c.representative-rep.result None) ∙ sym c.seen_of.ensures ∙ c.in-Some.is in
    constructor_within c.args.store.now.signature c.args.store.now.nodes (rep_in c.args.reps.now) c.in-Some.first (c.requires.seen.only c.representative-rep.result c.in-Some.first is).1

pub returns-clause-none : goal.returns-clause-none
returns-clause-none c =
    let seen = c.args.seen.now.items in
    let rep = rep_in c.args.reps.now in
    let is : get_or seen (rep c.args.name) None ≡ Some c.in-Some.first =
    (λ i. get_or (sym c.deref.ensures.value i) (sym c.representative-rep.ensures i) None) ∙ sym c.seen_of.ensures ∙ c.in-Some.is in
    seen_again c.args.store.now.signature c.args.store.now.nodes rep seen c.args.name c.requires.seen c.in-Some.first is (λ d. false_true (sym c.if-clash.false ∙ c.clash.ensures.1 d))
