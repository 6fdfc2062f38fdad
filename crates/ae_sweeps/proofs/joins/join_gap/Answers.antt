use Rattle.std.specs.Prelude.{ℕ, List, [], ◌∷◌, ◌≡◌, Option}
use Rattle.std.proofs.Common.{sym, ap, ◌∙◌, subst}
use Rattle.std.proofs.lemmas.Option.{same_Some}
use Rattle.ae_core.specs.declared.terms.Sort.{Sort}
use Rattle.ae_core.specs.declared.problems.AcSymbol.{AcSymbol}
use Rattle.ae_store.specs.declared.nodes.Node.{Node}
use Rattle.ae_monoid.specs.declared.rules.Kept.{Kept}
use Rattle.ae_monoid.specs.Rules.{rule_at}
use Rattle.ae_monoid.specs.Reductions.{ReducesBy}
use Rattle.ae_sweeps.specs.Given.{rep_in}
use Rattle.ae_sweeps.proofs.JoinedNames.{flat, unflat}
use Rattle.ae_sweeps.proofs.joins.join_gap.Goals as goal

pub returns-then-not-same_names-clause-some : goal.returns-then-not-same_names-clause-some
returns-then-not-same_names-clause-some c =
    let store = c.args.store.now in
    let rep = rep_in c.args.reps.now in
    let K : ℕ → Option Kept = λ n. rule_at c.args.rules.now n in
    let join = c.args.join in
    let joined = c.requires.joined in
    let names = c.in_ok-names.names in
    let ss : List Sort = c.in_ok-copy_sorts.field-0 in
    let sorts : ss ≡ joined.node.sorts = c.in_ok-copy_sorts.ensures ∙ c.as_slice.ensures ∙ ap (λ (p : Node). p.sorts) (same_Some c.node.result.now joined.node (sym c.node.ensures.node ∙ joined.at)) in
    let u : AcSymbol = record { head = join.head; sorts = ss } in
    let pair : c.deref.result.now ≡ rep join.left ∷ rep join.right ∷ [] = c.deref.ensures.value ∙ c.in_ok-pair.ensures.items ∙ (λ i. c.representative.ensures i ∷ c.representative-2.ensures i ∷ []) in
    let own : c.deref-2.result.now ≡ rep c.args.name ∷ [] = c.deref-2.ensures.value ∙ c.in_ok-own.ensures.items ∙ (λ i. c.representative-3.ensures i ∷ []) in
    unflat store.signature store.nodes rep K c.args.name join.head join.left join.right ss joined sorts names.names names.justs (subst (λ (xs : List ℕ). ReducesBy K u xs names.justs names.names) pair c.in_ok-names.ensures.justs)
    c.in_ok-names.ensures.reduced c.in_ok-names.ensures.rises (λ e. (rw c.if-not-same_names.true at c.same_names.ensures) (c.as_slice-2.ensures ∙ e ∙ sym own))

pub returns-clause-none : goal.returns-clause-none
returns-clause-none c =
    let store = c.args.store.now in
    let rep = rep_in c.args.reps.now in
    let K : ℕ → Option Kept = λ n. rule_at c.args.rules.now n in
    let join = c.args.join in
    let joined = c.requires.joined in
    let names = c.in_ok-names.names in
    let ss : List Sort = c.in_ok-copy_sorts.field-0 in
    let sorts : ss ≡ joined.node.sorts = c.in_ok-copy_sorts.ensures ∙ c.as_slice.ensures ∙ ap (λ (p : Node). p.sorts) (same_Some c.node.result.now joined.node (sym c.node.ensures.node ∙ joined.at)) in
    let u : AcSymbol = record { head = join.head; sorts = ss } in
    let pair : c.deref.result.now ≡ rep join.left ∷ rep join.right ∷ [] = c.deref.ensures.value ∙ c.in_ok-pair.ensures.items ∙ (λ i. c.representative.ensures i ∷ c.representative-2.ensures i ∷ []) in
    let own : c.deref-2.result.now ≡ rep c.args.name ∷ [] = c.deref-2.ensures.value ∙ c.in_ok-own.ensures.items ∙ (λ i. c.representative-3.ensures i ∷ []) in
    let same : names.names ≡ rep c.args.name ∷ [] = sym c.as_slice-2.ensures ∙ (rw c.if-not-same_names.false at c.same_names.ensures) ∙ own in
    flat store.signature store.nodes rep K c.args.name join.head join.left join.right ss joined sorts names.names names.justs (subst (λ (xs : List ℕ). ReducesBy K u xs names.justs names.names) pair c.in_ok-names.ensures.justs)
    c.in_ok-names.ensures.reduced c.in_ok-names.ensures.rises same
