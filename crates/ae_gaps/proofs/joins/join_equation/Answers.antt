use Rattle.std.specs.Prelude.{ℕ, ◌≡◌, List, [], ◌∷◌}
use Rattle.std.proofs.Common.{sym, ◌∙◌, subst}
use Rattle.std.proofs.lemmas.Option.{slice_get_within}
use Rattle.ae_core.specs.declared.problems.AcSymbol.{AcSymbol}
use Rattle.ae_core.specs.declared.terms.Term.{Apply}
use Rattle.ae_multiset_steps.specs.Equating.{AreNamesOf}
use Rattle.ae_state_steps.specs.ManySteps.{StatesMany}
use Rattle.ae_store.specs.Shapes.{shapes}
use Rattle.ae_store.specs.Terms.{terms, named}
use Rattle.ae_gaps.proofs.JoinedNames.{joined_node, joined_symbol, joined_args, read_left, read_right, read_symbol, joined_name, joined_term, joined_waits}
use Rattle.ae_gaps.proofs.joins.join_equation.Goals as goal

pub node-node-requires : goal.node-node-requires
node-node-requires c = slice_get_within c.args.store.now.nodes c.args.name c.requires.joined.node c.requires.joined.at

pub head_of-requires : goal.head_of-requires
head_of-requires c =
    let j = c.requires.joined in
    ((j.symbol).head, (joined_node c.args.store.now.signature c.args.store.now.nodes c.args.name j c.node-node.result.now c.node-node.ensures.node).head)

pub arguments_joined-requires-clause-names : goal.arguments_joined-requires-clause-names
arguments_joined-requires-clause-names c =
    let q = c.node-node.result.now in
    let at = c.node-node.ensures.node in
    let j = c.requires.joined in
    let u = read_symbol c.args.store.now.signature c.args.store.now.nodes c.args.name j q c.head_of.result c.in_ok-copy_sorts.field-0 at c.head_of.ensures (c.in_ok-copy_sorts.ensures ∙ c.as_slice.ensures) in
    subst (λ (z : AcSymbol). AreNamesOf c.args.store.now.signature (terms (shapes c.args.store.now.nodes)) z (c.args.name ∷ [])) (sym u)
    (joined_name c.args.store.now.signature c.args.store.now.nodes c.args.name j c.len-names.ensures.store)

pub arguments_joined-requires-clause-joins : goal.arguments_joined-requires-clause-joins
arguments_joined-requires-clause-joins c =
    let ts = terms (shapes c.args.store.now.nodes) in
    let q = c.node-node.result.now in
    let at = c.node-node.ensures.node in
    let j = c.requires.joined in
    let u = read_symbol c.args.store.now.signature c.args.store.now.nodes c.args.name j q c.head_of.result c.in_ok-copy_sorts.field-0 at c.head_of.ensures (c.in_ok-copy_sorts.ensures ∙ c.as_slice.ensures) in
    let l = read_left c.args.store.now.signature c.args.store.now.nodes c.args.name j q c.as_slice-args.result.now at c.as_slice-args.ensures in
    let r = read_right c.args.store.now.signature c.args.store.now.nodes c.args.name j q c.as_slice-args.result.now at c.as_slice-args.ensures in
    subst (λ (z : AcSymbol × ℕ × ℕ). named ts c.args.name ≡ Apply (z.0).head (z.0).sorts (named ts z.1 ∷ named ts z.2 ∷ [])) (sym (λ k. (u k, l k, r k)))
    (joined_term c.args.store.now.signature c.args.store.now.nodes c.args.name j c.len-names.ensures.store)

pub returns-clause-symbol : goal.returns-clause-symbol
returns-clause-symbol c = λ p v i k f g.
    let q = c.node-node.result.now in
    let at = c.node-node.ensures.node in
    let j = c.requires.joined in
    let u = read_symbol c.args.store.now.signature c.args.store.now.nodes c.args.name j q c.head_of.result c.in_ok-copy_sorts.field-0 at c.head_of.ensures (c.in_ok-copy_sorts.ensures ∙ c.as_slice.ensures) in
    u ∙ joined_symbol c.args.store.now.signature c.args.store.now.nodes c.args.name j p v i k f g

pub returns-clause-left : goal.returns-clause-left
returns-clause-left c = λ p v i k f g.
    let q = c.node-node.result.now in
    let at = c.node-node.ensures.node in
    let j = c.requires.joined in
    let l = read_left c.args.store.now.signature c.args.store.now.nodes c.args.name j q c.as_slice-args.result.now at c.as_slice-args.ensures in
    let r = read_right c.args.store.now.signature c.args.store.now.nodes c.args.name j q c.as_slice-args.result.now at c.as_slice-args.ensures in
    let both : ◌≡◌ {A = List ℕ} c.in_ok-left.left (j.left ∷ j.right ∷ []) = c.in_ok-left.ensures ∙ (λ z. l z ∷ r z ∷ []) in
    both ∙ joined_args c.args.store.now.signature c.args.store.now.nodes c.args.name j p v i k f g

pub returns-clause-said : goal.returns-clause-said
returns-clause-said c =
    let js = c.arguments_joined.new.justs in
    let id = c.in_ok-step.step in
    let q = c.node-node.result.now in
    let at = c.node-node.ensures.node in
    let j = c.requires.joined in
    let u = read_symbol c.args.store.now.signature c.args.store.now.nodes c.args.name j q c.head_of.result c.in_ok-copy_sorts.field-0 at c.head_of.ensures (c.in_ok-copy_sorts.ensures ∙ c.as_slice.ensures) in
    let l = read_left c.args.store.now.signature c.args.store.now.nodes c.args.name j q c.as_slice-args.result.now at c.as_slice-args.ensures in
    let r = read_right c.args.store.now.signature c.args.store.now.nodes c.args.name j q c.as_slice-args.result.now at c.as_slice-args.ensures in
    let both : ◌≡◌ {A = List ℕ} c.in_ok-left.left (j.left ∷ j.right ∷ []) = c.in_ok-left.ensures ∙ (λ z. l z ∷ r z ∷ []) in
    joined_waits c.args.store.now.signature c.args.store.now.nodes c.args.name j c.len-names.ensures.store js (record { symbol = record { head = c.head_of.result; sorts = c.in_ok-copy_sorts.field-0 }; left = c.in_ok-left.left; right = c.in_ok-right.right; step = id }) u
    both c.in_ok-right.ensures (subst (λ (z : AcSymbol × ℕ × ℕ). StatesMany js id z.0 (z.1 ∷ z.2 ∷ []) (c.args.name ∷ [])) (λ k. (u k, l k, r k)) c.in_ok-step.ensures.states)
