use Rattle.std.proofs.Common.{◌≡◌, ◌↔◌, ◌<◌, length, map, IsTrue, sym, ◌∙◌, subst}
use Rattle.std.specs.List.{AllByRecursion}
use Rattle.std.proofs.lemmas.Result.{IfOk-weaker}
use Rattle.ae_base.proofs.Tests.{false_true}
use Rattle.ae_store.specs.Terms.{named}
use Rattle.ae_theory.specs.Names.{terms_in}
use Rattle.ae_literals.specs.Said.{IsAtomOf}
use Rattle.ae_literals.proofs.NamedLiterals.{head_of, sorts_of, args_of, atom_of, args_within}
use Rattle.ae_literals.proofs.saying.is_atom.Goals as goal

pub returns-then-not-same_node_head : goal.returns-then-not-same_node_head
returns-then-not-same_node_head c = (
  λ t. absurd (false_true t),
  λ a. absurd (false_true (sym c.if-not-same_node_head.true ∙ c.same_node_head.ensures.1 (head_of c.args.store.now c.args.name c.node-node.result.now c.node-node.ensures.node c.args.predicate c.args.sorts.now c.args.args.now a))),
)

pub returns-then-not-same_sorts : goal.returns-then-not-same_sorts
returns-then-not-same_sorts c = (
  λ t. absurd (false_true t),
  λ a. absurd (false_true (sym c.if-not-same_sorts.true ∙ c.same_sorts.ensures.1 (c.as_slice.ensures ∙ sorts_of c.args.store.now c.args.name c.node-node.result.now c.node-node.ensures.node c.args.predicate c.args.sorts.now c.args.args.now a))),
)

pub are_names_of-requires : goal.are_names_of-requires
are_names_of-requires c =
    subst (AllByRecursion (λ n. n < length c.args.store.now.nodes)) (sym c.as_slice-2.ensures)
    (args_within c.args.store.now c.args.name c.node-node.result.now c.node-node.ensures.node c.args.predicate c.args.sorts.now c.args.args.now c.len-len.ensures.store)

pub returns : goal.returns
returns c =
    let s = c.args.store.now in
    let p = c.node-node.result.now in
    let q = c.args.predicate in
    let ss = c.args.sorts.now in
    let us = c.args.args.now in
    let there = c.node-node.ensures.node in
    let head = c.same_node_head.ensures.0 c.if-not-same_node_head.false in
    let sorts = sym c.as_slice.ensures ∙ c.same_sorts.ensures.0 c.if-not-same_sorts.false in
    IfOk-weaker c.are_names_of.result (λ are. IsTrue are ↔ (map (named (terms_in s)) c.as_slice-2.result.now ≡ us)) (λ is. IsTrue is ↔ IsAtomOf s c.args.name q ss us)
    (λ are h. (
      λ t. atom_of s c.args.name p there q ss us head sorts (subst (λ ns. map (named (terms_in s)) ns ≡ us) c.as_slice-2.ensures (h.0 t)),
      λ a. h.1 (subst (λ ns. map (named (terms_in s)) ns ≡ us) (sym c.as_slice-2.ensures) (args_of s c.args.name p there q ss us a)),
    ))
    c.are_names_of.ensures
