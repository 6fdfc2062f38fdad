use Rattle.std.proofs.Common.{◌≡◌, ◌∙◌, arith, ◌<◌, ◌++◌, ℕ, Some, List, [], length, take, OnOk, IfErr, sym, ap, subst, true≢false}
use Rattle.std.proofs.lemmas.List.{length-take-le}
use Rattle.std.proofs.lemmas.Option.{slice_get_within}
use Rattle.ae_elab.specs.declared.nodes.Pattern.{Pattern}
use Rattle.ae_elab.specs.Conditions.{Condition}
use Rattle.ae_elab.specs.Formulas.{merging, covering_all}
use Rattle.ae_elab.specs.Nodes.{claim_at, entries_of, patterns_at}
use Rattle.ae_elab.specs.Steps.{AreHeld, AreFailed, AreMet}
use Rattle.ae_elab.proofs.WalkLaws.{none_met}
use Rattle.ae_expressions.proofs.MergeLaws.{merge_missing, merge_other, merge_others, merge_body, merge_triggers}
use Rattle.ae_expressions.proofs.merging.+merge.Goals as goal

pub returns-in_default-clause-met : goal.returns-in_default-clause-met
returns-in_default-clause-met t c m =
    subst (λ (ds : List Condition). AreMet ds m m) (sym (merge_missing c.args.quantifier c.args.variables.now c.args.nodes.now c.args.claim (sym c.in_default.ensures))) (none_met m)

pub returns-in_default-node : goal.returns-in_default-node
returns-in_default-node t c = record {
  met = λ m. subst (λ (ds : List Condition). AreMet ds m m)
      (sym (merge_other c.args.quantifier c.args.variables.now c.args.nodes.now c.args.claim c.in-Some.node.now (sym c.in-Some.ensures) c.in_default-node.not-Quantified)) (none_met m);
  fault = tt;
}

pub returns-then-not-same_quantifier-clause-met : goal.returns-then-not-same_quantifier-clause-met
returns-then-not-same_quantifier-clause-met t c m =
    let q = c.in-Quantified in
    subst (λ (ds : List Condition). AreMet ds m m)
    (sym (merge_others c.args.quantifier c.args.variables.now c.args.nodes.now c.args.claim q.inner q.more q.sorts q.triggers q.body (sym c.in-Some.ensures ∙ ap Some q.is) (sym c.same_quantifier.ensures ∙ c.if-not-same_quantifier.true))) (none_met m)

pub slice_bounds-before-end : goal.slice_bounds-before-end
slice_bounds-before-end t c =
    let within : c.args.claim < length c.args.nodes.now = slice_get_within c.args.nodes.now c.args.claim c.in-Some.node.now (sym c.in-Some.ensures) in
    sym (length-take-le c.args.claim c.args.nodes.now (omega (arith, within)))

pub merge-requires : goal.merge-requires
merge-requires t c =
    let ns = c.args.nodes.now in
    let n = c.args.claim in
    let within : n < length ns = slice_get_within ns n c.in-Some.node.now (sym c.in-Some.ensures) in
    let falls : length (take n ns) < length ns = omega (arith, within, length-take-le n ns (omega (arith, within))) in
    (subst (λ k. length (take n ns) < k) c.decreases falls, tt)

pub returns-then-is_empty-clause-met : goal.returns-then-is_empty-clause-met
returns-then-is_empty-clause-met t c =
    let q = c.in-Quantified in
    let xs = c.args.variables.now in
    let all : c.as_slice-then-is_empty.result.now ≡ xs ++ q.more = c.as_slice-then-is_empty.ensures ∙ c.in_ok-all.ensures ∙ ap (λ (zs : List ℕ). xs ++ zs) c.as_slice.ensures in
    let same = merge_body c.args.quantifier xs c.args.nodes.now c.args.claim q.inner q.more q.sorts q.triggers q.body (sym c.in-Some.ensures ∙ ap Some q.is) (sym c.same_quantifier.ensures ∙ c.if-not-same_quantifier.false) (c.is_empty.ensures.0 c.if-is_empty.true) in
    subst (λ (ds : List Condition). OnOk c.merge.result (AreHeld ds)) (sym same)
    (subst (λ (zs : List ℕ). OnOk c.merge.result (AreHeld (merging c.args.quantifier zs (claim_at (entries_of (take c.args.claim c.args.nodes.now)) q.body)))) all c.merge.ensures.met)

pub returns-then-is_empty-clause-fault : goal.returns-then-is_empty-clause-fault
returns-then-is_empty-clause-fault t c =
    let q = c.in-Quantified in
    let xs = c.args.variables.now in
    let all : c.as_slice-then-is_empty.result.now ≡ xs ++ q.more = c.as_slice-then-is_empty.ensures ∙ c.in_ok-all.ensures ∙ ap (λ (zs : List ℕ). xs ++ zs) c.as_slice.ensures in
    let same = merge_body c.args.quantifier xs c.args.nodes.now c.args.claim q.inner q.more q.sorts q.triggers q.body (sym c.in-Some.ensures ∙ ap Some q.is) (sym c.same_quantifier.ensures ∙ c.if-not-same_quantifier.false) (c.is_empty.ensures.0 c.if-is_empty.true) in
    subst (λ (ds : List Condition). IfErr c.merge.result (AreFailed ds)) (sym same)
    (subst (λ (zs : List ℕ). IfErr c.merge.result (AreFailed (merging c.args.quantifier zs (claim_at (entries_of (take c.args.claim c.args.nodes.now)) q.body)))) all c.merge.ensures.fault)

pub returns-clause-met : goal.returns-clause-met
returns-clause-met t c =
    let q = c.in-Quantified in
    let xs = c.args.variables.now in
    let es = entries_of (take c.args.claim c.args.nodes.now) in
    let all : c.as_slice-else-is_empty.result.now ≡ xs ++ q.more = c.as_slice-else-is_empty.ensures ∙ c.in_ok-all.ensures ∙ ap (λ (zs : List ℕ). xs ++ zs) c.as_slice.ensures in
    let some : q.triggers ≡ [] → ⊥ = λ e. true≢false (sym (c.is_empty.ensures.1 e) ∙ c.if-is_empty.false) in
    let same = merge_triggers c.args.quantifier xs c.args.nodes.now c.args.claim q.inner q.more q.sorts q.triggers q.body (sym c.in-Some.ensures ∙ ap Some q.is) (sym c.same_quantifier.ensures ∙ c.if-not-same_quantifier.false) some in
    subst (λ (ds : List Condition). OnOk c.cover_all.result (AreHeld ds)) (sym same)
    (subst (λ (zs : List ℕ). OnOk c.cover_all.result (AreHeld (covering_all zs (patterns_at es q.triggers)))) all
    (subst (λ (ps : List Pattern). OnOk c.cover_all.result (AreHeld (covering_all c.as_slice-else-is_empty.result.now (patterns_at es ps)))) c.as_slice-else-is_empty-2.ensures c.cover_all.ensures.met))

pub returns-clause-fault : goal.returns-clause-fault
returns-clause-fault t c =
    let q = c.in-Quantified in
    let xs = c.args.variables.now in
    let es = entries_of (take c.args.claim c.args.nodes.now) in
    let all : c.as_slice-else-is_empty.result.now ≡ xs ++ q.more = c.as_slice-else-is_empty.ensures ∙ c.in_ok-all.ensures ∙ ap (λ (zs : List ℕ). xs ++ zs) c.as_slice.ensures in
    let some : q.triggers ≡ [] → ⊥ = λ e. true≢false (sym (c.is_empty.ensures.1 e) ∙ c.if-is_empty.false) in
    let same = merge_triggers c.args.quantifier xs c.args.nodes.now c.args.claim q.inner q.more q.sorts q.triggers q.body (sym c.in-Some.ensures ∙ ap Some q.is) (sym c.same_quantifier.ensures ∙ c.if-not-same_quantifier.false) some in
    subst (λ (ds : List Condition). IfErr c.cover_all.result (AreFailed ds)) (sym same)
    (subst (λ (zs : List ℕ). IfErr c.cover_all.result (AreFailed (covering_all zs (patterns_at es q.triggers)))) all
    (subst (λ (ps : List Pattern). IfErr c.cover_all.result (AreFailed (covering_all c.as_slice-else-is_empty.result.now (patterns_at es ps)))) c.as_slice-else-is_empty-2.ensures c.cover_all.ensures.fault))
