-- Each arm of the functions, by its rule.
use Rattle.std.proofs.Common.{◌≡◌, ◌∙◌, arith, ◌<◌, ◌+◌, ◌*◌, ℕ, Some, List, [], ◌∷◌, ◌++◌, length, get_or, map, reverse, rules, to_z, of_z, ℤ, take, refl, sym, ap, subst, IfOk}
use Rattle.std.proofs.lemmas.List.{length-take-le}
use Rattle.std.proofs.lemmas.Option.{slice_get_within}
use Rattle.std.proofs.lemmas.Int.{to_z-of_z}
use mir.Syntax.{w128}
use Rattle.ae_core.specs.declared.terms.Sort.{out-Sort}
use Rattle.ae_core.specs.declared.terms.Head.TheVariants as head
use Rattle.ae_core.specs.declared.terms.Term.{Term, Apply, Bound, Num}
use Rattle.ae_elab.specs.declared.nodes.Pattern.{Pattern}
use Rattle.ae_elab.specs.Elaboration as rule
use Rattle.ae_elab.specs.Elaboration.{Cases, leaf, ◌|>◌, formula_in, term_cases, terms_cases, triggers_in, true_term}
use Rattle.ae_elab.specs.Nodes.{claim_at, claim_in, entries_of, entry_of, patterns_at, tree_at, tree_in, trees_at}
use Rattle.ae_elab.specs.Trees as tree
use Rattle.ae_elab.specs.Trees.{Tree, claim_of}
use Rattle.ae_lifting.specs.declared.cases.Atom.TheVariants as said
use Rattle.ae_lifting.specs.Lifting.{cases_of}
use Rattle.ae_types.specs.Bound.{bound}
use Rattle.ae_types.specs.Substitutions.{put}
use Rattle.ae_translation.specs.Listed.{listed}
use Rattle.ae_translation.proofs.CaseLaws.{listed_of, holds_listed, none_before, record_listed}
use Rattle.ae_translation.proofs.NodeRules.{formula_is, join_is, last_term, last_trigger, next_term, next_trigger, no_claim, no_term, plain, same_answer, same_cases, sorts_are, term_is, terms_are}
use Rattle.ae_translation.proofs.PlaceLaws.{claim_missing, claim_there, tree_missing, tree_there}
use Rattle.ae_translation.proofs.translation.+translation.Goals as goal

pub cases_boxed-returns-in-Some : goal.cases_boxed-returns-in-Some
cases_boxed-returns-in-Some t c =
    let ns = c.args.nodes.now in
    let r = c.node_cases.result in
    let here = tree_there ns c.args.place c.in-Some.node.now (sym c.in-Some.ensures) in
    subst (λ z. IfOk r (λ cs. cases_of cs ≡ listed (term_cases (bound c.args.bindings.now) c.args.bound.now z))) (sym here) c.node_cases.ensures

pub cases_boxed-returns-in-None : goal.cases_boxed-returns-in-None
cases_boxed-returns-in-None t c =
    subst (λ z. IfOk c.void.result (λ cs. cases_of cs ≡ listed (term_cases (bound c.args.bindings.now) c.args.bound.now z))) (sym (tree_missing c.args.nodes.now c.args.place c.in-None.ensures)) c.void.ensures

pub formula_boxed-returns-in-Some : goal.formula_boxed-returns-in-Some
formula_boxed-returns-in-Some t c =
    let ns = c.args.nodes.now in
    let r = c.node_formula.result in
    let here = claim_there ns c.args.place c.in-Some.node.now (sym c.in-Some.ensures) in
    subst (λ z. IfOk r (λ f. f ≡ formula_in (bound c.args.bindings.now) c.args.bound.now z)) (sym here) c.node_formula.ensures

pub formula_boxed-returns-in-None : goal.formula_boxed-returns-in-None
formula_boxed-returns-in-None t c =
    same_answer c.falsity.result _ _
    (sym (ap (formula_in (bound c.args.bindings.now) c.args.bound.now) (claim_missing c.args.nodes.now c.args.place c.in-None.ensures))) c.falsity.ensures

pub holds_at-returns-in-Some : goal.holds_at-returns-in-Some
holds_at-returns-in-Some t c =
    let ns = c.args.nodes.now in
    let r = c.node_holds.result in
    let here = tree_there ns c.args.place c.in-Some.node.now (sym c.in-Some.ensures) in
    subst (λ z. IfOk r (λ f. f ≡ formula_in (bound c.args.bindings.now) c.args.bound.now (claim_of z))) (sym here) c.node_holds.ensures

pub node_cases-returns-in-Apply : goal.node_cases-returns-in-Apply
node_cases-returns-in-Apply t c =
    let m = bound c.args.bindings.now in
    let env = c.args.bound.now in
    let es = entries_of c.args.nodes.now in
    let a = c.in-Apply in
    let us = terms_cases m env (trees_at es a.args) in
    term_is m env es c.application.result _ _ a.is
    (same_cases c.application.result _ _ (listed_of (λ vs. Apply (a.head) (map (put m) a.sorts) vs) us)
    (c.application.ensures us (a.head) (map (put m) a.sorts) (terms_are m env es c.all_cases-terms.result _ _ c.as_slice.ensures c.all_cases-terms.ensures) (refl) (sorts_are m env es c.put_all-sorts.result _ _ c.as_slice-in-Apply.ensures c.put_all-sorts.ensures)))

pub node_cases-returns-in-Operation : goal.node_cases-returns-in-Operation
node_cases-returns-in-Operation t c =
    let m = bound c.args.bindings.now in
    let env = c.args.bound.now in
    let es = entries_of c.args.nodes.now in
    let a = c.in-Operation in
    let us = terms_cases m env (trees_at es a.args) in
    term_is m env es c.application-in-Operation.result _ _ a.is
    (same_cases c.application-in-Operation.result _ _ (listed_of (λ vs. Apply (rule.head_on a.op (out-Sort (put m a.sort))) ([]) vs) us)
    (c.application-in-Operation.ensures us (rule.head_on a.op (out-Sort (put m a.sort))) ([]) (terms_are m env es c.all_cases-terms-in-Operation.result _ _ c.as_slice-in-Operation.ensures c.all_cases-terms-in-Operation.ensures) (c.head_of-head.ensures) (c.new.ensures)))

pub node_cases-returns-in-Build : goal.node_cases-returns-in-Build
node_cases-returns-in-Build t c =
    let m = bound c.args.bindings.now in
    let env = c.args.bound.now in
    let es = entries_of c.args.nodes.now in
    let a = c.in-Build in
    let us = terms_cases m env (trees_at es a.values) in
    let ss = map (put m) a.sorts in
    let r = c.with_fields.result in
    term_is m env es r _ _ a.is
    (subst (λ ps. IfOk r (λ cs. cases_of cs ≡ listed (leaf true_term |> λ v. us |> λ vs. leaf (rule.record_of a.of ss a.count v ps vs)))) c.as_slice-in-Build-3.ensures
    (same_cases r _ _ (record_listed a.of a.count ss _ (leaf true_term) us)
    (c.with_fields.ensures (listed (leaf true_term)) us ss (same_cases c.single-base.result _ _ (ap (λ u. leaf (u ∷ [])) c.true_term.ensures) c.single-base.ensures) (terms_are m env es c.all_cases-terms-in-Build.result _ _ c.as_slice-in-Build.ensures c.all_cases-terms-in-Build.ensures)
    (sorts_are m env es c.put_all-sorts-in-Build.result _ _ c.as_slice-in-Build-2.ensures c.put_all-sorts-in-Build.ensures))))

pub node_cases-returns-in-Update : goal.node_cases-returns-in-Update
node_cases-returns-in-Update t c =
    let m = bound c.args.bindings.now in
    let env = c.args.bound.now in
    let es = entries_of c.args.nodes.now in
    let a = c.in-Update in
    let us = terms_cases m env (trees_at es a.values) in
    let ss = map (put m) a.sorts in
    let r = c.with_fields-in-Update.result in
    term_is m env es r _ _ a.is
    (subst (λ ps. IfOk r (λ cs. cases_of cs ≡ listed (term_cases m env (tree_at es a.base) |> λ v. us |> λ vs. leaf (rule.record_of a.of ss a.count v ps vs)))) c.as_slice-in-Update-3.ensures
    (same_cases r _ _ (record_listed a.of a.count ss _ (term_cases m env (tree_at es a.base)) us)
    (c.with_fields-in-Update.ensures (listed (term_cases m env (tree_at es a.base))) us ss (c.cases_boxed-base.ensures) (terms_are m env es c.all_cases-terms-in-Update.result _ _ c.as_slice-in-Update.ensures c.all_cases-terms-in-Update.ensures)
    (sorts_are m env es c.put_all-sorts-in-Update.result _ _ c.as_slice-in-Update-2.ensures c.put_all-sorts-in-Update.ensures))))

pub node_cases-returns-in-Choice : goal.node_cases-returns-in-Choice
node_cases-returns-in-Choice t c =
    let m = bound c.args.bindings.now in
    let env = c.args.bound.now in
    let es = entries_of c.args.nodes.now in
    let a = c.in-Choice in
    term_is m env es c.chosen.result _ _ a.is
    (c.chosen.ensures (formula_in m env (claim_at es a.condition)) (listed (term_cases m env (tree_at es a.positive))) (listed (term_cases m env (tree_at es a.negative)))
    c.formula_boxed-condition.ensures c.cases_boxed-yes.ensures c.cases_boxed-no.ensures)

pub all_cases-loop-place-init : goal.all_cases-loop-place-init
all_cases-loop-place-init t c =
    let m = bound c.args.bindings.now in
    let es = entries_of c.args.nodes.now in
    let us = terms_cases m c.args.bound.now (trees_at es c.args.places.now) in
    ap (λ (z : Cases (List Term)). z |> λ (xs : List Term). us |> λ (ys : List Term). leaf (xs ++ ys)) c.in_ok-none.ensures ∙ none_before us

pub all_cases-loop-place-preserved : goal.all_cases-loop-place-preserved
all_cases-loop-place-preserved t c =
    let m = bound c.args.bindings.now in
    let env = c.args.bound.now in
    let es = entries_of c.args.nodes.now in
    let ps = c.args.places.now in
    let i = c.loop-place.place-index in
    let old = cases_of c.loop-place.all in
    next_term m env es ps old (cases_of c.in_ok-all.all) i c.loop-place-test.true c.loop-place.invariant
    (c.in_ok-all.ensures old (listed (term_cases m env (tree_at es (get_or ps i 0)))) refl c.cases_boxed-next.ensures)

pub all_cases-returns : goal.all_cases-returns
all_cases-returns t c =
    last_term (bound c.args.bindings.now) c.args.bound.now (entries_of c.args.nodes.now) c.args.places.now (cases_of c.loop-place.all) c.loop-place.place-index
    (omega (arith, c.loop-place-test.false)) c.loop-place.invariant

pub triggers_at-loop-pattern-preserved : goal.triggers_at-loop-pattern-preserved
triggers_at-loop-pattern-preserved t c =
    let m = bound c.args.bindings.now in
    let env = c.args.bound.now in
    let es = entries_of c.args.nodes.now in
    let ps = c.args.patterns.now in
    let p = c.pattern-item.result in
    let us = terms_cases m env (trees_at es p.terms) in
    next_trigger m env es ps c.loop-pattern.all c.in_ok-all.all c.loop-pattern.pattern-index p c.loop-pattern-test.true c.pattern-item.is c.loop-pattern.invariant
    (c.in_ok-all.ensures us (terms_are m env es c.all_cases-terms.result _ _ c.as_slice.ensures c.all_cases-terms.ensures))

pub triggers_at-returns : goal.triggers_at-returns
triggers_at-returns t c =
    last_trigger (bound c.args.bindings.now) c.args.bound.now (entries_of c.args.nodes.now) c.args.patterns.now c.loop-pattern.all c.loop-pattern.pattern-index
    (omega (arith, c.loop-pattern-test.false)) c.loop-pattern.invariant

pub node_formula-returns-in-Relation : goal.node_formula-returns-in-Relation
node_formula-returns-in-Relation t c =
    let m = bound c.args.bindings.now in
    let env = c.args.bound.now in
    let es = entries_of c.args.nodes.now in
    let a = c.in-Relation in
    formula_is m env es c.between.result _ _ a.is
    (c.between.ensures (term_cases m env (tree_at es a.left)) (term_cases m env (tree_at es a.right)) c.cases_boxed-left.ensures c.cases_boxed-right.ensures)

pub node_formula-returns-in-Predicate : goal.node_formula-returns-in-Predicate
node_formula-returns-in-Predicate t c =
    let m = bound c.args.bindings.now in
    let env = c.args.bound.now in
    let es = entries_of c.args.nodes.now in
    let a = c.in-Predicate in
    let us = terms_cases m env (trees_at es a.args) in
    formula_is m env es c.said.result _ _ a.is
    (c.said.ensures us (said.Predicate a.symbol (map (put m) a.sorts)) (terms_are m env es c.all_cases-terms.result _ _ c.as_slice.ensures c.all_cases-terms.ensures)
    (same_answer c.predicate-atom.result _ _ (ap (λ ss. said.Predicate a.symbol (map (put m) ss)) c.as_slice-in-Predicate.ensures) c.predicate-atom.ensures))

pub node_formula-returns-in-Distinct : goal.node_formula-returns-in-Distinct
node_formula-returns-in-Distinct t c =
    let m = bound c.args.bindings.now in
    let env = c.args.bound.now in
    let es = entries_of c.args.nodes.now in
    let a = c.in-Distinct in
    let us = terms_cases m env (trees_at es a.args) in
    formula_is m env es c.said-in-Distinct.result _ _ a.is
    (c.said-in-Distinct.ensures us said.Distinct (terms_are m env es c.all_cases-terms-in-Distinct.result _ _ c.as_slice-in-Distinct.ensures c.all_cases-terms-in-Distinct.ensures) refl)

pub node_formula-returns-in-Negation : goal.node_formula-returns-in-Negation
node_formula-returns-in-Negation t c =
    let m = bound c.args.bindings.now in
    let env = c.args.bound.now in
    let es = entries_of c.args.nodes.now in
    let a = c.in-Negation in
    formula_is m env es c.denied.result _ _ a.is (c.denied.ensures (formula_in m env (claim_at es a.part)) c.formula_boxed-part.ensures)

pub node_formula-returns-in-Joined : goal.node_formula-returns-in-Joined
node_formula-returns-in-Joined t c =
    let m = bound c.args.bindings.now in
    let env = c.args.bound.now in
    let es = entries_of c.args.nodes.now in
    let a = c.in-Joined in
    let f = claim_at es a.left in
    let g = claim_at es a.right in
    formula_is m env es c.joined_by.result _ _ a.is
    (same_answer c.joined_by.result _ _ (join_is m env a.connective f g) (c.joined_by.ensures (formula_in m env f) (formula_in m env g) c.formula_boxed-left.ensures c.formula_boxed-right.ensures))

pub node_formula-returns-in-Conditional : goal.node_formula-returns-in-Conditional
node_formula-returns-in-Conditional t c =
    let m = bound c.args.bindings.now in
    let env = c.args.bound.now in
    let es = entries_of c.args.nodes.now in
    let a = c.in-Conditional in
    formula_is m env es c.conditional.result _ _ a.is
    (c.conditional.ensures (formula_in m env (claim_at es a.condition)) (formula_in m env (claim_at es a.positive)) (formula_in m env (claim_at es a.negative))
    c.formula_boxed-condition.ensures c.formula_boxed-yes.ensures c.formula_boxed-no.ensures)

pub node_formula-returns-in-Holds : goal.node_formula-returns-in-Holds
node_formula-returns-in-Holds t c =
    let m = bound c.args.bindings.now in
    let env = c.args.bound.now in
    let es = entries_of c.args.nodes.now in
    let a = c.in-Holds in
    formula_is m env es c.holds_at.result _ _ a.is c.holds_at.ensures

pub node_formula-returns-in_ok-inner-in-Quantified : goal.node_formula-returns-in_ok-inner-in-Quantified
node_formula-returns-in_ok-inner-in-Quantified t c =
    let m = bound c.args.bindings.now in
    let env = c.args.bound.now in
    let es = entries_of c.args.nodes.now in
    let a = c.in-Quantified in
    let inner = reverse a.variables ++ env in
    let ts = triggers_in m inner (patterns_at es a.triggers) in
    let f = formula_in m inner (claim_at es a.body) in
    let own : c.in_ok-inner-in-Quantified.inner ≡ inner = c.in_ok-inner-in-Quantified.ensures ∙ ap (λ (xs : List ℕ). reverse xs ++ env) c.as_slice-in-Quantified.ensures in
    let lent : c.as_slice-in-Quantified-3.result.now ≡ inner = c.as_slice-in-Quantified-3.ensures ∙ own in
    let lent_too : c.as_slice-in-Quantified-4.result.now ≡ inner = c.as_slice-in-Quantified-4.ensures ∙ own in
    formula_is m env es c.quantified.result _ _ a.is
    (c.quantified.ensures (map (put m) a.sorts) ts f
    (sorts_are m env es c.put_all-sorts.result _ _ c.as_slice-in-Quantified-2.ensures c.put_all-sorts.ensures)
    (same_answer c.triggers_at-triggers.result _ _
    (ap (λ (xs : List ℕ). triggers_in m xs (patterns_at es c.as_slice-patterns.result.now)) lent ∙ ap (λ (ps : List Pattern). triggers_in m inner (patterns_at es ps)) c.as_slice-patterns.ensures)
    c.triggers_at-triggers.ensures)
    (same_answer c.formula_boxed-body.result _ _ (ap (λ (xs : List ℕ). formula_in m xs (claim_at es a.body)) lent_too) c.formula_boxed-body.ensures))

pub node_holds-returns-in-Choice : goal.node_holds-returns-in-Choice
node_holds-returns-in-Choice t c =
    let m = bound c.args.bindings.now in
    let env = c.args.bound.now in
    let es = entries_of c.args.nodes.now in
    let a = c.in-Choice in
    subst (λ z. IfOk c.conditional.result (λ f. f ≡ formula_in m env (claim_of (tree_in (Some (entry_of es z)))))) (sym a.is)
    (c.conditional.ensures (formula_in m env (claim_at es a.condition)) (formula_in m env (claim_of (tree_at es a.positive))) (formula_in m env (claim_of (tree_at es a.negative)))
    c.formula_boxed-condition.ensures c.holds_at-yes.ensures c.holds_at-no.ensures)

pub node_holds-returns-in-Some : goal.node_holds-returns-in-Some
node_holds-returns-in-Some t c =
    let m = bound c.args.bindings.now in
    let env = c.args.bound.now in
    let es = entries_of c.args.nodes.now in
    let a = c.in-Apply in
    let t = tree.apply a.head a.sorts (trees_at es a.args) in
    let x = term_cases m env t in
    same_answer c.new.result c.in-Some.formula _
    (subst (λ z. c.in-Some.formula ≡ formula_in m env (claim_of (tree_in (Some (entry_of es z))))) (sym a.is) (c.in-Some.ensures m env t)) c.new.ensures

pub node_holds-returns-in-None : goal.node_holds-returns-in-None
node_holds-returns-in-None t c =
    let m = bound c.args.bindings.now in
    let env = c.args.bound.now in
    let es = entries_of c.args.nodes.now in
    let a = c.in-Apply in
    let t = tree.apply a.head a.sorts (trees_at es a.args) in
    let x = term_cases m env t in
    let r = c.said.result in
    let own = c.node_cases-application in
    subst (λ z. IfOk r (λ f. f ≡ formula_in m env (claim_of (tree_in (Some (entry_of es z)))))) (sym a.is)
    (same_answer r _ _ (holds_listed x ∙ c.in-None.ensures m env t)
    (c.said.ensures (listed x) said.Holds (same_cases own.result _ _ (ap (λ n. listed (term_cases m env (tree_in (Some (entry_of es n))))) a.is) own.ensures) refl))

pub node_holds-returns-in_default : goal.node_holds-returns-in_default
node_holds-returns-in_default t c =
    let m = bound c.args.bindings.now in
    let env = c.args.bound.now in
    let es = entries_of c.args.nodes.now in
    let t = tree_in (Some (entry_of es c.args.node.now)) in
    let x = term_cases m env t in
    same_answer c.said-in_default.result _ _ (holds_listed x ∙ ap (formula_in m env) (sym (plain es c.args.node.now c.in_default.not-Choice c.in_default.not-Apply)))
    (c.said-in_default.ensures (listed x) said.Holds c.node_cases-other.ensures refl)

pub holds_at-returns-in-None : goal.holds_at-returns-in-None
holds_at-returns-in-None t c =
    let m = bound c.args.bindings.now in
    let env = c.args.bound.now in
    let r = c.said.result in
    subst (λ z. IfOk r (λ f. f ≡ formula_in m env (claim_of z))) (sym (tree_missing c.args.nodes.now c.args.place c.in-None.ensures))
    (c.said.ensures (leaf (Apply head.Void [] [] ∷ [])) said.Holds c.void.ensures refl)

pub node_cases-returns-in-Variable : goal.node_cases-returns-in-Variable
node_cases-returns-in-Variable t c =
    let m = bound c.args.bindings.now in
    let env = c.args.bound.now in
    let es = entries_of c.args.nodes.now in
    let a = c.in-Variable in
    term_is m env es c.single.result _ _ a.is (same_cases c.single.result _ _ (ap (λ (d : ℕ). leaf (Bound d ∷ [])) c.distance.ensures) c.single.ensures)

pub node_cases-returns-in-Numeral : goal.node_cases-returns-in-Numeral
node_cases-returns-in-Numeral t c =
    let m = bound c.args.bindings.now in
    let env = c.args.bound.now in
    let es = entries_of c.args.nodes.now in
    let a = c.in-Numeral in
    let r = c.single-in-Numeral in
    let top : to_z w128 (of_z w128 a.top) ≡ a.top = to_z-of_z w128 a.top (search rules) in
    let bottom : to_z w128 (of_z w128 a.bottom) ≡ a.bottom = to_z-of_z w128 a.bottom (search rules) in
    term_is m env es r.result _ _ a.is
    (same_cases r.result _ _
    (ap (λ (z : ℤ). leaf (Num z (to_z w128 (of_z w128 a.bottom)) a.real ∷ [])) top ∙ ap (λ (z : ℤ). leaf (Num a.top z a.real ∷ [])) bottom)
    r.ensures)

pub node_cases-returns-in_default : goal.node_cases-returns-in_default
node_cases-returns-in_default t c =
    let m = bound c.args.bindings.now in
    let env = c.args.bound.now in
    let es = entries_of c.args.nodes.now in
    let d = c.in_default in
    same_cases c.void.result _ _
    (sym (ap (λ (z : Tree). listed (term_cases m env z))
    (no_term es c.args.node.now d.not-Variable d.not-Numeral d.not-Apply d.not-Operation d.not-Build d.not-Update d.not-Choice)))
    c.void.ensures

pub node_formula-returns-in_default : goal.node_formula-returns-in_default
node_formula-returns-in_default t c =
    let m = bound c.args.bindings.now in
    let env = c.args.bound.now in
    let es = entries_of c.args.nodes.now in
    let d = c.in_default in
    same_answer c.falsity.result _ _
    (sym (ap (formula_in m env)
    (no_claim es c.args.node.now d.not-Truth d.not-Relation d.not-Predicate d.not-Distinct d.not-Holds d.not-Negation d.not-Joined d.not-Conditional d.not-Quantified))) c.falsity.ensures

pub node_formula-returns-in-Truth : goal.node_formula-returns-in-Truth
node_formula-returns-in-Truth t c =
    let m = bound c.args.bindings.now in
    let env = c.args.bound.now in
    let es = entries_of c.args.nodes.now in
    same_answer c.truth.result _ _ (sym (ap (λ n. formula_in m env (claim_in (Some (entry_of es n)))) c.in-Truth.is)) c.truth.ensures

pub cases_boxed-slice_bounds-before-end : goal.cases_boxed-slice_bounds-before-end
cases_boxed-slice_bounds-before-end t c =
    let ns = c.args.nodes.now in
    let within : c.args.place < length ns = slice_get_within ns c.args.place c.in-Some.node.now (sym c.in-Some.ensures) in
    sym (length-take-le c.args.place ns (omega (arith, within)))

pub cases_boxed-node_cases-requires : goal.cases_boxed-node_cases-requires
cases_boxed-node_cases-requires t c =
    let ns = c.args.nodes.now in
    let n = c.args.place in
    let within : n < length ns = slice_get_within ns n c.in-Some.node.now (sym c.in-Some.ensures) in
    let long : length (take n ns) ≡ n = length-take-le n ns (omega (arith, within)) in
    let falls : length (take n ns) * 8 + 4 < length ns * 8 + 1 = omega (arith, within, long) in
    (subst (λ k. length (take n ns) * 8 + 4 < k) c.decreases falls, tt)

pub formula_boxed-slice_bounds-before-end : goal.formula_boxed-slice_bounds-before-end
formula_boxed-slice_bounds-before-end t c =
    let ns = c.args.nodes.now in
    let within : c.args.place < length ns = slice_get_within ns c.args.place c.in-Some.node.now (sym c.in-Some.ensures) in
    sym (length-take-le c.args.place ns (omega (arith, within)))

pub formula_boxed-node_formula-requires : goal.formula_boxed-node_formula-requires
formula_boxed-node_formula-requires t c =
    let ns = c.args.nodes.now in
    let n = c.args.place in
    let within : n < length ns = slice_get_within ns n c.in-Some.node.now (sym c.in-Some.ensures) in
    let long : length (take n ns) ≡ n = length-take-le n ns (omega (arith, within)) in
    let falls : length (take n ns) * 8 + 4 < length ns * 8 + 1 = omega (arith, within, long) in
    (subst (λ k. length (take n ns) * 8 + 4 < k) c.decreases falls, tt)

pub holds_at-slice_bounds-before-end : goal.holds_at-slice_bounds-before-end
holds_at-slice_bounds-before-end t c =
    let ns = c.args.nodes.now in
    let within : c.args.place < length ns = slice_get_within ns c.args.place c.in-Some.node.now (sym c.in-Some.ensures) in
    sym (length-take-le c.args.place ns (omega (arith, within)))

pub holds_at-node_holds-requires : goal.holds_at-node_holds-requires
holds_at-node_holds-requires t c =
    let ns = c.args.nodes.now in
    let n = c.args.place in
    let within : n < length ns = slice_get_within ns n c.in-Some.node.now (sym c.in-Some.ensures) in
    let long : length (take n ns) ≡ n = length-take-le n ns (omega (arith, within)) in
    let falls : length (take n ns) * 8 + 5 < length ns * 8 + 2 = omega (arith, within, long) in
    (subst (λ k. length (take n ns) * 8 + 5 < k) c.decreases falls, tt)
