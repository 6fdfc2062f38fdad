use Rattle.std.proofs.Common.{◌∙◌, ℕ, List, Bool, true, false, refl, ap}
use Rattle.ae_elab.specs.declared.nodes.Node.{Node}
use Rattle.ae_elab.specs.declared.nodes.Pattern.{Pattern}
use Rattle.ae_elab.specs.Nodes.{a_claim, tree_at, claim_at, trees_at, patterns_at, relation_of}
use Rattle.ae_elab.specs.Trees as tree
use Rattle.ae_elab.specs.Weights as rule
use Rattle.ae_sizes.specs.Inner.Counted.{counted, counted_weight, pile, counted_sorts, told}
use Rattle.ae_sizes.specs.Inner.Weights as own
use Rattle.ae_sizes.proofs.MeasureLaws.{no_block, node_is}
use Rattle.ae_sizes.proofs.node_sizes.measure_of.Goals as goal

pub returns-in-Variable : goal.returns-in-Variable
returns-in-Variable c = λ f es p q.
    node_is f es _ _ _ c.in-Variable.is (c.term.ensures f (tree.variable c.in-Variable.field-0) c.one_case.ensures c.one_case-in-Variable.ensures refl)

pub returns-in-Numeral : goal.returns-in-Numeral
returns-in-Numeral c = λ f es p q.
    node_is f es _ _ _ c.in-Numeral.is
    (c.term-in-Numeral.ensures f (tree.numeral c.in-Numeral.top c.in-Numeral.bottom c.in-Numeral.real) c.one_case-in-Numeral.ensures c.one_case-in-Numeral-2.ensures refl)

pub returns-in-Operation : goal.returns-in-Operation
returns-in-Operation c = λ f es p q.
    let t = λ (us : List ℕ). tree.operation c.in-Operation.op c.in-Operation.sort (trees_at es us) in
    node_is f es _ _ _ c.in-Operation.is
    (c.term-in-Operation.ensures f (t c.in-Operation.args)
    (c.operation.ensures f es p ∙ ap (λ us. counted_weight (own.weight false f (t us))) c.as_slice-args.ensures)
    (c.operation-in-Operation.ensures f es p ∙ ap (λ us. counted_weight (own.weight true f (t us))) c.as_slice-args.ensures)
    refl)

pub returns-in-Build : goal.returns-in-Build
returns-in-Build c = λ f es p q.
    let ss = c.in-Build.sorts in
    let t = λ (ps us : List ℕ). tree.build c.in-Build.of ss c.in-Build.count ps (trees_at es us) in
    let sizes = q ∙ ap (λ (z : Node). counted (pile (rule.sort_sizes f (counted_sorts z)))) c.in-Build.is in
    let same = λ (b : Bool).
    ap (λ (ps : List ℕ). counted_weight (own.weight b f (t ps c.as_slice-values.result.now))) c.as_slice-places.ensures
    ∙ ap (λ (us : List ℕ). counted_weight (own.weight b f (t c.in-Build.places us))) c.as_slice-values.ensures in
    node_is f es _ _ _ c.in-Build.is
    (c.term-in-Build.ensures f (t c.in-Build.places c.in-Build.values)
    (c.record-all.ensures f es (rule.sort_sizes f ss) (rule.one_case 1) p sizes c.one_case-in-Build.ensures ∙ same false)
    (c.record-last.ensures f es (rule.sort_sizes f ss) (rule.one_case 1) p sizes c.one_case-in-Build-2.ensures ∙ same true)
    refl)

pub returns-in-Update : goal.returns-in-Update
returns-in-Update c = λ f es p q.
    let ss = c.in-Update.sorts in
    let base = tree_at es c.in-Update.base in
    let t = λ (ps us : List ℕ). tree.update c.in-Update.of ss c.in-Update.count base ps (trees_at es us) in
    let sizes = q ∙ ap (λ (z : Node). counted (pile (rule.sort_sizes f (counted_sorts z)))) c.in-Update.is in
    let same = λ (b : Bool).
    ap (λ (ps : List ℕ). counted_weight (own.weight b f (t ps c.as_slice-values-in-Update.result.now))) c.as_slice-places-in-Update.ensures
    ∙ ap (λ (us : List ℕ). counted_weight (own.weight b f (t c.in-Update.places us))) c.as_slice-values-in-Update.ensures in
    node_is f es _ _ _ c.in-Update.is
    (c.term-in-Update.ensures f (t c.in-Update.places c.in-Update.values)
    (c.record-all-in-Update.ensures f es (rule.sort_sizes f ss) (own.weight false f base) p sizes (c.weight_at-first.ensures f es p) ∙ same false)
    (c.record-last-in-Update.ensures f es (rule.sort_sizes f ss) (own.weight true f base) p sizes (c.weight_at-only.ensures f es p) ∙ same true)
    refl)

pub returns-in-Truth : goal.returns-in-Truth
returns-in-Truth c = λ f es p q. node_is f es _ _ _ c.in-Truth.is (c.formula.ensures f tree.truth c.leaf.ensures refl)

pub returns-in-Falsity : goal.returns-in-Falsity
returns-in-Falsity c = λ f es p q. node_is f es _ _ _ c.in-Falsity.is (c.formula-in-Falsity.ensures f tree.falsity c.leaf-in-Falsity.ensures refl)

pub returns-in-Relation : goal.returns-in-Relation
returns-in-Relation c = λ f es p q.
    node_is f es _ _ _ c.in-Relation.is
    (c.formula-in-Relation.ensures f (tree.relation (relation_of c.in-Relation.relation) (tree_at es c.in-Relation.left) (tree_at es c.in-Relation.right)) (c.related.ensures f es p) refl)

pub returns-in-Predicate : goal.returns-in-Predicate
returns-in-Predicate c = λ f es p q.
    let ss = c.in-Predicate.sorts in
    let t = λ (us : List ℕ). tree.predicate c.in-Predicate.symbol ss (trees_at es us) in
    let sizes = q ∙ ap (λ (z : Node). counted (pile (rule.sort_sizes f (counted_sorts z)))) c.in-Predicate.is in
    let ws = own.weight_list false f (trees_at es c.as_slice-in-Predicate.result.now) in
    let w = rule.within 1 (rule.beside (rule.sort_sizes f ss) (own.all_standing own.once 0 ws)) in
    node_is f es _ _ _ c.in-Predicate.is
    (c.formula-in-Predicate.ensures f (t c.in-Predicate.args)
    (c.size_of.ensures w (c.application.ensures f es ss p sizes) ∙ ap (λ (us : List ℕ). counted (own.claim_size f (t us))) c.as_slice-in-Predicate.ensures)
    refl)

pub returns-in-Distinct : goal.returns-in-Distinct
returns-in-Distinct c = λ f es p q.
    node_is f es _ _ _ c.in-Distinct.is
    (c.formula-in-Distinct.ensures f (tree.distinct (trees_at es c.in-Distinct.args))
    (c.distinct.ensures f es p ∙ ap (λ (us : List ℕ). counted (own.claim_size f (tree.distinct (trees_at es us)))) c.as_slice-in-Distinct.ensures)
    refl)

pub returns-in-Holds : goal.returns-in-Holds
returns-in-Holds c = λ f es p q.
    let t = tree_at es c.in-Holds.tree in
    node_is f es _ _ _ c.in-Holds.is (c.formula-in-Holds.ensures f (tree.claim_of t) (c.formula_at.ensures f es p) (no_block t))

pub returns-in-Negation : goal.returns-in-Negation
returns-in-Negation c = λ f es p q.
    let a = claim_at es c.in-Negation.part in
    node_is f es _ _ _ c.in-Negation.is (c.formula-in-Negation.ensures f (tree.negation a) (c.round_one.ensures (own.claim_size f a) (c.size_at.ensures f es p)) refl)

pub returns-in-Conditional : goal.returns-in-Conditional
returns-in-Conditional c = λ f es p q.
    let d = claim_at es c.in-Conditional.condition in
    let a = claim_at es c.in-Conditional.positive in
    let b = claim_at es c.in-Conditional.negative in
    node_is f es _ _ _ c.in-Conditional.is
    (c.formula-in-Conditional.ensures f (tree.conditional d a b)
    (c.either_way.ensures (own.claim_size f d) (own.claim_size f a) (own.claim_size f b)
    (c.size_at-in-Conditional.ensures f es p) (c.size_at-in-Conditional-2.ensures f es p) (c.size_at-in-Conditional-3.ensures f es p))
    refl)

pub returns-in-Quantified : goal.returns-in-Quantified
returns-in-Quantified c = λ f es p q.
    let ss = c.in-Quantified.sorts in
    let a = claim_at es c.in-Quantified.body in
    let sizes = q ∙ ap (λ (z : Node). counted (pile (rule.sort_sizes f (counted_sorts z)))) c.in-Quantified.is in
    node_is f es _ _ _ c.in-Quantified.is
    (c.quantified.ensures f es c.in-Quantified.variables ss p sizes
    ∙ ap (λ (ts : List Pattern). told f (a_claim (tree.quantified c.in-Quantified.quantifier c.in-Quantified.variables ss (patterns_at es ts) a))) c.as_slice-in-Quantified.ensures)
