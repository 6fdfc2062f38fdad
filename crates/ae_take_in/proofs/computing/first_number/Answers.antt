use Rattle.std.specs.Prelude.{ℕ, ℤ, pos, ◌<ℤ◌, ◌<◌, ◌≡◌, List, [], length, map}
use Rattle.std.specs.List.{AllByRecursion}
use Rattle.std.proofs.Common.{sym, ◌∙◌, subst, arith}
use Rattle.ae_core.specs.declared.terms.Term.{Num}
use Rattle.ae_math.specs.Fractions.{ℚ, ratio}
use Rattle.ae_math.specs.Forms.{number as number_form}
use Rattle.ae_num.specs.Forms.{meaning, SameMeaning}
use Rattle.ae_num.specs.Limits.{FitsLimits}
use Rattle.ae_num.proofs.ReductionLaws.{read_back}
use Rattle.ae_rules.specs.Linear.{rule_of}
use Rattle.ae_store.specs.Growing.{IsFront}
use Rattle.ae_store.specs.Shapes.{shapes}
use Rattle.ae_store.specs.Terms.{terms}
use Rattle.ae_store.proofs.EnterLaws.{front_same}
use Rattle.ae_just.specs.declared.steps.Step.{Step}
use Rattle.ae_state_steps.specs.ValueSteps.{name_side, value_side}
use Rattle.ae_value_steps.proofs.Added.{front}
use Rattle.ae_value_table.specs.Table.{number_at, leaf_at}
use Rattle.ae_constants.specs.Rules.{standing_for}
use Rattle.ae_take_in.specs.Inner.Operations.{IsByRule}
use Rattle.ae_take_in.proofs.Rules.{rule_is, by_rule}
use Rattle.ae_take_in.proofs.Steps.{by_none}
use Rattle.ae_take_in.proofs.Firsts.{applies, below, numeral_is, numeral_numbers, numeral_first, fresh_uncomputed, if_first, if_uncomputed}
use Rattle.ae_take_in.proofs.computing.first_number.Goals as goal

-- ---- fresh constants
pub returns-in-Fresh-clause-none : goal.returns-in-Fresh-clause-none
returns-in-Fresh-clause-none c =
    let s = c.args.store.now in fresh_uncomputed s.signature s.nodes c.len-len.ensures.store c.args.name c.node-node.result.now c.node-node.ensures.node c.in-Fresh.field-0 c.in-Fresh.is

pub returns-in-Fresh-clause-front : goal.returns-in-Fresh-clause-front
returns-in-Fresh-clause-front c = front_same c.args.justs.now

-- ---- numerals
pub numeral-requires-clause-is : goal.numeral-requires-clause-is
numeral-requires-clause-is c =
    let s = c.args.store.now in
    let n = numeral_numbers s.signature s.nodes c.len-len.ensures.store c.args.name c.node-node.result.now c.node-node.ensures.node c.in-Num.top c.in-Num.bottom c.in-Num.is in
    numeral_is s.signature s.nodes c.len-len.ensures.store c.args.name c.node-node.result.now c.node-node.ensures.node c.in-Num.top c.in-Num.bottom c.in-Num.is c.args.real c.requires.name
    ∙ (λ j. Num (sym (read_back c.in-Num.top n.top_within) j) (sym (read_back c.in-Num.bottom n.bottom_within) j) c.args.real)

pub numeral-requires-clause-bottom : goal.numeral-requires-clause-bottom
numeral-requires-clause-bottom c =
    let s = c.args.store.now in
    let n = numeral_numbers s.signature s.nodes c.len-len.ensures.store c.args.name c.node-node.result.now c.node-node.ensures.node c.in-Num.top c.in-Num.bottom c.in-Num.is in
    subst (λ (z : ℤ). pos 0 <ℤ z) (sym (read_back c.in-Num.bottom n.bottom_within)) n.positive

pub numeral-requires-clause-top_within : goal.numeral-requires-clause-top_within
numeral-requires-clause-top_within c =
    let s = c.args.store.now in
    let n = numeral_numbers s.signature s.nodes c.len-len.ensures.store c.args.name c.node-node.result.now c.node-node.ensures.node c.in-Num.top c.in-Num.bottom c.in-Num.is in
    subst FitsLimits (sym (read_back c.in-Num.top n.top_within)) n.top_within

pub numeral-requires-clause-bottom_within : goal.numeral-requires-clause-bottom_within
numeral-requires-clause-bottom_within c =
    let s = c.args.store.now in
    let n = numeral_numbers s.signature s.nodes c.len-len.ensures.store c.args.name c.node-node.result.now c.node-node.ensures.node c.in-Num.top c.in-Num.bottom c.in-Num.is in
    subst FitsLimits (sym (read_back c.in-Num.bottom n.bottom_within)) n.bottom_within

pub returns-in_ok-constant-in-Num-clause-some : goal.returns-in_ok-constant-in-Num-clause-some
returns-in_ok-constant-in-Num-clause-some c =
    let s = c.args.store.now in
    let js = c.args.justs.now in
    let g = c.in_ok-constant-in-Num.constant in
    let e = c.in_ok-constant-in-Num.ensures in
    let n = numeral_numbers s.signature s.nodes c.len-len.ensures.store c.args.name c.node-node.result.now c.node-node.ensures.node c.in-Num.top c.in-Num.bottom c.in-Num.is in
    let means : SameMeaning (meaning g.value) (number_form (ratio c.in-Num.top c.in-Num.bottom)) =
    subst (λ (y : ℚ). SameMeaning (meaning g.value) (number_form y)) (λ j. ratio (read_back c.in-Num.top n.top_within j) (read_back c.in-Num.bottom n.bottom_within j)) e.numeral in
    numeral_first s.signature s.nodes c.len-len.ensures.store c.args.name c.node-node.result.now c.node-node.ensures.node c.in-Num.top c.in-Num.bottom c.in-Num.is js c.numeral.new.justs c.args.values.now c.args.real c.requires.name g
    (by_none s.signature (terms (shapes s.nodes)) c.args.values.now c.args.real c.args.name (number_form (ratio c.in-Num.top c.in-Num.bottom)) g means e.written js c.numeral.new.justs c.numeral.ensures.fits e.added)

pub returns-in_ok-constant-in-Num-clause-front : goal.returns-in_ok-constant-in-Num-clause-front
returns-in_ok-constant-in-Num-clause-front c =
    let g = c.in_ok-constant-in-Num.constant in
    front c.args.justs.now c.numeral.new.justs g.step (name_side c.args.real c.args.name g.value) (value_side c.args.real g.value) [] c.in_ok-constant-in-Num.ensures.added

pub returns-in_err-constant-in-Num-clause-front : goal.returns-in_err-constant-in-Num-clause-front
returns-in_err-constant-in-Num-clause-front c = subst (λ (js : List Step). IsFront c.args.justs.now js) (sym c.in_err-constant-in-Num.ensures.err) (front_same c.args.justs.now)

-- ---- operations
pub operation-requires-clause-applied : goal.operation-requires-clause-applied
operation-requires-clause-applied c =
    let s = c.args.store.now in
    let ts = terms (shapes s.nodes) in
    let p = c.node-node.result.now in
    let r = c.computed_by-rule.result in
    let rule : rule_of c.in-Of.head p.args ≡ standing_for (λ i. i) r =
    rule_is c.in-Of.head p.args r (λ f. subst (λ (names : List ℕ). rule_of c.in-Of.head (map f names) ≡ standing_for f r) c.as_slice.ensures (c.computed_by-rule.ensures.rule f)) in
    subst (IsByRule s.signature ts c.args.real c.args.name) rule
    (by_rule s.signature ts c.args.name c.in-Of.head p.sorts p.args c.args.real (applies s.signature s.nodes c.len-len.ensures.store c.args.name p c.node-node.ensures.node c.in-Of.head c.in-Of.is) c.requires.name)

pub operation-requires-clause-below : goal.operation-requires-clause-below
operation-requires-clause-below c =
    let s = c.args.store.now in
    let n = c.args.name in
    let p = c.node-node.result.now in
    c.computed_by-rule.ensures.below n (subst (λ (names : List ℕ). AllByRecursion (λ a. a < n) names) (sym c.as_slice.ensures) (below s.signature s.nodes c.len-len.ensures.store n p c.node-node.ensures.node c.in-Of.head c.in-Of.is))

pub operation-requires-clause-numbers : goal.operation-requires-clause-numbers
operation-requires-clause-numbers c = λ k l h.
    let s = c.args.store.now in
    let v = c.args.values.now in
    let w : c.args.name < length s.nodes = c.requires.within in
    c.names_of_constants_have_their_number.ensures s.signature s.nodes c.args.name (number_at v) (leaf_at v) c.len-len.ensures.store c.requires.first k l (omega (arith, l, w)) h

pub returns-in_ok-made-in-Of-clause-some : goal.returns-in_ok-made-in-Of-clause-some
returns-in_ok-made-in-Of-clause-some c =
    let s = c.args.store.now in
    let ts = terms (shapes s.nodes) in
    let p = c.node-node.result.now in
    let r = c.computed_by-rule.result in
    let store = c.len-len.ensures.store in
    let rule : rule_of c.in-Of.head p.args ≡ standing_for (λ i. i) r =
    rule_is c.in-Of.head p.args r (λ f. subst (λ (names : List ℕ). rule_of c.in-Of.head (map f names) ≡ standing_for f r) c.as_slice.ensures (c.computed_by-rule.ensures.rule f)) in
    let applied : IsByRule s.signature ts c.args.real c.args.name (standing_for (λ i. i) r) =
    subst (IsByRule s.signature ts c.args.real c.args.name) rule
    (by_rule s.signature ts c.args.name c.in-Of.head p.sorts p.args c.args.real (applies s.signature s.nodes store c.args.name p c.node-node.ensures.node c.in-Of.head c.in-Of.is) c.requires.name) in
    if_first s.signature s.nodes store c.args.name p c.node-node.ensures.node c.in-Of.head c.in-Of.is r rule c.args.justs.now c.operation.new.justs c.args.values.now c.args.real c.requires.first applied c.in_ok-made-in-Of.made c.in_ok-made-in-Of.ensures.some

pub returns-in_ok-made-in-Of-clause-none : goal.returns-in_ok-made-in-Of-clause-none
returns-in_ok-made-in-Of-clause-none c =
    let s = c.args.store.now in
    let p = c.node-node.result.now in
    let r = c.computed_by-rule.result in
    let rule : rule_of c.in-Of.head p.args ≡ standing_for (λ i. i) r =
    rule_is c.in-Of.head p.args r (λ f. subst (λ (names : List ℕ). rule_of c.in-Of.head (map f names) ≡ standing_for f r) c.as_slice.ensures (c.computed_by-rule.ensures.rule f)) in
    if_uncomputed s.signature s.nodes c.len-len.ensures.store c.args.name p c.node-node.ensures.node c.in-Of.head c.in-Of.is r rule c.in_ok-made-in-Of.made c.in_ok-made-in-Of.ensures.none
