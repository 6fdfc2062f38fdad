use Rattle.std.proofs.Common.{rules, ◌<◌, ◌≡◌, sym, subst, suc, length, map, arith}
use Rattle.std.specs.List.{AllByRecursion}
use Rattle.ae_math.specs.Fractions.{ratio}
use Rattle.ae_math.specs.Forms as forms
use Rattle.ae_naturals.specs.Fractions.{value_of}
use Rattle.ae_rules.specs.Linear.{rule_of}
use Rattle.ae_store.specs.Shapes.{shapes}
use Rattle.ae_store.specs.Terms.{terms, named}
use Rattle.ae_constants.specs.Forms.{meaning, IsExact}
use Rattle.ae_constants.specs.Rules.{IsHeadOf, standing_for}
use Rattle.ae_constants.specs.Tables.{with_form}
use Rattle.ae_constants.proofs.TableLaws.{head_of_name, args_below, applied_form, numeral_form, fresh_form}
use Rattle.ae_constants.proofs.table.form_of.Goals as goal

pub applied-requires-clause-below : goal.applied-requires-clause-below
applied-requires-clause-below c =
    let n = length c.args.earlier.now in
    c.computed_by-computed.ensures.below n
    (subst (AllByRecursion (λ b. b < n)) (sym c.as_slice.ensures) (args_below c.args.store.now.signature c.args.store.now.nodes c.requires.store n c.node-node.result.now c.node-node.ensures.node))

pub returns-in_ok-constant-in-Num : goal.returns-in_ok-constant-in-Num
returns-in_ok-constant-in-Num c =
    let ts = terms (shapes c.args.store.now.nodes) in
    let n = length c.args.earlier.now in
    let head = head_of_name c.args.store.now.signature c.args.store.now.nodes c.requires.store n c.node-node.result.now c.node-node.ensures.node in
    let number : value_of c.in_ok-constant-in-Num.constant ≡ ratio c.in-Num.top c.in-Num.bottom = search rules in
    subst (λ g. IsExact ts (suc n) g (meaning c.number.result)) (sym (numeral_form (named ts n) c.in-Num.top c.in-Num.bottom (subst (λ h. IsHeadOf h (named ts n)) c.in-Num.is head)))
    (subst (λ x. IsExact ts (suc n) (forms.number x) (meaning c.number.result)) number (c.number.ensures ts (suc n)))

pub returns-in_ok-fresh-in-Fresh : goal.returns-in_ok-fresh-in-Fresh
returns-in_ok-fresh-in-Fresh c =
    let ts = terms (shapes c.args.store.now.nodes) in
    let n = length c.args.earlier.now in
    let head = head_of_name c.args.store.now.signature c.args.store.now.nodes c.requires.store n c.node-node.result.now c.node-node.ensures.node in
    subst (λ g. IsExact ts (suc n) g (meaning c.in_ok-fresh-in-Fresh.fresh)) (sym (fresh_form (named ts n) c.in-Fresh.field-0 (subst (λ h. IsHeadOf h (named ts n)) c.in-Fresh.is head)))
    (c.in_ok-fresh-in-Fresh.ensures ts (suc n) (omega arith))

pub returns-in_ok-whole-in-Of : goal.returns-in_ok-whole-in-Of
returns-in_ok-whole-in-Of c =
    let ts = terms (shapes c.args.store.now.nodes) in
    let n = length c.args.earlier.now in
    let computed = c.computed_by-computed.result in
    let rule : rule_of c.in-Of.head (map (with_form ts) c.node-node.result.now.args) ≡ standing_for (with_form ts) computed =
    subst (λ names. rule_of c.in-Of.head (map (with_form ts) names) ≡ standing_for (with_form ts) computed) c.as_slice.ensures (c.computed_by-computed.ensures.rule (with_form ts)) in
    subst (λ g. IsExact ts (suc n) g (meaning c.in_ok-whole-in-Of.whole))
    (sym (applied_form c.args.store.now.signature c.args.store.now.nodes c.requires.store n c.node-node.result.now c.in-Of.head computed c.node-node.ensures.node c.in-Of.is rule))
    c.in_ok-whole-in-Of.ensures
