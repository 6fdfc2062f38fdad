use Rattle.std.specs.Prelude.{ℕ, ◌-◌, ◌<◌, ◌≡◌, List, length}
use Rattle.std.proofs.Common.{sym, ap, ◌∙◌, subst, arith}
use Rattle.ae_core.specs.declared.terms.Sort.{Sort}
use Rattle.ae_core.specs.declared.terms.Head.TheVariants as head
use Rattle.ae_rules.specs.Lines.{fields_from}
use Rattle.ae_store.specs.Shapes.{shapes}
use Rattle.ae_store.specs.Terms.{terms, named}
use Rattle.ae_strips.specs.Applied.{IsAppliedTo}
use Rattle.ae_value_table.specs.declared.patterns.Pattern.{Pattern}
use Rattle.ae_patterns.specs.Patterns.{ArePatternsOf, no_term}
use Rattle.ae_patterns.specs.Inner.Counts.{count_in}
use Rattle.ae_patterns.proofs.PatternLaws.{plain_var, plain_rigid, plain_bool, plain_unit, plain_named}
use Rattle.ae_patterns.proofs.NodePatterns.{leaf_here, int_here, real_here, record_here, field_here, part_falls, part_within, part_more}
use Rattle.ae_patterns.proofs.patterns.+pattern.Goals as goal

pub returns-in-Int : goal.returns-in-Int
returns-in-Int t c = let s = c.args.store.now in int_here s.signature s.nodes c.len-len.ensures.store c.args.name c.node-node.result.now c.node-node.ensures.node c.in-Int.is

pub returns-in-Real : goal.returns-in-Real
returns-in-Real t c = let s = c.args.store.now in real_here s.signature s.nodes c.len-len.ensures.store c.args.name c.node-node.result.now c.node-node.ensures.node c.in-Real.is

pub returns-in-Var : goal.returns-in-Var
returns-in-Var t c =
    let s = c.args.store.now in
    leaf_here s.signature s.nodes c.len-len.ensures.store c.args.name c.node-node.result.now c.node-node.ensures.node (plain_var s.signature c.node-node.result.now.sort c.in-Var.field-0 c.in-Var.is)

pub returns-in-Rigid : goal.returns-in-Rigid
returns-in-Rigid t c =
    let s = c.args.store.now in
    leaf_here s.signature s.nodes c.len-len.ensures.store c.args.name c.node-node.result.now c.node-node.ensures.node (plain_rigid s.signature c.node-node.result.now.sort c.in-Rigid.field-0 c.in-Rigid.is)

pub returns-in-Bool : goal.returns-in-Bool
returns-in-Bool t c =
    let s = c.args.store.now in
    leaf_here s.signature s.nodes c.len-len.ensures.store c.args.name c.node-node.result.now c.node-node.ensures.node (plain_bool s.signature c.node-node.result.now.sort c.in-Bool.is)

pub returns-in-Unit : goal.returns-in-Unit
returns-in-Unit t c =
    let s = c.args.store.now in
    leaf_here s.signature s.nodes c.len-len.ensures.store c.args.name c.node-node.result.now c.node-node.ensures.node (plain_unit s.signature c.node-node.result.now.sort c.in-Unit.is)

pub returns-in_default : goal.returns-in_default
returns-in_default t c =
    let s = c.args.store.now in
    leaf_here s.signature s.nodes c.len-len.ensures.store c.args.name c.node-node.result.now c.node-node.ensures.node
    (plain_named s.signature c.node-node.result.now.sort c.in-Named.head c.in-Named.args c.in-Named.is (sym (ap (λ g. count_in g c.in-Named.head) c.requires.same) ∙ sym c.in_default.ensures))

pub loop-place-init : goal.loop-place-init
loop-place-init t c =
    let s = c.args.store.now in
    let ts = terms (shapes s.nodes) in
    subst (λ (ps : List Pattern). ArePatternsOf s.signature ts (fields_from c.in-Named.head c.in-Named.args (named ts c.args.name) 0 0) ps) (sym c.new-fields.ensures) no_term

pub field_name-part-requires : goal.field_name-part-requires
field_name-part-requires t c =
    let s = c.args.store.now in
    record {
      there =
          subst (λ (ss : List Sort). (m : ℕ) × IsAppliedTo s.nodes m (head.Field c.in-Named.head c.loop-place.place) ss c.args.name) (sym c.as_slice.ensures)
          (field_here s.signature s.nodes c.len-len.ensures.store c.args.name c.node-node.result.now c.node-node.ensures.node c.in-Named.head c.in-Some.count c.in-Named.args c.in-Named.is
          (sym (ap (λ g. count_in g c.in-Named.head) c.requires.same) ∙ sym c.in-Some.ensures) c.loop-place.place c.loop-place-test.true);
    }

pub pattern-requires : goal.pattern-requires
pattern-requires t c =
    let s = c.args.store.now in
    let i = subst (λ (ss : List Sort). IsAppliedTo s.nodes c.field_name-part.result (head.Field c.in-Named.head c.loop-place.place) ss c.args.name) c.as_slice.ensures c.field_name-part.ensures in (
      subst (λ k. length s.nodes - c.field_name-part.result < k) c.decreases (part_falls s.signature s.nodes c.len-len.ensures.store c.args.name c.node-node.result.now c.node-node.ensures.node c.in-Named.head c.loop-place.place c.field_name-part.result c.in-Named.args i),
      (c.requires.same, part_within s.signature s.nodes c.len-len.ensures.store c.args.name c.node-node.result.now c.node-node.ensures.node c.in-Named.head c.loop-place.place c.field_name-part.result c.in-Named.args i),
    )

pub loop-place-preserved : goal.loop-place-preserved
loop-place-preserved t c =
    let s = c.args.store.now in
    let i = subst (λ (ss : List Sort). IsAppliedTo s.nodes c.field_name-part.result (head.Field c.in-Named.head c.loop-place.place) ss c.args.name) c.as_slice.ensures c.field_name-part.ensures in
    part_more s.signature s.nodes c.len-len.ensures.store c.args.name c.node-node.result.now c.node-node.ensures.node c.in-Named.head c.loop-place.place c.field_name-part.result c.in-Named.args i
    c.loop-place.fields c.push.new.self c.in_ok-shape-in-Named.shape c.loop-place.invariant c.in_ok-shape-in-Named.ensures c.in_ok-push-in-Named.ensures.ok

pub returns-after-loop-place : goal.returns-after-loop-place
returns-after-loop-place t c =
    let s = c.args.store.now in
    let ts = terms (shapes s.nodes) in
    let end : c.loop-place.place ≡ c.in-Some.count = omega arith in
    record_here s.signature s.nodes c.len-len.ensures.store c.args.name c.node-node.result.now c.node-node.ensures.node c.in-Named.head c.in-Some.count c.in-Named.args c.in-Named.is (sym (ap (λ g. count_in g c.in-Named.head) c.requires.same) ∙ sym c.in-Some.ensures)
    c.loop-place.fields (subst (λ k. ArePatternsOf s.signature ts (fields_from c.in-Named.head c.in-Named.args (named ts c.args.name) 0 k) c.loop-place.fields) end c.loop-place.invariant)
