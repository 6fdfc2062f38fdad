use Rattle.std.specs.Prelude.{◌<◌, length}
use Rattle.std.proofs.Common.{sym, ◌∙◌, arith}
use Rattle.ae_base.proofs.Tests.{true_false}
use Rattle.ae_value_table.specs.Alike.{alike}
use Rattle.ae_value_table.specs.Table.{value_in}
use Rattle.ae_solving.proofs.RecordParts.{item_at, map_more, same_names, same_values}
use Rattle.ae_solving.proofs.records.first_apart.Goals as goal

pub returns-then-not-same-clause-apart : goal.returns-then-not-same-clause-apart
returns-then-not-same-clause-apart c =
    let s = c.args.store.now in
    let v = c.args.values.now in
    let i = c.loop-i.i in
    let a = c.index-left-i.result in
    let b = c.index-right-i.result in
    let l : i < length c.args.left.now = c.loop-i-test.true in
    let m : i < length c.args.right.now = omega (arith, l, c.requires.lists.as_many) in
    let at = item_at c.args.left.now i a l c.index-left-i.is in
    let there = item_at c.args.right.now i b m c.index-right-i.is in
    record {
      first = a;
      second = b;
      first_there = at;
      second_there = there;
      differ = λ e.
          true_false
          (sym (same_names s.signature s.nodes v c.len-names.ensures.store c.requires.patterns c.requires.values a b (c.requires.lists.each i a b at there) e)
          ∙ (λ z. alike v (sym c.name_of.ensures z) (sym c.name_of-in-loop-i.ensures z)) ∙ sym c.same.ensures ∙ c.if-not-same.true);
    }

pub loop-i-preserved : goal.loop-i-preserved
loop-i-preserved c =
    let s = c.args.store.now in
    let v = c.args.values.now in
    let i = c.loop-i.i in
    let a = c.index-left-i.result in
    let b = c.index-right-i.result in
    let l : i < length c.args.left.now = c.loop-i-test.true in
    let m : i < length c.args.right.now = omega (arith, l, c.requires.lists.as_many) in
    let at = item_at c.args.left.now i a l c.index-left-i.is in
    let there = item_at c.args.right.now i b m c.index-right-i.is in
    map_more (value_in v) c.args.left.now c.args.right.now i a b at there c.loop-i.invariant
    (same_values s.signature s.nodes v c.len-names.ensures.store c.requires.patterns c.requires.values a b (c.requires.lists.each i a b at there)
    ((λ z. alike v (sym c.name_of.ensures z) (sym c.name_of-in-loop-i.ensures z)) ∙ sym c.same.ensures ∙ c.if-not-same.false))
