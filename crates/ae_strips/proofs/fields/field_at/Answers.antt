use Rattle.std.proofs.Common.{ap, ◌∙◌, sym, arith}
use Rattle.ae_store.specs.declared.nodes.NodeHead.TheVariants.{Of}
use Rattle.ae_strips.proofs.FieldTerms.{only_one}
use Rattle.ae_strips.proofs.fields.field_at.Goals as goal

pub returns-in-len1-clause-some : goal.returns-in-len1-clause-some
returns-in-len1-clause-some c =
    record {
      node = c.node-node.result.now;
      there = c.node-node.ensures.node;
      head = c.in-Of.is ∙ ap Of c.in-Field.is;
      args = sym c.as_slice.ensures ∙ only_one c.as_slice.result.now (let a = c.in-len1.len_at_least in let b = c.in-len1.len_below in omega (arith, a, b));
    }
