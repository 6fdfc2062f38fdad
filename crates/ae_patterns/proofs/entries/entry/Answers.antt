use Rattle.std.proofs.Common.{sym, subst}
use Rattle.ae_core.specs.declared.terms.Sort.{Sort}
use Rattle.ae_store.specs.Shapes.{shapes}
use Rattle.ae_store.specs.Terms.{terms, named, IsOfSort}
use Rattle.ae_patterns.proofs.NodePatterns.{sorted}
use Rattle.ae_patterns.proofs.entries.entry.Goals as goal

pub returns : goal.returns
returns c =
    let s = c.args.store.now in
    record {
      sort = subst (λ (o : Sort). IsOfSort s.signature (named (terms (shapes s.nodes)) c.args.name) o) (sym c.in_ok-sort.ensures) (sorted s.signature s.nodes c.len-len.ensures.store c.args.name c.node-node.result.now c.node-node.ensures.node);
      pattern = c.in_ok-pattern.ensures;
    }
