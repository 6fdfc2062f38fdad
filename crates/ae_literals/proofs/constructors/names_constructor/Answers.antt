use Rattle.std.specs.Prelude.{◌↔◌, IsTrue}
use Rattle.std.proofs.Common.{subst}
use Rattle.ae_data.proofs.ConstructorLaws.{named_by, node_by}
use Rattle.ae_literals.specs.Inner.Seen.{IsOfConstructor}
use Rattle.ae_literals.proofs.constructors.names_constructor.Goals as goal

pub returns : goal.returns
returns c =
    let sig = c.args.store.now.signature in
    let nodes = c.args.store.now.nodes in
    let p = c.node.result.now in
    let tells : IsTrue c.is_of_constructor.result ↔ IsOfConstructor sig p = subst (λ s. IsTrue c.is_of_constructor.result ↔ IsOfConstructor s p) c.requires.same c.is_of_constructor.ensures in (
      λ t. let k = tells.0 t in (k.0, named_by sig nodes c.len-len.ensures.store c.args.name p c.node.ensures.node k.0 k.1 k.2),
      λ k. tells.1 (k.0, node_by sig nodes c.len-len.ensures.store c.args.name p c.node.ensures.node k.0 k.1, (k.1).constructor),
    )
