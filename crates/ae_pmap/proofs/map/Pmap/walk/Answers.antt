use Rattle.std.proofs.Common.{subst}
use Rattle.ae_pmap.specs.Pairs.{Rises}
use Rattle.ae_pmap.specs.Forest.{Forest, present}
use Rattle.ae_pmap.proofs.Values.{present_rises}
use Rattle.ae_pmap.proofs.map.Pmap.walk.Goals as goal

pub returns-clause-rises : goal.returns-clause-rises
returns-clause-rises g c =
    subst (λ (f : Forest g.row.V.Denot). Rises (present f)) c.self.view_is
    (present_rises (record { nodes = c.self.inside.nodes.items; values = c.self.inside.values.items; root = c.self.inside.root }) c.self.invariant.1)
