use Rattle.std.proofs.Common.{sym, ◌∙◌, ap, arith}
use Rattle.ae_pmap.specs.Trees.{levels}
use Rattle.ae_pmap.specs.Nodes.{tree_at}
use Rattle.ae_pmap.proofs.Tables.{tree_at-zero}
use Rattle.ae_pmap.proofs.Opened.{opened}
use Rattle.ae_pmap.proofs.nodes.height.Goals as goal

pub returns-then-place-eq0 : goal.returns-then-place-eq0
returns-then-place-eq0 c = sym (ap levels (ap (tree_at c.args.nodes.now) c.if-place-eq0.true ∙ tree_at-zero c.args.nodes.now))

pub returns-else-place-eq0 : goal.returns-else-place-eq0
returns-else-place-eq0 c = (opened c.args.nodes.now c.args.place (record { key = 0; value = 0; left = 0; right = 0; height = 0 }) c.requires.sound (omega arith) c.requires.place).height
