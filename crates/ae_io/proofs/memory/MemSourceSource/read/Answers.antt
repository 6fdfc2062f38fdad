use Rattle.std.proofs.Common.{rules, arith, ap, sym, ◌∙◌, length}
use Rattle.std.proofs.lemmas.Grind.{common_steps}
use Rattle.ae_io.proofs.Pieces.{piece_read, none_left}
use Rattle.ae_io.proofs.memory.MemSourceSource.read.Goals as goal

pub returns-clause-bytes : goal.returns-clause-bytes
returns-clause-bytes c = (
  ap (λ s. s.left) (sym c.self.view_is) ∙ piece_read c.self.inside.bytes.items c.copy_from_slice.new.self _ c.self.inside.at c.min-count.result (search rules) (search (rules, arith)),
  λ e h. none_left c.self.inside.bytes.items c.self.inside.at c.min-count.result c.self.inside.piece (length c.args.buf.now) (search rules) c.self.invariant.1 (grind (arith, common_steps, h)) e,
)
