use Rattle.std.specs.Prelude.{[]}
use Rattle.std.proofs.Common.{refl, sym, arith}
use Rattle.std.proofs.lemmas.List.{append-nil}
use Rattle.ae_state.proofs.holding.Holding.mark.Goals as goal

pub returns-clause-mark : goal.returns-clause-mark
returns-clause-mark g c = record {
  values = c.share.ensures.version;
  equations = c.share-2.ensures.version;
  assumed = c.share-3.ensures.version;
  said = c.share-4.ensures.version;
  next = refl;
  signature = refl;
  shapes = ([], sym (append-nil c.args.self.now.shapes));
  justs = ([], sym (append-nil c.args.self.now.justs));
  conflicts = ([], sym (append-nil c.args.self.now.conflicts));
  right = c.requires.right;
}

pub returns-clause-steps : goal.returns-clause-steps
returns-clause-steps g c = omega (arith, c.share.ensures.steps, c.share-2.ensures.steps, c.share-3.ensures.step, c.share-4.ensures.step)
