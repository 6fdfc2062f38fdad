use Rattle.std.proofs.Common.{refl}
use Rattle.std.proofs.lemmas.Result.{on_ok_weaker}
use Rattle.ae_state.proofs.Learning.{all_kept, fits_grown}
use Rattle.ae_state.proofs.holding.Holding.learn.Goals as goal

pub push_shapes-requires : goal.push_shapes-requires
push_shapes-requires c = record { keeps = ((c.requires.fits).terms).keeps }

pub returns-clause-all : goal.returns-clause-all
returns-clause-all c = on_ok_weaker c.push_shapes.result (λ l. all_kept c.push_shapes.new.shapes c.args.store.now.nodes c.push_shapes.ensures.keeps l) c.push_shapes.ensures.all

pub returns-clause-fits : goal.returns-clause-fits
returns-clause-fits c =
    fits_grown c.args.self.now c.push_shapes.new.shapes c.push_shapes.ensures.front (c.requires.fits).right c.args.store.now ((c.requires.fits).terms).signature c.push_shapes.ensures.keeps

pub returns-clause-front : goal.returns-clause-front
returns-clause-front c = c.push_shapes.ensures.front

pub returns-clause-others : goal.returns-clause-others
returns-clause-others c = refl
