use Rattle.std.proofs.Common.{List, sym, subst}
use Rattle.ae_theory.specs.Classes.{AllFit, extends_itself}
use Rattle.ae_theory.specs.declared.nodes.Node.{Node}
use Rattle.ae_theory.proofs.Conflicts.{back_fits}
use Rattle.ae_theory.proofs.constants.ConstantsTheory.explain.Goals as goal

pub explained-requires-clause-fits : goal.explained-requires-clause-fits
explained-requires-clause-fits c =
    let s = c.args.store.now in
    let fits = (back_fits c.args.self.now c.self.inside.nodes c.self.inside.last c.self.inside.last c.self.view_is s c.requires.fits) s (extends_itself s) in
    subst (λ (w : List Node). AllFit s w) (sym c.as_slice.ensures) fits.each
