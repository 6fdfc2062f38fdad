use Rattle.std.proofs.Common.{List, sym, subst}
use Rattle.ae_theory.specs.Classes.{FitsFrom}
use Rattle.ae_theory.specs.declared.nodes.Node.{Node}
use Rattle.ae_theory.proofs.Conflicts.{assumed_to, back_fits, conflict_to, fits_to, mark_to}
use Rattle.ae_theory.proofs.constants.ConstantsTheory.assume.Goals as goal

pub returns-clause-ok : goal.returns-clause-ok
returns-clause-ok c =
    assumed_to c.args.self.now c.self.inside.nodes c.push_node.new.nodes c.self.inside.last c.len-self-inside.result c.args.lit.now c.in_ok-copy.copy c.args.tag c.in_ok-edge.edge c.self.view_is c.in_ok-copy.ensures
    c.in_ok-push_node.ensures.ok c.len-self-inside.ensures

pub returns-clause-fits : goal.returns-clause-fits
returns-clause-fits c =
    fits_to c.args.self.now c.self.inside.nodes c.push_node.new.nodes c.self.inside.last c.len-self-inside.result c.args.lit.now c.in_ok-copy.copy c.args.tag c.in_ok-edge.edge c.self.view_is c.in_ok-copy.ensures
    c.in_ok-push_node.ensures.ok c.len-self-inside.ensures c.args.store.now c.requires.fits c.in_ok-edge.ensures

pub returns-clause-marks : goal.returns-clause-marks
returns-clause-marks c m then h =
    mark_to c.args.self.now c.self.inside.nodes c.push_node.new.nodes c.self.inside.last c.len-self-inside.result c.args.lit.now c.in_ok-copy.copy c.args.tag c.in_ok-edge.edge c.self.view_is c.in_ok-copy.ensures
    c.in_ok-push_node.ensures.ok c.len-self-inside.ensures m then h

pub returns-clause-conflicts : goal.returns-clause-conflicts
returns-clause-conflicts c k h =
    conflict_to c.args.self.now c.self.inside.nodes c.push_node.new.nodes c.self.inside.last c.len-self-inside.result c.args.lit.now c.in_ok-copy.copy c.args.tag c.in_ok-edge.edge c.self.view_is c.in_ok-copy.ensures
    c.in_ok-push_node.ensures.ok c.len-self-inside.ensures k h

pub returns-in_err-push_node-clause-fits : goal.returns-in_err-push_node-clause-fits
returns-in_err-push_node-clause-fits c =
    subst (λ (w : List Node). FitsFrom w c.args.store.now) (sym c.in_err-push_node.ensures.err) (back_fits c.args.self.now c.self.inside.nodes c.self.inside.last c.self.inside.last c.self.view_is c.args.store.now c.requires.fits)
