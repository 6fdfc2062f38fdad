use Rattle.std.proofs.Common.{List}
use Rattle.ae_core.specs.declared.terms.Term.{Term}
use Rattle.ae_core.specs.declared.formulas.Formula.{Formula}
use Rattle.ae_elab.specs.Elaboration.{Cases, leaf}
use Rattle.ae_lifting.specs.Lifting.{said_of}
use Rattle.ae_lifting.specs.declared.cases.Atom.{Atom}
use Rattle.ae_lifting.proofs.LiftingLaws.{formula_answer_at_leaf, formula_answer_at_branch}
use Rattle.ae_lifting.proofs.cases.+lifted.Goals as goal

abbrev said : Atom → List Term → Cases Formula
said atom us = leaf (said_of atom us)

pub returns-in-Leaf : goal.returns-in-Leaf
returns-in-Leaf t c = formula_answer_at_leaf (said c.args.atom.now) c.args.terms c.atom_of.result c.in-Leaf.us c.in-Leaf.is c.atom_of.ensures

pub returns-in-Branch : goal.returns-in-Branch
returns-in-Branch t c =
    formula_answer_at_branch (said c.args.atom.now) c.args.terms c.either_of.result c.in-Branch.condition c.in-Branch.positive c.in-Branch.negative _ _ _ _ c.in-Branch.is
    c.into_inner-left.ensures c.into_inner-right.ensures c.lifted-yes.ensures c.lifted-no.ensures c.either_of.ensures
