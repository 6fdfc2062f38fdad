use Rattle.std.proofs.Common.{◌≡◌, ◌∙◌, sym, ap}
use Rattle.ae_core.specs.declared.terms.Term.{Term}
use Rattle.ae_elab.specs.declared.nodes.Relation.{Relation}
use Rattle.ae_elab.specs.Elaboration.{related}
use Rattle.ae_elab.specs.Nodes.{relation_of}
use Rattle.ae_elaboration.proofs.elaboration.related.Goals as goal

as_written : (x y : Relation) (s t : Term) → x ≡ y → related (relation_of y) s t ≡ related (relation_of x) s t
as_written x y s t e = sym (ap (λ (z : Relation). related (relation_of z) s t) e)

pub returns-in-Equal : goal.returns-in-Equal
returns-in-Equal c = as_written _ _ c.args.left c.args.right c.in-Equal.is

pub returns-in_ok-denied-in-Unequal : goal.returns-in_ok-denied-in-Unequal
returns-in_ok-denied-in-Unequal c = c.in_ok-denied-in-Unequal.ensures ∙ as_written _ _ c.args.left c.args.right c.in-Unequal.is

pub returns-in-Less : goal.returns-in-Less
returns-in-Less c = c.less.ensures ∙ as_written _ _ c.args.left c.args.right c.in-Less.is

pub returns-in-AtMost : goal.returns-in-AtMost
returns-in-AtMost c = c.at_most.ensures ∙ as_written _ _ c.args.left c.args.right c.in-AtMost.is

pub returns-in-Greater : goal.returns-in-Greater
returns-in-Greater c = c.less-turned.ensures ∙ as_written _ _ c.args.left c.args.right c.in-Greater.is

pub returns-in-AtLeast : goal.returns-in-AtLeast
returns-in-AtLeast c = c.at_most-turned.ensures ∙ as_written _ _ c.args.left c.args.right c.in-AtLeast.is
