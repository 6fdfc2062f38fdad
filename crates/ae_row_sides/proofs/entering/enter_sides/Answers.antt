use Rattle.std.specs.Prelude.{true, Some, ◌≡◌}
use Rattle.std.proofs.Common.{sym, ap, ◌∙◌, subst}
use Rattle.ae_core.specs.declared.terms.Term.{Term}
use Rattle.ae_store.specs.Names.{enterable}
use Rattle.ae_store.specs.Shapes.{shapes}
use Rattle.ae_store.specs.Terms.{terms}
use Rattle.ae_row_sides.proofs.Kept.{names_within}
use Rattle.ae_row_sides.proofs.Whole.{sides_are_whole, enterable_side}
use Rattle.ae_row_sides.proofs.entering.enter_sides.Goals as goal

pub other_side-requires-clause-names : goal.other_side-requires-clause-names
other_side-requires-clause-names c = names_within c.args.signature.now c.args.store.now.nodes c.args.row.now c.requires.whole

pub side-requires : goal.side-requires
side-requires c = names_within c.args.signature.now c.args.store.now.nodes c.args.row.now c.requires.whole

pub intern-requires-clause-known : goal.intern-requires-clause-known
intern-requires-clause-known c =
    let sig = c.args.signature.now in
    subst (λ (t : Term). enterable sig t ≡ true) (sym c.in_ok-left.ensures) (enterable_side sig _ (sides_are_whole sig (terms (shapes c.args.store.now.nodes)) c.args.row.now c.requires.normal c.requires.whole).1)

pub intern-requires-2-clause-known : goal.intern-requires-2-clause-known
intern-requires-2-clause-known c =
    let sig = c.args.signature.now in
    subst (λ (t : Term). enterable sig t ≡ true) (sym c.in_ok-right.ensures) (enterable_side sig _ (sides_are_whole sig (terms (shapes c.args.store.now.nodes)) c.args.row.now c.requires.normal c.requires.whole).0)

pub returns-clause-other : goal.returns-clause-other
returns-clause-other c = c.intern-2.ensures.keeps c.in_ok-other.other _ (c.in_ok-other.ensures.term ∙ ap Some c.in_ok-left.ensures)

pub returns-clause-side : goal.returns-clause-side
returns-clause-side c = c.in_ok-side.ensures.term ∙ ap Some c.in_ok-right.ensures

pub returns-clause-keeps : goal.returns-clause-keeps
returns-clause-keeps c i t e = c.intern-2.ensures.keeps i t (c.intern.ensures.keeps i t e)
