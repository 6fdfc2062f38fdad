use Rattle.std.specs.Prelude.{◌≡◌, length}
use Rattle.std.proofs.Common.{sym, ap, ◌∙◌, subst}
use Rattle.std.proofs.lemmas.Result.{IfOk-weaker}
use Rattle.ae_core.specs.declared.terms.Term.{Term}
use Rattle.ae_just.specs.declared.steps.Side.{Side}
use Rattle.ae_just.specs.Sides.{side_term, IsWithin}
use Rattle.ae_store.specs.Shapes.{shapes}
use Rattle.ae_store.specs.Terms.{terms}
use Rattle.ae_bound_blocks.specs.Said.{sum_term}
use Rattle.ae_bound_blocks.proofs.lines.sum_term.Goals as goal

pub side_term-requires : goal.side_term-requires
side_term-requires c = subst (λ (s : Side). IsWithin (length (terms (shapes c.args.store.now.nodes))) s) (sym c.in_ok-side.ensures) c.requires.within

pub returns : goal.returns
returns c =
    let ts = terms (shapes c.args.store.now.nodes) in
    IfOk-weaker c.side_term.result (λ (t : Term). t ≡ side_term ts c.in_ok-side.side) (λ (t : Term). t ≡ sum_term ts c.args.real c.args.form.now) (λ t e. e ∙ ap (side_term ts) c.in_ok-side.ensures) c.side_term.ensures
