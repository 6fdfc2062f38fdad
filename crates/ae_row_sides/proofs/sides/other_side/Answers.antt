use Rattle.std.specs.Prelude.{length, ◌≡◌}
use Rattle.std.proofs.Common.{sym, ap, ◌∙◌, subst}
use Rattle.std.proofs.lemmas.Result.{IfOk-weaker}
use Rattle.ae_core.specs.declared.terms.Sort.{Int}
use Rattle.ae_core.specs.declared.terms.Term.{Term}
use Rattle.ae_journal.specs.Sides as spec
use Rattle.ae_num.specs.declared.forms.Lin.{Lin}
use Rattle.ae_store.specs.Shapes.{shapes}
use Rattle.ae_store.specs.Terms.{terms}
use Rattle.ae_row_sides.specs.Names.{AreNames}
use Rattle.ae_row_sides.proofs.Kept.{names_opposite}
use Rattle.ae_row_sides.proofs.sides.other_side.Goals as goal

pub side-requires : goal.side-requires
side-requires c =
    subst (λ (f : Lin). AreNames (length c.args.store.now.nodes) f.parts) (sym c.in_ok-other.ensures) (names_opposite (length c.args.store.now.nodes) c.args.row.now c.requires.names)

pub returns : goal.returns
returns c =
    let ts = terms (shapes c.args.store.now.nodes) in
    IfOk-weaker c.side.result (λ (t : Term). t ≡ spec.side Int ts c.in_ok-other.other) (λ (t : Term). t ≡ spec.other_side Int ts c.args.row.now) (λ t e. e ∙ ap (spec.side Int ts) c.in_ok-other.ensures) c.side.ensures
