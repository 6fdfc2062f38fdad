use Rattle.std.specs.Prelude.{◌≡◌, Some, option_copied}
use Rattle.std.proofs.Common.{sym, ap, ◌∙◌, subst}
use Rattle.ae_base.proofs.Tests.{false_true}
use Rattle.ae_linear.specs.Rows.{row_at}
use Rattle.ae_literals.proofs.SeenConstructors.{is_none}
use Rattle.ae_whole_values.specs.Wholes.{IsWhole, IsIntegerName}
use Rattle.ae_whole_values.proofs.Shown.{row_number, no_row_whole, held_there, known_sort, by_step, has_step}
use Rattle.ae_whole_values.proofs.fractions.fraction_at.Goals as goal

pub returns-then-not-is_int-clause-none : goal.returns-then-not-is_int-clause-none
returns-then-not-is_int-clause-none c = λ i.
    false_true (sym c.if-not-is_int.true ∙ c.is_int.ensures.1 (known_sort c.args.values.now c.args.name c.entry.result.now c.entry.ensures i))

pub returns-in_default-clause-none : goal.returns-in_default-clause-none
returns-in_default-clause-none c = λ i.
    no_row_whole c.args.values.now c.args.name (sym c.row.ensures.row ∙ ap option_copied (is_none c.row.result c.in_default.not-Some))

pub is_whole-requires : goal.is_whole-requires
is_whole-requires c = record { normal = (c.row.ensures.rows).normal c.args.name c.in-Some.row.now (sym c.row.ensures.row ∙ ap option_copied c.in-Some.is) }

pub returns-then-is_whole-clause-none : goal.returns-then-is_whole-clause-none
returns-then-is_whole-clause-none c = λ i.
    let row = c.in-Some.row.now in
    let there : row_at c.args.values.now.rows c.args.name ≡ Some row = sym c.row.ensures.row ∙ ap option_copied c.in-Some.is in
    subst IsWhole (row_number c.args.values.now c.args.name row there) (c.is_whole.ensures.0 c.if-is_whole.true)

pub returns-clause-none : goal.returns-clause-none
returns-clause-none c =
    let row = c.in-Some.row.now in
    let there : row_at c.args.values.now.rows c.args.name ≡ Some row = sym c.row.ensures.row ∙ ap option_copied c.in-Some.is in
    has_step _ c.args.values.now c.args.name c.just.result c.just.ensures (c.requires.said c.args.name row there)

pub returns-clause-some : goal.returns-clause-some
returns-clause-some c =
    let row = c.in-Some.row.now in
    let there : row_at c.args.values.now.rows c.args.name ≡ Some row = sym c.row.ensures.row ∙ ap option_copied c.in-Some.is in
    let integer : IsIntegerName c.args.values.now c.args.name =
    record {
      entry = c.entry.result.now;
      at = held_there c.args.values.now c.args.name c.entry.result.now c.requires.name c.len-taken.ensures.within c.entry.ensures;
      sort = c.is_int.ensures.0 c.if-not-is_int.false;
    } in
    by_step c.args.values.now c.args.name c.just.result c.just.ensures integer row there (λ w. false_true (sym c.if-is_whole.false ∙ c.is_whole.ensures.1 w))
