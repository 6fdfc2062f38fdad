use Rattle.std.proofs.Common.{refl, sym, ◌∙◌}
use Rattle.std.proofs.lemmas.Result.{on_ok_weaker}
use Rattle.ae_bound_points.specs.Inner.Stages.{IsLowerPart, IsPushed}
use Rattle.ae_bound_points.specs.Inner.Stages.IsAdded.{added, left}
use Rattle.ae_bound_points.proofs.Staging.{some_parts, not_other, none_last}
use Rattle.ae_bound_points.proofs.stages.add_lower.Goals as goal

pub returns-in_default : goal.returns-in_default
returns-in_default c = left (λ p e is. none_last c.args.row.now.lin.parts p (sym c.last_of.ensures ∙ c.in_default.is) e) refl

pub returns-then-not-is_lower : goal.returns-then-not-is_lower
returns-then-not-is_lower c = left (λ p e is. c.is_lower.ensures.no c.if-not-is_lower.true (not_other (IsLowerPart c.args.name) c.args.row.now.lin.parts c.in-Some.part p (sym c.in-Some.ensures) e is)) refl

pub add_row-requires-clause-names : goal.add_row-requires-clause-names
add_row-requires-clause-names c = some_parts c.args.row.now.lin.parts c.in-Some.part (sym c.in-Some.ensures)

pub returns : goal.returns
returns c =
    on_ok_weaker c.add_row.result (λ (h : IsPushed c.args.row.now c.args.made.now c.add_row.new.made). added c.in-Some.part (sym c.in-Some.ensures) (c.is_lower.ensures.yes c.if-not-is_lower.false) h) c.add_row.ensures
