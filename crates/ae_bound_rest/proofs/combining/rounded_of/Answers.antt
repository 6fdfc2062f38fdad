use Rattle.std.specs.Prelude.{Option, IfSome, IfNone}
use Rattle.std.proofs.Common.{subst}
use Rattle.ae_num.specs.declared.forms.Lin.{Lin}
use Rattle.ae_journal.specs.Sides.{IsRounded}
use Rattle.ae_rounding.specs.Outside.{IsOutside}
use Rattle.ae_bound_rest.proofs.Counting.{itself_outside, itself_same}
use Rattle.ae_bound_rest.proofs.combining.rounded_of.Goals as goal

pub returns-in_default-clause-none : goal.returns-in_default-clause-none
returns-in_default-clause-none c =
    itself_outside c.args.row.now c.requires.normal (subst (λ (o : Option Lin). IfNone o (IsOutside c.args.row.now.strict c.args.row.now.lin)) c.in_default.is c.in_ok-form.ensures.none)

pub returns-then-is_unchanged-clause-none : goal.returns-then-is_unchanged-clause-none
returns-then-is_unchanged-clause-none c =
    itself_same c.args.row.now c.in-Some.form c.requires.normal c.requires.plain (c.is_unchanged.ensures.loose c.if-is_unchanged.true) (c.is_unchanged.ensures.same c.if-is_unchanged.true)
    (subst (λ (o : Option Lin). IfSome o (IsRounded c.args.row.now.strict c.args.row.now.lin)) c.in-Some.is c.in_ok-form.ensures.exact)
