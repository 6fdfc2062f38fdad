use Rattle.std.proofs.Common.{◌∙◌, sym}
use Rattle.ae_rules.specs.Linear.{form}
use Rattle.ae_computing.specs.Inner.Exact.{meaning}
use Rattle.ae_computing.proofs.ExactLaws.{number_some, number_none}
use Rattle.ae_computing.proofs.forms.number_of.Goals as goal

pub returns-then-branch : goal.returns-then-branch
returns-then-branch c =
    number_some (meaning c.in_ok-form.form) (form c.args.term.now) c.in_ok-form.ensures (sym c.in_ok-is_number.ensures ∙ c.if-branch.true)

pub returns-else-branch : goal.returns-else-branch
returns-else-branch c =
    number_none (meaning c.in_ok-form.form) (form c.args.term.now) c.in_ok-form.ensures (sym c.in_ok-is_number.ensures ∙ c.if-branch.false)
