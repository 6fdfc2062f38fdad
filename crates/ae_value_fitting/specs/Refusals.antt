-- What is said of a width that a refusal names.
use Rattle.ae_journal.specs.declared.answers.WideAt.{WideAt}
use Rattle.ae_value_fitting.specs.declared.refusals.Refused.{Refused}
use Rattle.ae_value_fitting.specs.declared.refusals.Refused.TheVariants.{Number, Memory}

abbrev pub IfNumber : Refused → (WideAt → Type 0) → Type 0
IfNumber (Number w) P = P w
IfNumber (Memory m) P = Unit {0}
