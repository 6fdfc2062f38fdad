use Rattle.std.proofs.Common.{◌≡◌, ℕ, List}
use Rattle.ae_core.specs.declared.problems.Signature.{Signature}
use Rattle.ae_elab.specs.Inner.Fields.{no_fields}
use Rattle.ae_elab.proofs.RecordRules.{FieldsSoFar}
use Rattle.ae_elab.proofs.declarations.add_fields.Given as goal

abbrev pub invariant-loop-field : goal.invariant-loop-field
invariant-loop-field l =
    (before : Signature) (own : List ℕ) (arity : ℕ) → l.fn.known ≡ no_fields before own arity
    → FieldsSoFar l.text before l.ground own arity l.field-items l.fn.passing l.passing l.known l.field-index
