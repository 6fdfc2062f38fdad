use Rattle.std.proofs.Common.{◌≡◌, ◌∙◌, List, ℕ, [], sym, ap, subst}
use Rattle.ae_elab.specs.declared.faults.TypeFault.{TypeFault}
use Rattle.ae_elab.specs.declared.faults.TypeFault.TheVariants as fault
use Rattle.ae_elab.specs.Scope.{name_in}
use Rattle.ae_elab.specs.Steps.{AreNotMet}
use Rattle.ae_elab.proofs.WalkLaws.{refuse_stops}
use Rattle.ae_expressions.specs.FieldParts.{no_field}
use Rattle.ae_typing.proofs.record_steps.field_at.Goals as goal

pub returns-in_ok-unknown_name-in-None-clause-fault : goal.returns-in_ok-unknown_name-in-None-clause-fault
returns-in_ok-unknown_name-in-None-clause-fault c m =
    let text = c.args.context.now.text.now in
    let at = c.args.place in
    let shows : c.in_ok-unknown_name-in-None.field-0 ≡ fault.UnknownName (name_in text at) at.from at.to = c.in_ok-unknown_name-in-None.ensures ∙ ap (λ (n : List ℕ). fault.UnknownName n at.from at.to) c.name_at-name.ensures in
    subst (λ (e : TypeFault). AreNotMet (no_field text at) m e) (sym shows) (refuse_stops {A = ℕ} (fault.UnknownName (name_in text at) at.from at.to) 0 m (record { next = 0; written = [] }))
