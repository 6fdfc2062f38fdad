use Rattle.std.proofs.Common.{◌∙◌, Option, ap}
use Rattle.ae_core.specs.declared.terms.Term.{Term}
use Rattle.ae_elab.specs.Elaboration.{field_term}
use Rattle.ae_elaboration.proofs.elaboration.field_value.Goals as goal

pub returns-in_ok-copy-in-Some : goal.returns-in_ok-copy-in-Some
returns-in_ok-copy-in-Some c =
    c.in_ok-copy-in-Some.ensures ∙ ap (λ (o : Option Term). field_term c.args.of c.args.sorts.now c.args.base.now c.args.place o) c.in-Some.ensures

pub returns-in_ok-field-in-None : goal.returns-in_ok-field-in-None
returns-in_ok-field-in-None c =
    c.in_ok-field-in-None.ensures ∙ ap (λ (o : Option Term). field_term c.args.of c.args.sorts.now c.args.base.now c.args.place o) c.in-None.ensures
