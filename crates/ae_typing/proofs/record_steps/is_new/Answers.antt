use Rattle.std.proofs.Common.{arith, ◌≡◌, ◌∙◌, ℕ, List, true, false, nat_eq, reverse, sym, ap, subst}
use Rattle.std.specs.List.{list_any}
use Rattle.ae_elab.specs.declared.faults.TypeFault.{TypeFault}
use Rattle.ae_elab.specs.declared.faults.TypeFault.TheVariants as fault
use Rattle.ae_elab.specs.Scope.{name_in}
use Rattle.ae_elab.specs.Steps.{AreNotMet}
use Rattle.ae_expressions.specs.FieldParts.{new_field}
use Rattle.ae_typing.proofs.RecordLaws.{any_reversed, field_other, field_again, field_new}
use Rattle.ae_typing.proofs.record_steps.is_new.Goals as goal

pub returns-then-found-of-clause-fault : goal.returns-then-found-of-clause-fault
returns-then-found-of-clause-fault c m =
    let text = c.args.context.now.text.now in
    let got = reverse c.args.got.now in
    subst (λ (e : TypeFault). AreNotMet (new_field text c.args.own c.args.of got c.args.found c.args.name) m e) (sym c.missing_field.ensures)
    (field_other text c.args.own c.args.of got c.args.found c.args.name (λ z. omega (arith, z, c.if-found-of.true)) m)

pub returns-then-is_among-clause-fault : goal.returns-then-is_among-clause-fault
returns-then-is_among-clause-fault c m =
    let text = c.args.context.now.text.now in
    let at = c.args.name in
    let f = c.args.found in
    let got = c.args.got.now in
    let shows : c.in_ok-twice.field-0 ≡ fault.Twice (name_in text at) at.from at.to = c.in_ok-twice.ensures ∙ ap (λ (n : List ℕ). fault.Twice n at.from at.to) c.name_at.ensures in
    let of_type : c.args.found.of ≡ c.args.of = omega (arith, c.if-found-of.false) in
    let there : list_any (nat_eq f.place) (reverse got) ≡ true = any_reversed (nat_eq f.place) got ∙ sym c.is_among.ensures ∙ c.if-is_among.true in
    subst (λ (e : TypeFault). AreNotMet (new_field text c.args.own c.args.of (reverse got) f at) m e) (sym shows)
    (field_again text c.args.own c.args.of (reverse got) f at of_type there m)

pub returns-clause-met : goal.returns-clause-met
returns-clause-met c m =
    let f = c.args.found in
    let got = c.args.got.now in
    let of_type : c.args.found.of ≡ c.args.of = omega (arith, c.if-found-of.false) in
    let new : list_any (nat_eq f.place) (reverse got) ≡ false = any_reversed (nat_eq f.place) got ∙ sym c.is_among.ensures ∙ c.if-is_among.false in
    field_new c.args.context.now.text.now c.args.own c.args.of (reverse got) f c.args.name of_type new m
