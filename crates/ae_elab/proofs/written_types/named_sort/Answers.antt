use Rattle.std.proofs.Common.{◌≡◌, ◌∙◌, List, ℕ, Some, None, false, length, sym, ap, subst}
use Rattle.ae_core.specs.Sorts.{type_fits}
use Rattle.ae_elab.specs.declared.faults.TypeFault.{TypeFault}
use Rattle.ae_elab.specs.declared.faults.TypeFault.TheVariants as fault
use Rattle.ae_elab.specs.Scope.{name_in, scope_with, type_number}
use Rattle.ae_elab.specs.Steps.{IsStopped}
use Rattle.ae_elab.specs.WrittenTypes as rule
use Rattle.ae_elab.proofs.TypeRules.{named_unknown, named_self, named_arity}
use Rattle.ae_elab.proofs.written_types.named_sort.Goals as goal

pub returns-in_default-clause-fault : goal.returns-in_default-clause-fault
returns-in_default-clause-fault c p locals m =
    let sc = scope_with c.args.text.now c.args.known.now locals in
    let name = c.name_at-name.ensures in
    let o = type_number c.args.known.now (name_in c.args.text.now c.args.place) in
    let none : o ≡ None = sym (c.type_number.ensures ∙ ap (λ (n : List ℕ). type_number c.args.known.now n) name) ∙ c.in_default.is in
    let shows : c.in_ok-unknown_name.field-0 ≡ fault.UnknownName (name_in c.args.text.now c.args.place) c.args.place.from c.args.place.to =
    c.in_ok-unknown_name.ensures ∙ ap (λ (n : List ℕ). fault.UnknownName n c.args.place.from c.args.place.to) name in
    subst (λ (x : TypeFault). IsStopped (rule.named_rule c.args.ground.now sc c.args.place c.args.args o) m p x) (sym shows)
    (named_unknown c.args.ground.now sc c.args.place c.args.args o p none m)

pub returns-then-not-is_other-clause-fault : goal.returns-then-not-is_other-clause-fault
returns-then-not-is_other-clause-fault c p locals m =
    let sc = scope_with c.args.text.now c.args.known.now locals in
    let o = type_number c.args.known.now (name_in c.args.text.now c.args.place) in
    let some : o ≡ Some c.in-Some.head = sym (c.type_number.ensures ∙ ap (λ (n : List ℕ). type_number c.args.known.now n) c.name_at-name.ensures) ∙ c.in-Some.is in
    named_self c.args.ground.now sc c.args.place c.args.args c.in-Some.head o p some (sym c.if-not-is_other.ensures) m

pub returns-then-not-type_fits-clause-fault : goal.returns-then-not-type_fits-clause-fault
returns-then-not-type_fits-clause-fault c p locals m =
    let sc = scope_with c.args.text.now c.args.known.now locals in
    let o = type_number c.args.known.now (name_in c.args.text.now c.args.place) in
    let some : o ≡ Some c.in-Some.head = sym (c.type_number.ensures ∙ ap (λ (n : List ℕ). type_number c.args.known.now n) c.name_at-name.ensures) ∙ c.in-Some.is in
    let fits : type_fits c.args.known.now c.in-Some.head (length c.args.args) ≡ false =
    ap (type_fits c.args.known.now c.in-Some.head) (sym c.len.ensures) ∙ sym c.if-not-type_fits.ensures in
    named_arity c.args.ground.now sc c.args.place c.args.args c.in-Some.head o p some (sym c.if-not-is_other.ensures) fits m
