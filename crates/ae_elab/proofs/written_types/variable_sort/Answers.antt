use Rattle.std.proofs.Common.{◌≡◌, ◌∙◌, List, ℕ, None, sym, ap, subst}
use Rattle.std.specs.Str.{bytes_eq}
use Rattle.ae_elab.specs.declared.faults.TypeFault.{TypeFault}
use Rattle.ae_elab.specs.declared.faults.TypeFault.TheVariants as fault
use Rattle.ae_elab.specs.declared.grounds.Ground.TheVariants.{InField}
use Rattle.ae_elab.specs.Rules.{written_variable}
use Rattle.ae_elab.specs.Scope.{name_in, scope_with, first_place}
use Rattle.ae_elab.specs.Steps.{IsStopped, IsWalked, IsTaken}
use Rattle.ae_elab.specs.WrittenTypes as rule
use Rattle.ae_elab.proofs.TypeRules.{variable_free, variable_halts}
use Rattle.ae_elab.proofs.written_types.variable_sort.Goals as goal

pub returns-in_ok-written_variable-in-Free-clause-sort :
    goal.returns-in_ok-written_variable-in-Free-clause-sort
returns-in_ok-written_variable-in-Free-clause-sort c known locals m =
    let sc = scope_with c.args.text.now known locals in
    let p = c.args.passing.now in
    let q = c.written_variable.new.self in
    let s = c.in_ok-written_variable-in-Free.field-0 in
    let taken : IsTaken (written_variable (name_in c.args.text.now c.args.place)) p q s =
    subst (λ (n : List ℕ). IsTaken (written_variable n) p q s) c.name_at-name.ensures c.in_ok-written_variable-in-Free.ensures in
    subst (λ g. IsWalked (rule.variable_rule g sc c.args.place) m m p q s) (sym c.in-Free.is) (variable_free sc c.args.place p q s taken m)

pub returns-in_ok-unknown_name-in-None-clause-fault : goal.returns-in_ok-unknown_name-in-None-clause-fault
returns-in_ok-unknown_name-in-None-clause-fault c known locals m =
    let sc = scope_with c.args.text.now known locals in
    let p = c.args.passing.now in
    let name = c.name_at-name.ensures in
    let params = c.in-InField.params in
    let none : first_place (bytes_eq (name_in c.args.text.now c.args.place)) params ≡ None =
    sym (c.number_of.ensures ∙ ap (λ (n : List ℕ). first_place (bytes_eq n) params) name) ∙ c.in-None.is in
    let shows : c.in_ok-unknown_name-in-None.field-0 ≡ fault.UnknownName (name_in c.args.text.now c.args.place) c.args.place.from c.args.place.to =
    c.in_ok-unknown_name-in-None.ensures ∙ ap (λ (n : List ℕ). fault.UnknownName n c.args.place.from c.args.place.to) name in
    subst (λ g. IsStopped (rule.variable_rule g sc c.args.place) m p c.in_ok-unknown_name-in-None.field-0) (sym c.in-InField.is)
    (subst (λ (x : TypeFault). IsStopped (rule.variable_rule (InField params c.in-InField.own) sc c.args.place) m p x) (sym shows)
    (variable_halts params c.in-InField.own sc c.args.place p none m))
