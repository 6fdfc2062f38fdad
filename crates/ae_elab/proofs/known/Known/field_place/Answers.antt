use Rattle.std.proofs.Common.{rules, ◌≡◌, ◌∙◌, ℕ, List, Option, Some, None, slice_get, sym, ap}
use Rattle.std.specs.Str.{bytes_eq}
use Rattle.ae_core.specs.declared.problems.Signature.{Signature}
use Rattle.ae_elab.specs.declared.fields.FieldPlace.{FieldPlace}
use Rattle.ae_elab.specs.Scope.{first_place, field_from}
use Rattle.ae_elab.proofs.FieldRules.{value_at, index_finds}
use Rattle.ae_elab.proofs.known.Known.field_place.Goals as goal

pub returns-in-Some : goal.returns-in-Some
returns-in-Some c =
    let places = c.self.inside.places in
    let name = c.args.name.now in
    let view : c.self.inside.signature ≡ c.args.self.now = search rules in
    let found : first_place (bytes_eq name) c.self.inside.fields ≡ Some c.in-Some.number = sym c.number_of.ensures ∙ c.in-Some.is in
    let read : c.copied.result ≡ slice_get places c.in-Some.number =
    c.copied.ensures ∙ c.at.ensures ∙ ap (λ (ps : List FieldPlace). slice_get ps c.in-Some.number) c.as_slice.ensures in
    read
    ∙ sym (ap (λ (o : Option ℕ). value_at o places) found)
    ∙ index_finds c.self.inside.signature.types c.self.inside.fields places name c.self.invariant.2
    ∙ ap (λ (sig : Signature). field_from 0 sig.types name) view

pub returns-in-None : goal.returns-in-None
returns-in-None c =
    let places = c.self.inside.places in
    let name = c.args.name.now in
    let view : c.self.inside.signature ≡ c.args.self.now = search rules in
    let found : first_place (bytes_eq name) c.self.inside.fields ≡ None = sym c.number_of.ensures ∙ c.in-None.is in
    sym (ap (λ (o : Option ℕ). value_at o places) found)
    ∙ index_finds c.self.inside.signature.types c.self.inside.fields places name c.self.invariant.2
    ∙ ap (λ (sig : Signature). field_from 0 sig.types name) view
