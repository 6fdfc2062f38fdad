use Rattle.std.proofs.Common.{◌<◌, ◌≤◌, ◌≡◌, ◌∙◌, sym, ap, suc, length, slice_get, Some, arith}
use Rattle.std.proofs.lemmas.Option.{slice_get-get_or}
use Rattle.ae_rules.specs.Linear.{form}
use Rattle.ae_store.specs.Terms.{named}
use Rattle.ae_constants.specs.Forms.{meaning}
use Rattle.ae_constants.proofs.ExactLaws.{number_of_parts, parts_of_number}
use Rattle.ae_constants.proofs.table.Forms.is_constant.Goals as goal

pub returns : goal.returns
returns c =
    let name = c.args.name in
    let f = c.index-forms-name.result in
    let within : name < length c.as_slice-forms.result.now = omega (arith, c.requires, ap length c.as_slice-forms.ensures) in
    let at : slice_get c.args.self.now.forms name ≡ Some f =
    ap (λ fs. slice_get fs name) (sym c.as_slice-forms.ensures) ∙ slice_get-get_or c.as_slice-forms.result.now name _ within ∙ ap Some (sym c.index-forms-name.is) in
    λ ts o e.
    let exact = e.each name f at in
    let inside : suc name ≤ length ts = omega (arith, e.within, c.requires) in (
      λ t. number_of_parts ts o (suc name) (form (named ts name)) (meaning f) exact (c.is_number.ensures.0 t),
      λ q. c.is_number.ensures.1 (parts_of_number ts o (suc name) (form (named ts name)) (meaning f) inside exact q),
    )
