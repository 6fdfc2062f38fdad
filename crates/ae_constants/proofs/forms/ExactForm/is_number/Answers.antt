use Rattle.std.proofs.Common.{rules, ap, ◌∙◌, sym, ◌≡◌, length}
use Rattle.std.proofs.lemmas.List.{nil_from_length}
use Rattle.ae_constants.specs.Forms.{multiples}
use Rattle.ae_constants.proofs.EnterLaws.{no_multiples}
use Rattle.ae_constants.proofs.forms.ExactForm.is_number.Goals as goal

pub returns : goal.returns
returns c = (
  λ h.
      let none : length c.as_slice.result.now ≡ 0 = search rules in
      ap multiples (sym c.as_slice.ensures.value ∙ nil_from_length c.as_slice.result.now none),
  λ e.
      let count : length c.as_slice.result.now ≡ 0 = ap length (c.as_slice.ensures.value ∙ no_multiples c.args.self.now.parts.items e) in search rules,
)
