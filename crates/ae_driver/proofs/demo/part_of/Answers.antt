use Rattle.std.proofs.Common.{◌≡◌, ◌++◌, ◌∷◌, [], ap, ◌∙◌, subst}
use Rattle.std.specs.Prelude.{Ok}
use Rattle.ae_choices.specs.Whole.{ReadsWhole}
use Rattle.ae_parts.specs.Codes.{parts_code}
use Rattle.ae_driver.proofs.Counting.{one_part}
use Rattle.ae_driver.proofs.demo.part_of.Goals as goal

pub returns-in-Ok : goal.returns-in-Ok
returns-in-Ok c =
    let sig = c.args.signature.now in
    let names : c.as_slice.result.now ≡ c.args.name.now ∷ [] =
    c.as_slice.ensures ∙ c.in_ok-push.ensures.ok ∙ ap (λ z. z ++ (c.in_ok-copy.field-0 ∷ [])) c.new-names.ensures ∙ ap (λ w. w ∷ []) c.in_ok-copy.ensures in
    one_part sig c.args.name.now c.args.text.now c.in-Ok.parts c.requires
    (subst (λ ns. ReadsWhole (parts_code sig ns) c.args.text.now (Ok c.in-Ok.parts)) names c.in-Ok.ensures.exact)
