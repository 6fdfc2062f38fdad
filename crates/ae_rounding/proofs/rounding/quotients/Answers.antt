use Rattle.std.proofs.Common.{rules, ◌≡◌, pos, ◌∙◌, sym, ap, subst, unsigned_abs, map, arith, to_z, of_z}
use Rattle.std.specs.Prelude.{List}
use Rattle.std.proofs.lemmas.Int.{to_z-of_z}
use mir.Syntax.{w128}
use Rattle.ae_num.specs.declared.forms.Part.{Part}
use Rattle.ae_num.specs.declared.forms.Lin.{Lin}
use Rattle.ae_num.specs.Forms.{divided, divided_part}
use Rattle.ae_journal.specs.Sides.{AreDivided}
use Rattle.ae_rounding.proofs.Quotients.{parts_divided, parts_normal, with_constant}
use Rattle.ae_rounding.proofs.rounding.quotients.Goals as goal

pub returns-clause-divided : goal.returns-clause-divided
returns-clause-divided c =
    let l = c.args.form.now in
    let z = c.args.divisor in
    let k : to_z w128 (of_z w128 z) ≡ z = to_z-of_z w128 z (search rules) in
    let ps : c.in_ok-from_slice.field-0 ≡ l.parts = c.in_ok-from_slice.ensures ∙ c.as_slice.ensures in
    subst (λ (qs : List Part). AreDivided (unsigned_abs z) l.parts qs) (sym (ap (λ (f : Lin). f.parts) c.in_ok-parts.ensures ∙ (λ i. map (divided_part (k i)) (ps i))))
    (parts_divided z c.requires.positive l.parts c.requires.common.0)

pub returns-clause-normal : goal.returns-clause-normal
returns-clause-normal c =
    let l = c.args.form.now in
    let z = c.args.divisor in
    let q = c.in_ok-parts.field-0 in
    let k : to_z w128 (of_z w128 z) ≡ z = to_z-of_z w128 z (search rules) in
    let ps : c.in_ok-from_slice.field-0 ≡ l.parts = c.in_ok-from_slice.ensures ∙ c.as_slice.ensures in
    let whole : q ≡ divided z (record { den = z; parts = l.parts; constant = pos 0 }) = c.in_ok-parts.ensures ∙ (λ i. divided (k i) (record { den = k i; parts = ps i; constant = pos 0 })) in
    with_constant q (pos 0) (parts_normal l q z c.requires.normal c.requires.positive c.requires.within c.requires.common whole) (omega arith)
