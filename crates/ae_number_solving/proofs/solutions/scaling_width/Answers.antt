use Rattle.std.specs.Prelude.{◌<◌, ◌^◌, List, unsigned_abs, ◌≡◌}
use Rattle.std.proofs.Common.{sym, ◌∙◌, subst}
use mir.Syntax.{w128}
use mir.Val.{to_z, of_z}
use Rattle.ae_num.specs.Forms.{IsNormal}
use Rattle.ae_num.specs.declared.forms.Part.{Part}
use Rattle.ae_num.specs.declared.forms.Lin.{Lin}
use Rattle.ae_num.proofs.ReductionLaws.{read_back}
use Rattle.ae_linear.specs.Solving.{IsLargest, negated_inverse}
use Rattle.ae_linear.proofs.Solutions.{largest_small}
use Rattle.ae_number_solving.proofs.Scalings.{not_empty, scaling_wide}
use Rattle.ae_number_solving.proofs.solutions.scaling_width.Goals as goal

pub unreachable-requires : goal.unreachable-requires
unreachable-requires c = absurd (not_empty c.args.form.now c.args.wide c.requires.wide (sym c.as_slice.ensures ∙ c.in_default.ensures.none))

pub negated_inverse-by-requires-clause-factor_within : goal.negated_inverse-by-requires-clause-factor_within
negated_inverse-by-requires-clause-factor_within c =
    let p = c.args.form.now in
    let q = c.in-Some.part in
    let small = largest_small p q c.requires.form (subst (λ (ps : List Part). IsLargest ps q) c.as_slice.ensures c.in-Some.ensures.some) in
    subst (λ z. unsigned_abs z < 2 ^ 127) (sym (read_back q.factor small)) small

-- what is read back from the bits of the numbers
read_inverse : (p : Lin) (q : Part) (by : Lin) → IsNormal p → IsLargest p.parts q → by ≡ negated_inverse (to_z w128 (of_z w128 p.den)) (to_z w128 (of_z w128 q.factor)) → by ≡ negated_inverse p.den q.factor
read_inverse p q by n i e = e ∙ (λ j. negated_inverse (read_back p.den n.within.0 j) (read_back q.factor (largest_small p q n i) j))

pub returns : goal.returns
returns c =
    let p = c.args.form.now in
    let q = c.in-Some.part in
    let rest = c.in_ok-rest.rest in
    let by = c.negated_inverse-by.result in
    let i : IsLargest p.parts q = subst (λ (ps : List Part). IsLargest ps q) c.as_slice.ensures c.in-Some.ensures.some in
    scaling_wide p q by rest c.args.wide i (read_inverse p q by c.requires.form i c.negated_inverse-by.ensures.form) c.negated_inverse-by.ensures.normal c.in_ok-rest.ensures.normal c.in_ok-rest.ensures.exact c.requires.wide
