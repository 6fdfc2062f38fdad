use Rattle.std.specs.Prelude.{ℤ, ◌≡◌, ◌<◌, ◌^◌, unsigned_abs, List}
use Rattle.std.proofs.Common.{sym, ap, ◌∙◌, subst, rules}
use Rattle.std.proofs.lemmas.Int.{to_z-of_z}
use mir.Syntax.{w128}
use mir.Val.{SFits}
use Rattle.ae_num.specs.Forms.{factor_of}
use Rattle.ae_num.specs.declared.forms.Part.{Part}
use Rattle.ae_num.proofs.Rests.{small_factor}
use Rattle.ae_store.specs.Shapes.{shapes}
use Rattle.ae_store.specs.Terms.{terms}
use Rattle.ae_just.proofs.BuiltSides.{numbers_of}
use Rattle.ae_value_steps.proofs.Readings.{r, solved_allowed}
use Rattle.ae_value_steps.proofs.Factors.{positive_fits, sign_fits, one_factor}
use Rattle.ae_value_steps.proofs.zeros.state_solved.Goals as goal

pub size-requires : goal.size-requires
size-requires c =
    let f : SFits w128 c.factor-of_name.result = search rules in
    let e : c.factor-of_name.result ≡ factor_of c.args.form.now.parts c.args.name = c.factor-of_name.ensures ∙ ap (λ (ps : List Part). factor_of ps c.args.name) c.as_slice.ensures in
    subst (λ (z : ℤ). unsigned_abs z < 2 ^ 127) (sym (to_z-of_z w128 c.factor-of_name.result f ∙ e)) (small_factor c.args.form.now.parts c.args.name c.requires.form.normal.within.1.1)

pub add_value-requires-clause-allowed : goal.add_value-requires-clause-allowed
add_value-requires-clause-allowed c =
    let f : SFits w128 c.factor-of_name.result = search rules in
    let fq : SFits w128 c.quotient-times.result = search rules in
    let fz : SFits w128 c.size.result = search rules in
    let fs : SFits w128 c.sign.result = search rules in
    let e : c.factor-of_name.result ≡ factor_of c.args.form.now.parts c.args.name = c.factor-of_name.ensures ∙ ap (λ (ps : List Part). factor_of ps c.args.name) c.as_slice.ensures in
    solved_allowed c.args.store.now.signature (terms (shapes c.args.store.now.nodes)) c.args.justs.now c.args.real c.args.name c.args.zero c.args.value.now c.args.form.now c.requires.solved.0 c.quotient-times.result c.size.result c.factor-of_name.result c.sign.result c.in_ok-parts.parts c.requires.written c.requires.form c.requires.zero c.requires.free
    c.requires.solved.2 f fq fz fs e c.size.ensures c.sign.ensures c.quotient-times.ensures.positive c.quotient-times.ensures.times c.solved_equations_have_steps.ensures.solved c.in_ok-parts.ensures

pub add_value-requires-clause-numbers : goal.add_value-requires-clause-numbers
add_value-requires-clause-numbers c = numbers_of c.args.store.now.signature (terms (shapes c.args.store.now.nodes)) c.args.real c.args.name c.requires.written.name

pub add_value-requires-clause-factors : goal.add_value-requires-clause-factors
add_value-requires-clause-factors c =
    let fq : SFits w128 c.quotient-times.result = search rules in
    one_factor (r c.quotient-times.result) _ _ _ (positive_fits c.quotient-times.result c.quotient-times.ensures.positive fq) (sign_fits c.sign.result _ c.sign.ensures) c.in_ok-parts.ensures
