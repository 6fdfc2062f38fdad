use Rattle.std.proofs.Common.{rules, ◌≡◌, Some, None, sym, ap, subst, ◌∙◌}
use Rattle.std.proofs.lemmas.Result.{IfOk-weaker}
use Rattle.ae_multiset.specs.Multisets.{rising}
use Rattle.ae_multiset.specs.Normal.{reduced_within}
use Rattle.ae_journal.specs.Evaluate.{sides_at}
use Rattle.ae_decide.specs.Overlaps.{nf, step_by}
use Rattle.ae_decide.proofs.NormalForms.{Ends, fuel, at_first, at_step, at_last}
use Rattle.ae_decide.proofs.overlaps.normal_form.Goals as goal

pub steps-init : goal.steps-init
steps-init c =
    let es = c.args.rules.now in
    let s = c.args.symbol.now in
    let a = c.args.names.now in
    let e : c.in_ok-now.now ≡ a = search rules in (
      subst (Ends (sides_at s.head s.sorts es) (fuel es s a)) (sym e) (at_first es s a c.requires.falls),
      ap (reduced_within (fuel es s a) (sides_at s.head s.sorts es)) e,
    )

pub steps-smaller : goal.steps-smaller
steps-smaller c =
    let q : step_by c.args.rules.now c.args.symbol.now c.steps.now ≡ Some c.in-Some.next = search rules in
    (at_step c.args.rules.now c.args.symbol.now c.args.names.now c.steps.now c.in-Some.next c.steps.invariant.0 q).falls

pub steps-preserved : goal.steps-preserved
steps-preserved c =
    let q : step_by c.args.rules.now c.args.symbol.now c.steps.now ≡ Some c.in-Some.next = search rules in
    let n = at_step c.args.rules.now c.args.symbol.now c.args.names.now c.steps.now c.in-Some.next c.steps.invariant.0 q in
    (n.ends, n.same ∙ c.steps.invariant.1)

pub returns : goal.returns
returns c =
    let es = c.args.rules.now in
    let s = c.args.symbol.now in
    let a = c.args.names.now in
    let q : step_by es s c.steps.now ≡ None = search rules in
    IfOk-weaker c.spelled.result (λ v. v.items ≡ rising c.as_slice-2.result.now) (λ v. v.items ≡ nf es s a)
    (λ v e. e ∙ ap rising c.as_slice-2.ensures ∙ at_last es s a c.steps.now c.steps.invariant.1 q) c.spelled.ensures.spelling
