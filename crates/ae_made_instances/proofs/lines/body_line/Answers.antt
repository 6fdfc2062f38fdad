use Rattle.std.proofs.Common.{◌∙◌, sym, ap, subst}
use Rattle.std.proofs.lemmas.Option.{same_Some}
use Rattle.ae_base.proofs.Options.{never_some}
use Rattle.ae_base.proofs.Tests.{false_true}
use Rattle.ae_core.specs.declared.formulas.Formula.{Formula, out-Formula}
use Rattle.ae_core.specs.declared.proofs.ClauseLine.TheVariants.{Inst}
use Rattle.ae_core.specs.declared.terms.Sort.{Sort}
use Rattle.ae_instance_lines.specs.Stated.{IsLineOfTerms}
use Rattle.ae_made_instances.proofs.Axioms.{all_of}
use Rattle.ae_made_instances.proofs.lines.body_line.Goals as goal
use Rattle.ae_made_instances.specs.Inner.Making.{is_all_layer}
use Rattle.ae_rules.specs.Derivations.{HasConclusion}
use Rattle.ae_rules.specs.Instances.{hypothesis}
use Rattle.std.specs.Prelude.{List}

pub unreachable-requires : goal.unreachable-requires
unreachable-requires g c =
    let t = c.args.task in
    let h = c.requires.stated in
    never_some h.0 (sym c.in-None.is ∙ c.in_ok-hypothesis.ensures ∙ ap (λ (z : List Sort). hypothesis t.problem.now t.goal c.args.place z) c.as_slice.ensures ∙ h.1)

pub returns-then-not-is_all : goal.returns-then-not-is_all
returns-then-not-is_all g c =
    let t = c.args.task in
    let hyp = sym (ap (λ (z : List Sort). hypothesis t.problem.now t.goal c.args.place z) c.as_slice.ensures) ∙ sym c.in_ok-hypothesis.ensures ∙ c.in-Some.is in (
      c.in-Some.formula,
      hyp,
      λ q all.
          false_true (sym c.if-not-is_all.true ∙ c.is_all.ensures ∙ ap (λ (z : Formula). is_all_layer (out-Formula z)) c.get.ensures ∙ ap is_all_layer all),
    )

pub block_line-requires : goal.block_line-requires
block_line-requires g c =
    let t = c.args.task in
    let h = c.requires.stated in
    let hyp = sym (ap (λ (z : List Sort). hypothesis t.problem.now t.goal c.args.place z) c.as_slice.ensures) ∙ sym c.in_ok-hypothesis.ensures ∙ c.in-Some.is in
    let e = same_Some h.0 c.in-Some.formula (sym h.1 ∙ hyp) in
    let a = all_of (out-Formula c.in-Some.formula) (sym (c.is_all.ensures ∙ ap (λ (z : Formula). is_all_layer (out-Formula z)) c.get.ensures) ∙ c.if-not-is_all.false) in
    record { stated = subst (λ (z : Formula). HasConclusion t.problem.now t.goal (Inst z c.args.terms.now)) (e ∙ sym c.get-in-Some.ensures) (h.2 a.0 (ap out-Formula e ∙ a.1)) }

pub returns : goal.returns
returns g c =
    let t = c.args.task in
    let hyp = sym (ap (λ (z : List Sort). hypothesis t.problem.now t.goal c.args.place z) c.as_slice.ensures) ∙ sym c.in_ok-hypothesis.ensures ∙ c.in-Some.is in
    let a = all_of (out-Formula c.in-Some.formula) (sym (c.is_all.ensures ∙ ap (λ (z : Formula). is_all_layer (out-Formula z)) c.get.ensures) ∙ c.if-not-is_all.false) in
    (c.in-Some.formula, hyp, (a.0, a.1, subst (λ (z : Formula). IsLineOfTerms t.problem.now t.goal z c.args.terms.now c.in_ok-line-in-Some.line) c.get-in-Some.ensures c.in_ok-line-in-Some.ensures))
