use Rattle.std.proofs.Common.{◌∙◌, sym, ap, subst}
use Rattle.std.proofs.lemmas.Option.{same_Some}
use Rattle.std.specs.Option.{option_copied}
use Rattle.std.specs.Prelude.{IfOk}
use Rattle.ae_base.proofs.Options.{never_some}
use Rattle.ae_core.specs.declared.formulas.Formula.{Formula}
use Rattle.ae_core.specs.declared.proofs.ClauseLine.TheVariants.{Inst}
use Rattle.ae_instance_lines.specs.Stated.{IsLineOfTerms}
use Rattle.ae_made_instances.proofs.lines.literal_line.Goals as goal
use Rattle.ae_owners.specs.declared.owners.Owner.{Owner as OwnerEntry}
use Rattle.ae_rules.specs.Derivations.{HasConclusion}

pub block_line-requires : goal.block_line-requires
block_line-requires g c =
    let t = c.args.task in
    let r = c.requires.at in
    let e = same_Some r.0 c.in-Some.found.now (sym r.1 ∙ sym c.get.ensures.value ∙ ap option_copied c.in-Some.is) in
    record { stated = subst (λ (z : Formula). HasConclusion t.problem.now t.goal (Inst z c.args.terms.now)) (ap (λ (z : OwnerEntry). z.formula) e ∙ sym c.get-in-Some.ensures) r.2 }

pub returns : goal.returns
returns g c o e =
    let t = c.args.task in
    let f = same_Some c.in-Some.found.now o (sym (sym c.get.ensures.value ∙ ap option_copied c.in-Some.is) ∙ e) in
    subst (λ (z : Formula). IfOk c.block_line.result (IsLineOfTerms t.problem.now t.goal z c.args.terms.now)) (c.get-in-Some.ensures ∙ ap (λ (z : OwnerEntry). z.formula) f) c.block_line.ensures

pub unreachable-requires : goal.unreachable-requires
unreachable-requires g c = let r = c.requires.at in never_some r.0 (sym (sym c.get.ensures.value ∙ ap option_copied c.in-None.is) ∙ r.1)
