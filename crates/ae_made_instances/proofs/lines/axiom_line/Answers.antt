use Rattle.std.proofs.Common.{◌≡◌, List, Option, None, ◌∙◌, sym, ap, subst}
use Rattle.std.specs.Prelude.{MatchOption}
use Rattle.ae_base.proofs.Options.{never_some}
use Rattle.ae_core.specs.declared.proofs.ClauseLine.TheVariants.{Hyp}
use Rattle.ae_core.specs.declared.terms.Sort.{Sort}
use Rattle.ae_instance_lines.specs.Stated.{IsLineOfSorts}
use Rattle.ae_instance_lines.specs.declared.lines.InstanceLine.{InstanceLine}
use Rattle.ae_made_instances.proofs.lines.axiom_line.Goals as goal
use Rattle.ae_rules.specs.Derivations.{conclusion}

pub unreachable-requires : goal.unreachable-requires
unreachable-requires g c =
    let t = c.args.task in
    let ss = c.as_slice.result.now in
    let s = c.requires.stated in
    let none = subst (λ (z : Option InstanceLine). MatchOption z (conclusion t.problem.now t.goal (Hyp c.args.place ss) ≡ None) (IsLineOfSorts t.problem.now t.goal c.args.place ss)) c.in-None.is c.in_ok-line.ensures in
    never_some s.0 (sym none ∙ ap (λ (z : List Sort). conclusion t.problem.now t.goal (Hyp c.args.place z)) c.as_slice.ensures ∙ s.1)
