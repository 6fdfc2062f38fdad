use Rattle.std.proofs.Common.{◌≡◌, List, Option, None, ◌∙◌, sym, ap, subst}
use Rattle.std.specs.Prelude.{MatchOption}
use Rattle.ae_base.proofs.Options.{never_some}
use Rattle.ae_core.specs.declared.proofs.ClauseLine.TheVariants.{Inst}
use Rattle.ae_core.specs.declared.terms.Term.{Term}
use Rattle.ae_instance_lines.specs.Stated.{IsLineOfTerms}
use Rattle.ae_instance_lines.specs.declared.lines.InstanceLine.{InstanceLine}
use Rattle.ae_made_instances.proofs.lines.block_line.Goals as goal
use Rattle.ae_rules.specs.Derivations.{conclusion}

pub unreachable-requires : goal.unreachable-requires
unreachable-requires g c =
    let t = c.args.task in
    let ts = c.as_slice.result.now in
    let f = c.args.formula.now in
    let s = c.requires.stated in
    let none = subst (λ (z : Option InstanceLine). MatchOption z (conclusion t.problem.now t.goal (Inst f ts) ≡ None) (IsLineOfTerms t.problem.now t.goal f ts)) c.in-None.is c.in_ok-line.ensures in
    never_some s.0 (sym none ∙ ap (λ (z : List Term). conclusion t.problem.now t.goal (Inst f z)) c.as_slice.ensures ∙ s.1)
