use Rattle.std.proofs.Common.{MatchBool, ◌≡◌, sym, ap, ◌∙◌, subst}
use Rattle.ae_base.proofs.Options.{never_some}
use Rattle.ae_core.specs.declared.formulas.Lit.{Lit}
use Rattle.ae_open_states.proofs.Trails.{place_of}
use Rattle.ae_owed_instances.proofs.OwedOnes.{standing_by}
use Rattle.ae_owed_instances.specs.Inner.Passing.{lit_of}
use Rattle.ae_owed_instances.proofs.finding.stands.Goals as goal

pub returns-in-None : goal.returns-in-None
returns-in-None c = λ h.
    let k = place_of c.args.trail.now.assigned (lit_of c.args.positive c.args.formula.now) h in
    never_some k.0 (sym c.in-None.is ∙ c.place_of.ensures.only k.0 k.1 (ap (λ (z : Lit). z.formula) k.2))

pub returns-in-Some : goal.returns-in-Some
returns-in-Some c =
    standing_by c.args.trail.now.assigned c.args.positive c.args.formula.now c.in-Some.place c.in-Some.ensures.within (λ k l e. sym c.in-Some.is ∙ c.place_of.ensures.only k l e) c.is_signed.result
    (subst (λ (z : Lit). MatchBool c.is_signed.result (z ≡ lit_of c.args.positive c.args.formula.now) (¬ (z ≡ lit_of c.args.positive c.args.formula.now))) c.lit_at.ensures c.is_signed.ensures)
