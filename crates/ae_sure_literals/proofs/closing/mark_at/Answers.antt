use Rattle.std.proofs.Common.{◌∙◌, ap, subst, sym}
use Rattle.ae_core.specs.declared.formulas.Lit.{Lit}
use Rattle.ae_explain.specs.Trail.{at}
use Rattle.std.specs.Prelude.{ℕ, ◌≡◌, Bool, List, true, false}
use Rattle.ae_sure_literals.proofs.Using.{left_alone}
use Rattle.ae_sure_literals.specs.Inner.Closing.{flag}
use Rattle.ae_sure_literals.proofs.closing.mark_at.Goals as goal

pub returns-then-not-is_true : goal.returns-then-not-is_true
returns-then-not-is_true c = left_alone c.args.trail.now.assigned c.args.lit.now c.args.flags.now (λ h. absurd (c.if-not-is_true.ensures h))

pub returns-then-flagged : goal.returns-then-flagged
returns-then-flagged c =
    left_alone c.args.trail.now.assigned c.args.lit.now c.args.flags.now
    (λ h. record { place = h.0; within = h.1; is = h.2; flagged = ap (flag c.args.flags.now) (sym (c.requires.only h.0 h.1 (ap (λ (m : Lit). m.formula) h.2))) ∙ subst (λ (fs : List Bool). flag fs c.args.place ≡ true) c.as_slice.ensures c.if-flagged.true })

pub returns : goal.returns
returns c =
    let h = c.if-not-is_true.ensures in
    record {
      place = c.args.place;
      within = c.requires.within;
      is = ap (λ (k : ℕ). (at c.args.trail.now.assigned k).lit) (c.requires.only h.0 h.1 (ap (λ (m : Lit). m.formula) h.2)) ∙ h.2;
      unset = subst (λ (fs : List Bool). flag fs c.args.place ≡ false) c.as_slice.ensures c.if-flagged.false;
      set = c.set.ensures;
    }
