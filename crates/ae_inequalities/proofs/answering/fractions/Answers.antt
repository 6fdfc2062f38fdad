use Rattle.std.proofs.Common.{sym, ap, ◌∙◌, subst}
use Rattle.std.specs.Prelude.{List, map}
use Rattle.std.specs.List.{AllByRecursion}
use Rattle.std.proofs.lemmas.List.{take_all}
use Rattle.ae_base.proofs.AllOf.{all_of_map, all_weaker}
use Rattle.ae_ineq.proofs.JournalSums.{fraction_at, values_at}
use Rattle.ae_ineq.specs.Inner.Points.{IsNumber}
use Rattle.ae_ineq.specs.declared.point.Valuation.{Valuation}
use Rattle.ae_inequalities.specs.Points.{IsPointNumber}
use Rattle.ae_journal.specs.States.{at_point}
use Rattle.ae_num.specs.Forms.{IsNormal}
use Rattle.ae_num.specs.declared.forms.Part.{Part}
use Rattle.ae_inequalities.proofs.answering.fractions.Goals as goal

pub returns-clause-at : goal.returns-clause-at
returns-clause-at c =
    ap at_point (c.loop-at.invariant.so_far ∙ ap (map fraction_at) (take_all c.loop-at.at-index c.args.made.now c.loop-at-test.false))
    ∙ (λ i n. values_at c.args.made.now n i)

pub returns-clause-each : goal.returns-clause-each
returns-clause-each c = λ numbers.
    subst (AllByRecursion IsPointNumber) (sym (c.loop-at.invariant.so_far ∙ ap (map fraction_at) (take_all c.loop-at.at-index c.args.made.now c.loop-at-test.false)))
    (all_of_map IsPointNumber fraction_at c.args.made.now
    (all_weaker (λ (v : Valuation). IsNumber v.value) (λ (v : Valuation). IsPointNumber (fraction_at v))
    (λ v n. subst (λ (ps : List Part). IsNormal (record { den = v.value.den; parts = ps; constant = v.value.constant })) n.bare n.normal) c.args.made.now numbers))
