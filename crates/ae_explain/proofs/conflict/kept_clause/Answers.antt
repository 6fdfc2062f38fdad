use Rattle.std.proofs.Common.{rules, ◌≡◌, ◌-◌, ◌++◌, ◌∷◌, [], List, arith, sym, subst, map, true, false, length}
use Rattle.ae_rules.specs.Clauses.{opposite}
use Rattle.ae_core.specs.declared.formulas.Lit.{Lit}
use Rattle.ae_explain.specs.Trail.{at}
use Rattle.ae_explain.specs.Inner.Marks.{lits_below, kept}
use Rattle.ae_explain.proofs.Reading.{clause_yes, clause_no, clause_done}
use Rattle.ae_explain.proofs.conflict.kept_clause.Goals as goal

pub loop-place-preserved-in_ok-push : goal.loop-place-preserved-in_ok-push
loop-place-preserved-in_ok-push c =
    let k : kept c.args.marks.now (c.loop-place.place - 1) ≡ true = search rules in
    let pushed : c.push.new.self ≡ c.loop-place.clause ++ opposite (at c.args.trail.now.assigned (c.loop-place.place - 1)).lit ∷ [] = search rules in
    record {
      inside = omega (arith, c.loop-place.invariant.inside);
      same = subst (λ (w : List Lit). w ++ map opposite (lits_below c.args.trail.now.assigned c.args.marks.now (c.loop-place.place - 1)) ≡ map opposite (lits_below c.args.trail.now.assigned c.args.marks.now (length c.args.trail.now.assigned))) (sym pushed)
          (clause_yes c.args.trail.now.assigned c.args.marks.now c.loop-place.clause _ c.loop-place.place (c.loop-place.place - 1) (omega (arith, c.loop-place-test.true)) k c.loop-place.invariant.same);
    }

pub loop-place-preserved : goal.loop-place-preserved
loop-place-preserved c =
    let k : kept c.args.marks.now (c.loop-place.place - 1) ≡ false = search rules in
    record {
      inside = omega (arith, c.loop-place.invariant.inside);
      same = clause_no c.args.trail.now.assigned c.args.marks.now c.loop-place.clause _ c.loop-place.place (c.loop-place.place - 1) (omega (arith, c.loop-place-test.true)) k c.loop-place.invariant.same;
    }

pub returns : goal.returns
returns c = clause_done c.args.trail.now.assigned c.args.marks.now c.loop-place.clause _ c.loop-place.place (omega (arith, c.loop-place-test.false)) c.loop-place.invariant.same
