use Rattle.std.proofs.Common.{◌≡◌, true, None, sym, arith}
use Rattle.ae_core.specs.declared.formulas.Lit.{Lit}
use Rattle.ae_explain.specs.Trail.{place_in}
use Rattle.ae_propagation.proofs.Settling.{more_each}
use Rattle.ae_sat.specs.Strict.{is_strict}
use Rattle.ae_sat.proofs.Choosing.{not_open_strict}
use Rattle.ae_sat.proofs.choose.strict_place.Goals as goal

pub loop-i-preserved : goal.loop-i-preserved
loop-i-preserved c =
    let t = c.args.trail.now.assigned in
    let x = c.index-clause-i.result in
    more_each (λ (m : Lit). is_strict m ≡ true → place_in t m.formula ≡ None → ⊥) c.args.clause.now c.loop-i.i x c.loop-i-test.true c.index-clause-i.is
    (not_open_strict t x (sym c.if-is_open_strict.ensures)) c.loop-i.invariant

pub returns-clause-none : goal.returns-clause-none
returns-clause-none c m h s o = c.loop-i.invariant h.0 m (omega (arith, h.1, c.loop-i-test.false)) h.2 s o
