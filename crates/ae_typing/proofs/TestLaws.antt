-- One test that something has to pass.
use Rattle.std.proofs.Common.{◌≡◌, ◌∙◌, Bool, true, false, [], ◌∷◌, sym, subst, true≢false}
use Rattle.ae_elab.specs.declared.faults.TypeFault.{TypeFault}
use Rattle.ae_elab.specs.Conditions.{test}
use Rattle.ae_elab.specs.Steps.{AreHeld, AreFailed, AreNotMet}
use Rattle.ae_elab.proofs.WalkLaws.{none_met, one_met, one_stops, test_met, test_not_met}

pub test_held : (b : Bool) (e : TypeFault) → b ≡ true → AreHeld (test b e ∷ [])
test_held b e h m = one_met (test b e) [] m m m (test_met b e m h) (none_met m)

pub test_failed : (b : Bool) (e x : TypeFault) → b ≡ false → x ≡ e → AreFailed (test b e ∷ []) x
test_failed b e x h is m = subst (λ z. AreNotMet (test b e ∷ []) m z) (sym is) (one_stops (test b e) [] m e (test_not_met b e m (λ t. true≢false (sym t ∙ h))))
