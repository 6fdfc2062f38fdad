-- A step that notes nothing and after which the search doesn't go on.
use Rattle.std.proofs.Common.{◌≡◌, Bool, true, false, sym, subst, refl, Result, Ok, Err, IsErrAnd}
use Rattle.std.specs.declared.alloc.AllocError.{AllocError}
use Rattle.ae_journal.specs.Noted.{Noted}
use Rattle.ae_theory.specs.declared.theory.Fail.{Fail}
use Rattle.ae_theory.specs.declared.theory.Fail.TheVariants.{Steps as OutOfSteps, Memory}
use Rattle.ae_sat.specs.Inner.Steps.{IsIdle}

pub idle_true : (a : Noted) → IsIdle a a (Ok true)
idle_true a = record {
  noted = refl;
  ended = λ e. let q : ◌≡◌ {A = Result Bool Fail} (Ok true) (Ok false) = e in cc;
  asked = λ e. let q : ◌≡◌ {A = Result Bool Fail} (Ok true) (Err OutOfSteps) = e in cc;
}

-- where memory is short
pub idle_memory : (a : Noted) (r : Result Bool Fail) (x : AllocError) → IsErrAnd r (λ z. z ≡ Memory x) → IsIdle a a r
idle_memory a (Ok b) x h = absurd h
idle_memory a (Err e) x h = subst (λ (z : Fail). IsIdle a a (Err z)) (sym h) (record {
  noted = refl;
  ended = λ e. let q : ◌≡◌ {A = Result Bool Fail} (Err (Memory x)) (Ok false) = e in cc;
  asked = λ e. let q : ◌≡◌ {A = Result Bool Fail} (Err (Memory x)) (Err OutOfSteps) = e in cc;
})
