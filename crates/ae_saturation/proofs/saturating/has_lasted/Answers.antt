use Rattle.std.specs.Prelude.{ℕ, ◌≡◌, Option, IfSome}
use Rattle.std.proofs.Common.{sym, ◌∙◌, subst}
use Rattle.std.proofs.lemmas.Option.{none-some, same_Some}
use Rattle.ae_base.proofs.Tests.{false_true}
use Rattle.ae_saturation.specs.Lasting.{IsCompleteFor, AreMetFrom}
use Rattle.ae_saturation.proofs.saturating.has_lasted.Goals as goal

pub still_complete-requires-clause-fits : goal.still_complete-requires-clause-fits
still_complete-requires-clause-fits c = c.requires.fits

pub still_complete-requires-clause-before : goal.still_complete-requires-clause-before
still_complete-requires-clause-before c = subst (λ (m : Option ℕ). IfSome m (λ count. IsCompleteFor count c.args.held.now)) c.in-Some.is c.requires.known

pub returns-in-Some-clause-taken : goal.returns-in-Some-clause-taken
returns-in-Some-clause-taken c t = (c.still_complete.ensures.exact.0 t).0

pub returns-in-Some-clause-complete : goal.returns-in-Some-clause-complete
returns-in-Some-clause-complete c t = c.still_complete.ensures.complete t

pub returns-in-Some-clause-lasts : goal.returns-in-Some-clause-lasts
returns-in-Some-clause-lasts c count e taken met =
    let same : count ≡ c.in-Some.count = same_Some count c.in-Some.count (sym e ∙ c.in-Some.is) in
    c.still_complete.ensures.exact.1 (taken, subst (λ (k : ℕ). AreMetFrom k c.args.store.now c.args.held.now) same met)

pub returns-in-None-clause-taken : goal.returns-in-None-clause-taken
returns-in-None-clause-taken c t = false_true t

pub returns-in-None-clause-complete : goal.returns-in-None-clause-complete
returns-in-None-clause-complete c t = false_true t

pub returns-in-None-clause-lasts : goal.returns-in-None-clause-lasts
returns-in-None-clause-lasts c count e taken met = absurd (none-some count (sym c.in-None.is ∙ e))
