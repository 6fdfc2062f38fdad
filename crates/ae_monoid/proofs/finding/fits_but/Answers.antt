use Rattle.std.specs.Prelude.{◌≡◌, ◌+◌, ◌⊎◌, MatchBool, Option}
use Rattle.std.proofs.Common.{subst, sym}
use Rattle.ae_pmap.specs.Forest.{present}
use Rattle.ae_pmap.specs.Pairs.{found}
use Rattle.ae_monoid.specs.declared.rules.Kept.{Kept}
use Rattle.ae_monoid.specs.Rules.{IsFit, IsUnfit}
use Rattle.ae_monoid.specs.Inner.Indexes.{IsOf}
use Rattle.ae_monoid.proofs.Hiding.{hidden, shown, none_unfit}
use Rattle.ae_monoid.proofs.finding.fits_but.Goals as goal

pub returns-then-number-but-clause-fit : goal.returns-then-number-but-clause-fit
returns-then-number-but-clause-fit g c = none_unfit _ c.args.symbol.now c.args.names.now (hidden (found (present c.args.kept.now)) c.args.but c.args.number c.if-number-but.true)

pub returns-clause-fit : goal.returns-clause-fit
returns-clause-fit g c =
    subst (λ (o : Option Kept). MatchBool c.fits_at.result (IsFit o c.args.symbol.now c.args.names.now) (IsUnfit o c.args.symbol.now c.args.names.now))
    (sym (shown (found (present c.args.kept.now)) c.args.but c.args.number c.if-number-but.false)) c.fits_at.ensures.fit

pub returns-clause-steps : goal.returns-clause-steps
returns-clause-steps g c =
    subst (λ (o : Option Kept). (c.fits_at.new.steps ≡ c.args.steps.now) ⊎ ((c.fits_at.new.steps ≡ c.args.steps.now + 1) × IsOf o c.args.symbol.now))
    (sym (shown (found (present c.args.kept.now)) c.args.but c.args.number c.if-number-but.false)) c.fits_at.ensures.steps
