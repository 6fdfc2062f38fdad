use Rattle.std.specs.Prelude.{◌≡◌, Option, None, MatchOption}
use Rattle.std.proofs.Common.{subst}
use Rattle.std.proofs.lemmas.Result.{IfOk-weaker}
use Rattle.ae_journal.specs.States.{inequality}
use Rattle.ae_ordered_rounds.proofs.Asking.{sides_open}
use Rattle.ae_ordered_rounds.specs.Inner.Orderable.{IsInequality}
use Rattle.ae_tight_sides.specs.declared.sides.Sides.{Sides}
use Rattle.ae_ordered_rounds.proofs.choosing.open_literal.Goals as goal

pub returns-in-Some : goal.returns-in-Some
returns-in-Some c =
    let l = c.args.literal.now in
    let is = subst (λ (o : Option Sides). MatchOption o (inequality l ≡ None) (IsInequality l)) c.in-Some.is c.in_ok-inequality_sides.ensures in
    IfOk-weaker c.if_open.result _ _ (λ found h. sides_open (IsInequality l) c.args.trail.now.assigned c.in-Some.both found is h) c.if_open.ensures
