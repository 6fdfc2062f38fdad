use Rattle.std.specs.Prelude.{[], ◌≡◌, Option, MatchOption}
use Rattle.std.proofs.Common.{subst}
use Rattle.ae_core.specs.declared.terms.Head.{Head}
use Rattle.ae_core.specs.declared.terms.Term.{Apply}
use Rattle.ae_entered_names.proofs.choices.is_one_alone.Goals as goal

pub returns-in-Some : goal.returns-in-Some
returns-in-Some c t =
    let u = c.args.term.now in
    let is = subst (λ (o : Option Head). MatchOption o ((h : Head) → ¬ (u ≡ Apply h [] [])) (λ h. u ≡ Apply h [] [])) c.in-Some.is c.constant_head.ensures in
    (c.in-Some.own, c.has_head.ensures t, is)
