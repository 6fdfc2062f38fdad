use Rattle.std.specs.Prelude.{[], ◌≡◌, Option, MatchOption}
use Rattle.std.proofs.Common.{sym, subst}
use Rattle.ae_core.specs.declared.terms.Head.{Head}
use Rattle.ae_core.specs.declared.terms.Term.{Apply}
use Rattle.ae_open_states.specs.Choices.{IsChoiceOf}
use Rattle.ae_choice_clauses.proofs.Constructors.{a_constructor}
use Rattle.ae_choice_clauses.proofs.adding.is_choice.Goals as goal

pub returns-in-Some : goal.returns-in-Some
returns-in-Some c t =
    let u = c.args.term.now in
    let sig = c.args.signature.now in
    let is = subst (λ (o : Option Head). MatchOption o ((h : Head) → ¬ (u ≡ Apply h [] [])) (λ h. u ≡ Apply h [] [])) c.in-Some.is c.constant_head.ensures in
    subst (IsChoiceOf sig u) (sym is) (a_constructor sig u c.args.heads.now c.requires c.in-Some.own (c.has_head.ensures t))
