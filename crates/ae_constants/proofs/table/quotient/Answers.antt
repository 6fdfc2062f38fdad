use Rattle.std.proofs.Common.{rules, ◌≡◌, sym, subst}
use Rattle.std.proofs.lemmas.Int.{to_z-of_z}
use mir.Syntax.{w128}
use mir.Val.{to_z, of_z}
use Rattle.ae_core.specs.declared.terms.Term.{Num}
use Rattle.ae_rules.specs.Linear.{over}
use Rattle.ae_store.specs.Terms.{named}
use Rattle.ae_constants.specs.Forms.{meaning, IsExact}
use Rattle.ae_constants.specs.Rules.{IsHeadOf}
use Rattle.ae_constants.proofs.table.quotient.Goals as goal

pub returns-in_ok-quotient-in-Num : goal.returns-in_ok-quotient-in-Num
returns-in_ok-quotient-in-Num c =
    λ ts n g u i h e.
    let j = subst (λ b. IsHeadOf b u) c.in-Num.is i in
    let top : to_z w128 (of_z w128 c.in-Num.top) ≡ c.in-Num.top = to_z-of_z w128 c.in-Num.top (search rules) in
    let bottom : to_z w128 (of_z w128 c.in-Num.bottom) ≡ c.in-Num.bottom = to_z-of_z w128 c.in-Num.bottom (search rules) in
    let made : IsExact ts n (over (named ts c.args.name) g (Num c.in-Num.top c.in-Num.bottom j.0)) (meaning c.in_ok-quotient-in-Num.quotient) =
    subst (λ z. IsExact ts n (over (named ts c.args.name) g (Num z c.in-Num.bottom j.0)) (meaning c.in_ok-quotient-in-Num.quotient)) top
    (subst (λ z. IsExact ts n (over (named ts c.args.name) g (Num (to_z w128 (of_z w128 c.in-Num.top)) z j.0)) (meaning c.in_ok-quotient-in-Num.quotient)) bottom
    (c.in_ok-quotient-in-Num.ensures ts n g j.0 h e)) in
    subst (λ v. IsExact ts n (over (named ts c.args.name) g v) (meaning c.in_ok-quotient-in-Num.quotient)) (sym j.1) made

pub returns-in_ok-whole-in-Of : goal.returns-in_ok-whole-in-Of
returns-in_ok-whole-in-Of c =
    λ ts n g u i h e.
    let j = subst (λ b. IsHeadOf b u) c.in-Of.is i in
    subst (λ v. IsExact ts n (over (named ts c.args.name) g v) (meaning c.in_ok-whole-in-Of.whole)) (sym j.2) (c.in_ok-whole-in-Of.ensures ts n h)

pub returns-in_ok-whole-in-Fresh : goal.returns-in_ok-whole-in-Fresh
returns-in_ok-whole-in-Fresh c =
    λ ts n g u i h e.
    let j = subst (λ b. IsHeadOf b u) c.in-Fresh.is i in
    subst (λ v. IsExact ts n (over (named ts c.args.name) g v) (meaning c.in_ok-whole-in-Fresh.whole)) (sym j.1) (c.in_ok-whole-in-Fresh.ensures ts n h)
