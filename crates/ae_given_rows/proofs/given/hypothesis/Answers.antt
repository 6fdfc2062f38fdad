use Rattle.std.specs.Prelude.{◌≡◌, Bool}
use Rattle.std.proofs.Common.{sym, ap, ◌∙◌}
use Rattle.ae_core.specs.declared.proofs.EqLine.TheVariants.{LeHyp, LtHyp}
use Rattle.ae_store.proofs.StoreLaws.{name_term}
use Rattle.ae_store.specs.Terms.{named}
use Rattle.ae_theory.specs.Names.{terms_in}
use Rattle.ae_given_rows.specs.Inner.Lines.{hyp_line}
use Rattle.ae_given_rows.proofs.given.hypothesis.Goals as goal

pub returns-then-strict : goal.returns-then-strict
returns-then-strict c =
    let ts = terms_in c.args.store.now in
    let left = sym (name_term ts c.args.lower c.in_ok-left.left c.in_ok-left.ensures.term) in
    let right = sym (name_term ts c.args.upper c.in_ok-right.right c.in_ok-right.ensures.term) in
    let line : LtHyp c.in_ok-left.left c.in_ok-right.right 0 ≡ LtHyp (named ts c.args.lower) (named ts c.args.upper) 0 = (λ i. LtHyp (left i) (right i) 0) in
    line ∙ ap (λ (b : Bool). hyp_line ts b c.args.upper c.args.lower) (sym c.if-strict.true)

pub returns-else-strict : goal.returns-else-strict
returns-else-strict c =
    let ts = terms_in c.args.store.now in
    let left = sym (name_term ts c.args.lower c.in_ok-left.left c.in_ok-left.ensures.term) in
    let right = sym (name_term ts c.args.upper c.in_ok-right.right c.in_ok-right.ensures.term) in
    let line : LeHyp c.in_ok-left.left c.in_ok-right.right 0 ≡ LeHyp (named ts c.args.lower) (named ts c.args.upper) 0 = (λ i. LeHyp (left i) (right i) 0) in
    line ∙ ap (λ (b : Bool). hyp_line ts b c.args.upper c.args.lower) (sym c.if-strict.false)
