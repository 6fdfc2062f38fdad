use Rattle.std.proofs.Common.{◌≡◌, ◌++◌, [], ◌∷◌, ◌∙◌, ap}
use Rattle.ae_math.specs.Fractions.{one_ℚ}
use Rattle.ae_computing.specs.declared.forms.Multiple.{Multiple}
use Rattle.ae_computing.specs.Inner.Exact.{multiples}
use Rattle.ae_computing.proofs.forms.single.Goals as goal

pub returns : goal.returns
returns c =
    let new : Multiple = record { term = c.args.term; factor = c.in_ok-factor.factor } in
    let parts : multiples c.push.new.self.items ≡ (c.args.term.now, one_ℚ) ∷ [] =
    ap multiples (c.in_ok-push.ensures.items ∙ ap (λ ms. ms ++ new ∷ []) c.new-parts.ensures.items) ∙ (λ j. (c.args.term.now, c.in_ok-factor.ensures j) ∷ []) in
    λ j. record { parts = parts j; constant = c.in_ok-constant.ensures j }
