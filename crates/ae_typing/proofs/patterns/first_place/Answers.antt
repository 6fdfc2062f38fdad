use Rattle.std.proofs.Common.{◌≡◌, List, [], ◌∷◌, Some, slice_get, map, ◌∙◌, sym, ap}
use Rattle.std.proofs.lemmas.Option.{none-some, same_Some}
use Rattle.ae_syntax.specs.declared.exprs.Expr.{Expr}
use Rattle.ae_elab.specs.Expressions.{part_of}
use Rattle.ae_elab.specs.Formulas.{first_place_of}
use Rattle.ae_expressions.proofs.PartForms.{place_is}
use Rattle.ae_typing.proofs.patterns.first_place.Goals as goal

first_is : (es : List Expr) (e : Expr) → Some e ≡ slice_get es 0 → e.span ≡ first_place_of (map part_of es)
first_is [] e h = absurd (none-some e (sym h))
first_is (x ∷ es) e h = ap (λ (z : Expr). z.span) (same_Some e x h) ∙ sym (place_is x)

pub returns-in-Some : goal.returns-in-Some
returns-in-Some c = first_is c.args.exprs.now c.in-Some.first.now c.in-Some.ensures.value
