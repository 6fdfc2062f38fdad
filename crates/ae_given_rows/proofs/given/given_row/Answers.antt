use Rattle.std.specs.Prelude.{ℕ, neg_ℤ, List, ◌≡◌, ◌<◌, ◌*ℤ◌, ◌∷◌, ◌++◌, [], length}
use Rattle.std.proofs.Common.{rules, arith, sym, ap, ◌∙◌, subst}
use Rattle.std.proofs.Math.IntN.{*ℤ_comm}
use Rattle.std.proofs.lemmas.Int.{to_z-of_z}
use mir.Syntax.{w128}
use Rattle.ae_core.specs.declared.formulas.Lit.{Lit}
use Rattle.ae_core.specs.declared.proofs.EqLine.{EqLine}
use Rattle.ae_just.proofs.EmitLaws.{terms_long}
use Rattle.ae_num.specs.Limits.{FitsLimits}
use Rattle.ae_theory.specs.Names.{terms_in}
use Rattle.ae_bound_blocks.specs.Said.{row_line}
use Rattle.ae_bound_blocks.proofs.Sorting.{name_within, parts_within}
use Rattle.ae_given_rows.proofs.RowLines.{numbers}
use Rattle.ae_given_rows.specs.Inner.Lines.{parts_between}
use Rattle.ae_given_rows.proofs.Ordered.{three}
use Rattle.ae_given_rows.proofs.Fitting.{den_fits}
use Rattle.ae_given_rows.proofs.given.given_row.Goals as goal

pub from_literal-requires-clause-upper : goal.from_literal-requires-clause-upper
from_literal-requires-clause-upper c =
    let s = c.args.store.now in
    subst (λ (n : ℕ). c.args.upper.now.name < n) (terms_long s.nodes) (name_within s.signature (terms_in s) c.args.real c.args.upper.now.name c.requires.upper.written.name)

pub from_literal-requires-clause-lower : goal.from_literal-requires-clause-lower
from_literal-requires-clause-lower c =
    let s = c.args.store.now in
    subst (λ (n : ℕ). c.args.lower.now.name < n) (terms_long s.nodes) (name_within s.signature (terms_in s) c.args.real c.args.lower.now.name c.requires.lower.written.name)

pub last_line-below_line-requires : goal.last_line-below_line-requires
last_line-below_line-requires c =
    let one : length c.in_ok-first.first.lines ≡ 1 = ap length c.in_ok-first.ensures.lines in
    let all = c.in_ok-second.ensures.lines in
    record { some = omega (arith, one, all) }

pub last_line-above_line-requires : goal.last_line-above_line-requires
last_line-above_line-requires c =
    let one : length c.in_ok-first.first.lines ≡ 1 = ap length c.in_ok-first.ensures.lines in
    let some = c.in_ok-second.ensures.lines in
    let all = c.in_ok-third.ensures.lines in
    record { some = omega (arith, one, some, all) }

pub line_times-times-requires-clause-divides : goal.line_times-times-requires-clause-divides
line_times-times-requires-clause-divides c =
    let v = c.args.upper.now.value.now in
    let w = c.args.lower.now.value.now in
    let d = c.sums_are_over_the_product.ensures.difference c.args.form.now v w c.requires.normal c.requires.upper.written.normal c.requires.lower.written.normal c.requires.difference in
    (d.times, d.is ∙ *ℤ_comm v.den w.den)

pub product-whole-requires : goal.product-whole-requires
product-whole-requires c =
    let v = c.args.upper.now.value.now in
    let w = c.args.lower.now.value.now in
    subst FitsLimits (λ i. sym (to_z-of_z w128 w.den (search rules)) i *ℤ sym (to_z-of_z w128 v.den (search rules)) i) c.requires.within

pub negated-opposite-requires : goal.negated-opposite-requires
negated-opposite-requires c =
    let v = c.args.upper.now.value.now in
    subst FitsLimits (sym (to_z-of_z w128 v.den (search rules))) (den_fits v c.requires.upper.written.normal)

pub line_times-times-requires-clause-product : goal.line_times-times-requires-clause-product
line_times-times-requires-clause-product c = c.requires.within

pub line_times-times-requires-clause-some : goal.line_times-times-requires-clause-some
line_times-times-requires-clause-some c = c.requires.normal.positive

pub row_line-requires : goal.row_line-requires
row_line-requires c =
    let s = c.args.store.now in
    record {
      within = parts_within s.signature (terms_in s) c.args.real c.args.form.now.parts
          (numbers s.signature (terms_in s) c.args.real c.args.form.now c.args.upper.now.value.now c.args.lower.now.value.now c.args.upper.now.name c.args.lower.now.name c.requires.normal c.requires.upper.written
          c.requires.lower.written c.requires.difference);
    }

pub returns-clause-given : goal.returns-clause-given
returns-clause-given c =
    let s = c.args.store.now in
    let up = c.args.upper.now in
    let low = c.args.lower.now in
    let one = c.in_ok-second.ensures in
    let two = c.in_ok-third.ensures in
    let kw = to_z-of_z w128 low.value.now.den (search rules) in
    let kv = to_z-of_z w128 up.value.now.den (search rules) in
    let whole = to_z-of_z w128 c.product-whole.result (search rules) in
    let opposite = to_z-of_z w128 c.negated-opposite.result (search rules) in
    let times = to_z-of_z w128 c.line_times-times.result (search rules) in
    let parts : c.in_ok-parts.parts ≡ parts_between low.value.now.den up.value.now.den c.last_line-below_line.result c.last_line-above_line.result =
    c.in_ok-parts.ensures
    ∙ (λ i. record { factor = (whole ∙ c.product-whole.ensures ∙ (λ k. kw k *ℤ kv k)) i; line = 0 }
    ∷ record { factor = (opposite ∙ c.negated-opposite.ensures ∙ ap neg_ℤ kv) i; line = c.last_line-below_line.result }
    ∷ record { factor = kw i; line = c.last_line-above_line.result } ∷ []) in
    three s.signature (terms_in s) c.args.real c.args.strict c.args.lit.now c.args.form.now up.value.now low.value.now up.name low.name up.why.now low.why.now c.requires.between c.requires.upper c.requires.lower
    c.requires.normal c.requires.difference c.requires.within c.in_ok-first.first c.in_ok-second.second c.in_ok-third.third c.in_ok-first.ensures.hyps c.in_ok-first.ensures.lines
    (record { lines = one.lines; before = one.before; after = one.after; factors = one.factors; allowed = one.allowed })
    (record { lines = two.lines; before = two.before; after = two.after; factors = two.factors; allowed = two.allowed })
    c.last_line-below_line.result c.last_line-above_line.result c.last_line-below_line.ensures c.last_line-above_line.ensures
    c.line_times-times.result c.line_times-times.ensures _ (c.in_ok-deriv.ensures.hyps)
    (c.in_ok-deriv.ensures.lines ∙ ap (λ (y : EqLine). c.in_ok-third.third.lines ++ y ∷ []) (c.in_ok-line.ensures ∙ (λ i. row_line (terms_in s) c.args.real c.args.strict c.args.form.now (times i) (parts i))))
    (to_z-of_z w128 c.args.form.now.den (search rules))

pub returns-clause-hyps : goal.returns-clause-hyps
returns-clause-hyps c =
    let up = c.args.upper.now in
    let low = c.args.lower.now in
    c.in_ok-deriv.ensures.hyps ∙ c.in_ok-third.ensures.hyps
    ∙ ap (λ (hs : List Lit). hs ++ up.why.now.hyps) (c.in_ok-second.ensures.hyps ∙ ap (λ (hs : List Lit). hs ++ low.why.now.hyps) c.in_ok-first.ensures.hyps)
