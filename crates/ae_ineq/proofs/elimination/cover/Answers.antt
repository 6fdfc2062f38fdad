use Rattle.std.specs.Prelude.{◌||◌}
use Rattle.std.proofs.Common.{◌≡◌, IfSome, sym, ap, ◌∙◌, subst}
use native.Mathlib.Decide.{ℕ_discrete}
use Rattle.ae_math.specs.Forms.{Form}
use Rattle.ae_num.specs.declared.forms.Part.{Part}
use Rattle.ae_num.specs.declared.forms.Lin.{Lin}
use Rattle.ae_num.specs.Forms.{meaning, factor_of, SameMeaning}
use Rattle.ae_num.specs.Limits.{FitsLimits}
use Rattle.ae_rows.specs.Rows.{combination}
use Rattle.ae_math.proofs.FormLaws.{same_sym}
use Rattle.ae_ineq.specs.Inner.Sets.{last_part, IsRow, IsRestRow, HasForm}
use Rattle.ae_ineq.specs.Sums.{IsRefuted}
use Rattle.ae_ineq.specs.Inner.Derived.{IsDerived, IsNonzeroSum}
use Rattle.ae_ineq.proofs.Deriving.{combination_sum, nonzero_same, tight_sum, refuted_sum}
use Rattle.ae_ineq.proofs.LastLaws.{rising_last, last_within}
use Rattle.ae_base.proofs.AllOf.{all_weaker}
use Rattle.ae_ineq.proofs.RowSets.{rest_row, added_all, added_kept, added_covered, covered_same}
use Rattle.ae_ineq.proofs.Verdicts.{zero_means, refuted_means}
use Rattle.ae_ineq.proofs.elimination.cover.Goals as goal

pub combined-requires-clause-rising_factor : goal.combined-requires-clause-rising_factor
combined-requires-clause-rising_factor c =
    let l = c.requires.lower in
    let p : Part = record { key = c.args.name; factor = l.factor } in
    let e = c.last-rising.ensures ∙ ap last_part c.as_slice.ensures ∙ l.is in
    subst (λ o. IfSome o (λ (part : Part). factor_of c.args.lower.now.lin.parts c.args.name ≡ part.factor)) (sym e) (rising_last c.args.lower.now.lin.parts p l.row.normal.rising l.is)

pub combined-requires-clause-falling_factor : goal.combined-requires-clause-falling_factor
combined-requires-clause-falling_factor c =
    let l = c.requires.upper in
    let p : Part = record { key = c.args.name; factor = l.factor } in
    let e = c.last-falling.ensures ∙ ap last_part c.as_slice-2.ensures ∙ l.is in
    subst (λ o. IfSome o (λ (part : Part). factor_of c.args.upper.now.lin.parts c.args.name ≡ part.factor)) (sym e) (rising_last c.args.upper.now.lin.parts p l.row.normal.rising l.is)

pub combined-requires-clause-within : goal.combined-requires-clause-within
combined-requires-clause-within c =
    let l = c.requires.upper in
    let p : Part = record { key = c.args.name; factor = l.factor } in
    let e = c.last-falling.ensures ∙ ap last_part c.as_slice-2.ensures ∙ l.is in
    subst (λ o. IfSome o (λ (part : Part). FitsLimits part.factor)) (sym e) (last_within c.args.upper.now.lin p l.row.normal l.is)

pub add-requires-clause-rest : goal.add-requires-clause-rest
add-requires-clause-rest c = all_weaker (IsRestRow c.args.name) IsRow (λ x h. h.good.row) c.args.rest.now c.requires.rest

pub returns-in_ok-add-in-Open-clause-rest : goal.returns-in_ok-add-in-Open-clause-rest
returns-in_ok-add-in-Open-clause-rest c =
    let row = c.in_ok-row-in-Open.row in
    let r = c.in_ok-row-in-Open.ensures in
    added_all (IsRestRow c.args.name) c.args.rest.now c.add.new.rest row c.in_ok-add-in-Open.ensures.added c.requires.rest
    (rest_row c.args.name c.args.lower.now c.args.upper.now row c.in_ok-lin.lin c.requires.lower c.requires.upper c.in_ok-lin.ensures.exact r.form r.known (c.judged.ensures.fine c.in-Open.is))

pub returns-in_ok-add-in-Open-clause-kept : goal.returns-in_ok-add-in-Open-clause-kept
returns-in_ok-add-in-Open-clause-kept c = added_kept c.args.rest.now c.add.new.rest c.in_ok-row-in-Open.row c.in_ok-add-in-Open.ensures.added

pub returns-in_ok-add-in-Open-clause-covered : goal.returns-in_ok-add-in-Open-clause-covered
returns-in_ok-add-in-Open-clause-covered c = λ t.
    let row = c.in_ok-row-in-Open.row in
    let r = c.in_ok-row-in-Open.ensures in
    let f : Form _ = combination c.args.name (meaning c.args.lower.now.lin) (meaning c.args.upper.now.lin) in
    covered_same (HasForm c.add.new.rest) f (meaning row.lin)
    (subst (λ (l : Lin). SameMeaning f (meaning l)) (sym r.form) (same_sym ℕ_discrete (meaning c.in_ok-lin.lin) f c.in_ok-lin.ensures.exact))
    (added_covered c.args.rest.now c.add.new.rest row c.in_ok-add-in-Open.ensures.added (all_weaker (IsRestRow c.args.name) IsRow (λ x h. h.good.row) c.args.rest.now c.requires.rest) r.known)

pub returns-in_ok-add-in-Open-clause-derived : goal.returns-in_ok-add-in-Open-clause-derived
returns-in_ok-add-in-Open-clause-derived c = λ given l u a.
    let row = c.in_ok-row-in-Open.row in
    let r = c.in_ok-row-in-Open.ensures in
    let f : Form _ = combination c.args.name (meaning c.args.lower.now.lin) (meaning c.args.upper.now.lin) in
    let same : SameMeaning f (meaning row.lin) = subst (λ (l : Lin). SameMeaning f (meaning l)) (sym r.form) (same_sym ℕ_discrete (meaning c.in_ok-lin.lin) f c.in_ok-lin.ensures.exact) in
    let sum = combination_sum given c.args.name c.args.lower.now c.args.upper.now c.requires.lower c.requires.upper l u in
    added_all (IsDerived given) c.args.rest.now c.add.new.rest row c.in_ok-add-in-Open.ensures.added a
    (subst (IsNonzeroSum given (meaning row.lin)) (sym c.one_strict-strict.ensures ∙ sym r.strict) (nonzero_same given f (meaning row.lin) (c.args.lower.now.strict || c.args.upper.now.strict) same sum))

pub returns-in-Tight-clause-judged : goal.returns-in-Tight-clause-judged
returns-in-Tight-clause-judged c = λ given l u.
    let j = c.judged.ensures.tight c.in-Tight.is in
    let f : Form _ = combination c.args.name (meaning c.args.lower.now.lin) (meaning c.args.upper.now.lin) in
    tight_sum given f (c.args.lower.now.strict || c.args.upper.now.strict)
    (combination_sum given c.args.name c.args.lower.now c.args.upper.now c.requires.lower c.requires.upper l u) (sym c.one_strict-strict.ensures ∙ j.2)
    (zero_means c.in_ok-lin.lin f c.in_ok-lin.ensures.exact j.0 j.1)

pub returns-in-Contradiction-clause-judged : goal.returns-in-Contradiction-clause-judged
returns-in-Contradiction-clause-judged c = λ given l u.
    let j = c.judged.ensures.refuted c.in-Contradiction.is in
    let f : Form _ = combination c.args.name (meaning c.args.lower.now.lin) (meaning c.args.upper.now.lin) in
    refuted_sum given f (c.args.lower.now.strict || c.args.upper.now.strict)
    (combination_sum given c.args.name c.args.lower.now c.args.upper.now c.requires.lower c.requires.upper l u).sum
    (subst (λ b. IsRefuted b f) c.one_strict-strict.ensures (refuted_means c.in_ok-lin.lin f c.one_strict-strict.result c.in_ok-lin.ensures.normal c.in_ok-lin.ensures.exact j.0 j.1))
