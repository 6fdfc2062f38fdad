-- Lines of which the last says a row that can't hold end a block.
use Rattle.std.specs.Prelude.{ℕ, suc, ◌+◌, ◌<◌, ◌≡◌, ◌⊎◌, Bool, true, false, List, [], ◌∷◌, length}
use Rattle.std.proofs.Common.{arith, refl, sym, ap, ◌∙◌, subst, inl, inr, length-append}
use Rattle.std.proofs.lemmas.Bool.{true≢false}
use Rattle.ae_math.specs.Fractions.{ℚ, zero_ℚ, neg_ℚ, is_positive}
use Rattle.ae_math.proofs.FractionOrder.{not_both_positive, positive_zero}
use Rattle.ae_core.specs.declared.terms.Term.{Term}
use Rattle.ae_core.specs.declared.problems.Signature.{Signature}
use Rattle.ae_core.specs.declared.proofs.EqLine.{EqLine}
use Rattle.ae_core.specs.declared.proofs.Relation.{Relation}
use Rattle.ae_num.specs.Forms.{meaning}
use Rattle.ae_rules.specs.Lines.{Stated, states}
use Rattle.ae_rules.proofs.Written.{stated_last}
use Rattle.ae_rules.specs.Derivations.{EndsZero, CannotHold}
use Rattle.ae_row_lines.proofs.TwoRows.{ends}
use Rattle.ae_store.specs.Terms.{named}
use Rattle.ae_ineq.specs.Sums.{IsRefuted}
use Rattle.ae_state_steps.specs.ValueSteps.{sort_for}
use Rattle.ae_bounds.specs.declared.rows.Unrounded.{Unrounded}
use Rattle.ae_bound_blocks.specs.declared.given.Given.{Given}
use Rattle.ae_bound_blocks.specs.Said.{relation_of, IsGiven}
use Rattle.ae_bound_blocks.proofs.Sorting.{is_number_sort}

cannot_hold : (strict : Bool) (x : ℚ) → (is_positive (neg_ℚ x) ≡ true) ⊎ ((x ≡ zero_ℚ) × (strict ≡ true)) → CannotHold (relation_of strict) x
cannot_hold true x (inl h) = by_sign (is_positive x) refl
  where
    by_sign : (b : Bool) → is_positive x ≡ b → b ≡ false
    by_sign false e = refl
    by_sign true e = sym h ∙ not_both_positive x e
cannot_hold true x (inr h) = ap is_positive h.0 ∙ positive_zero
cannot_hold false x (inl h) = h
cannot_hold false x (inr h) = absurd (true≢false (sym h.1))

-- lines of which the last says it
pub given_long : (sig : Signature) (ts : List Term) (real : Bool) (u : Unrounded) (g : Given) → IsGiven sig ts real u g → 0 < length g.deriv.lines
given_long sig ts real u g h = let n : length g.deriv.lines ≡ length h.front + 1 = ap length h.lines ∙ length-append h.front (h.last ∷ []) in omega (arith, n)

pub given_ends : (sig : Signature) (ts : List Term) (real : Bool) (u : Unrounded) (g : Given) (k : ℕ) → IsGiven sig ts real u g → IsRefuted u.strict (meaning u.lin) → suc k ≡ length g.deriv.lines → EndsZero sig g.deriv.lines k
given_ends sig ts real u g k h refuted at =
    let n : length g.deriv.lines ≡ length h.front + 1 = ap length h.lines ∙ length-append h.front (h.last ∷ []) in
    let place : length h.front + 0 ≡ k = omega (arith, at, n) in
    let stated : Stated g.deriv.lines k (states h.last) =
    subst (λ (i : ℕ). Stated g.deriv.lines i (states h.last)) place (subst (λ (ls : List EqLine). Stated ls (length h.front + 0) (states h.last)) (sym h.lines) (stated_last h.front h.last)) in
    ends sig (named ts) g.multiple (meaning u.lin) (states h.last) g.deriv.lines k h.says refuted.over
    (subst (λ (r : Relation). CannotHold r (meaning u.lin).constant) (sym h.relation) (cannot_hold u.strict (meaning u.lin).constant refuted.sign)) (sort_for real, is_number_sort real, h.sorted) stated
