-- Whether a line that pairs two rules stands, read from their left sides.
use Rattle.std.specs.Prelude.{ℕ, ◌≡◌, List, Bool, true, false, MatchBool, Option, Some, None}
use Rattle.std.specs.List.{Contains}
use Rattle.std.proofs.Common.{sym, ◌∙◌, subst}
use Rattle.std.proofs.lemmas.Option.{none-some, same_Some}
use Rattle.ae_journal.specs.Journals.{live}
use Rattle.ae_journal.specs.declared.lines.Line.{Line}
use Rattle.ae_journal.specs.declared.lines.Line.TheVariants as line
use Rattle.ae_monoid.specs.declared.rules.Kept.{Kept}
use Rattle.ae_gaps.specs.Inner.Overlapping.{IsLineOf, ArePairedInOrder, AreNotPairedInOrder}

-- what follows in both cases
both_cases : (b : Bool) {P Q R S : Type 0} → (P → R) → (Q → S) → MatchBool b P Q → MatchBool b R S
both_cases true f g h = f h
both_cases false f g h = g h

-- one of them doesn't stand
pub none_first : (kept : ℕ → Option Kept) (js : List Line) (m n : ℕ) → None ≡ kept m → ArePairedInOrder kept js m n
none_first kept js m n e p q f g s = absurd (none-some p (e ∙ f))

pub none_second : (kept : ℕ → Option Kept) (js : List Line) (m n : ℕ) → None ≡ kept n → ArePairedInOrder kept js m n
none_second kept js m n e p q f g s = absurd (none-some q (e ∙ g))

module _ (kept : ℕ → Option Kept) (js : List Line) (m n : ℕ) (d e : Kept) (first : kept m ≡ Some d) (second : kept n ≡ Some e) where
  is_line : (p q : Kept) → kept m ≡ Some p → kept n ≡ Some q → IsLineOf js d e → IsLineOf js p q
  is_line p q f g h = subst (λ (z : Kept × Kept). IsLineOf js z.0 z.1) (λ i. (same_Some d p (sym first ∙ f) i, same_Some e q (sym second ∙ g) i)) h

  is_here : (p q : Kept) → kept m ≡ Some p → kept n ≡ Some q → IsLineOf js p q → IsLineOf js d e
  is_here p q f g h = subst (λ (z : Kept × Kept). IsLineOf js z.0 z.1) (λ i. (same_Some p d (sym f ∙ first) i, same_Some q e (sym g ∙ second) i)) h

  pub in_order : (left right : List ℕ) → left ≡ d.entry.left → right ≡ e.entry.left → (b : Bool)
      → MatchBool b (Contains (live js) (line.Pair d.entry.symbol left right)) (Contains (live js) (line.Pair d.entry.symbol left right) → ⊥)
      → MatchBool b (ArePairedInOrder kept js m n) (AreNotPairedInOrder kept js m n)
  in_order left right l r b h =
      both_cases b (λ here p q f g s. is_line p q f g here) (λ none p q f g here. none (is_here p q f g here))
      (subst (λ (z : List ℕ × List ℕ). MatchBool b (Contains (live js) (line.Pair d.entry.symbol z.0 z.1)) (Contains (live js) (line.Pair d.entry.symbol z.0 z.1) → ⊥)) (λ i. (l i, r i)) h)
