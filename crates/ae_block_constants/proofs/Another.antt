-- A block more.
use Rattle.std.specs.Prelude.{ℕ, ◌+◌, ◌<◌, ◌≤◌, ◌≡◌, ◌≢◌, List, [], ◌∷◌, ◌++◌}
use Rattle.std.specs.List.{Contains}
use Rattle.std.proofs.Common.{sym, ap, ◌∙◌, subst, arith, inl, inr}
use Rattle.std.proofs.lemmas.List.Elements.{Contains-push_cases}
use Rattle.ae_block_constants.specs.Blocks.{variables, AreApart}
use Rattle.ae_block_constants.specs.declared.opened.Opened.{Opened}

pub none_apart : (next : ℕ) → AreApart next []
none_apart next = record {
  below = λ o h. absurd (omega (arith, h.1));
  once = λ o e h k s. absurd (omega (arith, h.1));
  apart = λ o e i j h k l m s. absurd (omega (arith, h.1));
}

module _ (next : ℕ) (opened : List Opened) (o : Opened) (a : AreApart next opened) (at : o.first ≡ next) (new : (e : Opened) → Contains opened e → e.formula ≢ o.formula) where
  abbrev all : List Opened
  all = opened ++ o ∷ []

  block : {d e : Opened} → d ≡ e → d.formula ≡ e.formula
  block q = ap (λ (z : Opened). z.formula) q

  number : {d e : Opened} → d ≡ e → d.first ≡ e.first
  number q = ap (λ (z : Opened). z.first) q

  ends : (e : Opened) → Contains all e → e.first + variables e.formula ≤ next + variables o.formula
  ends e h = elim (Contains-push_cases opened o e h) as (λ _. e.first + variables e.formula ≤ next + variables o.formula) [
    | inl k ↦ let b = a.below e k in omega (arith, b)
    | inr q ↦ subst (λ (z : Opened). z.first + variables z.formula ≤ next + variables o.formula) q (omega (arith, at))
  ]

  one_number : (d e : Opened) → Contains all d → Contains all e → d.formula ≡ e.formula → d.first ≡ e.first
  one_number d e h k s = elim (Contains-push_cases opened o d h) as (λ _. d.first ≡ e.first) [
    | inl c ↦ elim (Contains-push_cases opened o e k) as (λ _. d.first ≡ e.first) [
      | inl f ↦ a.once d e c f s
      | inr q ↦ absurd (new d c (s ∙ block (sym q)))
    ]
    | inr p ↦ elim (Contains-push_cases opened o e k) as (λ _. d.first ≡ e.first) [
      | inl f ↦ absurd (new e f (sym s ∙ block (sym p)))
      | inr q ↦ number (sym p ∙ q)
    ]
  ]

  -- a constant of an earlier block is below those of the new one
  differ : (d : Opened) (i j : ℕ) → Contains opened d → i < variables d.formula → d.first + i ≡ o.first + j → ⊥
  differ d i j c l s = let b = a.below d c in omega (arith, b, l, s, at)

  one_block : (d e : Opened) (i j : ℕ) → Contains all d → Contains all e → i < variables d.formula → j < variables e.formula → d.first + i ≡ e.first + j → d.formula ≡ e.formula
  one_block d e i j h k l m s = elim (Contains-push_cases opened o d h) as (λ _. d.formula ≡ e.formula) [
    | inl c ↦ elim (Contains-push_cases opened o e k) as (λ _. d.formula ≡ e.formula) [
      | inl f ↦ a.apart d e i j c f l m s
      | inr q ↦ absurd (differ d i j c l (s ∙ ap (λ n. n + j) (number (sym q))))
    ]
    | inr p ↦ elim (Contains-push_cases opened o e k) as (λ _. d.formula ≡ e.formula) [
      | inl f ↦ absurd (differ e j i f m (sym s ∙ ap (λ n. n + i) (number (sym p))))
      | inr q ↦ block (sym p ∙ q)
    ]
  ]

  pub another_apart : AreApart (next + variables o.formula) all
  another_apart = record { below = ends; once = one_number; apart = one_block }
