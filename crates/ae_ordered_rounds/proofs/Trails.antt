-- Trails without inequalities.
use Rattle.std.specs.Prelude.{ℕ, ◌+◌, ◌<◌, ◌≡◌, List, length, None}
use Rattle.std.proofs.Common.{arith, sym, ap, ◌∙◌, subst, inl, inr}
use Rattle.std.proofs.lemmas.Bool.{cases_eq}
use Rattle.ae_explain.specs.Trail.{at}
use Rattle.ae_explain.specs.declared.trail.Assigned.{Assigned}
use Rattle.ae_journal.specs.States.{inequality}
use Rattle.ae_ordered_rounds.specs.Inner.Orderable.{HasNoInequality}

abbrev pub NoneTo : List Assigned → ℕ → Type 0
NoneTo t n = (k : ℕ) → k < n → inequality (at t k).lit ≡ None

pub none_more : (t : List Assigned) (n : ℕ) → NoneTo t n → inequality (at t n).lit ≡ None → NoneTo t (n + 1)
none_more t n h one k l = elim (cases_eq k n) as (λ _. inequality (at t k).lit ≡ None) [
  | inl e ↦ subst (λ (j : ℕ). inequality (at t j).lit ≡ None) (sym e) one
  | inr d ↦ h k (omega (arith, l, d))
]

pub none_at_all : (t : List Assigned) (n : ℕ) → NoneTo t n → ¬ (n < length t) → HasNoInequality t
none_at_all t n h end l w = ap inequality (sym w.2) ∙ h w.0 (let k = w.1 in omega (arith, k, end))
