-- Type variables in the sorts of fresh constants.
use Rattle.std.proofs.Common.{◌≡◌, ◌∙◌, ℕ, ℤ, ◌<◌, ◌+◌, List, Bool, false, sym, subst, arith, inl, inr}
use Rattle.std.specs.List.{list_any}
use Rattle.std.proofs.lemmas.Bool.{cases_lt}
use Rattle.ae_core.proofs.Recursion.{fold_bound, fold_num, fold_fresh, fold_apply}
use Rattle.ae_core.specs.declared.terms.Head.{Head}
use Rattle.ae_core.specs.declared.terms.Sort.{Sort}
use Rattle.ae_core.specs.declared.terms.Term.{Term, Bound, Num, Fresh, Apply}
use Rattle.ae_rules.specs.Matches.{term_has}
use Rattle.ae_trigger.proofs.OccurrenceRules.{any_map, term_fresh}
use Rattle.ae_matches.specs.Steps.{fresh_has, fresh_has_step}

pub constant_bound : (i j : ℕ) → fresh_has i (Bound j) ≡ false
unfolding fresh_has
constant_bound i j = fold_bound Bool (fresh_has_step i) j

pub constant_num : (i : ℕ) (a b : ℤ) (r : Bool) → fresh_has i (Num a b r) ≡ false
unfolding fresh_has
constant_num i a b r = fold_num Bool (fresh_has_step i) a b r

pub constant_fresh : (i k : ℕ) (s : Sort) → fresh_has i (Fresh k s) ≡ term_has i (Fresh k s)
unfolding fresh_has
constant_fresh i k s = fold_fresh Bool (fresh_has_step i) k s ∙ sym (term_fresh i k s)

pub constant_apply : (i : ℕ) (h : Head) (ss : List Sort) (us : List Term) → fresh_has i (Apply h ss us) ≡ list_any (fresh_has i) us
unfolding fresh_has
constant_apply i h ss us = fold_apply Bool (fresh_has_step i) h ss us ∙ any_map (λ b. b) (fresh_has i) us

pub ruleset constant_rules = (constant_bound, constant_num, constant_fresh, constant_apply)

-- none of these numbers, and none of one more
pub one_more : (ps : List Term) (n : ℕ) → ((i : ℕ) → i < n → list_any (fresh_has i) ps ≡ false) → list_any (fresh_has n) ps ≡ false
    → (i : ℕ) → i < n + 1 → list_any (fresh_has i) ps ≡ false
one_more ps n all e i l = elim (cases_lt i n) as (λ _. list_any (fresh_has i) ps ≡ false) [
  | inl below ↦ all i below
  | inr above ↦ let same : n ≡ i = omega (arith, l, above) in subst (λ k. list_any (fresh_has k) ps ≡ false) same e
]
