-- What descends goes on descending: one after another, inside a larger multiset, and by rules that came of earlier ones.
use Rattle.std.proofs.Common.{◌≡◌, ℕ, ◌⊎◌, inl, inr, List, [], ◌∷◌, ◌++◌, map, subst, arith}
use Rattle.ae_multiset.specs.Multisets.{IsSame}
use Rattle.ae_multiset.specs.Rewriting.{ReducesTo}
use Rattle.ae_multiset.specs.Rewriting.ReducesTo.{done, more}
use Rattle.ae_multiset.proofs.Counts.{count-append, same, back, then}
use Rattle.ae_descents.specs.Descents.{Descends}
use Rattle.ae_descents.specs.Descents.Descends.{itself, by_name, by_rule}

-- ---- sums of multisets
pub same_inside : {a b : List ℕ} (c : List ℕ) → IsSame a b → IsSame (a ++ c) (b ++ c)
same_inside {a} {b} c s = record { each = λ x. omega (arith, count-append x a c, count-append x b c, s.each x) }

pub same_turned : (a b : List ℕ) → IsSame (a ++ b) (b ++ a)
same_turned a b = record { each = λ x. omega (arith, count-append x a b, count-append x b a) }

-- what is left of a sum stands beside more
same_regrouped : {a : List ℕ} (l rest c : List ℕ) → IsSame a (l ++ rest) → IsSame (a ++ c) (l ++ (rest ++ c))
same_regrouped {a} l rest c s = record {
  each = λ x. omega (arith, count-append x a c, s.each x, count-append x l rest, count-append x l (rest ++ c), count-append x rest c);
}

module _ (name : ℕ → ℕ → Type 0) (rule : List ℕ → List ℕ → Type 0) where
  pub from_same : {a b c : List ℕ} → IsSame a b → Descends name rule b c → Descends name rule a c
  from_same s (itself t) = itself (then s t)
  from_same s (by_name n r rest t h d) = by_name n r rest (then s t) h d
  from_same s (by_rule l r rest t h d) = by_rule l r rest (then s t) h d

  pub descends_then : {a b c : List ℕ} → Descends name rule a b → Descends name rule b c → Descends name rule a c
  descends_then (itself s) e = from_same s e
  descends_then (by_name n r rest s h d) e = by_name n r rest s h (descends_then d e)
  descends_then (by_rule l r rest s h d) e = by_rule l r rest s h (descends_then d e)

  pub to_same : {a b c : List ℕ} → Descends name rule a b → IsSame b c → Descends name rule a c
  to_same d s = descends_then d (itself s)

  pub descends_inside : {a b : List ℕ} (c : List ℕ) → Descends name rule a b → Descends name rule (a ++ c) (b ++ c)
  descends_inside c (itself s) = itself (same_inside c s)
  descends_inside c (by_name n r rest s h d) = by_name n r (rest ++ c) (same_inside c s) h (descends_inside c d)
  descends_inside c (by_rule l r rest s h d) =
      by_rule l r (rest ++ c) (same_regrouped l rest c s) h (from_same (back (same_regrouped r rest c (same (r ++ rest)))) (descends_inside c d))

  -- one rule, once
  pub turned : {a b : List ℕ} (l r rest : List ℕ) → IsSame a (l ++ rest) → rule l r → IsSame b (r ++ rest) → Descends name rule a b
  turned l r rest s h t = by_rule l r rest s h (itself (back t))

  pub reduced : {a b : List ℕ} → ReducesTo rule a b → Descends name rule a b
  reduced (done s) = itself s
  reduced (more t f) = descends_then (turned t.left t.right t.rest t.before t.rule t.after) (reduced f)

  -- each name in turn
  pub renamed : (rep : ℕ → ℕ) → ((n : ℕ) → name n (rep n)) → (a : List ℕ) → Descends name rule a (map rep a)
  renamed rep h [] = itself (same [])
  renamed rep h (n ∷ ns) =
      by_name n (rep n) ns (same (n ∷ ns)) (h n)
      (from_same (same_turned (rep n ∷ []) ns) (to_same (descends_inside (rep n ∷ []) (renamed rep h ns)) (same_turned (map rep ns) (rep n ∷ []))))

-- ---- by other names and rules
module _ (name later_name : ℕ → ℕ → Type 0) (rule later_rule : List ℕ → List ℕ → Type 0) (names : (n r : ℕ) → later_name n r → (n ≡ r) ⊎ name n r)
    (rules : (l r : List ℕ) → later_rule l r → (q : List ℕ) × rule l q × Descends name rule q r) where
  put : {a b : List ℕ} (n r : ℕ) (rest : List ℕ) → IsSame a (n ∷ rest) → (n ≡ r) ⊎ name n r → Descends name rule (r ∷ rest) b → Descends name rule a b
  put {a} n r rest s (inl e) d = from_same name rule (subst (λ (m : ℕ). IsSame a (m ∷ rest)) e s) d
  put n r rest s (inr h) d = by_name n r rest s h d

  pub through : {a b : List ℕ} → Descends later_name later_rule a b → Descends name rule a b
  through (itself s) = itself s
  through (by_name n r rest s h d) = put n r rest s (names n r h) (through d)
  through (by_rule l r rest s h d) =
      let q = rules l r h in
      by_rule l q.0 rest s q.1 (descends_then name rule (descends_inside name rule rest q.2) (through d))

-- the same names and rules, or more of them
pub wider : (name more_names : ℕ → ℕ → Type 0) (rule more_rules : List ℕ → List ℕ → Type 0) → ((n r : ℕ) → name n r → more_names n r)
    → ((l r : List ℕ) → rule l r → more_rules l r) → {a b : List ℕ} → Descends name rule a b → Descends more_names more_rules a b
wider name more_names rule more_rules f g (itself s) = itself s
wider name more_names rule more_rules f g (by_name n r rest s h d) = by_name n r rest s (f n r h) (wider name more_names rule more_rules f g d)
wider name more_names rule more_rules f g (by_rule l r rest s h d) = by_rule l r rest s (g l r h) (wider name more_names rule more_rules f g d)
