-- Multisets that are the same or smaller: with representatives for names, and reduced.
use Rattle.std.specs.Prelude.{ℕ, ◌+◌, ◌<◌, ◌≤◌, ◌≡◌, ◌⊎◌, List, [], ◌∷◌, ◌++◌, map, length, Option}
use Rattle.std.specs.List.{AllByRecursion}
use Rattle.std.proofs.Common.{refl, sym, ap, ◌∙◌, subst, arith, inl, inr}
use Rattle.std.proofs.lemmas.Bool.{cases_eq}
use Rattle.std.proofs.lemmas.List.{length-append}
use Rattle.ae_base.proofs.AllOf.{all_append, all_back, all_front}
use Rattle.ae_multiset.specs.Multisets.{count, IsSame, IsLess, rising}
use Rattle.ae_multiset.specs.Rewriting.{Step, ReducesTo, done, more}
use Rattle.ae_multiset.proofs.Comparing.{less_then}
use Rattle.ae_multiset.proofs.Counts.{count-append, count_same, count_other, same, back, then, length_same, less_same, less-append}
use Rattle.ae_multiset.proofs.Rising.{one_spelling, rising_rises, count-rising}
use Rattle.std.specs.List.Sorted.{IsNonDecreasing}
use Rattle.ae_core.specs.declared.problems.AcSymbol.{AcSymbol}
use Rattle.ae_multiset_steps.proofs.Lists.{all_same}
use Rattle.ae_monoid.specs.declared.rules.Kept.{Kept}
use Rattle.ae_monoid.specs.Rules.{AreRules, IsRuleOf}
use Rattle.ae_descents.proofs.Descending.{same_turned}

-- ---- the same or smaller
abbrev pub IsUpTo : List ℕ → List ℕ → Type 0
IsUpTo a b = IsSame a b ⊎ IsLess a b

up_to_then : {a b c : List ℕ} → IsUpTo a b → IsUpTo b c → IsUpTo a c
up_to_then (inl s) (inl t) = inl (then s t)
up_to_then {a} {b} {c} (inl s) (inr l) = inr (less_same (back s) (same c) l)
up_to_then {a} {b} {c} (inr l) (inl t) = inr (less_same (same a) t l)
up_to_then (inr l) (inr m) = inr (less_then l m)

-- beside one name more
up_to_beside : (x : ℕ) (a b : List ℕ) → IsUpTo a b → IsUpTo (x ∷ a) (x ∷ b)
up_to_beside x a b (inl s) = inl (record { each = λ y. count-append y (x ∷ []) a ∙ ap (λ (n : ℕ). count y (x ∷ []) + n) (s.each y) ∙ sym (count-append y (x ∷ []) b) })
up_to_beside x a b (inr l) = inr (less_same (same_turned a (x ∷ [])) (same_turned b (x ∷ [])) (less-append (x ∷ []) l))

up_to_head : (r x : ℕ) (xs : List ℕ) → r ≤ x → IsUpTo (r ∷ xs) (x ∷ xs)
up_to_head r x xs l = elim (cases_eq r x) [
  | inl e ↦ inl (subst (λ (y : ℕ). IsSame (r ∷ xs) (y ∷ xs)) e (same (r ∷ xs)))
  | inr n ↦
      inr (inr (
        refl,
        record {
          name = x;
          fewer = (let a = count_other x r xs (λ e. n (sym e)) in let b = count_same x xs in omega (arith, a, b));
          above = λ y m. count_other y r xs (λ e. omega (arith, e, m, l)) ∙ sym (count_other y x xs (λ e. omega (arith, e, m)));
        },
      ))
]

-- smaller names in place of names
pub up_to_renamed : (rep : ℕ → ℕ) → ((n : ℕ) → rep n ≤ n) → (a : List ℕ) → IsUpTo (map rep a) a
up_to_renamed rep below [] = inl (same [])
up_to_renamed rep below (x ∷ xs) =
    up_to_then (up_to_beside (rep x) (map rep xs) xs (up_to_renamed rep below xs)) (up_to_head (rep x) x xs (below x))

pub less_up_to : (a b c : List ℕ) → IsUpTo a b → IsLess b c → IsLess a c
less_up_to a b c (inl s) l = less_same (back s) (same c) l
less_up_to a b c (inr m) l = less_then m l

pub up_to_as : (a b c : List ℕ) → IsSame a b → IsUpTo b c → IsUpTo a c
up_to_as a b c s u = up_to_then (inl s) u

-- ---- rising order
pub same_rising : (a : List ℕ) → IsSame (rising a) a
same_rising a = record { each = λ x. count-rising x a }

pub rising_same : (a : List ℕ) → IsNonDecreasing a → rising a ≡ a
rising_same a r = one_spelling (rising a) a (rising_rises a) r (same_rising a)

-- ---- what reduction keeps
all_stepped : (P : ℕ → Type 0) (R : List ℕ → List ℕ → Type 0) → ((l r : List ℕ) → R l r → AllByRecursion P l → AllByRecursion P r) → {a b : List ℕ} → Step R a b → AllByRecursion P a → AllByRecursion P b
all_stepped P R f {a} {b} t p =
    let both = all_same P (t.left ++ t.rest) a (back t.before) p in
    all_same P b (t.right ++ t.rest) t.after (all_append P t.right t.rest (f t.left t.right t.rule (all_front P t.left t.rest both)) (all_back P t.left t.rest both))

-- what each rule hands on from its left side to its right side
pub all_reduced : (P : ℕ → Type 0) (R : List ℕ → List ℕ → Type 0) → ((l r : List ℕ) → R l r → AllByRecursion P l → AllByRecursion P r) → {a b : List ℕ} → ReducesTo R a b → AllByRecursion P a → AllByRecursion P b
all_reduced P R f {a} {b} (done s) p = all_same P b a (back s) p
all_reduced P R f (more t u) p = all_reduced P R f u (all_stepped P R f t p)

module _ (kept : ℕ → Option Kept) (next : ℕ) (symbol : AcSymbol) (rules : AreRules kept next) where
  rule_falls : (l r : List ℕ) → IsRuleOf kept symbol l r → IsLess r l
  rule_falls l r h = subst (λ (zs : List ℕ). IsLess zs l) h.right (subst (λ (zs : List ℕ). IsLess h.rule.entry.right zs) h.left (rules.well h.number h.rule h.there).falls)

  rule_some : (l r : List ℕ) → IsRuleOf kept symbol l r → 0 < length r
  rule_some l r h = subst (λ (zs : List ℕ). 0 < length zs) h.right (rules.well h.number h.rule h.there).some

  step_falls : {a b : List ℕ} → Step (IsRuleOf kept symbol) a b → IsLess b a
  step_falls t = less_same (back t.after) (back t.before) (less-append t.rest (rule_falls t.left t.right t.rule))

  step_some : {a b : List ℕ} → Step (IsRuleOf kept symbol) a b → 0 < length b
  step_some {a} {b} t =
      let e = length_same b (t.right ++ t.rest) t.after in
      let s = rule_some t.left t.right t.rule in
      omega (arith, e, s, length-append t.right t.rest)

  pub up_to_reduced : {a b : List ℕ} → ReducesTo (IsRuleOf kept symbol) a b → IsUpTo b a
  up_to_reduced (done s) = inl (back s)
  up_to_reduced (more t u) = up_to_then (up_to_reduced u) (inr (step_falls t))

  pub some_reduced : {a b : List ℕ} → ReducesTo (IsRuleOf kept symbol) a b → 0 < length a → 0 < length b
  some_reduced {a} {b} (done s) l = let e = length_same a b s in omega (arith, e, l)
  some_reduced (more t u) l = some_reduced u (step_some t)
