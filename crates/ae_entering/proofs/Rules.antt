-- The table of computed arithmetic looks at heads and at how many arguments there are, not at what the arguments are.
use Rattle.std.specs.Prelude.{ℕ, List, [], ◌∷◌, ◌≡◌, map}
use Rattle.std.specs.List.{AllByRecursion}
use Rattle.std.proofs.Common.{refl, ap, ◌∙◌}
use Rattle.ae_math.specs.Forms.{Form}
use Rattle.ae_core.specs.declared.terms.Head.{Head}
use Rattle.ae_core.specs.declared.terms.Term.{Term}
use Rattle.ae_core.specs.declared.terms.Head.TheVariants as head
use Rattle.ae_core.specs.declared.terms.Op.TheVariants as op
use Rattle.ae_num.specs.Forms.{meaning}
use Rattle.ae_num.specs.declared.forms.Lin.{Lin}
use Rattle.ae_rules.specs.Linear.{Rule, rule_of}
use Rattle.ae_rules.specs.Linear.Rule.{opaque_term, sum_of, difference_of, negation_of, product_of, quotient_of}
use Rattle.ae_settled.specs.Valued.{linear_form, linear_by, with_forms}
use Rattle.ae_store.specs.Terms.{named}

-- the rule of other arguments
abbrev pub with_each : {A B : Type 0} → (A → B) → Rule A → Rule B
with_each f opaque_term = opaque_term
with_each f (sum_of a b) = sum_of (f a) (f b)
with_each f (difference_of a b) = difference_of (f a) (f b)
with_each f (negation_of a) = negation_of (f a)
with_each f (product_of a b) = product_of (f a) (f b)
with_each f (quotient_of a b) = quotient_of (f a) (f b)

-- what holds of the arguments of a rule
abbrev pub OfEach : {A : Type 0} → (A → Type 0) → Rule A → Type 0
OfEach P opaque_term = Unit {0}
OfEach P (sum_of a b) = P a × P b
OfEach P (difference_of a b) = P a × P b
OfEach P (negation_of a) = P a
OfEach P (product_of a b) = P a × P b
OfEach P (quotient_of a b) = P a × P b

pub by_length : {A : Type 0} (Q : List A → Type 0) → Q [] → ((a : A) → Q (a ∷ [])) → ((a b : A) → Q (a ∷ b ∷ [])) → ((a b c : A) (r : List A) → Q (a ∷ b ∷ c ∷ r)) → (xs : List A) → Q xs
by_length Q p q r s [] = p
by_length Q p q r s (a ∷ []) = q a
by_length Q p q r s (a ∷ b ∷ []) = r a b
by_length Q p q r s (a ∷ b ∷ c ∷ xs) = s a b c xs

module _ {A B : Type 0} (f : A → B) where
  abbrev Same : Head → List A → Type 0
  Same h xs = rule_of h (map f xs) ≡ with_each f (rule_of h xs)

  pub rule_map : (h : Head) (xs : List A) → Same h xs
  rule_map (head.Int op.Add) xs = by_length (Same (head.Int op.Add)) refl (λ a. refl) (λ a b. refl) (λ a b c r. refl) xs
  rule_map (head.Int op.Sub) xs = by_length (Same (head.Int op.Sub)) refl (λ a. refl) (λ a b. refl) (λ a b c r. refl) xs
  rule_map (head.Int op.Neg) xs = by_length (Same (head.Int op.Neg)) refl (λ a. refl) (λ a b. refl) (λ a b c r. refl) xs
  rule_map (head.Int op.Mul) xs = by_length (Same (head.Int op.Mul)) refl (λ a. refl) (λ a b. refl) (λ a b c r. refl) xs
  rule_map (head.Int op.Div) xs = refl
  rule_map (head.Int op.Mod) xs = refl
  rule_map (head.Real op.Add) xs = by_length (Same (head.Real op.Add)) refl (λ a. refl) (λ a b. refl) (λ a b c r. refl) xs
  rule_map (head.Real op.Sub) xs = by_length (Same (head.Real op.Sub)) refl (λ a. refl) (λ a b. refl) (λ a b c r. refl) xs
  rule_map (head.Real op.Neg) xs = by_length (Same (head.Real op.Neg)) refl (λ a. refl) (λ a b. refl) (λ a b c r. refl) xs
  rule_map (head.Real op.Mul) xs = by_length (Same (head.Real op.Mul)) refl (λ a. refl) (λ a b. refl) (λ a b c r. refl) xs
  rule_map (head.Real op.Div) xs = by_length (Same (head.Real op.Div)) refl (λ a. refl) (λ a b. refl) (λ a b c r. refl) xs
  rule_map (head.Real op.Mod) xs = refl
  rule_map (head.Symbol n) xs = refl
  rule_map (head.Build n) xs = refl
  rule_map (head.Field n i) xs = refl
  rule_map head.True xs = refl
  rule_map head.False xs = refl
  rule_map head.Void xs = refl

module _ {A : Type 0} (P : A → Type 0) where
  abbrev Of : Head → List A → Type 0
  Of h xs = AllByRecursion P xs → OfEach P (rule_of h xs)

  pub rule_each : (h : Head) (xs : List A) → Of h xs
  rule_each (head.Int op.Add) xs = by_length (Of (head.Int op.Add)) (λ w. tt) (λ a w. tt) (λ a b w. (w.0, w.1.0)) (λ a b c r w. tt) xs
  rule_each (head.Int op.Sub) xs = by_length (Of (head.Int op.Sub)) (λ w. tt) (λ a w. tt) (λ a b w. (w.0, w.1.0)) (λ a b c r w. tt) xs
  rule_each (head.Int op.Neg) xs = by_length (Of (head.Int op.Neg)) (λ w. tt) (λ a w. w.0) (λ a b w. tt) (λ a b c r w. tt) xs
  rule_each (head.Int op.Mul) xs = by_length (Of (head.Int op.Mul)) (λ w. tt) (λ a w. tt) (λ a b w. (w.0, w.1.0)) (λ a b c r w. tt) xs
  rule_each (head.Int op.Div) xs = λ w. tt
  rule_each (head.Int op.Mod) xs = λ w. tt
  rule_each (head.Real op.Add) xs = by_length (Of (head.Real op.Add)) (λ w. tt) (λ a w. tt) (λ a b w. (w.0, w.1.0)) (λ a b c r w. tt) xs
  rule_each (head.Real op.Sub) xs = by_length (Of (head.Real op.Sub)) (λ w. tt) (λ a w. tt) (λ a b w. (w.0, w.1.0)) (λ a b c r w. tt) xs
  rule_each (head.Real op.Neg) xs = by_length (Of (head.Real op.Neg)) (λ w. tt) (λ a w. w.0) (λ a b w. tt) (λ a b c r w. tt) xs
  rule_each (head.Real op.Mul) xs = by_length (Of (head.Real op.Mul)) (λ w. tt) (λ a w. tt) (λ a b w. (w.0, w.1.0)) (λ a b c r w. tt) xs
  rule_each (head.Real op.Div) xs = by_length (Of (head.Real op.Div)) (λ w. tt) (λ a w. tt) (λ a b w. (w.0, w.1.0)) (λ a b c r w. tt) xs
  rule_each (head.Real op.Mod) xs = λ w. tt
  rule_each (head.Symbol n) xs = λ w. tt
  rule_each (head.Build n) xs = λ w. tt
  rule_each (head.Field n i) xs = λ w. tt
  rule_each head.True xs = λ w. tt
  rule_each head.False xs = λ w. tt
  rule_each head.Void xs = λ w. tt

pub each_weaker : {A : Type 0} (P Q : A → Type 0) → ((a : A) → P a → Q a) → (r : Rule A) → OfEach P r → OfEach Q r
each_weaker P Q f opaque_term h = tt
each_weaker P Q f (sum_of a b) h = (f a h.0, f b h.1)
each_weaker P Q f (difference_of a b) h = (f a h.0, f b h.1)
each_weaker P Q f (negation_of a) h = f a h
each_weaker P Q f (product_of a b) h = (f a h.0, f b h.1)
each_weaker P Q f (quotient_of a b) h = (f a h.0, f b h.1)

-- ---- the form of an application of names that have numbers
-- a name's term, with the form of its number
abbrev pub with_number : List Term → (ℕ → Lin) → ℕ → Term × Form ℕ
with_number ts number i = (named ts i, meaning (number i))

with_forms_are : (ts : List Term) (number : ℕ → Lin) (args : List ℕ) → with_forms (map (named ts) args) (map number args) ≡ map (with_number ts number) args
with_forms_are ts number [] = refl
with_forms_are ts number (a ∷ args) = λ i. with_number ts number a ∷ with_forms_are ts number args i

pub form_each : (ts : List Term) (number : ℕ → Lin) (h : Head) (args : List ℕ) → linear_form h (with_forms (map (named ts) args) (map number args)) ≡ linear_by (with_each (with_number ts number) (rule_of h args))
form_each ts number h args = ap (linear_form h) (with_forms_are ts number args) ∙ ap linear_by (rule_map (with_number ts number) h args)
