-- Linear forms over keys whose equality is decided: a sum of fractions times keys, and a fraction.
-- A key may occur several times; forms with the same factor for each key and the same constant are the same.
use Rattle.std.specs.Prelude.{Bool, true, false, List, [], ◌∷◌, ◌++◌, ◌≡◌, map}
use Rattle.std.specs.List.{list_all}
use Rattle.ae_base.specs.Decided.{pick}
use Rattle.ae_math.specs.Fractions.{ℚ, zero_ℚ, one_ℚ, neg_ℚ, ◌+ℚ◌, ◌*ℚ◌, ℚ_discrete}

pub record Form (K : Type 0) : Type 0 where
  pub parts : List (K × ℚ)
  pub constant : ℚ

abbrev pub number : {K : Type 0} → ℚ → Form K
number x = record { parts = []; constant = x }

-- one key, with the factor 1
abbrev pub single : {K : Type 0} → K → Form K
single k = record { parts = (k, one_ℚ) ∷ []; constant = zero_ℚ }

abbrev pub plus : {K : Type 0} → Form K → Form K → Form K
plus f g = record { parts = f.parts ++ g.parts; constant = f.constant +ℚ g.constant }

abbrev pub scale : {K : Type 0} → ℚ → Form K → Form K
scale x f = record { parts = map (λ p. (p.0, x *ℚ p.1)) f.parts; constant = x *ℚ f.constant }

abbrev pub minus : {K : Type 0} → Form K → Form K → Form K
minus f g = plus f (scale (neg_ℚ one_ℚ) g)

abbrev pub is_zero : ℚ → Bool
is_zero x = pick (ℚ_discrete x zero_ℚ) true false

module _ {K : Type 0} (same : Discrete K) where
  -- the factor of a key: the sum of its factors in the parts
  abbrev pub factor_in : List (K × ℚ) → K → ℚ
  factor_in [] k = zero_ℚ
  factor_in (p ∷ ps) k = pick (same p.0 k) (p.1 +ℚ factor_in ps k) (factor_in ps k)

  abbrev pub factor : Form K → K → ℚ
  factor f = factor_in f.parts

  -- no key has a factor other than 0
  abbrev pub is_constant : Form K → Bool
  is_constant f = list_all (λ p. is_zero (factor f p.0)) f.parts

  pub record SameForm (f g : Form K) : Type 0 where
    pub factors : (k : K) → factor f k ≡ factor g k
    pub constants : f.constant ≡ g.constant

  abbrev pub without : K → List (K × ℚ) → List (K × ℚ)
  without k [] = []
  without k (p ∷ ps) = pick (same p.0 k) (without k ps) (p ∷ without k ps)

  -- the form g for the key k
  abbrev pub substitute : Form K → K → Form K → Form K
  substitute f k g = plus (record { parts = without k f.parts; constant = f.constant }) (scale (factor f k) g)

-- the sum of the parts, where each key has a value
abbrev pub sum_of : {K : Type 0} → (K → ℚ) → List (K × ℚ) → ℚ
sum_of e [] = zero_ℚ
sum_of e (p ∷ ps) = p.1 *ℚ e p.0 +ℚ sum_of e ps

-- the value of a form, where each key has a value and the number 1 has the value u
abbrev pub value : {K : Type 0} → (K → ℚ) → ℚ → Form K → ℚ
value e u f = sum_of e f.parts +ℚ u *ℚ f.constant
