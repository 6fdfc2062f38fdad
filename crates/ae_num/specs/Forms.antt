-- What a linear form over names with one denominator means, its normal form, and the products and sums that a step on such forms states.
use Rattle.std.specs.Prelude.{negsuc, neg_ℤ, ℕ, zero, suc, ℤ, pos, ◌≡◌, ◌*ℤ◌, ◌+ℤ◌, ◌<ℤ◌, ◌≢◌, ◌<◌, ◌^◌, ◌%◌, Bool, false, ◌||◌, nat_eq, nat_lt, nat_le, cond, List, [], ◌∷◌, ◌++◌, map, Option, Some, None, unsigned_abs}
use Rattle.std.specs.List.{flat_map, list_all, AllByRecursion}
use Rattle.std.specs.Int.RustNames.{int_div}
use lib.IntN.{ℤ_discrete}
use Rattle.ae_base.specs.Decided.{pick}
use Rattle.std.specs.Int.{◌∣◌}
use native.Mathlib.Decide.{ℕ_discrete}
use Rattle.ae_math.specs.Fractions.{ratio}
use Rattle.ae_math.specs.Forms.{Form, SameForm}
use Rattle.ae_num.specs.declared.numbers.Wide.{Wide}
use Rattle.ae_num.specs.declared.numbers.NumOp.TheVariants.{Mul, Add}
use Rattle.ae_num.specs.declared.numbers.NumFail.{NumFail}
use Rattle.ae_num.specs.declared.numbers.NumFail.TheVariants.{Wide as WideFail, Memory}
use Rattle.ae_num.specs.declared.forms.Part.{Part}
use Rattle.ae_num.specs.declared.forms.Lin.{Lin}

-- ---- the meaning
abbrev pub meaning : Lin → Form ℕ
meaning l = record { parts = map (λ p. (p.key, ratio p.factor l.den)) l.parts; constant = ratio l.constant l.den }

-- two forms with one meaning
abbrev pub SameMeaning : Form ℕ → Form ℕ → Type 0
SameMeaning f g = SameForm ℕ_discrete f g

-- ---- the normal form
-- the factor of a key, 0 where no part has the key
abbrev pub factor_of : List Part → ℕ → ℤ
factor_of [] key = pos 0
factor_of (p ∷ ps) key = cond (nat_eq p.key key) p.factor (factor_of ps key)

abbrev pub AllAbove : ℕ → List Part → Type 0
AllAbove key ps = AllByRecursion (λ p. key < p.key) ps

-- each key is below those after it
abbrev pub IsRising : List Part → Type 0
IsRising [] = Unit {0}
IsRising (p ∷ ps) = AllAbove p.key ps × IsRising ps

-- the number divides each of the numbers
abbrev pub DividesAll : ℕ → List ℕ → Type 0
DividesAll d ns = AllByRecursion (λ n. d ∣ n) ns

-- it divides each of the numbers, and whatever divides each of them divides it
abbrev pub IsCommonDivisor : List ℕ → ℕ → Type 0
IsCommonDivisor ns g = DividesAll g ns × ((d : ℕ) → DividesAll d ns → d ∣ g)

-- the numbers of a form, without their signs
abbrev pub sizes : ℤ → List Part → ℤ → List ℕ
sizes den ps constant = unsigned_abs den ∷ unsigned_abs constant ∷ map (λ p. unsigned_abs p.factor) ps

-- the denominator is positive, the keys rise, no factor is 0, the greatest common divisor of all numbers is 1, and they are within the limits
pub record IsNormal (l : Lin) : Type 0 where
  pub positive : pos 0 <ℤ l.den
  pub rising : IsRising l.parts
  pub nonzero : AllByRecursion (λ p. p.factor ≢ pos 0) l.parts
  pub lowest : IsCommonDivisor (sizes l.den l.parts l.constant) 1
  pub within : AllByRecursion (λ n. n < 2 ^ 127) (sizes l.den l.parts l.constant)

-- ---- normal forms of sums and multiples, of whole numbers of any size
-- it divides each of the numbers
abbrev pub divides_each : ℕ → List ℕ → Bool
divides_each d ns = list_all (λ n. nat_eq (n % d) 0) ns

-- the greatest number up to n that divides each of the numbers
unfoldable pub greatest_divisor : ℕ → List ℕ → ℕ
greatest_divisor zero ns = 0
greatest_divisor (suc n) ns = cond (divides_each (suc n) ns) (suc n) (greatest_divisor n ns)

abbrev pub divided_part : ℤ → Part → Part
divided_part g p = record { key = p.key; factor = int_div p.factor g }

-- all numbers divided by one
abbrev pub divided : ℤ → Lin → Lin
divided g l = record { den = int_div l.den g; parts = map (divided_part g) l.parts; constant = int_div l.constant g }

-- the second form is the first with all numbers divided by one
pub record Reduced (w f : Lin) : Type 0 where
  pub divisor : ℕ
  pub some : 0 < divisor
  pub dens : f.den *ℤ pos divisor ≡ w.den
  pub constants : f.constant *ℤ pos divisor ≡ w.constant
  pub factors : (key : ℕ) → factor_of f.parts key *ℤ pos divisor ≡ factor_of w.parts key

-- all numbers divided by their greatest common divisor
abbrev pub lowest : Lin → Lin
lowest l = divided (pos (greatest_divisor (unsigned_abs l.den) (sizes l.den l.parts l.constant))) l

-- the keys with their factors, without those whose factor is 0
abbrev pub parts_of : (ℕ → ℤ) → List ℕ → List Part
parts_of f [] = []
parts_of f (y ∷ ys) = pick (ℤ_discrete (f y) (pos 0)) (parts_of f ys) (record { key = y; factor = f y } ∷ parts_of f ys)

-- ---- stated products and sums
-- a product or a sum of two whole numbers of any size
pub data Step : Type 0 where
  Product : ℤ → ℤ → Step
  Sum : ℤ → ℤ → Step

abbrev pub outcome : Step → ℤ
outcome (Product a b) = a *ℤ b
outcome (Sum a b) = a +ℤ b

abbrev pub is_wide : Step → Bool
is_wide s = nat_le (2 ^ 127) (unsigned_abs (outcome s))

abbrev pub wide_of : Step → Wide
wide_of (Product a b) = record { op = Mul; left = a; right = b }
wide_of (Sum a b) = record { op = Add; left = a; right = b }

-- the first that leaves the limits
abbrev pub first_wide : List Step → Option Wide
first_wide [] = None
first_wide (s ∷ ss) = cond (is_wide s) (Some (wide_of s)) (first_wide ss)

-- a * b + c * d
abbrev pub crossed : ℤ → ℤ → ℤ → ℤ → List Step
crossed a b c d = Product a b ∷ Product c d ∷ Sum (a *ℤ b) (c *ℤ d) ∷ []

abbrev pub with_key : ℕ → List ℕ → List ℕ
with_key x [] = x ∷ []
with_key x (y ∷ ys) = cond (nat_lt x y) (x ∷ y ∷ ys) (cond (nat_eq x y) (y ∷ ys) (y ∷ with_key x ys))

abbrev pub with_keys : List Part → List ℕ → List ℕ
with_keys [] ys = ys
with_keys (p ∷ ps) ys = with_key p.key (with_keys ps ys)

-- the keys of two lists of parts, rising
abbrev pub keys_of : List Part → List Part → List ℕ
keys_of ps qs = with_keys ps (map (λ q. q.key) qs)

-- the sum of two forms
abbrev pub sum_of : Lin → Lin → Lin
sum_of p q =
    lowest (record {
      den = p.den *ℤ q.den;
      parts = parts_of (λ y. factor_of p.parts y *ℤ q.den +ℤ factor_of q.parts y *ℤ p.den) (keys_of p.parts q.parts);
      constant = p.constant *ℤ q.den +ℤ q.constant *ℤ p.den;
    })

-- a form times top / bottom
abbrev pub multiple_of : ℤ → ℤ → Lin → Lin
multiple_of top bottom p =
    lowest (record { den = p.den *ℤ bottom; parts = parts_of (λ y. factor_of p.parts y *ℤ top) (keys_of p.parts []); constant = p.constant *ℤ top })

abbrev pub plus_steps : Lin → Lin → List Step
plus_steps p q =
    Product p.den q.den
    ∷ flat_map (λ y. crossed (factor_of p.parts y) q.den (factor_of q.parts y) p.den) (keys_of p.parts q.parts)
    ++ crossed p.constant q.den q.constant p.den

abbrev pub scale_steps : ℤ → ℤ → Lin → List Step
scale_steps top bottom p = Product p.den bottom ∷ map (λ x. Product x.factor top) p.parts ++ Product p.constant top ∷ []

-- the parts without a key
abbrev pub others : List Part → ℕ → List Part
others [] key = []
others (p ∷ ps) key = cond (nat_eq p.key key) (others ps key) (p ∷ others ps key)

abbrev pub has_key : List Part → ℕ → Bool
has_key [] key = false
has_key (p ∷ ps) key = nat_eq p.key key || has_key ps key

-- none where the key is absent
abbrev pub subst_steps : Lin → ℕ → Lin → List Step
subst_steps p key q =
    let c = factor_of p.parts key in
    let rest = others p.parts key in
    cond (has_key p.parts key)
    (Product p.den q.den
    ∷ flat_map (λ y. crossed (factor_of rest y) q.den c (factor_of q.parts y)) (keys_of rest q.parts)
    ++ crossed p.constant q.den c q.constant)
    []

-- the difference of two forms, and the products and sums that it states
abbrev pub difference_of : Lin → Lin → Lin
difference_of p q = sum_of p (multiple_of (negsuc 0) (pos 1) q)

abbrev pub difference_steps : Lin → Lin → List Step
difference_steps p q = scale_steps (negsuc 0) (pos 1) q ++ plus_steps p (multiple_of (negsuc 0) (pos 1) q)

-- of two forms, in the first of which the key has a positive factor and in the second a negative one: the multiples that cancel it, and their sum
abbrev pub combine_steps : Lin → ℕ → Lin → List Step
combine_steps f n h =
    let e = neg_ℤ (factor_of h.parts n) in
    let c = factor_of f.parts n in
    scale_steps e h.den f ++ scale_steps c f.den h ++ plus_steps (multiple_of e h.den f) (multiple_of c f.den h)

-- what is said of the operands of a width
abbrev pub IfWide : NumFail → (Wide → Type 0) → Type 0
IfWide (WideFail w) P = P w
IfWide (Memory m) P = Unit {0}
