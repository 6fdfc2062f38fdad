-- The defining clauses of a formula, each as the formula's own literal and the rest, which is of its parts.
use Rattle.std.specs.Prelude.{ℕ, suc, ◌+◌, ◌<◌, ◌≤◌, Bool, true, false, not, nat_eq, cond, List, [], ◌∷◌, ◌≡◌, Option, Some}
use Rattle.std.specs.List.{AllByRecursion, Contains}
use Rattle.std.proofs.Common.{refl, sym, ap, ◌∙◌, subst, arith, inl, inr}
use Rattle.std.proofs.lemmas.Option.{same_Some}
use Rattle.ae_base.proofs.Options.{never_some}
use Rattle.ae_base.proofs.Tests.{not_not}
use Rattle.ae_core.proofs.Recursion.{fold_not, fold_and, fold_or, fold_xor, fold_iff}
use Rattle.ae_core.specs.Inner.Induction.{by_formulas}
use Rattle.ae_core.specs.declared.formulas.Formula.{Formula, Formula-F, True, False, Eq, Lt, Le, Pred, Not, And, Or, Xor, Iff, All, Ex, out-Formula}
use Rattle.ae_core.specs.declared.formulas.Formula.TheOpen as layer
use Rattle.ae_core.specs.declared.formulas.Formula.TheVariants.{outs-True, outs-False, outs-Eq, outs-Lt, outs-Le, outs-Pred, outs-Not, outs-And, outs-Or, outs-Xor, outs-Iff, outs-All, outs-Ex}
use Rattle.ae_core.specs.declared.formulas.Lit.{Lit}
use Rattle.ae_core.specs.declared.formulas.Quant.{Quant}
use Rattle.ae_journal.proofs.Splits.{contains_cases, contains_here, contains_later, contains_one}
use Rattle.ae_journal.specs.Sizes.{formula_size, formula_size_step, quant_size_step, nodes}
use Rattle.ae_rules.proofs.ClauseLaws.{literal_true, literal_false, literal_eq, literal_lt, literal_le, literal_pred, literal_not, literal_and, literal_or, literal_xor, literal_iff, literal_all, literal_ex}
use Rattle.ae_rules.specs.Clauses.{Clause, literal, yes_of, no_of, is_true, is_false, opposite, row, row_of, row_at}
use Rattle.ae_rules.specs.declared.rows.TheConstants.{AND_TO_LEFT, AND_TO_RIGHT, AND_FROM_BOTH, OR_FROM_LEFT, OR_FROM_RIGHT, OR_TO_EITHER, IFF_TO_RIGHT, IFF_TO_LEFT, IFF_FROM_NEITHER}
use Rattle.ae_rules.specs.declared.rows.TheConstants.{IFF_FROM_BOTH, XOR_TO_EITHER, XOR_TO_NOT_BOTH, XOR_FROM_LEFT, XOR_FROM_RIGHT, TRUE_STANDS, FALSE_FAILS}

-- the literal that says the formula itself, or denies it
abbrev pub own : Bool → Formula → Lit
own sign f = record { positive = sign; formula = f }

-- what the defining clauses that have this literal have besides
abbrev pub rests : Formula-F Formula Quant → Bool → List Clause
rests (layer.And a b) true = (no_of a ∷ no_of b ∷ []) ∷ []
rests (layer.And a b) false = (yes_of a ∷ []) ∷ (yes_of b ∷ []) ∷ []
rests (layer.Or a b) true = (no_of a ∷ []) ∷ (no_of b ∷ []) ∷ []
rests (layer.Or a b) false = (yes_of a ∷ yes_of b ∷ []) ∷ []
rests (layer.Iff a b) true = (yes_of a ∷ yes_of b ∷ []) ∷ (no_of a ∷ no_of b ∷ []) ∷ []
rests (layer.Iff a b) false = (no_of a ∷ yes_of b ∷ []) ∷ (yes_of a ∷ no_of b ∷ []) ∷ []
rests (layer.Xor a b) true = (no_of a ∷ yes_of b ∷ []) ∷ (yes_of a ∷ no_of b ∷ []) ∷ []
rests (layer.Xor a b) false = (yes_of a ∷ yes_of b ∷ []) ∷ (no_of a ∷ no_of b ∷ []) ∷ []
rests layer.True true = [] ∷ []
rests layer.False false = [] ∷ []
rests _ sign = []

-- ---- signs
abbrev pub Turns : Formula → Type 0
Turns a = (sign : Bool) → literal (not sign) a ≡ opposite (literal sign a)

plain_turns : (a : Formula) → ((sign : Bool) → literal sign a ≡ own sign a) → Turns a
plain_turns a e sign = e (not sign) ∙ ap opposite (sym (e sign))

-- to deny a formula is the opposite of saying it
pub turned : (a : Formula) → Turns a
turned =
    by_formulas Turns (λ q. Unit {0}) (plain_turns True literal_true) (plain_turns False literal_false) (λ a b. plain_turns (Eq a b) (λ s. literal_eq s a b)) (λ a b. plain_turns (Lt a b) (λ s. literal_lt s a b))
    (λ a b. plain_turns (Le a b) (λ s. literal_le s a b)) (λ p ss ts. plain_turns (Pred p ss ts) (λ s. literal_pred s p ss ts))
    (λ a h sign. literal_not (not sign) a ∙ h (not sign) ∙ ap opposite (sym (literal_not sign a)))
    (λ a b h k. plain_turns (And a b) (λ s. literal_and s a b)) (λ a b h k. plain_turns (Or a b) (λ s. literal_or s a b)) (λ a b h k. plain_turns (Xor a b) (λ s. literal_xor s a b))
    (λ a b h k. plain_turns (Iff a b) (λ s. literal_iff s a b)) (λ q h. plain_turns (All q) (λ s. literal_all s q)) (λ q h. plain_turns (Ex q) (λ s. literal_ex s q)) (λ q h. tt)

pub back_again : (l : Lit) → opposite (opposite l) ≡ l
back_again l i = record { positive = not_not l.positive i; formula = l.formula }

-- ---- sizes
abbrev AtMost : Formula → Type 0
AtMost a = (sign : Bool) → nodes (literal sign a).formula ≤ nodes a

plain_at_most : (a : Formula) → ((sign : Bool) → literal sign a ≡ own sign a) → AtMost a
plain_at_most a e sign = let q = ap (λ (l : Lit). nodes l.formula) (e sign) in omega (arith, q)

abbrev sums : ℕ → ℕ → ℕ
sums m n = m + n

size_not : (a : Formula) → nodes (Not a) ≡ suc (nodes a)
unfolding formula_size
size_not = fold_not ℕ ℕ (formula_size_step sums) (quant_size_step sums)

size_and : (a b : Formula) → nodes (And a b) ≡ suc (nodes a + nodes b)
unfolding formula_size
size_and = fold_and ℕ ℕ (formula_size_step sums) (quant_size_step sums)

size_or : (a b : Formula) → nodes (Or a b) ≡ suc (nodes a + nodes b)
unfolding formula_size
size_or = fold_or ℕ ℕ (formula_size_step sums) (quant_size_step sums)

size_xor : (a b : Formula) → nodes (Xor a b) ≡ suc (nodes a + nodes b)
unfolding formula_size
size_xor = fold_xor ℕ ℕ (formula_size_step sums) (quant_size_step sums)

size_iff : (a b : Formula) → nodes (Iff a b) ≡ suc (nodes a + nodes b)
unfolding formula_size
size_iff = fold_iff ℕ ℕ (formula_size_step sums) (quant_size_step sums)

at_most : (a : Formula) → AtMost a
at_most =
    by_formulas AtMost (λ q. Unit {0}) (plain_at_most True literal_true) (plain_at_most False literal_false) (λ a b. plain_at_most (Eq a b) (λ s. literal_eq s a b)) (λ a b. plain_at_most (Lt a b) (λ s. literal_lt s a b))
    (λ a b. plain_at_most (Le a b) (λ s. literal_le s a b)) (λ p ss ts. plain_at_most (Pred p ss ts) (λ s. literal_pred s p ss ts)) negation
    (λ a b h k. plain_at_most (And a b) (λ s. literal_and s a b)) (λ a b h k. plain_at_most (Or a b) (λ s. literal_or s a b)) (λ a b h k. plain_at_most (Xor a b) (λ s. literal_xor s a b))
    (λ a b h k. plain_at_most (Iff a b) (λ s. literal_iff s a b)) (λ q h. plain_at_most (All q) (λ s. literal_all s q)) (λ q h. plain_at_most (Ex q) (λ s. literal_ex s q)) (λ q h. tt)
  where
    negation : (a : Formula) → AtMost a → AtMost (Not a)
    negation a h sign = let q = ap (λ (l : Lit). nodes l.formula) (literal_not sign a) in let r = h (not sign) in let s = size_not a in omega (arith, q, r, s)

-- the literals of the rest are of smaller formulas
abbrev pub IsSmaller : Formula → Clause → Type 0
IsSmaller f c = AllByRecursion (λ (m : Lit). nodes m.formula < nodes f) c

abbrev pub AreSmaller : Formula → Type 0
AreSmaller f = (sign : Bool) → AllByRecursion (IsSmaller f) (rests (out-Formula f) sign)

none_smaller : (f : Formula) (y : Formula-F Formula Quant) → out-Formula f ≡ y → ((sign : Bool) → rests y sign ≡ []) → AreSmaller f
none_smaller f y e n sign = subst (AllByRecursion (IsSmaller f)) (sym (ap (λ z. rests z sign) e ∙ n sign)) tt

module _ (f a b : Formula) (size : nodes f ≡ suc (nodes a + nodes b)) where
  left_smaller : (sign : Bool) → nodes (literal sign a).formula < nodes f
  left_smaller sign = let h = at_most a sign in omega (arith, h, size)

  right_smaller : (sign : Bool) → nodes (literal sign b).formula < nodes f
  right_smaller sign = let h = at_most b sign in omega (arith, h, size)

pub smaller : (f : Formula) → AreSmaller f
smaller =
    by_formulas AreSmaller (λ q. Unit {0}) (λ sign. true_case sign) (λ sign. false_case sign) (λ a b. none_smaller (Eq a b) (layer.Eq a b) (outs-Eq a b) (λ s. refl))
    (λ a b. none_smaller (Lt a b) (layer.Lt a b) (outs-Lt a b) (λ s. refl)) (λ a b. none_smaller (Le a b) (layer.Le a b) (outs-Le a b) (λ s. refl))
    (λ p ss ts. none_smaller (Pred p ss ts) (layer.Pred p ss ts) (outs-Pred p ss ts) (λ s. refl)) (λ a h. none_smaller (Not a) (layer.Not a) (outs-Not a) (λ s. refl))
    (λ a b h k. and_case a b) (λ a b h k. or_case a b) (λ a b h k. xor_case a b) (λ a b h k. iff_case a b)
    (λ q h. none_smaller (All q) (layer.All q) (outs-All q) (λ s. refl)) (λ q h. none_smaller (Ex q) (layer.Ex q) (outs-Ex q) (λ s. refl)) (λ q h. tt)
  where
    at_layer : (f : Formula) (y : Formula-F Formula Quant) → out-Formula f ≡ y → (sign : Bool) → AllByRecursion (IsSmaller f) (rests y sign) → AllByRecursion (IsSmaller f) (rests (out-Formula f) sign)
    at_layer f y e sign h = subst (λ z. AllByRecursion (IsSmaller f) (rests z sign)) (sym e) h

    true_case : AreSmaller True
    true_case true = at_layer True layer.True outs-True true (tt, tt)
    true_case false = at_layer True layer.True outs-True false tt

    false_case : AreSmaller False
    false_case true = at_layer False layer.False outs-False true tt
    false_case false = at_layer False layer.False outs-False false (tt, tt)

    and_case : (a b : Formula) → AreSmaller (And a b)
    and_case a b true = let l = left_smaller (And a b) a b (size_and a b) in let r = right_smaller (And a b) a b (size_and a b) in at_layer (And a b) (layer.And a b) (outs-And a b) true ((l false, (r false, tt)), tt)
    and_case a b false = let l = left_smaller (And a b) a b (size_and a b) in let r = right_smaller (And a b) a b (size_and a b) in at_layer (And a b) (layer.And a b) (outs-And a b) false ((l true, tt), ((r true, tt), tt))

    or_case : (a b : Formula) → AreSmaller (Or a b)
    or_case a b true = let l = left_smaller (Or a b) a b (size_or a b) in let r = right_smaller (Or a b) a b (size_or a b) in at_layer (Or a b) (layer.Or a b) (outs-Or a b) true ((l false, tt), ((r false, tt), tt))
    or_case a b false = let l = left_smaller (Or a b) a b (size_or a b) in let r = right_smaller (Or a b) a b (size_or a b) in at_layer (Or a b) (layer.Or a b) (outs-Or a b) false ((l true, (r true, tt)), tt)

    iff_case : (a b : Formula) → AreSmaller (Iff a b)
    iff_case a b true = let l = left_smaller (Iff a b) a b (size_iff a b) in let r = right_smaller (Iff a b) a b (size_iff a b) in at_layer (Iff a b) (layer.Iff a b) (outs-Iff a b) true ((l true, (r true, tt)), ((l false, (r false, tt)), tt))
    iff_case a b false = let l = left_smaller (Iff a b) a b (size_iff a b) in let r = right_smaller (Iff a b) a b (size_iff a b) in at_layer (Iff a b) (layer.Iff a b) (outs-Iff a b) false ((l false, (r true, tt)), ((l true, (r false, tt)), tt))

    xor_case : (a b : Formula) → AreSmaller (Xor a b)
    xor_case a b true = let l = left_smaller (Xor a b) a b (size_xor a b) in let r = right_smaller (Xor a b) a b (size_xor a b) in at_layer (Xor a b) (layer.Xor a b) (outs-Xor a b) true ((l false, (r true, tt)), ((l true, (r false, tt)), tt))
    xor_case a b false = let l = left_smaller (Xor a b) a b (size_xor a b) in let r = right_smaller (Xor a b) a b (size_xor a b) in at_layer (Xor a b) (layer.Xor a b) (outs-Xor a b) false ((l true, (r true, tt)), ((l false, (r false, tt)), tt))

-- ---- each row is the formula's own literal with such a rest
pub record HasRest (f : Formula) (y : Formula-F Formula Quant) (c : Clause) : Type 0 where
  pub sign : Bool
  pub rest : Clause
  pub one : Contains (rests y sign) rest
  pub is : c ≡ own sign f ∷ rest

chosen : (P : Clause → Type 0) (b : Bool) (d : Clause) (rest : Option Clause) (c : Clause) → cond b (Some d) rest ≡ Some c → P d → (rest ≡ Some c → P c) → P c
chosen P true d rest c e h other = subst P (same_Some d c e) h
chosen P false d rest c e h other = other e

from_table : (P : Clause → Type 0) (r : ℕ) (table : List (ℕ × Clause)) (c : Clause) → row_at r table ≡ Some c → AllByRecursion (λ (e : ℕ × Clause). P e.1) table → P c
from_table P r [] c e a = never_some c e
from_table P r (t ∷ ts) c e a = chosen P (nat_eq r t.0) t.1 (row_at r ts) c e a.0 (λ q. from_table P r ts c q a.1)

module _ (f : Formula) where
  rest_is : (y : Formula-F Formula Quant) (sign : Bool) (rest : Clause) → Contains (rests y sign) rest → HasRest f y (own sign f ∷ rest)
  rest_is y sign rest h = record { sign = sign; rest = rest; one = h; is = refl }

  first_of : (x : Clause) (xs : List Clause) → Contains (x ∷ xs) x
  first_of x xs = contains_here x xs

  second_of : (x z : Clause) (xs : List Clause) → Contains (x ∷ z ∷ xs) z
  second_of x z xs = contains_later x (z ∷ xs) z (contains_here z xs)

  row_by : (r : ℕ) (y : Formula-F Formula Quant) (c : Clause) → row_of r f y ≡ Some c → HasRest f y c
  unfolding row_of
  row_by r (layer.And a b) c e =
      from_table (HasRest f (layer.And a b)) r
      ((AND_TO_LEFT, is_false f ∷ yes_of a ∷ []) ∷ (AND_TO_RIGHT, is_false f ∷ yes_of b ∷ []) ∷ (AND_FROM_BOTH, is_true f ∷ no_of a ∷ no_of b ∷ []) ∷ []) c e (
        rest_is (layer.And a b) false (yes_of a ∷ []) (first_of (yes_of a ∷ []) ((yes_of b ∷ []) ∷ [])),
        (
          rest_is (layer.And a b) false (yes_of b ∷ []) (second_of (yes_of a ∷ []) (yes_of b ∷ []) []),
          (rest_is (layer.And a b) true (no_of a ∷ no_of b ∷ []) (first_of (no_of a ∷ no_of b ∷ []) []), tt),
        ),
      )
  row_by r (layer.Or a b) c e =
      from_table (HasRest f (layer.Or a b)) r
      ((OR_FROM_LEFT, is_true f ∷ no_of a ∷ []) ∷ (OR_FROM_RIGHT, is_true f ∷ no_of b ∷ []) ∷ (OR_TO_EITHER, is_false f ∷ yes_of a ∷ yes_of b ∷ []) ∷ []) c e (
        rest_is (layer.Or a b) true (no_of a ∷ []) (first_of (no_of a ∷ []) ((no_of b ∷ []) ∷ [])),
        (
          rest_is (layer.Or a b) true (no_of b ∷ []) (second_of (no_of a ∷ []) (no_of b ∷ []) []),
          (rest_is (layer.Or a b) false (yes_of a ∷ yes_of b ∷ []) (first_of (yes_of a ∷ yes_of b ∷ []) []), tt),
        ),
      )
  row_by r (layer.Iff a b) c e =
      from_table (HasRest f (layer.Iff a b)) r
      ((IFF_TO_RIGHT, is_false f ∷ no_of a ∷ yes_of b ∷ []) ∷ (IFF_TO_LEFT, is_false f ∷ yes_of a ∷ no_of b ∷ [])
      ∷ (IFF_FROM_NEITHER, is_true f ∷ yes_of a ∷ yes_of b ∷ []) ∷ (IFF_FROM_BOTH, is_true f ∷ no_of a ∷ no_of b ∷ []) ∷ []) c e (
        rest_is (layer.Iff a b) false (no_of a ∷ yes_of b ∷ []) (first_of (no_of a ∷ yes_of b ∷ []) ((yes_of a ∷ no_of b ∷ []) ∷ [])),
        (
          rest_is (layer.Iff a b) false (yes_of a ∷ no_of b ∷ []) (second_of (no_of a ∷ yes_of b ∷ []) (yes_of a ∷ no_of b ∷ []) []),
          (
            rest_is (layer.Iff a b) true (yes_of a ∷ yes_of b ∷ []) (first_of (yes_of a ∷ yes_of b ∷ []) ((no_of a ∷ no_of b ∷ []) ∷ [])),
            (rest_is (layer.Iff a b) true (no_of a ∷ no_of b ∷ []) (second_of (yes_of a ∷ yes_of b ∷ []) (no_of a ∷ no_of b ∷ []) []), tt),
          ),
        ),
      )
  row_by r (layer.Xor a b) c e =
      from_table (HasRest f (layer.Xor a b)) r
      ((XOR_TO_EITHER, is_false f ∷ yes_of a ∷ yes_of b ∷ []) ∷ (XOR_TO_NOT_BOTH, is_false f ∷ no_of a ∷ no_of b ∷ [])
      ∷ (XOR_FROM_LEFT, is_true f ∷ no_of a ∷ yes_of b ∷ []) ∷ (XOR_FROM_RIGHT, is_true f ∷ yes_of a ∷ no_of b ∷ []) ∷ []) c e (
        rest_is (layer.Xor a b) false (yes_of a ∷ yes_of b ∷ []) (first_of (yes_of a ∷ yes_of b ∷ []) ((no_of a ∷ no_of b ∷ []) ∷ [])),
        (
          rest_is (layer.Xor a b) false (no_of a ∷ no_of b ∷ []) (second_of (yes_of a ∷ yes_of b ∷ []) (no_of a ∷ no_of b ∷ []) []),
          (
            rest_is (layer.Xor a b) true (no_of a ∷ yes_of b ∷ []) (first_of (no_of a ∷ yes_of b ∷ []) ((yes_of a ∷ no_of b ∷ []) ∷ [])),
            (rest_is (layer.Xor a b) true (yes_of a ∷ no_of b ∷ []) (second_of (no_of a ∷ yes_of b ∷ []) (yes_of a ∷ no_of b ∷ []) []), tt),
          ),
        ),
      )
  row_by r layer.True c e = from_table (HasRest f layer.True) r ((TRUE_STANDS, is_true f ∷ []) ∷ []) c e (rest_is layer.True true [] (first_of [] []), tt)
  row_by r layer.False c e = from_table (HasRest f layer.False) r ((FALSE_FAILS, is_false f ∷ []) ∷ []) c e (rest_is layer.False false [] (first_of [] []), tt)
  row_by r (layer.Eq a b) c e = never_some c e
  row_by r (layer.Lt a b) c e = never_some c e
  row_by r (layer.Le a b) c e = never_some c e
  row_by r (layer.Pred p ss ts) c e = never_some c e
  row_by r (layer.Not a) c e = never_some c e
  row_by r (layer.All q) c e = never_some c e
  row_by r (layer.Ex q) c e = never_some c e

  pub has_rest : (r : ℕ) (c : Clause) → row r f ≡ Some c → HasRest f (out-Formula f) c
  unfolding row
  has_rest r c e = row_by r (out-Formula f) c e

-- ---- a row of the formula and one of its denial have a literal of a part with different signs
abbrev pub Clash : Clause → Clause → Type 0
Clash xs ys = (p : Lit) × Contains xs p × Contains ys (opposite p)

-- a literal of a part in the one, and its denial in the other
at_sign : (a : Formula) (sign : Bool) (xs ys : Clause) → Contains xs (literal sign a) → Contains ys (literal (not sign) a) → Clash xs ys
at_sign a sign xs ys h k = (literal sign a, h, subst (Contains ys) (turned a sign) k)

lit_first : (x : Lit) (xs : Clause) → Contains (x ∷ xs) x
lit_first x xs = contains_here x xs

lit_second : (x z : Lit) → Contains (x ∷ z ∷ []) z
lit_second x z = contains_later x (z ∷ []) z (contains_here z [])

-- one of two lists, and one of one
two_cases : (P : Clause → Type 0) (x z : Clause) (c : Clause) → Contains (x ∷ z ∷ []) c → P x → P z → P c
two_cases P x z c h p q = elim (contains_cases x (z ∷ []) c h) as (λ _. P c) [ inl e ↦ subst P e p | inr i ↦ subst P (contains_one z c i) q ]

one_case : (P : Clause → Type 0) (x : Clause) (c : Clause) → Contains (x ∷ []) c → P x → P c
one_case P x c h p = subst P (contains_one x c h) p

pub clash : (y : Formula-F Formula Quant) (xs ys : Clause) → Contains (rests y true) xs → Contains (rests y false) ys → Clash xs ys
clash (layer.And a b) xs ys h k =
    one_case (λ w. Clash w ys) (no_of a ∷ no_of b ∷ []) xs h
    (two_cases (λ w. Clash (no_of a ∷ no_of b ∷ []) w) (yes_of a ∷ []) (yes_of b ∷ []) ys k
    (at_sign a false (no_of a ∷ no_of b ∷ []) (yes_of a ∷ []) (lit_first (no_of a) (no_of b ∷ [])) (lit_first (yes_of a) []))
    (at_sign b false (no_of a ∷ no_of b ∷ []) (yes_of b ∷ []) (lit_second (no_of a) (no_of b)) (lit_first (yes_of b) [])))
clash (layer.Or a b) xs ys h k =
    one_case (λ w. Clash xs w) (yes_of a ∷ yes_of b ∷ []) ys k
    (two_cases (λ w. Clash w (yes_of a ∷ yes_of b ∷ [])) (no_of a ∷ []) (no_of b ∷ []) xs h
    (at_sign a false (no_of a ∷ []) (yes_of a ∷ yes_of b ∷ []) (lit_first (no_of a) []) (lit_first (yes_of a) (yes_of b ∷ [])))
    (at_sign b false (no_of b ∷ []) (yes_of a ∷ yes_of b ∷ []) (lit_first (no_of b) []) (lit_second (yes_of a) (yes_of b))))
clash (layer.Iff a b) xs ys h k =
    two_cases (λ w. Clash w ys) (yes_of a ∷ yes_of b ∷ []) (no_of a ∷ no_of b ∷ []) xs h
    (two_cases (λ w. Clash (yes_of a ∷ yes_of b ∷ []) w) (no_of a ∷ yes_of b ∷ []) (yes_of a ∷ no_of b ∷ []) ys k
    (at_sign a true (yes_of a ∷ yes_of b ∷ []) (no_of a ∷ yes_of b ∷ []) (lit_first (yes_of a) (yes_of b ∷ [])) (lit_first (no_of a) (yes_of b ∷ [])))
    (at_sign b true (yes_of a ∷ yes_of b ∷ []) (yes_of a ∷ no_of b ∷ []) (lit_second (yes_of a) (yes_of b)) (lit_second (yes_of a) (no_of b))))
    (two_cases (λ w. Clash (no_of a ∷ no_of b ∷ []) w) (no_of a ∷ yes_of b ∷ []) (yes_of a ∷ no_of b ∷ []) ys k
    (at_sign b false (no_of a ∷ no_of b ∷ []) (no_of a ∷ yes_of b ∷ []) (lit_second (no_of a) (no_of b)) (lit_second (no_of a) (yes_of b)))
    (at_sign a false (no_of a ∷ no_of b ∷ []) (yes_of a ∷ no_of b ∷ []) (lit_first (no_of a) (no_of b ∷ [])) (lit_first (yes_of a) (no_of b ∷ []))))
clash (layer.Xor a b) xs ys h k =
    two_cases (λ w. Clash w ys) (no_of a ∷ yes_of b ∷ []) (yes_of a ∷ no_of b ∷ []) xs h
    (two_cases (λ w. Clash (no_of a ∷ yes_of b ∷ []) w) (yes_of a ∷ yes_of b ∷ []) (no_of a ∷ no_of b ∷ []) ys k
    (at_sign a false (no_of a ∷ yes_of b ∷ []) (yes_of a ∷ yes_of b ∷ []) (lit_first (no_of a) (yes_of b ∷ [])) (lit_first (yes_of a) (yes_of b ∷ [])))
    (at_sign b true (no_of a ∷ yes_of b ∷ []) (no_of a ∷ no_of b ∷ []) (lit_second (no_of a) (yes_of b)) (lit_second (no_of a) (no_of b))))
    (two_cases (λ w. Clash (yes_of a ∷ no_of b ∷ []) w) (yes_of a ∷ yes_of b ∷ []) (no_of a ∷ no_of b ∷ []) ys k
    (at_sign b false (yes_of a ∷ no_of b ∷ []) (yes_of a ∷ yes_of b ∷ []) (lit_second (yes_of a) (no_of b)) (lit_second (yes_of a) (yes_of b)))
    (at_sign a true (yes_of a ∷ no_of b ∷ []) (no_of a ∷ no_of b ∷ []) (lit_first (yes_of a) (no_of b ∷ [])) (lit_first (no_of a) (no_of b ∷ []))))
clash layer.True xs ys h k = absurd (omega (arith, k.1))
clash layer.False xs ys h k = absurd (omega (arith, h.1))
clash (layer.Eq a b) xs ys h k = absurd (omega (arith, h.1))
clash (layer.Lt a b) xs ys h k = absurd (omega (arith, h.1))
clash (layer.Le a b) xs ys h k = absurd (omega (arith, h.1))
clash (layer.Pred p ss ts) xs ys h k = absurd (omega (arith, h.1))
clash (layer.Not a) xs ys h k = absurd (omega (arith, h.1))
clash (layer.All q) xs ys h k = absurd (omega (arith, h.1))
clash (layer.Ex q) xs ys h k = absurd (omega (arith, h.1))
