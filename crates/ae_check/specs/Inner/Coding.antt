-- Literals by the numbers of their formulas, and which are false.
use Rattle.std.specs.Prelude.{ℕ, ◌<◌, Bool, false, cond, not, nat_eq, ◌&&◌, ◌||◌, List, [], ◌∷◌, ◌≡◌, length, slice_get, slice_index_or, set, Option, Some, None}
use Rattle.std.specs.List.{list_any, list_all}
use Rattle.std.specs.BTreeMap.{is_at}
use Rattle.std.specs.Map.{lookup}
use Rattle.ae_base.specs.Options.{when, or_else, ◌>>=◌}
use Rattle.ae_base.specs.Relations.{Pairwise}
use Rattle.ae_core.specs.Orders.{formula_order}
use Rattle.ae_core.specs.declared.formulas.Formula.{Formula}
use Rattle.ae_core.specs.declared.formulas.Lit.{Lit}
use Rattle.ae_core.specs.declared.problems.Problem.{Problem}
use Rattle.ae_core.specs.declared.proofs.ClauseLine.{ClauseLine}
use Rattle.ae_rules.specs.Clauses.{Clause, stands}
use Rattle.ae_rules.specs.Derivations.{conclusion}
use Rattle.ae_check.specs.declared.codes.Code.{Code}
use Rattle.ae_check.specs.declared.codes.Stamp.{Stamp}

-- ---- numbers
-- a formula's number, where it has one
abbrev pub number_in : List (Formula × ℕ) → Formula → Option ℕ
number_in numbers f = lookup (is_at (formula_order f)) numbers

-- each formula that has a number has its own, and there is a stamp for it
pub record IsTable (numbers : Formula → Option ℕ) (stamps : List Stamp) : Type 0 where
  pub within : (f : Formula) (n : ℕ) → numbers f ≡ Some n → n < length stamps
  pub apart : (f g : Formula) (n : ℕ) → numbers f ≡ Some n → numbers g ≡ Some n → f ≡ g

-- formulas keep their numbers
abbrev pub AreKept : (Formula → Option ℕ) → (Formula → Option ℕ) → Type 0
AreKept old new = (f : Formula) (n : ℕ) → old f ≡ Some n → new f ≡ Some n

-- the code has the number of the literal's formula, and its sign
abbrev pub IsCode : (Formula → Option ℕ) → Lit → Code → Type 0
IsCode numbers l k = (numbers l.formula ≡ Some k.number) × (l.positive ≡ k.positive)

abbrev pub AreCodes : (Formula → Option ℕ) → Clause → List Code → Type 0
AreCodes numbers = Pairwise (IsCode numbers)

abbrev pub turned : Code → Code
turned k = record { number = k.number; positive = not k.positive }

-- ---- stamps: a literal is false now where its stamp is the one of now
abbrev pub unstamped : Stamp
unstamped = record { positive = 0; negative = 0 }

abbrev pub stamp_at : List Stamp → ℕ → Stamp
stamp_at stamps n = slice_index_or stamps n unstamped

abbrev pub side : Bool → Stamp → ℕ
side b s = cond b s.positive s.negative

abbrev pub with_side : Bool → ℕ → Stamp → Stamp
with_side b now s = cond b (record { positive = now; negative = s.negative }) (record { positive = s.positive; negative = now })

abbrev pub is_false : ℕ → List Stamp → Code → Bool
is_false now stamps k = nat_eq (side k.positive (stamp_at stamps k.number)) now

abbrev pub stamped : ℕ → List Stamp → Code → List Stamp
stamped now stamps k = set stamps k.number (with_side k.positive now (stamp_at stamps k.number))

-- no literal has a stamp from `now` on
pub record AreBefore (now : ℕ) (stamps : List Stamp) : Type 0 where
  pub each : (b : Bool) (n : ℕ) → side b (stamp_at stamps n) < now

-- the literals that are false now are these, by formulas that have numbers
pub record AreFalse (numbers : Formula → Option ℕ) (now : ℕ) (stamps : List Stamp) (fs : List Lit) : Type 0 where
  pub each : (l : Lit) (k : Code) → IsCode numbers l k → is_false now stamps k ≡ stands fs l

-- ---- unit propagation by codes
abbrev pub has_true : ℕ → List Stamp → List Code → Bool
has_true now stamps ks = list_any (λ k. is_false now stamps (turned k)) ks

abbrev pub all_false : ℕ → List Stamp → List Code → Bool
all_false now stamps ks = list_all (is_false now stamps) ks

abbrev pub same_code : Code → Code → Bool
same_code j k = nat_eq j.number k.number && (cond j.positive k.positive (not k.positive))

abbrev pub is_settled : ℕ → List Stamp → Code → Code → Bool
is_settled now stamps j k = same_code j k || is_false now stamps k

-- what becomes false with a clause
abbrev pub next_false : ℕ → List Stamp → List Code → Option Code
next_false now stamps [] = None
next_false now stamps (k ∷ ks) = cond (is_false now stamps k) (next_false now stamps ks) (when (list_all (is_settled now stamps k) ks) (turned k))

-- the literals of a clause are made false
abbrev pub all_stamped : ℕ → List Stamp → List Code → List Stamp
all_stamped now stamps [] = stamps
all_stamped now stamps (k ∷ ks) = all_stamped now (stamped now stamps k) ks

-- the stamps behind the clause of this place; none where it leads no further
abbrev pub advanced : ℕ → List Stamp → List (List Code) → ℕ → Option (List Stamp)
advanced now stamps clauses h =
    slice_get clauses h >>= λ ks. cond (has_true now stamps ks) (Some stamps) (next_false now stamps ks >>= λ k. Some (stamped now stamps k))

abbrev pub ends_false : ℕ → List Stamp → List (List Code) → ℕ → Bool
ends_false now stamps clauses h = or_else (slice_get clauses h >>= λ ks. Some (all_false now stamps ks)) false

-- the clauses of these places, in this order, lead to one that is false
abbrev pub refutes : ℕ → List Stamp → List (List Code) → List ℕ → Bool
refutes now stamps clauses [] = false
refutes now stamps clauses (h ∷ []) = ends_false now stamps clauses h
refutes now stamps clauses (h ∷ i ∷ hs) = or_else (advanced now stamps clauses h >>= λ s. Some (refutes now s clauses (i ∷ hs))) false

-- ---- the clauses of earlier lines
-- the codes of the clause that the line states
abbrev pub AreConcluded : Problem → ℕ → (Formula → Option ℕ) → ClauseLine → List Code → Type 0
AreConcluded p g numbers l ks = (c : Clause) × (conclusion p g l ≡ Some c) × AreCodes numbers c ks
