-- Lists of names: of one sort, and of one multiset.
use Rattle.std.specs.Prelude.{ℕ, zero, suc, ◌<◌, ◌≡◌, true, List, [], ◌∷◌, ◌++◌, length, take, get_or, slice_get, Some}
use Rattle.std.specs.List.{AllByRecursion}
use Rattle.std.proofs.Common.{sym, ap, subst, arith, inl, inr}
use Rattle.std.proofs.lemmas.Bool.{cases_eq}
use Rattle.std.proofs.lemmas.Option.{none-some, same_Some, slice_get-get_or}
use Rattle.ae_base.specs.Options.{known}
use Rattle.ae_base.proofs.AllOf.{all_append, all_at, all_front, all_back, all_from_places}
use Rattle.ae_core.specs.Sorts.{sort_of}
use Rattle.ae_core.specs.declared.terms.Term.{Term}
use Rattle.ae_core.specs.declared.problems.AcSymbol.{AcSymbol}
use Rattle.ae_core.specs.declared.problems.Signature.{Signature}
use Rattle.ae_multiset.specs.Multisets.{count, IsSame}
use Rattle.ae_multiset.proofs.Counts.{count_same, count_other, length_same}
use Rattle.ae_store.specs.Terms.{named}
use Rattle.ae_state_steps.specs.ManySteps.{IsOfSort}
use Rattle.ae_multiset_steps.specs.Equating.{AreNamesOf}

-- ---- one multiset
pub same_one : (x : ℕ) (ys : List ℕ) → IsSame (x ∷ []) ys → x ∷ [] ≡ ys
same_one x [] s = absurd (let e = s.each x in omega (arith, count_same x [], e))
same_one x (y ∷ []) s = elim (cases_eq x y) [ inl e ↦ ap (λ (z : ℕ). z ∷ []) e | inr n ↦ absurd (let e = s.each x in omega (arith, count_same x [], count_other x y [] n, e)) ]
same_one x (y ∷ z ∷ ys) s = absurd (let e = length_same (x ∷ []) (y ∷ z ∷ ys) s in omega (arith, e))

pub count_at : (xs : List ℕ) (k x : ℕ) → slice_get xs k ≡ Some x → 0 < count x xs
count_at [] k x e = absurd (none-some x e)
count_at (y ∷ ys) zero x e = subst (λ (z : ℕ). 0 < count z (y ∷ ys)) (same_Some y x e) (omega (arith, count_same y ys))
count_at (y ∷ ys) (suc k) x e = let h = count_at ys k x e in omega (arith, h)

pub counted : (P : ℕ → Type 0) (x : ℕ) (ys : List ℕ) → AllByRecursion P ys → 0 < count x ys → P x
counted P x [] a l = absurd (omega (arith, l))
counted P x (y ∷ ys) a l = elim (cases_eq x y) [ inl e ↦ subst P (sym e) a.0 | inr n ↦ counted P x ys a.1 (omega (arith, l, count_other x y ys n)) ]

pub all_same : (P : ℕ → Type 0) (xs ys : List ℕ) → IsSame xs ys → AllByRecursion P ys → AllByRecursion P xs
all_same P xs ys s a = all_from_places P xs (λ k x e. counted P x ys a (let c = count_at xs k x e in let f = s.each x in omega (arith, c, f)))

all_taken : (P : ℕ → Type 0) (xs : List ℕ) (n : ℕ) → AllByRecursion P xs → AllByRecursion P (take n xs)
all_taken P xs zero a = tt
all_taken P [] (suc n) a = tt
all_taken P (x ∷ xs) (suc n) a = (a.0, all_taken P xs n a.1)

-- ---- names of a symbol
module _ (sig : Signature) (ts : List Term) (u : AcSymbol) where
  -- two lists of names, each with the first names of a third
  pub names_extended : (left right rest : List ℕ) (n : ℕ) → AreNamesOf sig ts u (left ++ right ++ rest) → AreNamesOf sig ts u ((left ++ take n rest) ++ (right ++ take n rest))
  names_extended left right rest n a =
      let P = IsOfSort sig ts a.sort in
      let both = all_front P (left ++ right) rest a.sorted in
      let more = all_taken P rest n (all_back P (left ++ right) rest a.sorted) in
      record {
        sort = a.sort;
        symbol = a.symbol;
        of_names = a.of_names;
        sorted = all_append P (left ++ take n rest) (right ++ take n rest) (all_append P left (take n rest) (all_front P left right both) more) (all_append P right (take n rest) (all_back P left right both) more);
      }

  pub names_taken : (left right : List ℕ) (n : ℕ) → AreNamesOf sig ts u (left ++ right) → AreNamesOf sig ts u (take n left ++ take n right)
  names_taken left right n a =
      let P = IsOfSort sig ts a.sort in
      record { sort = a.sort; symbol = a.symbol; of_names = a.of_names; sorted = all_append P (take n left) (take n right) (all_taken P left n (all_front P left right a.sorted)) (all_taken P right n (all_back P left right a.sorted)) }

  -- a list of the same names as the first and third, and these
  pub names_before : (from left right rest : List ℕ) → IsSame from (left ++ rest) → AreNamesOf sig ts u (left ++ right ++ rest) → AreNamesOf sig ts u (from ++ (left ++ rest))
  names_before from left right rest s a =
      let P = IsOfSort sig ts a.sort in
      let both = all_front P (left ++ right) rest a.sorted in
      let all = all_append P left rest (all_front P left right both) (all_back P (left ++ right) rest a.sorted) in
      record { sort = a.sort; symbol = a.symbol; of_names = a.of_names; sorted = all_append P from (left ++ rest) (all_same P from (left ++ rest) s all) all }

  -- the second and third, and a list of the same names
  pub names_after : (to left right rest : List ℕ) → IsSame to (right ++ rest) → AreNamesOf sig ts u (left ++ right ++ rest) → AreNamesOf sig ts u ((right ++ rest) ++ to)
  names_after to left right rest s a =
      let P = IsOfSort sig ts a.sort in
      let both = all_front P (left ++ right) rest a.sorted in
      let all = all_append P right rest (all_back P left right both) (all_back P (left ++ right) rest a.sorted) in
      record { sort = a.sort; symbol = a.symbol; of_names = a.of_names; sorted = all_append P (right ++ rest) to all (all_same P to (right ++ rest) s all) }

  -- names of the second of two lists
  pub sorted_at : (others rest : List ℕ) (k d : ℕ) → AreNamesOf sig ts u (others ++ rest) → k < length rest → known (sort_of sig (named ts (get_or rest k d))) ≡ true
  sorted_at others rest k d a l =
      let P = IsOfSort sig ts a.sort in
      ap known (all_at P rest k (get_or rest k d) (all_back P others rest a.sorted) (slice_get-get_or rest k d l))

  pub name_at : (others rest : List ℕ) (k d : ℕ) → AreNamesOf sig ts u (others ++ rest) → k < length rest → AreNamesOf sig ts u (get_or rest k d ∷ [])
  name_at others rest k d a l =
      let P = IsOfSort sig ts a.sort in
      record { sort = a.sort; symbol = a.symbol; of_names = a.of_names; sorted = (all_at P rest k (get_or rest k d) (all_back P others rest a.sorted) (slice_get-get_or rest k d l), tt) }

  -- lists that are equal to two that are put together
  pub names_same : (left right xs ys : List ℕ) → left ≡ xs → right ≡ ys → AreNamesOf sig ts u (xs ++ ys) → AreNamesOf sig ts u (left ++ right)
  names_same left right xs ys e f a =
      subst (λ (zs : List ℕ). AreNamesOf sig ts u (zs ++ right)) (sym e) (subst (λ (zs : List ℕ). AreNamesOf sig ts u (xs ++ zs)) (sym f) a)
