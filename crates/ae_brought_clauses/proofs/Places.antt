-- Places of blocks by their generations, and places that are taken out.
use Rattle.std.specs.Prelude.{ℕ, suc, ◌+◌, ◌<◌, ◌≤◌, Bool, true, false, cond, take, drop, get_or, List, [], ◌∷◌, ◌++◌, ◌≡◌, ◌⊎◌, length, slice_get, nat_le, Some}
use Rattle.std.specs.List.{Contains, list_any, remove}
use Rattle.std.proofs.Common.{sym, ap, ◌∙◌, subst, arith, inl, inr}
use Rattle.std.proofs.lemmas.Bool.{and_from, cases_eq, le-leb}
use Rattle.std.proofs.lemmas.List.{take_more, take-append-drop}
use Rattle.std.proofs.lemmas.List.Edits.{length-remove}
use Rattle.std.proofs.lemmas.List.Elements.{Contains-append_left, Contains-append_right, Contains-append_cases}
use Rattle.std.proofs.lemmas.Option.{same_Some, slice_get_within, get_or_from_slice_get, slice_get-get_or}
use Rattle.ae_ages.proofs.Aging.{age_of_any, no_entry}
use Rattle.ae_ages.specs.Ages.{HasAge, gives_age}
use Rattle.ae_ages.specs.declared.entries.Aged.{Aged}
use Rattle.ae_base.proofs.Decided.{decided_of}
use Rattle.ae_base.specs.Decided.{decided}
use Rattle.ae_block_constants.specs.declared.opened.Opened.{Opened}
use Rattle.ae_brought_clauses.specs.Inner.Bringing.{AreWithin, AreAgedBut, AreNotAged, IsAgedAt, IsTakenOut}
use Rattle.ae_core.specs.Decided.{Formula_discrete}
use Rattle.ae_core.specs.declared.formulas.Formula.{Formula}
use Rattle.ae_journal.proofs.Splits.{contains_at, contains_here, contains_one}

pub not_aged : (es : List Aged) (f : Formula) (g : ℕ) → list_any (gives_age f g) es ≡ false → HasAge es g f → ⊥
not_aged es f g e a =
    no_entry (gives_age f g) es e a.entry a.among
    (and_from (nat_le a.entry.generation g) (decided (Formula_discrete a.entry.formula f)) (le-leb a.entry.generation g a.young) (decided_of (Formula_discrete a.entry.formula f) a.is))

-- what was read at a place stands there
pub read_at : {A : Type 0} (xs : List A) (i : ℕ) (x : A) → i < length xs → x ≡ get_or xs i x → slice_get xs i ≡ Some x
read_at xs i x lt e = slice_get-get_or xs i x lt ∙ ap Some (sym e)

-- ---- the blocks that don't have the generation, place after place
module _ (opened : List Opened) (g : ℕ) (es : List Aged) where
  -- of the first n blocks each one has it, or its place is there
  abbrev pub AreAgedBelow : ℕ → List ℕ → Type 0
  AreAgedBelow n places = (k : ℕ) (o : Opened) → k < n → slice_get opened k ≡ Some o → HasAge es g o.formula ⊎ Contains places k

  pub none_within : AreWithin opened []
  none_within k c = absurd (let i = c.1 in omega (arith, i))

  pub none_older : AreAgedBelow 0 []
  none_older k o lt at = absurd (omega (arith, lt))

  pub one_older : (n : ℕ) (places : List ℕ) (aged : Bool) (o : Opened) → slice_get opened n ≡ Some o → aged ≡ list_any (gives_age o.formula g) es → AreAgedBelow n places
      → AreAgedBelow (n + 1) (places ++ cond aged [] (n ∷ []))
  one_older n places aged o at is h k w lt e = elim (cases_eq k n) as (λ _. HasAge es g w.formula ⊎ Contains (places ++ cond aged [] (n ∷ [])) k) [
    | inl q ↦ here aged is (same_Some o w (sym at ∙ ap (slice_get opened) (sym q) ∙ e)) q
    | inr d ↦ elim (h k w (omega (arith, lt, d)) e) as (λ _. HasAge es g w.formula ⊎ Contains (places ++ cond aged [] (n ∷ [])) k) [
      | inl a ↦ inl a
      | inr c ↦ inr (Contains-append_left places (cond aged [] (n ∷ [])) k c)
    ]
  ]
    where
      here : (aged : Bool) → aged ≡ list_any (gives_age o.formula g) es → o ≡ w → k ≡ n → HasAge es g w.formula ⊎ Contains (places ++ cond aged [] (n ∷ [])) k
      here true is same q = inl (subst (λ (z : Opened). HasAge es g z.formula) same (age_of_any es o.formula g (sym is)))
      here false is same q = inr (subst (Contains (places ++ n ∷ [])) (sym q) (Contains-append_right places (n ∷ []) n (contains_here n [])))

  pub still_within : (n : ℕ) (places : List ℕ) (aged : Bool) → n < length opened → AreWithin opened places → AreWithin opened (places ++ cond aged [] (n ∷ []))
  still_within n places aged lt h k c = elim (Contains-append_cases places (cond aged [] (n ∷ [])) k c) as (λ _. k < length opened) [
    | inl i ↦ h k i
    | inr i ↦ by aged i
  ]
    where
      by : (aged : Bool) → Contains (cond aged [] (n ∷ [])) k → k < length opened
      by true i = absurd (let l = i.1 in omega (arith, l))
      by false i = let e = contains_one n k i in omega (arith, e, lt)

  pub all_aged : (n : ℕ) (places : List ℕ) → length opened ≤ n → AreAgedBelow n places → AreAgedBut opened g es places
  all_aged n places le h k o at = h k o (omega (arith, slice_get_within opened k o at, le)) at

  -- none of the first n places has a block of the generation
  abbrev pub AreNotAgedBelow : ℕ → List ℕ → Type 0
  AreNotAgedBelow n places = (i k : ℕ) (o : Opened) → i < n → slice_get places i ≡ Some k → slice_get opened k ≡ Some o → ¬ HasAge es g o.formula

  pub none_fallen : (places : List ℕ) → AreNotAgedBelow 0 places
  none_fallen places i k o lt = absurd (omega (arith, lt))

  pub not_fallen : (n : ℕ) (places : List ℕ) (k : ℕ) → slice_get places n ≡ Some k → ((o : Opened) → slice_get opened k ≡ Some o → false ≡ list_any (gives_age o.formula g) es) → AreNotAgedBelow n places
      → AreNotAgedBelow (n + 1) places
  not_fallen n places k at none h i m o lt e f a = elim (cases_eq i n) as (λ _. ⊥) [
    | inl q ↦
        let same : k ≡ m = same_Some k m (sym at ∙ ap (slice_get places) (sym q) ∙ e) in
        not_aged es o.formula g (sym (none o (ap (slice_get opened) same ∙ f))) a
    | inr d ↦ h i m o (omega (arith, lt, d)) e f a
  ]

  pub all_not_aged : (n : ℕ) (places : List ℕ) → length places ≤ n → AreNotAgedBelow n places → AreNotAged opened g es places
  all_not_aged n places le h k o c at = h c.0 k o (let l = c.1 in omega (arith, l, le)) (slice_get-get_or places c.0 k c.1 ∙ ap Some c.2) at

  pub aged_at : (k : ℕ) → ((o : Opened) → slice_get opened k ≡ Some o → true ≡ list_any (gives_age o.formula g) es) → IsAgedAt opened g es k
  aged_at k aged o at = age_of_any es o.formula g (sym (aged o at))

-- ---- a place that is taken out
split : (xs : List ℕ) (i k : ℕ) → slice_get xs i ≡ Some k → xs ≡ (take i xs ++ k ∷ []) ++ drop (suc i) xs
split xs i k at =
    let lt : i < length xs = slice_get_within xs i k at in
    let one : take (i + 1) xs ≡ take i xs ++ k ∷ [] = take_more xs i k lt ∙ ap (λ (w : ℕ). take i xs ++ w ∷ []) (get_or_from_slice_get xs i k k at) in
    let next : i + 1 ≡ suc i = omega arith in
    sym (take-append-drop (i + 1) xs) ∙ (λ j. one j ++ drop (next j) xs)

removed_rest : (xs : List ℕ) (i k : ℕ) → slice_get xs i ≡ Some k → (m : ℕ) → Contains xs m → (m ≡ k) ⊎ Contains (remove xs i) m
removed_rest xs i k at m h =
    elim (Contains-append_cases (take i xs ++ k ∷ []) (drop (suc i) xs) m (subst (λ (w : List ℕ). Contains w m) (split xs i k at) h)) as (λ _. (m ≡ k) ⊎ Contains (remove xs i) m) [
      | inl a ↦ elim (Contains-append_cases (take i xs) (k ∷ []) m a) as (λ _. (m ≡ k) ⊎ Contains (remove xs i) m) [
        | inl b ↦ inr (Contains-append_left (take i xs) (drop (suc i) xs) m b)
        | inr c ↦ inl (sym (contains_one k m c))
      ]
      | inr d ↦ inr (Contains-append_right (take i xs) (drop (suc i) xs) m d)
    ]

removed_still : (xs : List ℕ) (i k : ℕ) → slice_get xs i ≡ Some k → (m : ℕ) → Contains (remove xs i) m → Contains xs m
removed_still xs i k at m h =
    subst (λ (w : List ℕ). Contains w m) (sym (split xs i k at))
    (elim (Contains-append_cases (take i xs) (drop (suc i) xs) m h) as (λ _. Contains ((take i xs ++ k ∷ []) ++ drop (suc i) xs) m) [
      | inl a ↦ Contains-append_left (take i xs ++ k ∷ []) (drop (suc i) xs) m (Contains-append_left (take i xs) (k ∷ []) m a)
      | inr b ↦ Contains-append_right (take i xs ++ k ∷ []) (drop (suc i) xs) m b
    ])

pub taken_out : (opened : List Opened) (g : ℕ) (es : List Aged) (old new : List ℕ) (i k m : ℕ) → slice_get old i ≡ Some k → IsAgedAt opened g es k → slice_get old i ≡ Some m → new ≡ remove old i → IsTakenOut opened g es old new m
taken_out opened g es old new i k m at aged own is = record {
  was = contains_at old i m own;
  aged = subst (IsAgedAt opened g es) (same_Some k m (sym at ∙ own)) aged;
  rest = λ j c. subst (λ (w : List ℕ). (j ≡ m) ⊎ Contains w j) (sym is) (removed_rest old i m own j c);
  still = λ j c. removed_still old i m own j (subst (λ (w : List ℕ). Contains w j) is c);
  fewer = (let l = length-remove old i (slice_get_within old i m own) in let e = ap (λ (w : List ℕ). length w) is in omega (arith, l, e));
}
