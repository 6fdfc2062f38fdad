-- What is kept once of what passes a test.
use Rattle.std.specs.Prelude.{ℕ, zero, suc, ◌≡◌, ◌⊎◌, Bool, true, false, cond, not, ◌&&◌, List, [], ◌∷◌, ◌++◌, length, slice_get, Some}
use Rattle.std.specs.List.{list_any}
use Rattle.std.proofs.Math.Bool.{and-false}
use Rattle.std.proofs.Common.{refl, sym, ap, ◌∙◌, subst, inl, inr}
use Rattle.std.proofs.lemmas.Bool.{cases_Bool, not-false, and_parts, and_from}
use Rattle.std.proofs.lemmas.Option.{same_Some}
use Rattle.ae_base.specs.Decided.{decided}
use Rattle.ae_base.proofs.Decided.{decided_of}
use Rattle.ae_core.specs.Decided.{Sorts_discrete}
use Rattle.ae_core.specs.Sorts.{same_sorts}
use Rattle.ae_core.specs.declared.terms.Sort.{Sort}
use Rattle.ae_matching.specs.Laws.{In, IsEquivalence}
use Rattle.ae_matching.proofs.Complete.{any_in, in_left, in_right}
use Rattle.ae_matching.proofs.Covers.{in_parts, in_one}
use Rattle.ae_matching.proofs.Exact.{any_from}
use Rattle.ae_inst.specs.Matches.{are_same}
use Rattle.ae_trigger.specs.declared.patterns.Subst.{Subst}
use Rattle.ae_matches.specs.Answers.{is_same_match, IsAnswered}
use Rattle.ae_matches.specs.Candidates.{is_new, with_new, once_each}

pub sorts_yes : (xs ys : List Sort) → xs ≡ ys → same_sorts xs ys ≡ true
sorts_yes xs ys e = decided_of (Sorts_discrete xs ys) e

sorts_are : (xs ys : List Sort) → same_sorts xs ys ≡ true → xs ≡ ys
sorts_are xs ys = elim (Sorts_discrete xs ys) as (λ d. decided d ≡ true → xs ≡ ys) [ yes e ↦ λ _. e | no d ↦ λ t. cc t ]

-- ---- whether one more is kept
module _ (test : Subst → Bool) (alike : ℕ → ℕ → Bool) (kept : List Subst) (m : Subst) where
  pub not_kept : test m ≡ false → kept ≡ with_new test alike kept m
  not_kept e = sym (ap (λ b. cond (b && is_new alike kept m) (kept ++ m ∷ []) kept) e)

  pub kept_already : list_any (is_same_match alike m) kept ≡ true → kept ≡ with_new test alike kept m
  kept_already e = sym (ap (λ b. cond (test m && not b) (kept ++ m ∷ []) kept) e ∙ ap (λ b. cond b (kept ++ m ∷ []) kept) (and-false (test m)))

  pub kept_new : test m ≡ true → list_any (is_same_match alike m) kept ≡ false → kept ++ m ∷ [] ≡ with_new test alike kept m
  kept_new t e = sym (λ i. cond (t i && not (e i)) (kept ++ m ∷ []) kept)

module _ (alike : ℕ → ℕ → Bool) (q : IsEquivalence alike) where
  -- ---- matches that are the same
  names_itself : (xs : List ℕ) → are_same alike xs xs ≡ true
  names_itself [] = refl
  names_itself (x ∷ xs) = and_from _ _ (q.reflexive x) (names_itself xs)

  names_back : (xs ys : List ℕ) → are_same alike xs ys ≡ true → are_same alike ys xs ≡ true
  names_back [] [] e = refl
  names_back [] (y ∷ ys) e = cc e
  names_back (x ∷ xs) [] e = cc e
  names_back (x ∷ xs) (y ∷ ys) e = let p = and_parts (alike x y) (are_same alike xs ys) e in and_from _ _ (q.symmetric x y p.0) (names_back xs ys p.1)

  names_on : (xs ys zs : List ℕ) → are_same alike xs ys ≡ true → are_same alike ys zs ≡ true → are_same alike xs zs ≡ true
  names_on [] [] zs e f = f
  names_on [] (y ∷ ys) zs e f = cc e
  names_on (x ∷ xs) [] zs e f = cc e
  names_on (x ∷ xs) (y ∷ ys) [] e f = cc f
  names_on (x ∷ xs) (y ∷ ys) (z ∷ zs) e f =
      let p = and_parts (alike x y) (are_same alike xs ys) e in
      let r = and_parts (alike y z) (are_same alike ys zs) f in
      and_from _ _ (q.transitive x y z p.0 r.0) (names_on xs ys zs p.1 r.1)

  pub itself : (m : Subst) → is_same_match alike m m ≡ true
  itself m = and_from _ _ (sorts_yes m.sorts m.sorts refl) (names_itself m.terms)

  pub back : (m k : Subst) → is_same_match alike m k ≡ true → is_same_match alike k m ≡ true
  back m k e =
      let p = and_parts (same_sorts m.sorts k.sorts) (are_same alike m.terms k.terms) e in
      and_from _ _ (sorts_yes k.sorts m.sorts (sym (sorts_are m.sorts k.sorts p.0))) (names_back m.terms k.terms p.1)

  pub on : (m k l : Subst) → is_same_match alike m k ≡ true → is_same_match alike k l ≡ true → is_same_match alike m l ≡ true
  on m k l e f =
      let p = and_parts (same_sorts m.sorts k.sorts) (are_same alike m.terms k.terms) e in
      let r = and_parts (same_sorts k.sorts l.sorts) (are_same alike k.terms l.terms) f in
      and_from _ _ (sorts_yes m.sorts l.sorts (sorts_are m.sorts k.sorts p.0 ∙ sorts_are k.sorts l.sorts r.0)) (names_on m.terms k.terms l.terms p.1 r.1)

  -- ---- what is kept
  module _ (test : Subst → Bool) where
    -- whether the next one is kept
    pub next_case : (kept : List Subst) (m : Subst) → (P : List Subst → Type 0) → (test m ≡ true → is_new alike kept m ≡ true → P (kept ++ m ∷ [])) → P kept → P (with_new test alike kept m)
    next_case kept m P f g = elim (cases_Bool (test m && is_new alike kept m)) as (λ _. P (with_new test alike kept m)) [
      | inl y ↦ let p = and_parts (test m) (is_new alike kept m) y in subst P (sym (ap (λ b. cond b (kept ++ m ∷ []) kept) y)) (f p.0 p.1)
      | inr n ↦ subst P (sym (ap (λ b. cond b (kept ++ m ∷ []) kept) n)) g
    ]

    abbrev AllPass : List Subst → Type 0
    AllPass kept = (m : Subst) → In kept m → test m ≡ true

    pub once_passes : (ms kept : List Subst) → AllPass kept → AllPass (once_each test alike kept ms)
    once_passes [] kept a = a
    once_passes (m ∷ ms) kept a = once_passes ms (with_new test alike kept m) (next_case kept m AllPass (λ t n k i. elim (in_parts kept (m ∷ []) k i) as (λ _. test k ≡ true) [
      | inl o ↦ a k o
      | inr j ↦ subst (λ x. test x ≡ true) (in_one m k j) t
    ]) a)

    abbrev Distinct : List Subst → Type 0
    Distinct kept = (i j : ℕ) (m k : Subst) → slice_get kept i ≡ Some m → slice_get kept j ≡ Some k → is_same_match alike m k ≡ true → i ≡ j

    in_at : (xs : List Subst) (i : ℕ) (x : Subst) → slice_get xs i ≡ Some x → In xs x
    in_at [] i x e = cc e
    in_at (y ∷ xs) zero x e = inl (same_Some y x e)
    in_at (y ∷ xs) (suc i) x e = inr (in_at xs i x e)

    -- an old one or the last
    place : (xs : List Subst) (x : Subst) (i : ℕ) (y : Subst) → slice_get (xs ++ x ∷ []) i ≡ Some y → (slice_get xs i ≡ Some y) ⊎ ((i ≡ length xs) × (x ≡ y))
    place [] x zero y e = inr (refl, same_Some x y e)
    place [] x (suc i) y e = cc e
    place (z ∷ xs) x zero y e = inl e
    place (z ∷ xs) x (suc i) y e = elim (place xs x i y e) as (λ _. (slice_get (z ∷ xs) (suc i) ≡ Some y) ⊎ ((suc i ≡ length (z ∷ xs)) × (x ≡ y))) [ inl a ↦ inl a | inr b ↦ inr (ap suc b.0, b.1) ]

    no_old : (kept : List Subst) (m k : Subst) → is_new alike kept m ≡ true → In kept k → is_same_match alike m k ≡ true → ⊥
    no_old kept m k n i e =
        let t = any_from (is_same_match alike m) kept k i e in
        let z : ◌≡◌ {A = Bool} false true = ap not (sym t) ∙ n in
        cc z

    pub once_distinct : (ms kept : List Subst) → Distinct kept → Distinct (once_each test alike kept ms)
    once_distinct [] kept d = d
    once_distinct (m ∷ ms) kept d = once_distinct ms (with_new test alike kept m) (next_case kept m Distinct (λ t n. more n) d)
      where
        more : is_new alike kept m ≡ true → Distinct (kept ++ m ∷ [])
        more n i j x y a b e = elim (place kept m i x a) as (λ _. i ≡ j) [
          | inl o ↦ elim (place kept m j y b) as (λ _. i ≡ j) [
            | inl p ↦ d i j x y o p e
            | inr p ↦ absurd (no_old kept m x n (in_at kept i x o) (back x m (subst (λ w. is_same_match alike x w ≡ true) (sym p.1) e)))
          ]
          | inr o ↦ elim (place kept m j y b) as (λ _. i ≡ j) [
            | inl p ↦ absurd (no_old kept m y n (in_at kept j y p) (subst (λ w. is_same_match alike w y ≡ true) (sym o.1) e))
            | inr p ↦ o.0 ∙ sym p.0
          ]
        ]

    -- what is kept stays
    pub once_keeps : (ms kept : List Subst) (k : Subst) → In kept k → In (once_each test alike kept ms) k
    once_keeps [] kept k i = i
    once_keeps (m ∷ ms) kept k i = once_keeps ms (with_new test alike kept m) k (next_case kept m (λ l. In l k) (λ t n. in_left kept (m ∷ []) k i) i)

    pub once_answers : (ms kept : List Subst) (c : Subst) → In ms c → test c ≡ true → IsAnswered alike (once_each test alike kept ms) c
    once_answers [] kept c i t = elim i [ ]
    once_answers (m ∷ ms) kept c (inr i) t = once_answers ms (with_new test alike kept m) c i t
    once_answers (m ∷ ms) kept c (inl e) t = elim (cases_Bool (is_new alike kept m)) as (λ _. IsAnswered alike (once_each test alike (with_new test alike kept m) ms) c) [
      | inl n ↦
          let tm : test m ≡ true = subst (λ x. test x ≡ true) (sym e) t in
          let w : with_new test alike kept m ≡ kept ++ m ∷ [] = λ j. cond (tm j && n j) (kept ++ m ∷ []) kept in
          record {
            answer = m;
            among = once_keeps ms (with_new test alike kept m) m (subst (λ l. In l m) (sym w) (in_right kept (m ∷ []) m (inl refl)));
            same = subst (λ x. is_same_match alike x m ≡ true) e (itself m);
          }
      | inr o ↦
          let r = any_in (is_same_match alike m) kept (not-false (list_any (is_same_match alike m) kept) o) in
          record {
            answer = r.0;
            among = once_keeps ms (with_new test alike kept m) r.0 (next_case kept m (λ l. In l r.0) (λ t n. in_left kept (m ∷ []) r.0 r.1) r.1);
            same = subst (λ x. is_same_match alike x r.0 ≡ true) e r.2;
          }
    ]
