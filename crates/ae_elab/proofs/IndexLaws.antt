-- Where a name stands first, and an index with one more name.
use Rattle.std.proofs.Common.{◌≡◌, ◌∙◌, ℕ, suc, Bool, true, false, cond, List, [], ◌∷◌, ◌++◌, map, length, Option, Some, None, refl, sym, ap, subst, true≢false, ◌||◌, reverse}
use Rattle.std.specs.List.{list_any}
use Rattle.std.specs.Option.{is_some}
use Rattle.std.proofs.lemmas.List.{reverse-append}
use Rattle.std.specs.Ordering.{is_eq, nat_cmp}
use Rattle.std.specs.Cmp.Lexicographic.{slice_cmp}
use Rattle.std.specs.Str.{bytes_eq}
use Rattle.std.proofs.lemmas.Option.{none-some}
use Rattle.std.proofs.lemmas.Slice.Eq.{bytes_eq-Decides}
use Rattle.std.proofs.lemmas.Map.Text.{is_eq-slice_cmp}
use Rattle.ae_base.proofs.Tests.{or_swap}
use Rattle.ae_elab.specs.Scope.{first_place, after_one}
use Rattle.ae_elab.specs.Inner.Index.{IsIndex}

abbrev choose : Bool → Option ℕ → Option ℕ
choose b o = elim b [ true ↦ Some 0 | false ↦ after_one o ]

none_parts : (b : Bool) (o : Option ℕ) → choose b o ≡ None → (b ≡ false) × (o ≡ None)
none_parts true o e = absurd (none-some 0 (sym e))
none_parts false None e = (refl, refl)
none_parts false (Some n) e = absurd (none-some (suc n) (sym e))

module _ {A : Type 0} (p : A → Bool) where
  -- one more element, which is the first, or isn't one
  pub first_at_end : (xs : List A) (x : A) → first_place p xs ≡ None → p x ≡ true → first_place p (xs ++ x ∷ []) ≡ Some (length xs)
  first_at_end [] x h e = ap (λ b. choose b None) e
  first_at_end (y ∷ xs) x h e =
      let n = none_parts (p y) (first_place p xs) h in
      ap (λ b. choose b (first_place p (xs ++ x ∷ []))) n.0 ∙ ap after_one (first_at_end xs x n.1 e)

  pub not_at_end : (xs : List A) (x : A) → p x ≡ false → first_place p (xs ++ x ∷ []) ≡ first_place p xs
  not_at_end [] x e = ap (λ b. choose b None) e
  not_at_end (y ∷ xs) x e = ap (choose (p y)) (not_at_end xs x e)

-- the first place among what elements are
pub first_of_map : {A B : Type 0} (p : B → Bool) (f : A → B) (xs : List A) → first_place (λ x. p (f x)) xs ≡ first_place p (map f xs)
first_of_map p f [] = refl
first_of_map p f (x ∷ xs) = ap (choose (p (f x))) (first_of_map p f xs)

-- a name that wasn't there
at_end : (names : List (List ℕ)) (new s : List ℕ) → first_place (bytes_eq new) names ≡ None
    → cond (bytes_eq new s) (Some (length names)) (first_place (bytes_eq s) names) ≡ first_place (bytes_eq s) (names ++ new ∷ [])
at_end names new s h = by_test (bytes_eq new s) refl
  where
    turned : (x y : List ℕ) → bytes_eq x y ≡ true → bytes_eq y x ≡ true
    turned x y e = (bytes_eq-Decides y x).1 (sym ((bytes_eq-Decides x y).0 e))

    by_turned : (b : Bool) → bytes_eq s new ≡ b → bytes_eq new s ≡ false → bytes_eq s new ≡ false
    by_turned true e f = absurd (true≢false (sym (turned s new e) ∙ f))
    by_turned false e f = e

    by_test : (b : Bool) → bytes_eq new s ≡ b → cond b (Some (length names)) (first_place (bytes_eq s) names) ≡ first_place (bytes_eq s) (names ++ new ∷ [])
    by_test true e =
        let same = (bytes_eq-Decides new s).0 e in
        sym (first_at_end (bytes_eq s) names new (subst (λ x. first_place (bytes_eq x) names ≡ None) same h) (turned new s e))
    by_test false e = sym (not_at_end (bytes_eq s) names new (by_turned (bytes_eq s new) refl e))

pub grown : (names : List (List ℕ)) (name : List ℕ) (old new : List ℕ → Option ℕ) → IsIndex names old → first_place (bytes_eq name) names ≡ None
    → ((s : List ℕ) → new s ≡ cond (is_eq (slice_cmp nat_cmp name s)) (Some (length names)) (old s)) → IsIndex (names ++ name ∷ []) new
grown names name old new i h u s =
    u s
    ∙ ap (λ b. cond b (Some (length names)) (old s)) (is_eq-slice_cmp name s)
    ∙ ap (cond (bytes_eq name s) (Some (length names))) (i s)
    ∙ at_end names name s h

-- ---- a name that is there once more
is_there : (o : Option ℕ) → is_some o ≡ true → (n : ℕ) × (o ≡ Some n)
is_there None e = absurd (true≢false (sym e))
is_there (Some n) e = (n, refl)

choose_some : (b : Bool) (o p : Option ℕ) (n : ℕ) → ((k : ℕ) → o ≡ Some k → p ≡ Some k) → choose b o ≡ Some n → choose b p ≡ Some n
choose_some true o p n h e = e
choose_some false None p n h e = absurd (none-some n e)
choose_some false (Some k) p n h e = ap after_one (h k refl) ∙ e

pub first_stays : {A : Type 0} (p : A → Bool) (xs ys : List A) (n : ℕ) → first_place p xs ≡ Some n → first_place p (xs ++ ys) ≡ Some n
first_stays p [] ys n e = absurd (none-some n e)
first_stays p (x ∷ xs) ys n e = choose_some (p x) (first_place p xs) (first_place p (xs ++ ys)) n (λ k. first_stays p xs ys k) e

pub repeated : (names : List (List ℕ)) (name : List ℕ) (found : List ℕ → Option ℕ) → IsIndex names found → is_some (first_place (bytes_eq name) names) ≡ true → IsIndex (names ++ name ∷ []) found
repeated names name found i t s = i s ∙ by_test (bytes_eq s name) refl
  where
    stands : (n : ℕ) × (first_place (bytes_eq name) names ≡ Some n)
    stands = is_there (first_place (bytes_eq name) names) t

    by_test : (b : Bool) → bytes_eq s name ≡ b → first_place (bytes_eq s) names ≡ first_place (bytes_eq s) (names ++ name ∷ [])
    by_test true e =
        let here : first_place (bytes_eq s) names ≡ Some stands.0 = ap (λ (k : List ℕ). first_place (bytes_eq k) names) ((bytes_eq-Decides s name).0 e) ∙ stands.1 in
        here ∙ sym (first_stays (bytes_eq s) names (name ∷ []) stands.0 here)
    by_test false e = sym (not_at_end (bytes_eq s) names name e)

-- ---- whether a name is among others, in whatever order
any_end : {A : Type 0} (p : A → Bool) (xs : List A) (x : A) → list_any p (xs ++ x ∷ []) ≡ (p x || list_any p xs)
any_end p [] x = refl
any_end p (y ∷ xs) x = ap (λ b. p y || b) (any_end p xs x) ∙ or_swap (p y) (p x) (list_any p xs)

choose_here : (b : Bool) (o : Option ℕ) → is_some (choose b o) ≡ (b || is_some o)
choose_here true o = refl
choose_here false None = refl
choose_here false (Some n) = refl

pub among_reversed : {A : Type 0} (p : A → Bool) (xs : List A) → list_any p (reverse xs) ≡ is_some (first_place p xs)
among_reversed p [] = refl
among_reversed p (x ∷ xs) =
    ap (list_any p) (reverse-append (x ∷ []) xs)
    ∙ any_end p (reverse xs) x
    ∙ ap (λ b. p x || b) (among_reversed p xs)
    ∙ sym (choose_here (p x) (first_place p xs))
