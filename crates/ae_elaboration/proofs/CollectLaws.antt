-- The type variables of sorts that are collected one after another.
use Rattle.std.proofs.Common.{◌≡◌, ◌∙◌, ℕ, ◌+◌, ◌<◌, Bool, true, false, List, [], ◌∷◌, ◌++◌, length, take, get_or, refl, sym, ap}
use Rattle.std.specs.List.{flat_map, list_any}
use Rattle.std.proofs.lemmas.Grind.{flat_map-append}
use Rattle.std.proofs.lemmas.List.{append-nil, take_more}
use Rattle.ae_core.specs.Sorts.{same_sort}
use Rattle.ae_core.specs.declared.terms.Sort.{Sort}
use Rattle.ae_elab.specs.Numbering.{open_sorts, once_more}
use Rattle.ae_elab.proofs.NumberRules.{with_bound, with_num, with_fresh, with_true, with_false, with_eq, with_lt, with_le, with_pred, with_not, with_and, with_or, with_xor, with_iff, with_all, with_ex, in_bound, in_num, in_fresh, in_true, in_false, in_eq, in_lt, in_le, in_pred, in_not, in_and, in_or, in_xor, in_iff, in_all, in_ex, open_var, open_rigid, open_int, open_real, open_bool, open_unit, number_var, number_rigid, number_int, number_real, number_bool, number_unit}

by_test : (b : Bool) (s t u v ys : List Sort) → s ≡ once_more u ys → t ≡ once_more v ys → elim b [ true ↦ s | false ↦ t ] ≡ once_more (elim b [ true ↦ u | false ↦ v ]) ys
by_test true s t u v ys e f = e
by_test false s t u v ys e f = f

pub once_append : (seen xs ys : List Sort) → once_more seen (xs ++ ys) ≡ once_more (once_more seen xs) ys
once_append seen [] ys = refl
once_append seen (x ∷ xs) ys =
    by_test (list_any (same_sort x) seen) (once_more seen (xs ++ ys)) (once_more (seen ++ x ∷ []) (xs ++ ys)) (once_more seen xs) (once_more (seen ++ x ∷ []) xs) ys
    (once_append seen xs ys) (once_append (seen ++ x ∷ []) xs ys)

pub flat_more : {A B : Type 0} (f : A → List B) (xs : List A) (i : ℕ) (x : A) → i < length xs → x ≡ get_or xs i x → flat_map f (take (i + 1) xs) ≡ flat_map f (take i xs) ++ f x
flat_more f xs i x l e =
    ap (flat_map f) (take_more xs i x l ∙ ap (λ y. take i xs ++ y ∷ []) (sym e))
    ∙ flat_map-append f (take i xs) (x ∷ [])
    ∙ ap (λ ys. flat_map f (take i xs) ++ ys) (append-nil (f x))

-- the type variables of sorts
abbrev pub opened : List Sort → List Sort
opened ss = flat_map open_sorts ss

pub collected : (seen now new ss ts : List Sort) → now ≡ once_more seen (opened ss) → new ≡ once_more now (opened ts) → new ≡ once_more seen (opened (ss ++ ts))
collected seen now new ss ts e f =
    f ∙ ap (λ vs. once_more vs (opened ts)) e ∙ sym (once_append seen (opened ss) (opened ts)) ∙ ap (once_more seen) (sym (flat_map-append open_sorts ss ts))

-- one more sort, and the sorts of one more thing
pub sort_next : (seen now new ss : List Sort) (i : ℕ) (s : Sort) → i < length ss → s ≡ get_or ss i s → now ≡ once_more seen (opened (take i ss)) → new ≡ once_more now (open_sorts s)
    → new ≡ once_more seen (opened (take (i + 1) ss))
sort_next seen now new ss i s l e h f =
    f ∙ ap (λ vs. once_more vs (open_sorts s)) h ∙ sym (once_append seen (opened (take i ss)) (open_sorts s)) ∙ ap (once_more seen) (sym (flat_more open_sorts ss i s l e))

pub part_next : {A : Type 0} (g : A → List Sort) (seen now new : List Sort) (xs : List A) (i : ℕ) (x : A) → i < length xs → x ≡ get_or xs i x
    → now ≡ once_more seen (opened (flat_map g (take i xs))) → new ≡ once_more now (opened (g x)) → new ≡ once_more seen (opened (flat_map g (take (i + 1) xs)))
part_next g seen now new xs i x l e h f =
    collected seen now new (flat_map g (take i xs)) (g x) h f ∙ ap (λ ss. once_more seen (opened ss)) (sym (flat_more g xs i x l e))

-- ---- what sorts, terms and formulas are, for functions on them
pub ruleset opens = (open_var, open_rigid, open_int, open_real, open_bool, open_unit)

pub ruleset term_sorts = (in_bound, in_num, in_fresh)

pub ruleset formula_sorts = (in_true, in_false, in_eq, in_lt, in_le, in_pred, in_not, in_and, in_or, in_xor, in_iff, in_all, in_ex)

pub ruleset sort_numbers = (number_var, number_rigid, number_int, number_real, number_bool, number_unit)

pub ruleset term_numbers = (with_bound, with_num, with_fresh)

pub ruleset formula_numbers = (with_true, with_false, with_eq, with_lt, with_le, with_pred, with_not, with_and, with_or, with_xor, with_iff, with_all, with_ex)
