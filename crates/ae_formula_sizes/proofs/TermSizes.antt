-- The size of each term.
use Rattle.std.specs.Prelude.{ℕ, ℤ, Bool, suc, ◌+◌, ◌<◌, ◌≡◌, max, List, [], length, take, get_or, map}
use Rattle.std.proofs.Common.{refl}
use Rattle.ae_core.specs.declared.terms.Head.{Head}
use Rattle.ae_core.specs.declared.terms.Sort.{Sort}
use Rattle.ae_core.specs.declared.terms.Term.{Term, Bound, Num, Fresh, Apply}
use Rattle.ae_core.proofs.Recursion.{fold_bound, fold_num, fold_fresh, fold_apply}
use Rattle.ae_journal.specs.Sizes.{joined, sort_size, term_size, term_size_step}
use Rattle.ae_formula_sizes.specs.Inner.Counted.{both, leaf, list_size, nothing, round, size_of_sort, size_of_sorts, size_of_term, size_of_terms, size_of_triggers, sum}
use Rattle.ae_formula_sizes.proofs.Ceilings.{is_leaf, is_round, is_round_both, all_more}

-- ---- the sizes of the journal
module _ (join : ℕ → ℕ → ℕ) where
  bound_size : (n : ℕ) → term_size join (Bound n) ≡ 1
  unfolding term_size
  bound_size = fold_bound ℕ (term_size_step join)

  num_size : (a b : ℤ) (real : Bool) → term_size join (Num a b real) ≡ 1
  unfolding term_size
  num_size = fold_num ℕ (term_size_step join)

  fresh_size : (n : ℕ) (s : Sort) → term_size join (Fresh n s) ≡ suc (sort_size join s)
  unfolding term_size
  fresh_size = fold_fresh ℕ (term_size_step join)

  apply_size : (h : Head) (ss : List Sort) (ts : List Term) → term_size join (Apply h ss ts) ≡ suc (join (joined join (map (sort_size join) ss)) (joined join (map (term_size join) ts)))
  unfolding term_size
  apply_size = fold_apply ℕ (term_size_step join)

-- ---- as they are counted
pub term_bound : (n : ℕ) → size_of_term (Bound n) ≡ leaf
unfolding size_of_term
term_bound n = is_leaf (term_size sum (Bound n)) (term_size max (Bound n)) (bound_size sum n) (bound_size max n)

pub term_num : (a b : ℤ) (real : Bool) → size_of_term (Num a b real) ≡ leaf
unfolding size_of_term
term_num a b real = is_leaf (term_size sum (Num a b real)) (term_size max (Num a b real)) (num_size sum a b real) (num_size max a b real)

pub term_fresh : (n : ℕ) (s : Sort) → size_of_term (Fresh n s) ≡ round (size_of_sort s)
unfolding size_of_term size_of_sort
term_fresh n s = is_round (term_size sum (Fresh n s)) (term_size max (Fresh n s)) (sort_size sum s) (sort_size max s) (fresh_size sum n s) (fresh_size max n s)

pub term_apply : (h : Head) (ss : List Sort) (ts : List Term) → size_of_term (Apply h ss ts) ≡ round (both (size_of_sorts ss) (size_of_terms ts))
unfolding size_of_term size_of_sorts size_of_terms
term_apply h ss ts =
    is_round_both (term_size sum (Apply h ss ts)) (term_size max (Apply h ss ts)) (joined sum (map (sort_size sum) ss)) (joined max (map (sort_size max) ss)) (joined sum (map (term_size sum) ts))
    (joined max (map (term_size max) ts)) (apply_size sum h ss ts) (apply_size max h ss ts)

pub no_terms : size_of_terms [] ≡ nothing
unfolding size_of_terms
no_terms = refl

pub more_terms : (ts : List Term) (i : ℕ) (t : Term) → i < length ts → t ≡ get_or ts i t → both (size_of_terms (take i ts)) (size_of_term t) ≡ size_of_terms (take (i + 1) ts)
unfolding size_of_term size_of_terms
more_terms = all_more (term_size sum) (term_size max)

pub no_triggers : size_of_triggers [] ≡ nothing
unfolding size_of_triggers
no_triggers = refl

pub more_triggers : (xs : List (List Term)) (i : ℕ) (ts : List Term) → i < length xs → ts ≡ get_or xs i ts → both (size_of_triggers (take i xs)) (size_of_terms ts) ≡ size_of_triggers (take (i + 1) xs)
unfolding size_of_terms size_of_triggers
more_triggers = all_more (list_size sum) (list_size max)

pub ruleset term_rules = (term_bound, term_num, term_fresh, term_apply, no_terms, no_triggers)
