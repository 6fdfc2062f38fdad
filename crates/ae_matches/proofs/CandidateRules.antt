-- What is offered at each variant of a term, and what is picked.
use Rattle.std.specs.Prelude.{ℕ, suc, ◌+◌, ◌-◌, ◌≡◌, ◌<◌, Bool, true, false, ◌&&◌, nat_eq, List, [], ◌∷◌, ◌++◌, map, length, reverse}
use Rattle.std.specs.List.{flat_map, list_all}
use Rattle.std.proofs.Common.{refl, sym, ap, ◌∙◌, subst, arith, append_assoc, inl, inr}
use Rattle.ae_matching.specs.Laws.{In}
use Rattle.ae_matching.proofs.Exact.{below_in}
use Rattle.std.proofs.lemmas.Bool.{cases_Bool, cases_lt, and_parts}
use Rattle.std.proofs.lemmas.Grind.{flat_map-append}
use Rattle.std.proofs.lemmas.List.Folds.{list_all-append}
use Rattle.std.proofs.lemmas.List.{length-map, append-nil, map-append, reverse-append}
use Rattle.ae_base.proofs.AllOf.{all_of_test}
use Rattle.ae_core.specs.declared.terms.Term.{Term, Bound}
use Rattle.ae_store.specs.Names.{AreWithin}
use Rattle.ae_matching.specs.Testing.{is_known_name}
use Rattle.ae_finding.proofs.TestRules.{known_missing}
use Rattle.ae_known.specs.declared.known.Known.{Known}
use Rattle.ae_trigger.specs.declared.patterns.Pattern.{Pattern}
use Rattle.ae_trigger.specs.declared.patterns.Subst.{Subst}
use Rattle.ae_core.specs.Sorts.{is_closed_sort}
use Rattle.ae_matches.specs.Candidates.{sort_of_variable, picked_sorts, is_determined, sorted_match, is_match}
use Rattle.ae_journal.specs.Triggers.{numbers_below}
use Rattle.ae_core.specs.declared.problems.Signature.{Signature}
use Rattle.ae_store.specs.declared.nodes.Node.{Node}
use Rattle.ae_store.specs.Shapes.{shapes}
use Rattle.ae_store.specs.Terms.{terms}
use Rattle.ae_matching.specs.declared.bindings.Bindings.{Bindings}
use Rattle.ae_matching.specs.Triggers.{choose, picked}
use Rattle.ae_match.specs.Seen.{seen, seen_node}
use Rattle.ae_matches.proofs.Passing.{passes_bound, passes_num, passes_fresh, passes_own, passes_nodes}

pub count_seen : (sig : Signature) (ns : List Node) → length (seen sig ns).nodes ≡ length ns
count_seen sig ns = length-map ns (seen_node (terms (shapes ns)))

pub ruleset passes_rules = (passes_bound, passes_num, passes_fresh, passes_own, passes_nodes)

-- ---- one number more
one_more : (n : ℕ) → numbers_below (n + 1) ≡ numbers_below n ++ n ∷ []
one_more n = let e : n + 1 ≡ suc n = omega arith in ap numbers_below e

pub flat_numbers : {B : Type 0} (f : ℕ → List B) (n : ℕ) → flat_map f (numbers_below (n + 1)) ≡ flat_map f (numbers_below n) ++ f n
flat_numbers f n = ap (flat_map f) (one_more n) ∙ flat_map-append f (numbers_below n) (n ∷ []) ∙ ap (λ l. flat_map f (numbers_below n) ++ l) (append-nil (f n))

pub all_numbers : (f : ℕ → Bool) (n : ℕ) → list_all f (numbers_below (n + 1)) ≡ (list_all f (numbers_below n) && f n)
all_numbers f n = ap (list_all f) (one_more n) ∙ list_all-append f (numbers_below n) (n ∷ []) ∙ ap (λ b. list_all f (numbers_below n) && b) (and_yes (f n))
  where
    and_yes : (b : Bool) → (b && true) ≡ b
    and_yes true = refl
    and_yes false = refl

pub variables_more : (ps : List Term) (n : ℕ) → ps ++ map Bound (numbers_below (n + 1)) ≡ (ps ++ map Bound (numbers_below n)) ++ Bound n ∷ []
variables_more ps n =
    ap (λ l. ps ++ map Bound l) (one_more n) ∙ ap (λ l. ps ++ l) (map-append Bound (numbers_below n) (n ∷ [])) ∙ sym (append_assoc ps (map Bound (numbers_below n)) (Bound n ∷ []))

pub sorts_more : (n : ℕ) (env : Bindings) → picked_sorts (n + 1) env ≡ picked_sorts n env ++ sort_of_variable env n ∷ []
sorts_more n env = ap (map (sort_of_variable env)) (one_more n) ∙ map-append (sort_of_variable env) (numbers_below n) (n ∷ [])

-- ---- one name more
last_first : (n : ℕ) (env : Bindings) → picked (suc n) env ≡ choose env n ∷ picked n env
last_first n env = ap reverse (map-append (choose env) (numbers_below n) (n ∷ [])) ∙ reverse-append (map (choose env) (numbers_below n)) (choose env n ∷ [])

pub picked_next : (names : List ℕ) (vars i : ℕ) (env : Bindings) → i < vars → (names ++ choose env (vars - 1 - i) ∷ []) ++ picked (vars - (i + 1)) env ≡ names ++ picked (vars - i) env
picked_next names vars i env l =
    let a : vars - 1 - i ≡ vars - (i + 1) = omega (arith, l) in
    let b : vars - i ≡ suc (vars - (i + 1)) = omega (arith, l) in
    ap (λ k. (names ++ choose env k ∷ []) ++ picked (vars - (i + 1)) env) a ∙ append_assoc names (choose env (vars - (i + 1)) ∷ []) (picked (vars - (i + 1)) env)
    ∙ ap (λ l. names ++ l) (sym (last_first (vars - (i + 1)) env)) ∙ ap (λ k. names ++ picked k env) (sym b)

pub picked_end : (names : List ℕ) (vars : ℕ) (env : Bindings) → names ++ picked (vars - vars) env ≡ names
picked_end names vars env = let z : vars - vars ≡ 0 = omega arith in ap (λ k. names ++ picked k env) z ∙ append-nil names

pub ruleset picked_rules = (picked_next, picked_end)

all_of : (f : ℕ → Bool) (xs : List ℕ) (i : ℕ) → In xs i → list_all f xs ≡ true → f i ≡ true
all_of f [] i h e = elim h [ ]
all_of f (x ∷ xs) i (inl h) e = subst (λ y. f y ≡ true) h (and_parts (f x) (list_all f xs) e).0
all_of f (x ∷ xs) i (inr h) e = all_of f xs i h (and_parts (f x) (list_all f xs) e).1

pub all_no : (f : ℕ → Bool) (n i : ℕ) → i < n → f i ≡ false → list_all f (numbers_below n) ≡ false
all_no f n i l e = elim (cases_Bool (list_all f (numbers_below n))) as (λ _. list_all f (numbers_below n) ≡ false) [
  | inl y ↦ let z : ◌≡◌ {A = Bool} false true = sym e ∙ all_of f (numbers_below n) i (below_in n i l) y in cc z
  | inr m ↦ m
]

-- ---- known names are within the store
pub known_within : (sig : Signature) (ns : List Node) (below : ℕ) (names : List ℕ) → list_all (is_known_name (seen sig ns) below) names ≡ true → AreWithin (length ns) names
known_within sig ns below names e = record { all = all_of_test (is_known_name (seen sig ns) below) (λ a. a < length ns) one names e }
  where
    one : (a : ℕ) → is_known_name (seen sig ns) below a ≡ true → a < length ns
    one a k = elim (cases_lt a (length ns)) as (λ _. a < length ns) [
      | inl l ↦ l
      | inr m ↦ let z : ◌≡◌ {A = Bool} false true = sym (known_missing sig ns below a m) ∙ k in cc z
    ]

-- so are those of a match
pub match_within : (own sig : Signature) (ns : List Node) (alike : ℕ → ℕ → Bool) (below : ℕ) (k : Known) (p : Pattern) (vs : List Term) (m : Subst) → is_match own (seen sig ns) alike below k p vs m ≡ true → AreWithin (length ns) m.terms
match_within own sig ns alike below k p vs m e =
    let first = nat_eq (length m.sorts) p.sort_vars && list_all (is_closed_sort own) m.sorts && list_all (is_determined p.terms m.sorts) (numbers_below p.sort_vars) in
    let known = list_all (is_known_name (seen sig ns) below) m.terms in
    let w = and_parts (first && known) (sorted_match own (seen sig ns) alike below k p vs m) e in
    known_within sig ns below m.terms (and_parts first known w.0).1
