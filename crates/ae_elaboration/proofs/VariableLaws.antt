-- The table of a formula's type variables.
use Rattle.std.proofs.Common.{arith, ◌≡◌, ◌∙◌, ◌<◌, ℕ, Bool, true, false, cond, ◌||◌, Option, Some, None, List, [], ◌∷◌, ◌++◌, length, refl, sym, ap, subst, true≢false}
use Rattle.std.specs.List.{list_any}
use Rattle.std.specs.Option.{is_some}
use Rattle.std.specs.Ordering.{is_eq}
use Rattle.std.proofs.Common.{Ordering, Less, Equal, Greater, nat_cmp}
use Rattle.ae_base.proofs.Orders.{cmp_below, cmp_equal, cmp_above}
use Rattle.ae_base.proofs.Decided.{decided_of, decided_not}
use Rattle.ae_core.specs.Decided.{Sort_discrete}
use Rattle.ae_core.specs.Sorts.{same_sort}
use Rattle.ae_core.specs.declared.terms.Sort.{Sort, Var, Rigid, out-Sort}
use Rattle.ae_core.specs.declared.terms.Sort.TheOpen as layer
use Rattle.ae_core.specs.declared.terms.Sort.TheVariants.{outs-Var, outs-Rigid}
use Rattle.std.specs.Prelude.{Result, Ok, Err, OnOk, OnErr}
use Rattle.ae_elab.specs.Numbering.{once_more}
use Rattle.ae_elab.specs.Scope.{first_place, after_one}
use Rattle.ae_elaboration.specs.Inner.Tables.{Finds}
use Rattle.ae_elab.proofs.IndexLaws.{first_at_end, not_at_end}

-- whether an element is there is whether it has a place
any_by : (b : Bool) (o : Option ℕ) → (b || is_some o) ≡ is_some (elim b [ true ↦ Some 0 | false ↦ after_one o ])
any_by true o = refl
any_by false None = refl
any_by false (Some n) = refl

pub any_placed : {A : Type 0} (p : A → Bool) (xs : List A) → list_any p xs ≡ is_some (first_place p xs)
any_placed p [] = refl
any_placed p (x ∷ xs) = ap (λ b. p x || b) (any_placed p xs) ∙ any_by (p x) (first_place p xs)

-- one more, or none
once_by : (b : Bool) (seen : List Sort) (s : Sort) → (o : Option ℕ) → b ≡ is_some o → (o ≡ None) → elim b [ true ↦ seen | false ↦ seen ++ s ∷ [] ] ≡ seen ++ s ∷ []
once_by true seen s o e h = absurd (true≢false (e ∙ ap is_some h))
once_by false seen s o e h = refl

pub once_new : (seen : List Sort) (s : Sort) → first_place (same_sort s) seen ≡ None → once_more seen (s ∷ []) ≡ seen ++ s ∷ []
once_new seen s h = once_by (list_any (same_sort s) seen) seen s (first_place (same_sort s) seen) (any_placed (same_sort s) seen) h

there_by : (b : Bool) (seen : List Sort) (s : Sort) (o : Option ℕ) (n : ℕ) → b ≡ is_some o → o ≡ Some n → elim b [ true ↦ seen | false ↦ seen ++ s ∷ [] ] ≡ seen
there_by true seen s o n e h = refl
there_by false seen s o n e h = absurd (true≢false (sym (e ∙ ap is_some h)))

pub once_there : (seen : List Sort) (s : Sort) (n : ℕ) → first_place (same_sort s) seen ≡ Some n → once_more seen (s ∷ []) ≡ seen
once_there seen s n h = there_by (list_any (same_sort s) seen) seen s (first_place (same_sort s) seen) n (any_placed (same_sort s) seen) h

-- ---- the tables of numbers
equal_by : (k n : ℕ) (o : Ordering) → o ≡ nat_cmp k n → is_eq o ≡ true → k ≡ n
equal_by k n Less e h = absurd (true≢false (sym h))
equal_by k n Equal e h = cmp_equal k n e
equal_by k n Greater e h = absurd (true≢false (sym h))

itself : (k : ℕ) (o : Ordering) → o ≡ nat_cmp k k → is_eq o ≡ true
itself k Less e = let l : k < k = cmp_below k k e in absurd (omega arith)
itself k Equal e = refl
itself k Greater e = let l : k < k = cmp_above k k e in absurd (omega arith)

equal_here : (k n : ℕ) → k ≡ n → is_eq (nat_cmp k n) ≡ true
equal_here k n e = subst (λ z. is_eq (nat_cmp k z) ≡ true) e (itself k (nat_cmp k k) refl)

different : (s t : Sort) → (s ≡ t → ⊥) → same_sort s t ≡ false
different s t h = decided_not (Sort_discrete s t) h

pub finds_new : (make : ℕ → Sort) → ((m n : ℕ) → make m ≡ make n → m ≡ n) → (ss : List Sort) (k : ℕ) (old new : ℕ → Option ℕ) → Finds make ss old
    → first_place (same_sort (make k)) ss ≡ None → ((n : ℕ) → new n ≡ cond (is_eq (nat_cmp k n)) (Some (length ss)) (old n)) → Finds make (ss ++ make k ∷ []) new
finds_new make inj ss k old new f h u n = u n ∙ by_test (is_eq (nat_cmp k n)) refl
  where
    by_test : (b : Bool) → is_eq (nat_cmp k n) ≡ b → cond b (Some (length ss)) (old n) ≡ first_place (same_sort (make n)) (ss ++ make k ∷ [])
    by_test true e =
        let same = equal_by k n (nat_cmp k n) refl e in
        sym (first_at_end (same_sort (make n)) ss (make k) (subst (λ i. first_place (same_sort (make i)) ss ≡ None) same h) (decided_of (Sort_discrete (make n) (make k)) (ap make (sym same))))
    by_test false e =
        f n ∙ sym (not_at_end (same_sort (make n)) ss (make k) (different (make n) (make k) (λ i. true≢false (sym (equal_here k n (sym (inj n k i))) ∙ e))))

pub finds_other : (make : ℕ → Sort) (ss : List Sort) (s : Sort) (found : ℕ → Option ℕ) → ((n : ℕ) → make n ≡ s → ⊥) → Finds make ss found → Finds make (ss ++ s ∷ []) found
finds_other make ss s found apart f n = f n ∙ sym (not_at_end (same_sort (make n)) ss s (different (make n) s (apart n)))

pub var_same : (m n : ℕ) → Var m ≡ Var n → m ≡ n
var_same m n e = let h : layer.Var m ≡ layer.Var n = sym (outs-Var m) ∙ ap out-Sort e ∙ outs-Var n in cc

pub rigid_same : (m n : ℕ) → Rigid m ≡ Rigid n → m ≡ n
rigid_same m n e = let h : layer.Rigid m ≡ layer.Rigid n = sym (outs-Rigid m) ∙ ap out-Sort e ∙ outs-Rigid n in cc

pub var_rigid : (m n : ℕ) → Var m ≡ Rigid n → ⊥
var_rigid m n e = let h : layer.Var m ≡ layer.Rigid n = sym (outs-Var m) ∙ ap out-Sort e ∙ outs-Rigid n in cc

pub rigid_var : (m n : ℕ) → Rigid m ≡ Var n → ⊥
rigid_var m n e = let h : layer.Rigid m ≡ layer.Var n = sym (outs-Rigid m) ∙ ap out-Sort e ∙ outs-Var n in cc

-- what is so after a call, whatever it answered
pub settled : {A E G P Q R S : Type 0} (r : Result A E) → OnOk r P → OnOk r Q → OnErr r R → OnErr r S → (P → Q → G) → (R → S → G) → G
settled (Ok x) p q f g j k = j p q
settled (Err e) p q f g j k = k f g
