-- The rules of elaboration, as functions follow them.
use Rattle.std.proofs.Common.{arith, ◌≡◌, ◌≢◌, ◌∙◌, ℕ, suc, ◌+◌, ◌-◌, ◌<◌, ◌≤◌, Bool, true, false, nat_eq, Option, Some, None, List, [], ◌∷◌, ◌++◌, length, drop, get_or, refl, sym, ap, true≢false}
use Rattle.std.proofs.lemmas.List.{drop_more, drop_all}
use Rattle.ae_core.specs.declared.terms.Sort.{Sort}
use Rattle.std.proofs.lemmas.Bool.Decides.{nat_tests}
use Rattle.ae_core.specs.declared.terms.Term.{Term, Bound}
use Rattle.ae_core.specs.declared.formulas.Formula.{Formula, Formula-F, Not, Eq, And, All, Ex, out-Formula, roll-Formula, roll-out-Formula}
use Rattle.ae_core.specs.declared.formulas.Formula.TheOpen as layer
use Rattle.ae_core.specs.declared.formulas.Formula.TheVariants.{rolls-All, rolls-Ex, outs-All, outs-Ex}
use Rattle.ae_core.specs.declared.formulas.Quant.{Quant}
use Rattle.ae_elab.specs.Elaboration.{differs_from, differences, all_true, value_at, field_term, fields_from, block, merged_quant, all_over, some_over, over}
use Rattle.ae_syntax.specs.declared.exprs.Quantifier.TheVariants.{Forall, Exists}
use Rattle.ae_elaboration.specs.Inner.Conjunctions.{all_with}

-- ---- conjunctions
pub joined_first : (f : Formula) (rest : List Formula) → all_with (Some f) rest ≡ all_with None (f ∷ rest)
joined_first f rest = refl

pub joined_more : (before f : Formula) (rest : List Formula) → all_with (Some (And before f)) rest ≡ all_with (Some before) (f ∷ rest)
joined_more before f rest = refl

pub whole_alone : (w : Option Formula) (f : Formula) → w ≡ Some f → all_with w [] ≡ f
whole_alone w f e = ap (λ (o : Option Formula). all_with o []) e

pub whole_none : (w : Option Formula) → w ≡ None → all_with w [] ≡ all_true []
whole_none w e = ap (λ (o : Option Formula). all_with o []) e

-- ---- differences, term by term
pub differs_next : (t u : Term) (us : List Term) (k : ℕ) (rest : List Formula) → k < length us → u ≡ get_or us k u
    → differs_from t (drop k us) ++ rest ≡ Not (Eq t u) ∷ (differs_from t (drop (k + 1) us) ++ rest)
differs_next t u us k rest l e = ap (λ (xs : List Term). differs_from t xs ++ rest) (drop_more us k u l ∙ ap (λ x. x ∷ drop (k + 1) us) (sym e))

pub differs_end : (t : Term) (us : List Term) (k : ℕ) (rest : List Formula) → length us ≤ k → differs_from t (drop k us) ++ rest ≡ rest
differs_end t us k rest l = ap (λ (xs : List Term). differs_from t xs ++ rest) (drop_all k us l)

pub differences_next : (t : Term) (ts : List Term) (k : ℕ) → k < length ts → t ≡ get_or ts k t → differences (drop k ts) ≡ differs_from t (drop (k + 1) ts) ++ differences (drop (k + 1) ts)
differences_next t ts k l e = ap differences (drop_more ts k t l ∙ ap (λ x. x ∷ drop (k + 1) ts) (sym e))

-- ---- written fields
no_values : (place : ℕ) (ps : List ℕ) → value_at place ps [] ≡ None
no_values place [] = refl
no_values place (p ∷ ps) = refl

pub value_none : (place : ℕ) (ps : List ℕ) (us : List Term) (i : ℕ) → length us ≤ i → value_at place (drop i ps) (drop i us) ≡ None
value_none place ps us i h = ap (value_at place (drop i ps)) (drop_all i us h) ∙ no_values place (drop i ps)

passed_over : (b : Bool) (o p : Option Term) → b ≡ false → elim b [ true ↦ o | false ↦ p ] ≡ p
passed_over true o p e = absurd (true≢false e)
passed_over false o p e = refl

pub value_next : (place : ℕ) (ps : List ℕ) (us : List Term) (i : ℕ) → i < length ps → i < length us → get_or ps i 0 ≢ place
    → value_at place (drop (i + 1) ps) (drop (i + 1) us) ≡ value_at place (drop i ps) (drop i us)
value_next place ps us i l m n =
    let p = get_or ps i 0 in
    let u = get_or us i (Bound 0) in
    let rest = value_at place (drop (i + 1) ps) (drop (i + 1) us) in
    let other : nat_eq place p ≡ false = grind (arith, nat_tests) in
    sym
    (ap (λ (xs : List ℕ). value_at place xs (drop i us)) (drop_more ps i 0 l)
    ∙ ap (value_at place (p ∷ drop (i + 1) ps)) (drop_more us i (Bound 0) m)
    ∙ passed_over (nat_eq place p) (Some u) rest other)

pub fields_next : (count place of : ℕ) (ss : List Sort) (base : Term) (ps : List ℕ) (us : List Term) → place < count
    → fields_from (count - place) place of ss base ps us ≡ field_term of ss base place (value_at place ps us) ∷ fields_from (count - (place + 1)) (place + 1) of ss base ps us
fields_next count place of ss base ps us l =
    ap (λ n. fields_from n place of ss base ps us) (let e : count - place ≡ suc (count - (place + 1)) = omega arith in e)
    ∙ ap (λ p. field_term of ss base place (value_at place ps us) ∷ fields_from (count - (place + 1)) p of ss base ps us) (let e : suc place ≡ place + 1 = omega arith in e)

pub fields_end : (count place of : ℕ) (ss : List Sort) (base : Term) (ps : List ℕ) (us : List Term) → count ≤ place → fields_from (count - place) place of ss base ps us ≡ []
fields_end count place of ss base ps us l = ap (λ n. fields_from n place of ss base ps us) (let e : count - place ≡ 0 = omega arith in e)

-- ---- blocks
other_all : (ss : List Sort) (f : Formula) (l : Formula-F Formula Quant) → ((q : Quant) → l ≢ layer.All q) → all_over ss f l ≡ All (block ss [] f)
other_all ss f layer.True h = refl
other_all ss f layer.False h = refl
other_all ss f (layer.Eq a b) h = refl
other_all ss f (layer.Lt a b) h = refl
other_all ss f (layer.Le a b) h = refl
other_all ss f (layer.Pred p us vs) h = refl
other_all ss f (layer.Not a) h = refl
other_all ss f (layer.And a b) h = refl
other_all ss f (layer.Or a b) h = refl
other_all ss f (layer.Xor a b) h = refl
other_all ss f (layer.Iff a b) h = refl
other_all ss f (layer.All q) h = absurd (h q refl)
other_all ss f (layer.Ex q) h = refl

other_some : (ss : List Sort) (f : Formula) (l : Formula-F Formula Quant) → ((q : Quant) → l ≢ layer.Ex q) → some_over ss f l ≡ Ex (block ss [] f)
other_some ss f layer.True h = refl
other_some ss f layer.False h = refl
other_some ss f (layer.Eq a b) h = refl
other_some ss f (layer.Lt a b) h = refl
other_some ss f (layer.Le a b) h = refl
other_some ss f (layer.Pred p us vs) h = refl
other_some ss f (layer.Not a) h = refl
other_some ss f (layer.And a b) h = refl
other_some ss f (layer.Or a b) h = refl
other_some ss f (layer.Xor a b) h = refl
other_some ss f (layer.Iff a b) h = refl
other_some ss f (layer.All q) h = refl
other_some ss f (layer.Ex q) h = absurd (h q refl)

pub no_all : (ss : List Sort) (f : Formula) → ((q : Quant) → f ≢ All q) → all_over ss f (out-Formula f) ≡ All (block ss [] f)
no_all ss f h = other_all ss f (out-Formula f) (λ q e. h q (sym (roll-out-Formula f) ∙ ap roll-Formula e ∙ rolls-All q))

pub no_ex : (ss : List Sort) (f : Formula) → ((q : Quant) → f ≢ Ex q) → some_over ss f (out-Formula f) ≡ Ex (block ss [] f)
no_ex ss f h = other_some ss f (out-Formula f) (λ q e. h q (sym (roll-out-Formula f) ∙ ap roll-Formula e ∙ rolls-Ex q))

pub all_here : (ss : List Sort) (f : Formula) (q : Quant) → f ≡ All q → All (merged_quant ss q) ≡ all_over ss f (out-Formula f)
all_here ss f q e = sym (ap (λ (z : Formula). all_over ss z (out-Formula z)) e ∙ ap (all_over ss (All q)) (outs-All q))

pub some_here : (ss : List Sort) (f : Formula) (q : Quant) → f ≡ Ex q → Ex (merged_quant ss q) ≡ some_over ss f (out-Formula f)
some_here ss f q e = sym (ap (λ (z : Formula). some_over ss z (out-Formula z)) e ∙ ap (some_over ss (Ex q)) (outs-Ex q))

-- ---- triggers
pub over_all : (ss : List Sort) (ts : List (List Term)) (f : Formula) (t : List Term) (more : List (List Term)) → ts ≡ t ∷ more → All (block ss ts f) ≡ over Forall ss ts f
over_all ss ts f t more e = ap (λ (z : List (List Term)). All (block ss z f)) e ∙ sym (ap (λ (z : List (List Term)). over Forall ss z f) e)

pub over_some : (ss : List Sort) (ts : List (List Term)) (f : Formula) (t : List Term) (more : List (List Term)) → ts ≡ t ∷ more → Ex (block ss ts f) ≡ over Exists ss ts f
over_some ss ts f t more e = ap (λ (z : List (List Term)). Ex (block ss z f)) e ∙ sym (ap (λ (z : List (List Term)). over Exists ss z f) e)

pub has_first : {A : Type 0} (xs : List A) → (xs ≡ [] → ⊥) → (x : A) × (more : List A) × (xs ≡ x ∷ more)
has_first [] h = absurd (h refl)
has_first (x ∷ xs) h = (x, xs, refl)
