-- What occurs in a term, at each variant.
use Rattle.std.specs.Prelude.{ℕ, ℤ, ◌≡◌, Bool, false, ◌||◌, nat_eq, List, [], ◌∷◌, map}
use Rattle.std.specs.List.{list_any}
use Rattle.std.proofs.Common.{refl, ap, ◌∙◌}
use Rattle.ae_core.specs.Signatures.{has_variable, has_variable_step}
use Rattle.ae_core.specs.declared.terms.Sort.{Sort, Var, Rigid, Int, Real, Bool as BoolSort, Unit as UnitSort, Named}
use Rattle.ae_core.specs.declared.terms.Head.{Head}
use Rattle.ae_core.specs.declared.terms.Term.{Term, Bound, Num, Fresh, Apply}
use Rattle.ae_core.proofs.Recursion.{fold_bound, fold_num, fold_fresh, fold_apply, fold_var, fold_rigid, fold_int, fold_real, fold_bool, fold_unit, fold_named, para_bound, para_num, para_fresh, para_apply}
use Rattle.ae_rules.specs.Matches.{sort_has, sort_has_step, term_has, term_has_step}
use Rattle.ae_journal.specs.Triggers.{stands_inside, inside_step}
use Rattle.ae_trigger.specs.Inner.Kept.{is_term}

pub any_map : {X Y : Type 0} (p : X → Bool) (h : Y → X) (ys : List Y) → list_any p (map h ys) ≡ list_any (λ y. p (h y)) ys
any_map p h [] = refl
any_map p h (y ∷ ys) = ap (λ b. p (h y) || b) (any_map p h ys)

-- ---- variables
pub variable_bound : (i j : ℕ) → has_variable i (Bound j) ≡ nat_eq i j
unfolding has_variable
variable_bound i j = fold_bound Bool (has_variable_step i) j

pub variable_num : (i : ℕ) (a b : ℤ) (r : Bool) → has_variable i (Num a b r) ≡ false
unfolding has_variable
variable_num i a b r = fold_num Bool (has_variable_step i) a b r

pub variable_fresh : (i k : ℕ) (s : Sort) → has_variable i (Fresh k s) ≡ false
unfolding has_variable
variable_fresh i k s = fold_fresh Bool (has_variable_step i) k s

pub variable_apply : (i : ℕ) (h : Head) (ss : List Sort) (us : List Term) → has_variable i (Apply h ss us) ≡ list_any (has_variable i) us
unfolding has_variable
variable_apply i h ss us = fold_apply Bool (has_variable_step i) h ss us ∙ any_map (λ b. b) (has_variable i) us

pub ruleset variable_rules = (variable_bound, variable_num, variable_fresh, variable_apply)

-- ---- type variables in sorts
pub sort_var : (i j : ℕ) → sort_has i (Var j) ≡ nat_eq i j
unfolding sort_has
sort_var i j = fold_var Bool (sort_has_step i) j

pub sort_rigid : (i j : ℕ) → sort_has i (Rigid j) ≡ false
unfolding sort_has
sort_rigid i j = fold_rigid Bool (sort_has_step i) j

pub sort_int : (i : ℕ) → sort_has i Int ≡ false
unfolding sort_has
sort_int i = fold_int Bool (sort_has_step i)

pub sort_real : (i : ℕ) → sort_has i Real ≡ false
unfolding sort_has
sort_real i = fold_real Bool (sort_has_step i)

pub sort_bool : (i : ℕ) → sort_has i BoolSort ≡ false
unfolding sort_has
sort_bool i = fold_bool Bool (sort_has_step i)

pub sort_unit : (i : ℕ) → sort_has i UnitSort ≡ false
unfolding sort_has
sort_unit i = fold_unit Bool (sort_has_step i)

pub sort_named : (i h : ℕ) (ss : List Sort) → sort_has i (Named h ss) ≡ list_any (sort_has i) ss
unfolding sort_has
sort_named i h ss = fold_named Bool (sort_has_step i) h ss ∙ any_map (λ b. b) (sort_has i) ss

pub ruleset sort_rules = (sort_var, sort_rigid, sort_int, sort_real, sort_bool, sort_unit, sort_named)

-- ---- type variables in terms
pub term_bound : (i j : ℕ) → term_has i (Bound j) ≡ false
unfolding term_has
term_bound i j = fold_bound Bool (term_has_step i) j

pub term_num : (i : ℕ) (a b : ℤ) (r : Bool) → term_has i (Num a b r) ≡ false
unfolding term_has
term_num i a b r = fold_num Bool (term_has_step i) a b r

pub term_fresh : (i k : ℕ) (s : Sort) → term_has i (Fresh k s) ≡ sort_has i s
unfolding term_has
term_fresh i k s = fold_fresh Bool (term_has_step i) k s

pub term_apply : (i : ℕ) (h : Head) (ss : List Sort) (us : List Term) → term_has i (Apply h ss us) ≡ list_any (sort_has i) ss || list_any (term_has i) us
unfolding term_has
term_apply i h ss us = fold_apply Bool (term_has_step i) h ss us ∙ ap (λ b. list_any (sort_has i) ss || b) (any_map (λ b. b) (term_has i) us)

pub ruleset term_rules = (term_bound, term_num, term_fresh, term_apply)

-- ---- terms in a term
pub inside_bound : (t : Term) (j : ℕ) → stands_inside t (Bound j) ≡ false
unfolding stands_inside
inside_bound t j = para_bound Bool (inside_step t) j

pub inside_num : (t : Term) (a b : ℤ) (r : Bool) → stands_inside t (Num a b r) ≡ false
unfolding stands_inside
inside_num t a b r = para_num Bool (inside_step t) a b r

pub inside_fresh : (t : Term) (k : ℕ) (s : Sort) → stands_inside t (Fresh k s) ≡ false
unfolding stands_inside
inside_fresh t k s = para_fresh Bool (inside_step t) k s

pub inside_apply : (t : Term) (h : Head) (ss : List Sort) (us : List Term) → stands_inside t (Apply h ss us) ≡ list_any (λ u. is_term u t || stands_inside t u) us
unfolding stands_inside
inside_apply t h ss us = para_apply Bool (inside_step t) h ss us ∙ any_map (λ (u : Term × Bool). is_term u.0 t || u.1) (λ u. (u, stands_inside t u)) us

pub ruleset inside_rules = (inside_bound, inside_num, inside_fresh, inside_apply)
