-- Decisions as truth values.
use Rattle.std.specs.Prelude.{true, List, [], ◌∷◌, ◌++◌, ◌≡◌}
use Rattle.std.specs.List.{AllByRecursion}
use mathlib.Core.Path.{refl}
use Rattle.ae_base.specs.Decided.{decided}
use Rattle.ae_core.specs.Decided.{Head_discrete, Sort_discrete, Sorts_discrete}
use Rattle.ae_core.specs.Sorts.{same_sort, same_sorts}
use Rattle.ae_core.specs.declared.terms.Sort.{Sort}
use Rattle.ae_core.specs.declared.terms.Head.{Head}
use Rattle.ae_base.proofs.Decided.{decided_of, decided_yes}

pub same_head : (a b : Head) → decided (Head_discrete a b) ≡ true → a ≡ b
same_head a b e = decided_yes (Head_discrete a b) e

pub same_one : (a b : Sort) → same_sort a b ≡ true → a ≡ b
same_one a b e = decided_yes (Sort_discrete a b) e

pub same_list : (xs ys : List Sort) → same_sorts xs ys ≡ true → xs ≡ ys
same_list xs ys e = decided_yes (Sorts_discrete xs ys) e

pub yes_sort : (s : Sort) → same_sort s s ≡ true
yes_sort s = decided_of (Sort_discrete s s) refl

pub yes_sorts : (ss : List Sort) → same_sorts ss ss ≡ true
yes_sorts ss = decided_of (Sorts_discrete ss ss) refl

-- what holds of all elements of two lists, one after the other
pub both_all : {A : Type 0} (P : A → Type 0) (xs ys : List A) → AllByRecursion P (xs ++ ys) → AllByRecursion P xs × AllByRecursion P ys
both_all P [] ys a = (tt, a)
both_all P (x ∷ xs) ys a = let r = both_all P xs ys a.1 in ((a.0, r.0), r.1)
