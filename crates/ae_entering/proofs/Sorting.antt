-- The sorts of numerals, of linear operations and of their operands.
use Rattle.std.specs.Prelude.{ℕ, ℤ, Bool, true, false, ◌&&◌, cond, List, [], ◌∷◌, ◌≡◌, map, slice_get, Some}
use Rattle.std.specs.List.{AllByRecursion}
use Rattle.std.proofs.Common.{refl, sym, ap, ◌∙◌, subst, inl, inr}
use Rattle.std.proofs.lemmas.Bool.{and_parts}
use Rattle.std.proofs.lemmas.Option.{none-some}
use Rattle.ae_base.proofs.ListFacts.{cons_head, cons_tail}
use Rattle.ae_base.proofs.Options.{known_each, when_some}
use Rattle.ae_base.proofs.Tests.{false_true, three_parts}
use Rattle.ae_math.specs.Forms.{Form}
use Rattle.ae_core.specs.Sorts.{sort_of, is_closed_sort, is_numeric, applied_ok, same_sorts, operands, on_real, numeral_ok}
use Rattle.ae_core.specs.declared.terms.Sort.{Sort, Int, Real}
use Rattle.ae_core.specs.declared.terms.Op.{Op}
use Rattle.ae_core.specs.declared.terms.Op.TheVariants as op
use Rattle.ae_core.specs.declared.terms.Term.{Term, Num, Apply}
use Rattle.ae_core.specs.declared.terms.Term.TheVariants.{outs-Apply, outs-Num}
use Rattle.ae_core.specs.declared.terms.Head.{Head}
use Rattle.ae_core.specs.declared.terms.Head.TheVariants as head
use Rattle.ae_core.specs.declared.problems.Signature.{Signature}
use Rattle.ae_core.proofs.SortLaws.{sort_in_num}
use Rattle.ae_evaluation.proofs.Decisions.{same_list}
use Rattle.ae_evaluation.proofs.SortFacts.{is_applied, of_numeric}
use Rattle.ae_store.specs.declared.nodes.Node.{Node}
use Rattle.ae_store.specs.Shapes.{shapes}
use Rattle.ae_store.specs.Terms.{terms, node_sort, IsOfSort}
use Rattle.ae_store.specs.Stores.{IsStore}
use Rattle.ae_store.proofs.SortedLaws.{number_of, applied_of, term_enterable_at}
use Rattle.ae_settled.specs.Valued.{linear_form}

-- ---- operands
-- an application on numbers: its sort is that of its operands, and no sorts are put
pub record IsOnNumbers (sig : Signature) (s : Sort) (ss : List Sort) (us : List Term) : Type 0 where
  pub numeric : is_numeric s ≡ true
  pub none : ss ≡ []
  pub each : AllByRecursion (λ u. sort_of sig u ≡ Some s) us

all_operands : (o : Op) (s : Sort) → AllByRecursion (λ r. r ≡ s) (operands o (s ∷ []))
all_operands op.Neg s = (refl, tt)
all_operands op.Add s = (refl, (refl, tt))
all_operands op.Sub s = (refl, (refl, tt))
all_operands op.Mul s = (refl, (refl, tt))
all_operands op.Div s = (refl, (refl, tt))
all_operands op.Mod s = (refl, (refl, tt))

each_sort : (sig : Signature) (us : List Term) (args : List Sort) (o : Sort) → map (sort_of sig) us ≡ map Some args → AllByRecursion (λ r. r ≡ o) args → AllByRecursion (λ u. sort_of sig u ≡ Some o) us
each_sort sig [] args o e a = tt
each_sort sig (u ∷ us) [] o e a = absurd (cc e)
each_sort sig (u ∷ us) (r ∷ rs) o e a =
    (cons_head (sort_of sig u) (Some r) (map (sort_of sig) us) (map Some rs) e ∙ ap (λ (s : Sort). Some s) a.0, each_sort sig us rs o (cons_tail (sort_of sig u) (Some r) (map (sort_of sig) us) (map Some rs) e) a.1)

pub int_operands : (sig : Signature) (o : Op) (ss : List Sort) (us : List Term) (s : Sort) → sort_of sig (Apply (head.Int o) ss us) ≡ Some s → IsOnNumbers sig s ss us
int_operands sig o ss us s e =
    let a = is_applied sig (head.Int o) ss us s e in
    let w = when_some (same_sorts ss [] && same_sorts a.args (operands o (Int ∷ []))) Int s a.headed in
    let b = and_parts (same_sorts ss []) (same_sorts a.args (operands o (Int ∷ []))) w.0 in
    let args : a.args ≡ operands o (Int ∷ []) = same_list a.args (operands o (Int ∷ [])) b.1 in
    record {
      numeric = ap is_numeric (sym w.1) ∙ of_numeric Int (inl refl);
      none = same_list ss [] b.0;
      each = subst (λ r. AllByRecursion (λ u. sort_of sig u ≡ Some r) us) w.1
          (each_sort sig us a.args Int (known_each (sort_of sig) us a.args a.known) (subst (AllByRecursion (λ r. r ≡ Int)) (sym args) (all_operands o Int)));
    }

pub real_operands : (sig : Signature) (o : Op) (ss : List Sort) (us : List Term) (s : Sort) → sort_of sig (Apply (head.Real o) ss us) ≡ Some s → IsOnNumbers sig s ss us
real_operands sig o ss us s e =
    let a = is_applied sig (head.Real o) ss us s e in
    let w = when_some (on_real o && same_sorts ss [] && same_sorts a.args (operands o (Real ∷ []))) Real s a.headed in
    let d = three_parts (on_real o) (same_sorts ss []) (same_sorts a.args (operands o (Real ∷ []))) w.0 in
    let args : a.args ≡ operands o (Real ∷ []) = same_list a.args (operands o (Real ∷ [])) d.2 in
    record {
      numeric = ap is_numeric (sym w.1) ∙ of_numeric Real (inr refl);
      none = same_list ss [] d.1;
      each = subst (λ r. AllByRecursion (λ u. sort_of sig u ≡ Some r) us) w.1
          (each_sort sig us a.args Real (known_each (sort_of sig) us a.args a.known) (subst (AllByRecursion (λ r. r ≡ Real)) (sym args) (all_operands o Real)));
    }

-- the sort of an operation on numbers
pub int_sort : (sig : Signature) (o : Op) (ss : List Sort) (us : List Term) (s : Sort) → sort_of sig (Apply (head.Int o) ss us) ≡ Some s → Int ≡ s
int_sort sig o ss us s e = let a = is_applied sig (head.Int o) ss us s e in (when_some (same_sorts ss [] && same_sorts a.args (operands o (Int ∷ []))) Int s a.headed).1

pub real_sort : (sig : Signature) (o : Op) (ss : List Sort) (us : List Term) (s : Sort) → sort_of sig (Apply (head.Real o) ss us) ≡ Some s → Real ≡ s
real_sort sig o ss us s e = let a = is_applied sig (head.Real o) ss us s e in (when_some (on_real o && same_sorts ss [] && same_sorts a.args (operands o (Real ∷ []))) Real s a.headed).1

pub operands_of : (sig : Signature) (h : Head) (ss : List Sort) (us : List Term) (s : Sort) → sort_of sig (Apply h ss us) ≡ Some s → (xs : List (Term × Form ℕ)) (g : Form ℕ) → linear_form h xs ≡ Some g → IsOnNumbers sig s ss us
operands_of sig (head.Int o) ss us s e xs g l = int_operands sig o ss us s e
operands_of sig (head.Real o) ss us s e xs g l = real_operands sig o ss us s e
operands_of sig (head.Symbol n) ss us s e xs g l = absurd (none-some g l)
operands_of sig (head.Build n) ss us s e xs g l = absurd (none-some g l)
operands_of sig (head.Field n k) ss us s e xs g l = absurd (none-some g l)
operands_of sig head.True ss us s e xs g l = absurd (none-some g l)
operands_of sig head.False ss us s e xs g l = absurd (none-some g l)
operands_of sig head.Void ss us s e xs g l = absurd (none-some g l)

-- ---- names of numerals and of operations
module _ (sig : Signature) (nodes : List Node) (store : IsStore sig nodes) where
  abbrev ts : List Term
  ts = terms (shapes nodes)

  pub numeral_sorted : (n : ℕ) (a b : ℤ) (real : Bool) → slice_get ts n ≡ Some (Num a b real) → sort_of sig (Num a b real) ≡ Some (cond real Real Int)
  numeral_sorted n a b real e = by_sort (number_of sig a b real (term_enterable_at sig nodes n (Num a b real) store.sound e))
    where
      by_sort : IsOfSort sig (Num a b real) (cond real Real Int) → sort_of sig (Num a b real) ≡ Some (cond real Real Int)
      by_sort (inl h) = h
      by_sort (inr h) = false_true (sym (ap (applied_ok sig (is_closed_sort sig) []) (outs-Num a b real)) ∙ h.0)

  pub numeral_right : (n : ℕ) (a b : ℤ) (real : Bool) → slice_get ts n ≡ Some (Num a b real) → numeral_ok a b real ≡ true
  numeral_right n a b real e = (when_some (numeral_ok a b real) (cond real Real Int) (cond real Real Int) (sym (sort_in_num sig (is_closed_sort sig) [] a b real) ∙ numeral_sorted n a b real e)).0

  numeric_of : (real : Bool) → is_numeric (cond real Real Int) ≡ true
  numeric_of true = of_numeric Real (inr refl)
  numeric_of false = of_numeric Int (inl refl)

  pub numeral_numeric : (real : Bool) → is_numeric (cond real Real Int) ≡ true
  numeral_numeric real = numeric_of real

  -- a linear operation has a sort
  pub operation_sorted : (n : ℕ) (h : Head) (ss : List Sort) (us : List Term) → slice_get ts n ≡ Some (Apply h ss us) → (xs : List (Term × Form ℕ)) (g : Form ℕ) → linear_form h xs ≡ Some g
      → (s : Sort) × (sort_of sig (Apply h ss us) ≡ Some s)
  operation_sorted n h ss us e xs g l = by_sort h l (applied_of sig h ss us (term_enterable_at sig nodes n (Apply h ss us) store.sound e))
    where
      by_sort : (h : Head) → linear_form h xs ≡ Some g → IsOfSort sig (Apply h ss us) (node_sort sig h ss) → (s : Sort) × (sort_of sig (Apply h ss us) ≡ Some s)
      by_sort h l (inl k) = (node_sort sig h ss, k)
      by_sort (head.Symbol j) l (inr k) = absurd (none-some g l)
      by_sort (head.Build j) l (inr k) = false_true (sym (ap (applied_ok sig (is_closed_sort sig) []) (outs-Apply (head.Build j) ss us)) ∙ k.0)
      by_sort (head.Field j i) l (inr k) = false_true (sym (ap (applied_ok sig (is_closed_sort sig) []) (outs-Apply (head.Field j i) ss us)) ∙ k.0)
      by_sort (head.Int o) l (inr k) = false_true (sym (ap (applied_ok sig (is_closed_sort sig) []) (outs-Apply (head.Int o) ss us)) ∙ k.0)
      by_sort (head.Real o) l (inr k) = false_true (sym (ap (applied_ok sig (is_closed_sort sig) []) (outs-Apply (head.Real o) ss us)) ∙ k.0)
      by_sort head.True l (inr k) = false_true (sym (ap (applied_ok sig (is_closed_sort sig) []) (outs-Apply head.True ss us)) ∙ k.0)
      by_sort head.False l (inr k) = false_true (sym (ap (applied_ok sig (is_closed_sort sig) []) (outs-Apply head.False ss us)) ∙ k.0)
      by_sort head.Void l (inr k) = false_true (sym (ap (applied_ok sig (is_closed_sort sig) []) (outs-Apply head.Void ss us)) ∙ k.0)
