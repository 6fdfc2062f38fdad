-- Multisets of names as terms: their sorts, their flattened arguments, and the steps between them.
use Rattle.std.specs.Prelude.{ℕ, ◌<◌, ◌≤◌, ◌≡◌, List, [], ◌∷◌, ◌++◌, map, length, Some}
use Rattle.std.specs.List.{AllByRecursion, flat_map}
use Rattle.std.proofs.Common.{refl, sym, ap, ◌∙◌, subst, arith, append_assoc}
use Rattle.std.proofs.lemmas.List.{append-nil}
use Rattle.ae_base.specs.Decided.{pick}
use Rattle.ae_base.specs.Options.{◌>>=◌, all_known}
use Rattle.ae_base.proofs.Decided.{pick_yes}
use Rattle.ae_base.proofs.AllOf.{all_front, all_back}
use Rattle.std.specs.List.Sorted.{IsPermutation}
use Rattle.ae_core.specs.Decided.{Head_discrete, Sorts_discrete}
use Rattle.ae_core.specs.Sorts.{sort_of}
use Rattle.ae_core.proofs.ClosedSorts.{applied_from}
use Rattle.ae_core.specs.declared.terms.Sort.{Sort}
use Rattle.ae_core.specs.declared.terms.Head.{Head}
use Rattle.ae_core.specs.declared.terms.Term.{Term, Apply}
use Rattle.ae_core.specs.declared.problems.Signature.{Signature}
use Rattle.ae_core.specs.declared.problems.AcSymbol.{AcSymbol}
use Rattle.ae_multiset.proofs.Counts.{length_same}
use Rattle.ae_rules.specs.Lines.{flat}
use Rattle.ae_rules.proofs.FlatLaws.{flat_apply}
use Rattle.ae_store.specs.Terms.{named}
use Rattle.ae_just.specs.declared.steps.Side.TheVariants as side
use Rattle.ae_just.specs.Sides.{joined, many_from, many_of}
use Rattle.ae_state_steps.specs.ManySteps.{IsSymbolOn, IsOfSort, NameStep, ExtendStep, OrderStep}
use Rattle.ae_state_steps.proofs.Stated.{stated_by, one_sort}
use Rattle.ae_state_steps.proofs.Orders.{same_orders}

-- ---- sorts
two_known : (sig : Signature) (a b : Term) (s : Sort) → sort_of sig a ≡ Some s → sort_of sig b ≡ Some s → all_known (map (sort_of sig) (a ∷ b ∷ [])) ≡ Some (s ∷ s ∷ [])
two_known sig a b s e f = λ i. e i >>= λ x. (f i >>= λ y. Some (y ∷ [])) >>= λ xs. Some (x ∷ xs)

joined_sorted : (sig : Signature) (u : AcSymbol) (s : Sort) (a b : Term) → IsSymbolOn sig u s → sort_of sig a ≡ Some s → sort_of sig b ≡ Some s → sort_of sig (joined u.head u.sorts a b) ≡ Some s
joined_sorted sig u s a b on e f = applied_from sig u.head u.sorts (a ∷ b ∷ []) s (record { closed = on.closed; args = s ∷ s ∷ []; are = two_known sig a b s e f; is = on.headed })

from_sorted : (sig : Signature) (ts : List Term) (u : AcSymbol) (s : Sort) (t : Term) (ns : List ℕ) → IsSymbolOn sig u s → sort_of sig t ≡ Some s → AllByRecursion (IsOfSort sig ts s) ns → sort_of sig (many_from u.head u.sorts ts t ns) ≡ Some s
from_sorted sig ts u s t [] on e a = e
from_sorted sig ts u s t (n ∷ ns) on e a = from_sorted sig ts u s (joined u.head u.sorts t (named ts n)) ns on (joined_sorted sig u s t (named ts n) on e a.0) a.1

many_sorted : (sig : Signature) (ts : List Term) (u : AcSymbol) (s : Sort) (ns : List ℕ) → IsSymbolOn sig u s → 0 < length ns → AllByRecursion (IsOfSort sig ts s) ns → sort_of sig (many_of u.head u.sorts ts ns) ≡ Some s
many_sorted sig ts u s [] on l a = absurd (omega (arith, l))
many_sorted sig ts u s (n ∷ ns) on l a = from_sorted sig ts u s (named ts n) ns on a.0 a.1

-- ---- one more name
from_more : (h : Head) (ss : List Sort) (ts : List Term) (t : Term) (ns : List ℕ) (n : ℕ) → many_from h ss ts t (ns ++ n ∷ []) ≡ joined h ss (many_from h ss ts t ns) (named ts n)
from_more h ss ts t [] n = refl
from_more h ss ts t (m ∷ ns) n = from_more h ss ts (joined h ss t (named ts m)) ns n

many_more : (h : Head) (ss : List Sort) (ts : List Term) (ns : List ℕ) (n : ℕ) → 0 < length ns → many_of h ss ts (ns ++ n ∷ []) ≡ joined h ss (many_of h ss ts ns) (named ts n)
many_more h ss ts [] n l = absurd (omega (arith, l))
many_more h ss ts (m ∷ ns) n l = from_more h ss ts (named ts m) ns n

-- ---- flattened arguments
flat_joined : (h : Head) (ss : List Sort) (a b : Term) → flat h ss (joined h ss a b) ≡ flat h ss a ++ flat h ss b
flat_joined h ss a b =
    flat_apply h ss h ss (a ∷ b ∷ [])
    ∙ pick_yes (Head_discrete h h) (pick (Sorts_discrete ss ss) (flat h ss a ++ flat h ss b) (Apply h ss (a ∷ b ∷ []) ∷ [])) (Apply h ss (a ∷ b ∷ []) ∷ []) refl
    ∙ pick_yes (Sorts_discrete ss ss) (flat h ss a ++ flat h ss b) (Apply h ss (a ∷ b ∷ []) ∷ []) refl

flat_from : (h : Head) (ss : List Sort) (ts : List Term) (t : Term) (ns : List ℕ) → flat h ss (many_from h ss ts t ns) ≡ flat h ss t ++ flat_map (λ n. flat h ss (named ts n)) ns
flat_from h ss ts t [] = sym (append-nil (flat h ss t))
flat_from h ss ts t (n ∷ ns) =
    flat_from h ss ts (joined h ss t (named ts n)) ns ∙ ap (λ l. l ++ flat_map (λ n. flat h ss (named ts n)) ns) (flat_joined h ss t (named ts n))
    ∙ append_assoc (flat h ss t) (flat h ss (named ts n)) (flat_map (λ n. flat h ss (named ts n)) ns)

flat_many : (h : Head) (ss : List Sort) (ts : List Term) (ns : List ℕ) → 0 < length ns → flat h ss (many_of h ss ts ns) ≡ flat_map (λ n. flat h ss (named ts n)) ns
flat_many h ss ts [] l = absurd (omega (arith, l))
flat_many h ss ts (n ∷ ns) l = flat_from h ss ts (named ts n) ns

-- two names or more are an application of the symbol
record IsJoin (h : Head) (ss : List Sort) (t : Term) : Type 0 where
  pub first : Term
  pub second : Term
  pub is : t ≡ Apply h ss (first ∷ second ∷ [])

from_join : (h : Head) (ss : List Sort) (ts : List Term) (a b : Term) (ns : List ℕ) → IsJoin h ss (many_from h ss ts (joined h ss a b) ns)
from_join h ss ts a b [] = record { first = a; second = b; is = refl }
from_join h ss ts a b (n ∷ ns) = from_join h ss ts (joined h ss a b) (named ts n) ns

many_join : (h : Head) (ss : List Sort) (ts : List Term) (ns : List ℕ) → 2 ≤ length ns → IsJoin h ss (many_of h ss ts ns)
many_join h ss ts [] l = absurd (omega (arith, l))
many_join h ss ts (n ∷ []) l = absurd (omega (arith, l))
many_join h ss ts (n ∷ m ∷ ns) l = from_join h ss ts (named ts n) (named ts m) ns

-- ---- the steps
pub name_step : NameStep
name_step sig ts steps u s a b n o e =
    record { sorted = one_sort s (sort_of sig (joined u.head u.sorts (named ts a) (named ts b))) (sort_of sig (named ts n)) (ap (sort_of sig) (sym e) ∙ o) o; allowed = sym e }

pub extend_step : ExtendStep
extend_step sig ts steps u s xs ys x y id ix on ax ay lx ly many names =
    let l : sort_of sig (many_of u.head u.sorts ts (xs ++ x ∷ [])) ≡ Some s =
    ap (sort_of sig) (many_more u.head u.sorts ts xs x lx)
    ∙ joined_sorted sig u s (many_of u.head u.sorts ts xs) (named ts x) on (many_sorted sig ts u s xs on lx (all_front (IsOfSort sig ts s) xs (x ∷ []) ax)) (all_back (IsOfSort sig ts s) xs (x ∷ []) ax).0 in
    let r : sort_of sig (many_of u.head u.sorts ts (ys ++ y ∷ [])) ≡ Some s =
    ap (sort_of sig) (many_more u.head u.sorts ts ys y ly)
    ∙ joined_sorted sig u s (many_of u.head u.sorts ts ys) (named ts y) on (many_sorted sig ts u s ys on ly (all_front (IsOfSort sig ts s) ys (y ∷ []) ay)) (all_back (IsOfSort sig ts s) ys (y ∷ []) ay).0 in
    record {
      sorted = one_sort s (sort_of sig (many_of u.head u.sorts ts (xs ++ x ∷ []))) (sort_of sig (many_of u.head u.sorts ts (ys ++ y ∷ []))) l r;
      allowed = (
        u.head,
        u.sorts,
        many_of u.head u.sorts ts xs ∷ named ts x ∷ [],
        many_of u.head u.sorts ts ys ∷ named ts y ∷ [],
        many_more u.head u.sorts ts xs x lx,
        many_more u.head u.sorts ts ys y ly,
        (
          stated_by ts steps id (record { left = side.Many u xs; right = side.Many u ys; rule = many.by }) many.there,
          (stated_by ts steps ix (record { left = side.Name x; right = side.Name y; rule = names.by }) names.there, tt),
        ),
      );
    }

pub order_step : OrderStep
order_step sig ts steps u s xs ys on ax ay same two =
    let two_ys : 2 ≤ length ys = subst (λ (n : ℕ). 2 ≤ n) (length_same xs ys same) two in
    let a = many_join u.head u.sorts ts xs two in
    let b = many_join u.head u.sorts ts ys two_ys in
    let orders : IsPermutation (flat u.head u.sorts (many_of u.head u.sorts ts xs)) (flat u.head u.sorts (many_of u.head u.sorts ts ys)) =
    subst (λ l. IsPermutation l (flat u.head u.sorts (many_of u.head u.sorts ts ys))) (sym (flat_many u.head u.sorts ts xs (omega (arith, two))))
    (subst (λ r. IsPermutation (flat_map (λ n. flat u.head u.sorts (named ts n)) xs) r) (sym (flat_many u.head u.sorts ts ys (omega (arith, two_ys)))) (same_orders (λ n. flat u.head u.sorts (named ts n)) xs ys same)) in
    record {
      sorted = one_sort s (sort_of sig (many_of u.head u.sorts ts xs)) (sort_of sig (many_of u.head u.sorts ts ys)) (many_sorted sig ts u s xs on (omega (arith, two)) ax) (many_sorted sig ts u s ys on (omega (arith, two_ys)) ay);
      allowed = (u.head, u.sorts, on.ac, a.first ∷ a.second ∷ [], b.first ∷ b.second ∷ [], a.is, b.is, orders);
    }
