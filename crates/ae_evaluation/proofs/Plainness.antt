-- What a plain, well-sorted application says of its arguments.
use Rattle.std.specs.Prelude.{Bool, true, false, ◌&&◌, List, [], ◌∷◌, ◌≡◌, map, Option, Some, None}
use Rattle.std.specs.List.{list_all}
use Rattle.std.proofs.lemmas.Bool.{or_cases, and_parts}
use mathlib.Core.Path.{refl, sym, ap, ◌∙◌}
use Rattle.ae_rules.specs.Linear.{form, is_number, is_plain, plain_here, plain_step, is_numeral}
use Rattle.ae_core.specs.Sorts.{sort_of, same_sorts, is_closed_sort, head_sort}
use Rattle.ae_base.specs.Options.{all_known, only, when, ◌>>=◌}
use Rattle.ae_core.specs.declared.terms.Sort.{Sort, Int, Real}
use Rattle.ae_core.specs.declared.terms.Term.{Term, Bound, Num, Fresh, Apply, Apply', para-roll-Term}
use Rattle.ae_core.specs.declared.terms.Term.TheOpen as layer
use Rattle.ae_core.specs.declared.terms.Term.TheVariants.{rolls-Apply}
use Rattle.ae_core.specs.declared.terms.Head.{Head}
use Rattle.ae_core.specs.declared.terms.Head.TheVariants as head
use Rattle.ae_core.specs.declared.terms.Op.TheVariants as op
use Rattle.ae_core.specs.declared.problems.Signature.{Signature}
use Rattle.ae_evaluation.proofs.Linear.{firsts}
use Rattle.ae_core.proofs.SortLaws.{sort_in_apply}
use Rattle.ae_evaluation.proofs.Decisions.{same_list}
use Rattle.ae_evaluation.proofs.Congruence.{IsNumeral, IsPlainNode}

pairs_all : (f : Term → Bool) (ts : List Term) → list_all {X = Term × Bool} (λ a. a.1) (map (λ t. (t, f t)) ts) ≡ list_all f ts
pairs_all f [] = refl
pairs_all f (t ∷ ts) = ap (λ b. f t && b) (pairs_all f ts)

pub plain-Apply : (h : Head) (ss : List Sort) (ts : List Term) → is_plain (Apply h ss ts) ≡ plain_here h ts && list_all is_plain ts
unfolding is_plain
plain-Apply h ss ts =
    ap is_plain (sym (rolls-Apply h ss ts)) ∙ para-roll-Term Bool plain_step (layer.Apply h ss ts) ∙
    (λ i. plain_here h (firsts is_plain ts i) && pairs_all is_plain ts i)

numeral_of : (t : Term) → is_numeral t ≡ true → IsNumeral t
numeral_of (Bound n) e = absurd (cc)
numeral_of (Num a b r) e = (a, b, r, refl)
numeral_of (Fresh n s) e = absurd (cc)
numeral_of (Apply' h ss shape row) e = absurd (cc)

pub plain_node : (h : Head) (ts : List Term) → plain_here h ts ≡ true → IsPlainNode h ts
plain_node (head.Symbol n) ts e = tt
plain_node (head.Build n) ts e = tt
plain_node (head.Field n i) ts e = tt
plain_node head.True ts e = tt
plain_node head.False ts e = tt
plain_node head.Void ts e = tt
plain_node (head.Int op.Add) ts e = tt
plain_node (head.Int op.Sub) ts e = tt
plain_node (head.Int op.Neg) ts e = tt
plain_node (head.Int op.Mul) [] e = tt
plain_node (head.Int op.Mul) (a ∷ []) e = tt
plain_node (head.Int op.Mul) (a ∷ b ∷ []) e = or_cases (is_number (form a)) (is_number (form b)) e
plain_node (head.Int op.Mul) (a ∷ b ∷ c ∷ ts) e = tt
plain_node (head.Int op.Div) ts e = tt
plain_node (head.Int op.Mod) ts e = tt
plain_node (head.Real op.Add) ts e = tt
plain_node (head.Real op.Sub) ts e = tt
plain_node (head.Real op.Neg) ts e = tt
plain_node (head.Real op.Mul) [] e = tt
plain_node (head.Real op.Mul) (a ∷ []) e = tt
plain_node (head.Real op.Mul) (a ∷ b ∷ []) e = or_cases (is_number (form a)) (is_number (form b)) e
plain_node (head.Real op.Mul) (a ∷ b ∷ c ∷ ts) e = tt
plain_node (head.Real op.Div) [] e = tt
plain_node (head.Real op.Div) (a ∷ []) e = tt
plain_node (head.Real op.Div) (a ∷ b ∷ []) e = numeral_of b e
plain_node (head.Real op.Div) (a ∷ b ∷ c ∷ ts) e = tt
plain_node (head.Real op.Mod) ts e = tt

pub sort-Apply : (sig : Signature) (h : Head) (ss : List Sort) (ts : List Term)
    → sort_of sig (Apply h ss ts) ≡ (only (list_all (is_closed_sort sig) ss) (all_known (map (sort_of sig) ts)) >>= head_sort sig h ss)
sort-Apply sig h ss ts = sort_in_apply sig (is_closed_sort sig) [] h ss ts

-- two arguments of one known sort
two_known : (c z : Bool) (A B : Option Sort) (o r s : Sort)
    → (only c (all_known (A ∷ B ∷ [])) >>= λ args. when (z && same_sorts args (o ∷ o ∷ [])) r) ≡ Some s → (A ≡ Some o) × (B ≡ Some o)
two_known false z A B o r s e = absurd (cc)
two_known true z None B o r s e = absurd (cc)
two_known true z (Some a) None o r s e = absurd (cc)
two_known true z (Some a) (Some b) o r s e = go (z && same_sorts (a ∷ b ∷ []) (o ∷ o ∷ [])) refl e
  where
    go : (w : Bool) → w ≡ z && same_sorts (a ∷ b ∷ []) (o ∷ o ∷ []) → when w r ≡ Some s
        → (◌≡◌ {A = Option Sort} (Some a) (Some o)) × (◌≡◌ {A = Option Sort} (Some b) (Some o))
    go true p e =
        let q = and_parts z (same_sorts (a ∷ b ∷ []) (o ∷ o ∷ [])) (sym p) in
        let u : a ∷ b ∷ [] ≡ o ∷ o ∷ [] = same_list (a ∷ b ∷ []) (o ∷ o ∷ []) q.1 in
        let v : a ≡ o = cc in
        let w : b ≡ o = cc in
        (ap Some v, ap Some w)
    go false p e = absurd (cc)

pub factors_int : (sig : Signature) (ss : List Sort) (a b : Term) (s : Sort)
    → sort_of sig (Apply (head.Int op.Mul) ss (a ∷ b ∷ [])) ≡ Some s → (sort_of sig a ≡ Some Int) × (sort_of sig b ≡ Some Int)
factors_int sig ss a b s e =
    two_known (list_all (is_closed_sort sig) ss) (same_sorts ss []) (sort_of sig a) (sort_of sig b) Int Int s
    (sym (sort-Apply sig (head.Int op.Mul) ss (a ∷ b ∷ [])) ∙ e)

pub factors_real : (sig : Signature) (ss : List Sort) (a b : Term) (s : Sort)
    → sort_of sig (Apply (head.Real op.Mul) ss (a ∷ b ∷ [])) ≡ Some s → (sort_of sig a ≡ Some Real) × (sort_of sig b ≡ Some Real)
factors_real sig ss a b s e =
    two_known (list_all (is_closed_sort sig) ss) (same_sorts ss []) (sort_of sig a) (sort_of sig b) Real Real s
    (sym (sort-Apply sig (head.Real op.Mul) ss (a ∷ b ∷ [])) ∙ e)
