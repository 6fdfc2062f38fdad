-- Arguments of a well-sorted term are well sorted, and its shape stands for it.
use Rattle.std.specs.Prelude.{ℕ, zero, suc, ◌<◌, Bool, true, false, ◌||◌, List, [], ◌∷◌, ◌≡◌, map, length, get_or, slice_get, Option, Some, None}
use Rattle.std.proofs.Common.{refl, sym, ap, ◌∙◌}
use Rattle.std.proofs.lemmas.Option.{slice_get_read}
use Rattle.std.specs.List.{list_all}
use Rattle.ae_base.specs.Options.{known, all_known, only, ◌>>=◌}
use Rattle.ae_core.specs.Sorts.{sort_of, is_closed_sort, head_sort, applied_ok, predicate_ok}
use Rattle.ae_core.specs.declared.terms.Sort.{Sort}
use Rattle.ae_core.specs.declared.terms.Head.{Head}
use Rattle.ae_core.specs.declared.terms.Head.TheVariants as head
use Rattle.ae_core.specs.declared.terms.Term.{Term, Bound, Apply, out-Term}
use Rattle.ae_core.specs.declared.terms.Term.TheOpen as layer
use Rattle.ae_core.specs.declared.terms.Term.TheVariants.{outs-Bound, outs-Apply}
use Rattle.ae_core.specs.declared.problems.Signature.{Signature}
use Rattle.ae_core.proofs.SortLaws.{sort_in_bound, sort_in_apply}
use Rattle.ae_store.specs.declared.nodes.Node.{Node}
use Rattle.ae_store.specs.Shapes.{shapes}
use Rattle.ae_store.specs.Terms.{terms, term_of, applied, IsShapeAt}
use Rattle.ae_store.specs.Names.{AreNames, AreTerms, enterable}

head_known : {B : Type 0} (o : Option B) (p : Option (List B)) (xs : List B) → (o >>= λ x. p >>= λ ys. Some (x ∷ ys)) ≡ Some xs → (known o ≡ true) × ((ys : List B) × (p ≡ Some ys))
head_known None p xs e = cc e
head_known (Some x) None xs e = cc e
head_known (Some x) (Some ys) xs e = (refl, (ys, refl))

each_known : {A B : Type 0} (f : A → Option B) (us : List A) (xs : List B) → all_known (map f us) ≡ Some xs → (i : ℕ) (u : A) → slice_get us i ≡ Some u → known (f u) ≡ true
each_known f [] xs e i u q = cc q
each_known f (u ∷ us) xs e zero v q =
    let q' : u ≡ v = cc q in
    ap (λ z. known (f z)) (sym q') ∙ (head_known (f u) (all_known (map f us)) xs e).0
each_known f (u ∷ us) xs e (suc i) v q =
    let r = (head_known (f u) (all_known (map f us)) xs e).1 in
    each_known f us r.0 r.1 i v q

pub no_variable : (sig : Signature) (n : ℕ) → enterable sig (Bound n) ≡ true → ⊥
no_variable sig n e =
    let may = is_closed_sort sig in
    let f : ◌≡◌ {A = Bool} false true = sym (λ i. known (sort_in_bound sig may [] n i) || applied_ok sig may [] (outs-Bound n i)) ∙ e in
    cc f

none_known : (sig : Signature) (h : Head) (ss : List Sort) (b : Bool) → known (only b None >>= head_sort sig h ss) ≡ false
none_known sig h ss true = refl
none_known sig h ss false = refl

none_applied : (sig : Signature) (h : Head) (ss : List Sort) (us : List Term) → all_known (map (sort_of sig) us) ≡ None → applied_ok sig (is_closed_sort sig) [] (layer.Apply h ss us) ≡ false
none_applied sig (head.Symbol p) ss us e = ap (predicate_ok sig (is_closed_sort sig) p ss) e
none_applied sig (head.Build n) ss us e = refl
none_applied sig (head.Field n place) ss us e = refl
none_applied sig (head.Int o) ss us e = refl
none_applied sig (head.Real o) ss us e = refl
none_applied sig head.True ss us e = refl
none_applied sig head.False ss us e = refl
none_applied sig head.Void ss us e = refl

args_by : (sig : Signature) (h : Head) (ss : List Sort) (us : List Term) (o : Option (List Sort)) → all_known (map (sort_of sig) us) ≡ o
    → (known (only (list_all (is_closed_sort sig) ss) (all_known (map (sort_of sig) us)) >>= head_sort sig h ss) || applied_ok sig (is_closed_sort sig) [] (layer.Apply h ss us)) ≡ true → AreTerms sig us
args_by sig h ss us (Some xs) g e = record { all = each_known (sort_of sig) us xs g }
args_by sig h ss us None g e =
    let b = list_all (is_closed_sort sig) ss in
    let p : known (only b (all_known (map (sort_of sig) us)) >>= head_sort sig h ss) ≡ false = ap (λ o. known (only b o >>= head_sort sig h ss)) g ∙ none_known sig h ss b in
    let q = none_applied sig h ss us g in
    let f : ◌≡◌ {A = Bool} false true = sym (λ i. p i || q i) ∙ e in
    cc f

pub args_known : (sig : Signature) (h : Head) (ss : List Sort) (us : List Term) → enterable sig (Apply h ss us) ≡ true → AreTerms sig us
args_known sig h ss us e =
    let may = is_closed_sort sig in
    args_by sig h ss us (all_known (map (sort_of sig) us)) refl (sym (λ i. known (sort_in_apply sig may [] h ss us i) || applied_ok sig may [] (outs-Apply h ss us i)) ∙ e)

pub term_enterable : (sig : Signature) (t : Term) → known (sort_of sig t) ≡ true → enterable sig t ≡ true
term_enterable sig t e = ap (λ b. b || applied_ok sig (is_closed_sort sig) [] (out-Term t)) e

pub applied_at : (sig : Signature) (ns : List Node) (h : Head) (ss : List Sort) (names : List ℕ) (us : List Term) → AreNames ns names us → IsShapeAt sig (length ns) (applied sig h ss names)
applied_at sig ns h ss names us a = record { args = a.within; alone = refl }

pub applied_term : (sig : Signature) (ns : List Node) (h : Head) (ss : List Sort) (names : List ℕ) (us : List Term) → AreNames ns names us → term_of (terms (shapes ns)) (applied sig h ss names) ≡ Apply h ss us
applied_term sig ns h ss names us a = ap (Apply h ss) a.terms

pub item_known : (sig : Signature) (ts : List Term) (i : ℕ) (t : Term) → AreTerms sig ts → i < length ts → t ≡ get_or ts i t → enterable sig t ≡ true
item_known sig ts i t a h e = term_enterable sig t (a.all i t (slice_get_read ts (length ts) i t refl h e))
