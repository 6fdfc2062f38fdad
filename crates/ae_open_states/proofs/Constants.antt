-- Constants in a row have the sorts of a closed block's variables.
use Rattle.std.specs.Prelude.{ℕ, suc, Bool, true, false, List, [], ◌∷◌, ◌≡◌, map, Option, Some}
use Rattle.std.specs.List.{list_all}
use Rattle.std.proofs.Common.{refl, sym, ap, ◌∙◌}
use Rattle.std.proofs.lemmas.Bool.{and_parts}
use Rattle.ae_base.specs.Options.{all_known, or_else, when, ◌>>=◌}
use Rattle.ae_base.proofs.Decided.{decided_of}
use Rattle.ae_core.specs.Decided.{Sorts_discrete}
use Rattle.ae_core.specs.Sorts.{sort_of, is_closed_sort, formula_ok, same_sorts}
use Rattle.ae_core.specs.declared.terms.Sort.{Sort}
use Rattle.ae_core.specs.declared.terms.Term.{Fresh}
use Rattle.ae_core.specs.declared.formulas.Formula.{All}
use Rattle.ae_core.specs.declared.formulas.Quant.{Quant}
use Rattle.ae_core.specs.declared.problems.Signature.{Signature}
use Rattle.ae_core.proofs.SortLaws.{sort_in_fresh, formula_in_all}
use Rattle.ae_core.proofs.SortFacts.{block_parts}
use Rattle.ae_rules.specs.Instances.{count_from, have_sorts}

constants_sorted : (sig : Signature) (m : ℕ) (ss : List Sort) → list_all (is_closed_sort sig) ss ≡ true → all_known (map (sort_of sig) (count_from m ss)) ≡ Some ss
constants_sorted sig m [] c = refl
constants_sorted sig m (s ∷ ss) c =
    let q = and_parts (is_closed_sort sig s) (list_all (is_closed_sort sig) ss) c in
    let one : sort_of sig (Fresh m s) ≡ Some s = sort_in_fresh sig (is_closed_sort sig) [] m s ∙ ap (λ (b : Bool). when b s) q.0 in
    let rest = constants_sorted sig (suc m) ss q.1 in
    λ i. (one i) >>= λ x. (rest i) >>= λ xs. Some (x ∷ xs)

pub constants_fit : (sig : Signature) (m : ℕ) (q : Quant) → formula_ok sig (All q) ≡ true → have_sorts sig (count_from m q.sorts) q.sorts ≡ true
constants_fit sig m q e =
    let closed = (block_parts sig q (sym (formula_in_all sig (is_closed_sort sig) [] q) ∙ e)).0 in
    ap (λ (o : Option (List Sort)). or_else (o >>= λ os. Some (same_sorts os q.sorts)) false) (constants_sorted sig m q.sorts closed) ∙ decided_of (Sorts_discrete q.sorts q.sorts) refl
