-- What is known of sorts that are the same, of numeric ones, and of the parts of a well-sorted block.
use Rattle.std.specs.Prelude.{true, false, List, [], ◌≡◌, Option, Some, None}
use Rattle.std.specs.List.{list_all}
use Rattle.std.proofs.Common.{refl, sym, ap, ◌∙◌, true≢false}
use Rattle.std.proofs.lemmas.Bool.{and_parts}
use Rattle.ae_base.specs.Options.{known, or_else, ◌>>=◌}
use Rattle.ae_base.specs.Decided.{decided}
use Rattle.ae_base.proofs.Tests.{three_parts}
use Rattle.ae_base.proofs.Decided.{decided_yes, decided_of}
use Rattle.ae_core.specs.Decided.{Sort_discrete, Sorts_discrete}
use Rattle.ae_core.specs.Sorts.{sort_of, same_known, same_numeric, is_numeric, same_sorts, is_closed_sort, quant_in, formula_in, trigger_ok}
use Rattle.ae_core.specs.declared.terms.Sort.{Sort}
use Rattle.ae_core.specs.declared.terms.Term.{Term}
use Rattle.ae_core.specs.declared.formulas.Quant.{Quant}
use Rattle.ae_core.specs.declared.problems.Signature.{Signature}
use Rattle.ae_core.proofs.SortLaws.{quant_in_block}

pub same_known_is : (a b : Option Sort) → same_known a b ≡ true → (known a ≡ true) × (a ≡ b)
same_known_is (Some s) (Some t) e = (refl, ap Some (decided_yes (Sort_discrete s t) e))
same_known_is (Some s) None e = absurd (true≢false (sym e))
same_known_is None b e = absurd (true≢false (sym e))

pub same_numeric_is : (a b : Option Sort) → same_numeric a b ≡ true → a ≡ b
same_numeric_is (Some s) (Some t) e = ap Some (decided_yes (Sort_discrete s t) (and_parts (decided (Sort_discrete s t)) (is_numeric s) e).0)
same_numeric_is (Some s) None e = absurd (true≢false (sym e))
same_numeric_is None b e = absurd (true≢false (sym e))

pub known_itself : (a : Option Sort) → known a ≡ true → same_known a a ≡ true
known_itself (Some s) k = decided_of (Sort_discrete s s) refl
known_itself None k = absurd (true≢false (sym k))

pub same_known_of : (a b : Option Sort) → known a ≡ true → a ≡ b → same_known a b ≡ true
same_known_of a b k e = ap (same_known a) (sym e) ∙ known_itself a k

pub numeric_turned : (sig : Signature) (s t : Term) → same_numeric (sort_of sig s) (sort_of sig t) ≡ true → same_numeric (sort_of sig t) (sort_of sig s) ≡ true
numeric_turned sig s t o =
    let e = same_numeric_is (sort_of sig s) (sort_of sig t) o in
    (λ i. same_numeric (sym e i) (e i)) ∙ o

pub numeric_known : (a b : Option Sort) → same_numeric a b ≡ true → same_known a b ≡ true
numeric_known (Some s) (Some t) e = (and_parts (decided (Sort_discrete s t)) (is_numeric s) e).0
numeric_known (Some s) None e = absurd (true≢false (sym e))
numeric_known None b e = absurd (true≢false (sym e))

pub sorts_known : (o : Option (List Sort)) (ss : List Sort) → or_else (o >>= λ os. Some (same_sorts os ss)) false ≡ true → o ≡ Some ss
sorts_known (Some os) ss e = ap Some (decided_yes (Sorts_discrete os ss) e)
sorts_known None ss e = absurd (true≢false (sym e))

-- the sorts of a closed well-sorted block, and its body
pub block_parts : (sig : Signature) (q : Quant) → quant_in sig (is_closed_sort sig) [] q ≡ true → (list_all (is_closed_sort sig) q.sorts ≡ true) × (formula_in sig (is_closed_sort sig) q.sorts q.body ≡ true)
block_parts sig q e =
    let may = is_closed_sort sig in
    let parts = three_parts (list_all may q.sorts) (list_all (list_all (trigger_ok sig may q.sorts)) q.triggers) (formula_in sig may q.sorts q.body) (sym (quant_in_block sig may [] q) ∙ e) in
    (parts.0, parts.2)
