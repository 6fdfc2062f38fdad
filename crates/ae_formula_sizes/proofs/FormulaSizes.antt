-- The size of each formula, and the limits.
use Rattle.std.specs.Prelude.{ℕ, suc, ◌+◌, ◌≤◌, ◌≡◌, max, List, map}
use Rattle.std.proofs.Common.{ap, sym, ◌∙◌, arith}
use Rattle.ae_core.specs.declared.formulas.Formula.{Formula, True, False, Eq, Lt, Le, Pred, Not, And, Or, Xor, Iff, All, Ex}
use Rattle.ae_core.specs.declared.formulas.Quant.{Quant}
use Rattle.ae_core.specs.declared.terms.Sort.{Sort}
use Rattle.ae_core.specs.declared.terms.Term.{Term}
use Rattle.ae_core.proofs.Recursion.{fold_true, fold_false, fold_eq, fold_lt, fold_le, fold_pred, fold_not, fold_and, fold_or, fold_xor, fold_iff, fold_all, fold_ex, fold_block}
use Rattle.ae_journal.specs.Sizes.{joined, sort_size, term_size, formula_size, formula_size_step, quant_size_step, nodes, levels, IsSmall}
use Rattle.ae_formula_sizes.specs.declared.counting.Size.{Size}
use Rattle.ae_formula_sizes.specs.Inner.Counted.{both, counted, leaf, list_size, quant_size, round, size_of_sorts, size_of_term, size_of_terms, size_of_triggers, size_of_quant, size_of_formula, sum}
use Rattle.ae_formula_sizes.proofs.Ceilings.{is_leaf, is_round, is_both, is_round_both, both_counted}

-- ---- the sizes of the journal
module _ (join : ℕ → ℕ → ℕ) where
  true_size : formula_size join True ≡ 1
  unfolding formula_size
  true_size = fold_true ℕ ℕ (formula_size_step join) (quant_size_step join)

  false_size : formula_size join False ≡ 1
  unfolding formula_size
  false_size = fold_false ℕ ℕ (formula_size_step join) (quant_size_step join)

  eq_size : (a b : Term) → formula_size join (Eq a b) ≡ suc (join (term_size join a) (term_size join b))
  unfolding formula_size
  eq_size = fold_eq ℕ ℕ (formula_size_step join) (quant_size_step join)

  lt_size : (a b : Term) → formula_size join (Lt a b) ≡ suc (join (term_size join a) (term_size join b))
  unfolding formula_size
  lt_size = fold_lt ℕ ℕ (formula_size_step join) (quant_size_step join)

  le_size : (a b : Term) → formula_size join (Le a b) ≡ suc (join (term_size join a) (term_size join b))
  unfolding formula_size
  le_size = fold_le ℕ ℕ (formula_size_step join) (quant_size_step join)

  pred_size : (p : ℕ) (ss : List Sort) (us : List Term) → formula_size join (Pred p ss us) ≡ suc (join (joined join (map (sort_size join) ss)) (joined join (map (term_size join) us)))
  unfolding formula_size
  pred_size = fold_pred ℕ ℕ (formula_size_step join) (quant_size_step join)

  not_size : (a : Formula) → formula_size join (Not a) ≡ suc (formula_size join a)
  unfolding formula_size
  not_size = fold_not ℕ ℕ (formula_size_step join) (quant_size_step join)

  and_size : (a b : Formula) → formula_size join (And a b) ≡ suc (join (formula_size join a) (formula_size join b))
  unfolding formula_size
  and_size = fold_and ℕ ℕ (formula_size_step join) (quant_size_step join)

  or_size : (a b : Formula) → formula_size join (Or a b) ≡ suc (join (formula_size join a) (formula_size join b))
  unfolding formula_size
  or_size = fold_or ℕ ℕ (formula_size_step join) (quant_size_step join)

  xor_size : (a b : Formula) → formula_size join (Xor a b) ≡ suc (join (formula_size join a) (formula_size join b))
  unfolding formula_size
  xor_size = fold_xor ℕ ℕ (formula_size_step join) (quant_size_step join)

  iff_size : (a b : Formula) → formula_size join (Iff a b) ≡ suc (join (formula_size join a) (formula_size join b))
  unfolding formula_size
  iff_size = fold_iff ℕ ℕ (formula_size_step join) (quant_size_step join)

  all_size : (q : Quant) → formula_size join (All q) ≡ suc (quant_size join q)
  unfolding formula_size
  all_size = fold_all ℕ ℕ (formula_size_step join) (quant_size_step join)

  ex_size : (q : Quant) → formula_size join (Ex q) ≡ suc (quant_size join q)
  unfolding formula_size
  ex_size = fold_ex ℕ ℕ (formula_size_step join) (quant_size_step join)

  block_size : (q : Quant) → quant_size join q ≡ join (joined join (map (sort_size join) q.sorts)) (join (joined join (map (list_size join) q.triggers)) (formula_size join q.body))
  unfolding formula_size
  block_size = fold_block ℕ ℕ (formula_size_step join) (quant_size_step join)

-- ---- as they are counted
pub formula_true : size_of_formula True ≡ leaf
unfolding size_of_formula
formula_true = is_leaf (formula_size sum True) (formula_size max True) (true_size sum) (true_size max)

pub formula_false : size_of_formula False ≡ leaf
unfolding size_of_formula
formula_false = is_leaf (formula_size sum False) (formula_size max False) (false_size sum) (false_size max)

of_sides : (f : Formula) (a b : Term) → ((join : ℕ → ℕ → ℕ) → formula_size join f ≡ suc (join (term_size join a) (term_size join b)))
    → size_of_formula f ≡ round (both (size_of_term a) (size_of_term b))
unfolding size_of_formula size_of_term
of_sides f a b e = is_round_both (formula_size sum f) (formula_size max f) (term_size sum a) (term_size max a) (term_size sum b) (term_size max b) (e sum) (e max)

pub formula_eq : (a b : Term) → size_of_formula (Eq a b) ≡ round (both (size_of_term a) (size_of_term b))
formula_eq a b = of_sides (Eq a b) a b (λ join. eq_size join a b)

pub formula_lt : (a b : Term) → size_of_formula (Lt a b) ≡ round (both (size_of_term a) (size_of_term b))
formula_lt a b = of_sides (Lt a b) a b (λ join. lt_size join a b)

pub formula_le : (a b : Term) → size_of_formula (Le a b) ≡ round (both (size_of_term a) (size_of_term b))
formula_le a b = of_sides (Le a b) a b (λ join. le_size join a b)

pub formula_pred : (p : ℕ) (ss : List Sort) (us : List Term) → size_of_formula (Pred p ss us) ≡ round (both (size_of_sorts ss) (size_of_terms us))
unfolding size_of_formula size_of_sorts size_of_terms
formula_pred p ss us =
    is_round_both (formula_size sum (Pred p ss us)) (formula_size max (Pred p ss us)) (joined sum (map (sort_size sum) ss)) (joined max (map (sort_size max) ss)) (joined sum (map (term_size sum) us))
    (joined max (map (term_size max) us)) (pred_size sum p ss us) (pred_size max p ss us)

pub formula_not : (a : Formula) → size_of_formula (Not a) ≡ round (size_of_formula a)
unfolding size_of_formula
formula_not a = is_round (formula_size sum (Not a)) (formula_size max (Not a)) (formula_size sum a) (formula_size max a) (not_size sum a) (not_size max a)

of_parts : (f a b : Formula) → ((join : ℕ → ℕ → ℕ) → formula_size join f ≡ suc (join (formula_size join a) (formula_size join b)))
    → size_of_formula f ≡ round (both (size_of_formula a) (size_of_formula b))
unfolding size_of_formula
of_parts f a b e = is_round_both (formula_size sum f) (formula_size max f) (formula_size sum a) (formula_size max a) (formula_size sum b) (formula_size max b) (e sum) (e max)

pub formula_and : (a b : Formula) → size_of_formula (And a b) ≡ round (both (size_of_formula a) (size_of_formula b))
formula_and a b = of_parts (And a b) a b (λ join. and_size join a b)

pub formula_or : (a b : Formula) → size_of_formula (Or a b) ≡ round (both (size_of_formula a) (size_of_formula b))
formula_or a b = of_parts (Or a b) a b (λ join. or_size join a b)

pub formula_xor : (a b : Formula) → size_of_formula (Xor a b) ≡ round (both (size_of_formula a) (size_of_formula b))
formula_xor a b = of_parts (Xor a b) a b (λ join. xor_size join a b)

pub formula_iff : (a b : Formula) → size_of_formula (Iff a b) ≡ round (both (size_of_formula a) (size_of_formula b))
formula_iff a b = of_parts (Iff a b) a b (λ join. iff_size join a b)

pub formula_all : (q : Quant) → size_of_formula (All q) ≡ round (size_of_quant q)
unfolding size_of_formula size_of_quant
formula_all q = is_round (formula_size sum (All q)) (formula_size max (All q)) (quant_size sum q) (quant_size max q) (all_size sum q) (all_size max q)

pub formula_ex : (q : Quant) → size_of_formula (Ex q) ≡ round (size_of_quant q)
unfolding size_of_formula size_of_quant
formula_ex q = is_round (formula_size sum (Ex q)) (formula_size max (Ex q)) (quant_size sum q) (quant_size max q) (ex_size sum q) (ex_size max q)

pub quant_block : (q : Quant) → size_of_quant q ≡ both (size_of_sorts q.sorts) (both (size_of_triggers q.triggers) (size_of_formula q.body))
unfolding size_of_quant size_of_sorts size_of_triggers size_of_formula
quant_block q =
    is_both (quant_size sum q) (quant_size max q) (joined sum (map (sort_size sum) q.sorts)) (joined max (map (sort_size max) q.sorts)) (joined sum (map (list_size sum) q.triggers) + formula_size sum q.body)
    (max (joined max (map (list_size max) q.triggers)) (formula_size max q.body)) (block_size sum q) (block_size max q)
    ∙ ap (both (counted (joined sum (map (sort_size sum) q.sorts)) (joined max (map (sort_size max) q.sorts)))) (sym (both_counted (joined sum (map (list_size sum) q.triggers)) (joined max (map (list_size max) q.triggers)) (formula_size sum q.body) (formula_size max q.body)))

pub ruleset formula_rules = (formula_true, formula_false, formula_eq, formula_lt, formula_le, formula_pred, formula_not, formula_and, formula_or, formula_xor, formula_iff, formula_all, formula_ex, quant_block)

-- ---- the limits
pub small_by : (f : Formula) (s : Size) → s ≡ size_of_formula f → (s.nodes ≤ 1000000) × (s.levels ≤ 4000) → IsSmall f
unfolding size_of_formula
small_by f s e w =
    let n = ap (λ (x : Size). x.nodes) e in
    let l = ap (λ (x : Size). x.levels) e in
    record { few = omega (arith, n, w.0); flat = omega (arith, l, w.1) }

pub small_of : (f : Formula) (s : Size) → s ≡ size_of_formula f → IsSmall f → (s.nodes ≤ 1000000) × (s.levels ≤ 4000)
unfolding size_of_formula
small_of f s e h =
    let n = ap (λ (x : Size). x.nodes) e in
    let l = ap (λ (x : Size). x.levels) e in
    (omega (arith, n, h.few), omega (arith, l, h.flat))
