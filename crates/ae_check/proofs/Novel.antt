-- The constants that a line puts are new where none of them was gathered from the earlier lines or stands in its block.
use Rattle.std.specs.Prelude.{ℕ, suc, ◌+◌, ◌<◌, ◌≤◌, ◌^◌, Bool, true, false, not, ◌||◌, ◌&&◌, List, [], ◌∷◌, ◌++◌, ◌≡◌, ◌↔◌, IsTrue, take, length, get_or, zero, Some}
use Rattle.std.specs.List.{list_any, Contains, flat_map}
use Rattle.std.specs.BTreeSet.{BTreeSet, contains}
use Rattle.std.proofs.Common.{refl, sym, ap, ◌∙◌, subst, arith}
use Rattle.std.proofs.Math.Bool.{or-true, or-false}
use Rattle.std.proofs.lemmas.List.Folds.{list_any-append}
use Rattle.std.proofs.lemmas.Bool.{leb-true, or_parts}
use Rattle.std.proofs.lemmas.Option.{none-some}
use Rattle.ae_base.specs.Decided.{decided}
use Rattle.ae_base.proofs.Options.{only_some, when_some}
use Rattle.ae_core.specs.Decided.{Term_discrete}
use Rattle.ae_core.specs.Constants.{formula_constants}
use Rattle.ae_core.specs.declared.terms.Sort.{Sort}
use Rattle.ae_core.specs.declared.terms.Term.{Term, Fresh}
use Rattle.ae_core.specs.declared.formulas.Formula.{Formula, Formula-F, out-Formula}
use Rattle.ae_core.specs.declared.formulas.Formula.TheOpen as layer_of
use Rattle.ae_core.specs.declared.formulas.Quant.{Quant}
use Rattle.ae_core.specs.declared.problems.Problem.{Problem}
use Rattle.ae_core.specs.declared.proofs.ClauseLine.{ClauseLine}
use Rattle.ae_core.specs.declared.proofs.ClauseLine.TheVariants.{Hyp, Goal, Def, Inst, Fresh as FreshLine, Exh, Tri, Block, Rup}
use Rattle.ae_base.specs.Options.{or_else}
use Rattle.ae_rules.specs.Clauses.{Clause}
use Rattle.ae_rules.specs.Instances.{count_from, block_sorts, fresh_clause, are_numbered}
use Rattle.ae_rules.specs.Derivations.{AreNew, Meets, conclusion, clause_of, line_ok, line_constants}
use Rattle.ae_calc.specs.Inner.Mentions.{is_put, formula_mentions, line_mentions, own_mentions, clause_mentions}
use Rattle.ae_calc.proofs.Novelty.{Apart, new_where}
use Rattle.ae_check.specs.declared.codes.Code.{Code}
use Rattle.ae_check.specs.declared.codes.Stamp.{Stamp}
use Rattle.ae_check.specs.declared.constants.Constant.{Constant}
use Rattle.std.specs.Ordering.{is_eq}
use Rattle.ae_check.specs.Inner.ConstantSets.{constant_order, has, IsGathered, IsOfLines, any_has, has_none, AreNumbered}
use Rattle.ae_check.specs.Inner.Knowing.{AreReady}

-- ---- the constants one by one
any_or : {X : Type 0} (p q : X → Bool) (xs : List X) → list_any (λ x. p x || q x) xs ≡ (list_any p xs || list_any q xs)
any_or p q [] = refl
any_or p q (x ∷ xs) = ap (λ h. (p x || q x) || h) (any_or p q xs) ∙ crossed (p x) (q x) (list_any p xs) (list_any q xs)
  where
    crossed : (a b c d : Bool) → ((a || b) || (c || d)) ≡ ((a || c) || (b || d))
    crossed true b c d = refl
    crossed false true true d = refl
    crossed false true false d = refl
    crossed false false c d = refl

any_false : {X : Type 0} (xs : List X) → list_any (λ x. false) xs ≡ false
any_false [] = refl
any_false (x ∷ xs) = any_false xs

one_more : (m : ℕ) (s : Sort) (ss : List Sort) (t : Term) → is_put m (s ∷ ss) t ≡ (is_put m (s ∷ []) t || is_put (suc m) ss t)
unfolding is_put
one_more m s ss t = ap (λ h. h || list_any (λ c. decided (Term_discrete c t)) (count_from (suc m) ss)) (sym (or-false (decided (Term_discrete (Fresh m s) t))))

each_of : (p q : Term → Bool) (xs : List Term) → ((t : Term) → p t ≡ q t) → list_any p xs ≡ list_any q xs
each_of p q [] e = refl
each_of p q (x ∷ xs) e = λ i. e x i || each_of p q xs e i

formula_more : (m : ℕ) (s : Sort) (ss : List Sort) (f : Formula) → formula_mentions m (s ∷ ss) f ≡ (formula_mentions m (s ∷ []) f || formula_mentions (suc m) ss f)
unfolding formula_mentions
formula_more m s ss f =
    each_of (is_put m (s ∷ ss)) (λ t. is_put m (s ∷ []) t || is_put (suc m) ss t) (formula_constants f) (one_more m s ss)
    ∙ any_or (is_put m (s ∷ [])) (is_put (suc m) ss) (formula_constants f)

formula_none : (m : ℕ) (f : Formula) → formula_mentions m [] f ≡ false
unfolding formula_mentions is_put
formula_none m f = any_false (formula_constants f)

parted : (a b c d : Bool) → not ((a || b) || (c || d)) ≡ (not (a || c) && not (b || d))
parted true b c d = refl
parted false true true d = refl
parted false true false d = refl
parted false false true d = refl
parted false false false d = refl

both_true : (a b : Bool) (P Q : Type 0) → (IsTrue a ↔ P) → (IsTrue b ↔ Q) → (IsTrue (a && b) ↔ (P × Q))
both_true true true P Q f g = (λ t. (f.0 refl, g.0 refl), λ h. refl)
both_true true false P Q f g = (λ t. absurd (cc), λ h. g.1 h.1)
both_true false b P Q f g = (λ t. absurd (cc), λ h. f.1 h.0)

module _ (p : Problem) (g : ℕ) (ls : List ClauseLine) (f : Formula) (set : BTreeSet Constant) (of : IsOfLines p g ls set) where
  one_new : (m : ℕ) (s : Sort) → IsTrue (not (formula_mentions m (s ∷ []) f || has set m s)) ↔ (¬ (Contains (formula_constants f ++ flat_map (line_constants p g) ls) (Fresh m s)))
  one_new m s =
      let w = new_where p g ls m (s ∷ []) f (not (formula_mentions m (s ∷ []) f || has set m s)) (ap (λ h. not (formula_mentions m (s ∷ []) f || h)) (of.each m s)) in
      (λ t. (w.0 t).0, λ n. w.1 (n, tt))

  pub all_new : (m : ℕ) (ss : List Sort) → IsTrue (has_none set m ss f) ↔ Apart (formula_constants f ++ flat_map (line_constants p g) ls) (count_from m ss)
  all_new m [] = (λ t. tt, λ u. ap not (or-false (formula_mentions m [] f) ∙ formula_none m f))
  all_new m (s ∷ ss) =
      subst (λ b. IsTrue b ↔ Apart (formula_constants f ++ flat_map (line_constants p g) ls) (count_from m (s ∷ ss)))
      (sym (ap (λ h. not (h || any_has set m (s ∷ ss))) (formula_more m s ss f) ∙ parted (formula_mentions m (s ∷ []) f) (formula_mentions (suc m) ss f) (has set m s) (any_has set (suc m) ss)))
      (both_true _ _ _ _ (one_new m s) (all_new (suc m) ss))

pub new_by_set : (p : Problem) (g : ℕ) (ls : List ClauseLine) (f : Formula) (m : ℕ) (set : BTreeSet Constant) (b : Bool) → IsOfLines p g ls set → b ≡ has_none set m (block_sorts (out-Formula f)) f → IsTrue b ↔ AreNew p g ls m f
new_by_set p g ls f m set b of e = subst (λ b. IsTrue b ↔ AreNew p g ls m f) (sym e) (all_new p g ls f set of m (block_sorts (out-Formula f)))

-- ---- whether one of several was gathered
same_number : (m i : ℕ) → suc m + i ≡ m + suc i
same_number m i = omega arith

pub any_more : (set : BTreeSet Constant) (m : ℕ) (ss : List Sort) (i : ℕ) (d : Sort) → i < length ss → any_has set m (take i ss) ≡ false → has set (m + i) (get_or ss i d) ≡ false → any_has set m (take (i + 1) ss) ≡ false
any_more set m [] i d l e h = absurd (omega (arith, l))
any_more set m (s ∷ ss) zero d l e h = or-false (has set m s) ∙ ap (λ k. has set k s) (let q : m ≡ m + 0 = omega arith in q) ∙ h
any_more set m (s ∷ ss) (suc i) d l e h =
    let parts = or_parts (has set m s) (any_has set (suc m) (take i ss)) e in
    ap (λ k. any_has set m (take k (s ∷ ss))) (next i)
    ∙ ap (λ x. x || any_has set (suc m) (take (i + 1) ss)) parts.0 ∙ any_more set (suc m) ss i d (omega (arith, l)) parts.1 (ap (λ k. has set k (get_or ss i d)) (same_number m i) ∙ h)
  where
    next : (i : ℕ) → suc i + 1 ≡ suc (i + 1)
    next i = omega arith

pub any_found : (set : BTreeSet Constant) (m : ℕ) (ss : List Sort) (i : ℕ) (d : Sort) → i < length ss → has set (m + i) (get_or ss i d) ≡ true → any_has set m ss ≡ true
any_found set m [] i d l h = absurd (omega (arith, l))
any_found set m (s ∷ ss) zero d l h = ap (λ x. x || any_has set (suc m) ss) (ap (λ k. has set k s) (let q : m ≡ m + 0 = omega arith in q) ∙ h)
any_found set m (s ∷ ss) (suc i) d l h =
    ap (λ x. has set m s || x) (any_found set (suc m) ss i d (omega (arith, l)) (ap (λ k. has set k (get_or ss i d)) (same_number m i) ∙ h)) ∙ or-true (has set m s)

-- ---- lines
pub set_more : (p : Problem) (g : ℕ) (ls : List ClauseLine) (l : ClauseLine) (c : Clause) (old new : BTreeSet Constant) → IsOfLines p g ls old → conclusion p g l ≡ Some c
    → IsGathered old new (λ n s. own_mentions n (s ∷ []) l || clause_mentions n (s ∷ []) c) → IsOfLines p g (ls ++ l ∷ []) new
set_more p g ls l c old new of e h = record {
  each = λ n s. h.each n s ∙ ap (λ x. x || (own_mentions n (s ∷ []) l || clause_mentions n (s ∷ []) c)) (of.each n s)
      ∙ ap (λ o. list_any (line_mentions p g n (s ∷ [])) ls || (own_mentions n (s ∷ []) l || clause_mentions n (s ∷ []) (or_else o []))) (sym e)
      ∙ ap (λ x. list_any (line_mentions p g n (s ∷ [])) ls || x) (sym (or-false (line_mentions p g n (s ∷ []) l)))
      ∙ sym (list_any-append (line_mentions p g n (s ∷ [])) ls (l ∷ []));
}

numbered_block : (f : Formula) (m : ℕ) (o : Formula-F Formula Quant) (c : Clause) → fresh_clause f m o ≡ Some c → m + length (block_sorts o) ≤ 2 ^ 64
numbered_block f m layer_of.True c e = absurd (none-some c e)
numbered_block f m layer_of.False c e = absurd (none-some c e)
numbered_block f m (layer_of.Eq a b) c e = absurd (none-some c e)
numbered_block f m (layer_of.Lt a b) c e = absurd (none-some c e)
numbered_block f m (layer_of.Le a b) c e = absurd (none-some c e)
numbered_block f m (layer_of.Pred p ss us) c e = absurd (none-some c e)
numbered_block f m (layer_of.Not a) c e = absurd (none-some c e)
numbered_block f m (layer_of.And a b) c e = absurd (none-some c e)
numbered_block f m (layer_of.Or a b) c e = absurd (none-some c e)
numbered_block f m (layer_of.Xor a b) c e = absurd (none-some c e)
numbered_block f m (layer_of.Iff a b) c e = absurd (none-some c e)
numbered_block f m (layer_of.All q) c e = leb-true (m + length q.sorts) (2 ^ 64) (when_some (are_numbered m q.sorts) _ c e).0
numbered_block f m (layer_of.Ex q) c e = leb-true (m + length q.sorts) (2 ^ 64) (when_some (are_numbered m q.sorts) _ c e).0

pub numbered : (p : Problem) (g : ℕ) (l : ClauseLine) (c : Clause) → conclusion p g l ≡ Some c → AreNumbered l
numbered p g (FreshLine f m) c e = numbered_block f m (out-Formula f) c (only_some (line_ok p g (FreshLine f m)) (clause_of p g (FreshLine f m)) c e).1
numbered p g (Hyp k ss) c e = tt
numbered p g Goal c e = tt
numbered p g (Def r f) c e = tt
numbered p g (Inst f ts) c e = tt
numbered p g (Exh t) c e = tt
numbered p g (Tri s t) c e = tt
numbered p g (Block b) c e = tt
numbered p g (Rup c ks) d e = tt

-- ---- a line that puts constants
pub fresh_truth : (p : Problem) (g : ℕ) (earlier : List ClauseLine) (l : ClauseLine) (f : Formula) (m : ℕ) (set : BTreeSet Constant) (b : Bool) → l ≡ FreshLine f m → IsOfLines p g earlier set → b ≡ has_none set m (block_sorts (out-Formula f)) f → IsTrue b ↔ Meets p g earlier l
fresh_truth p g earlier l f m set b e of q = subst (λ l. IsTrue b ↔ Meets p g earlier l) (sym e) (new_by_set p g earlier f m set b of q)

pub fresh_numbered : (p : Problem) (g : ℕ) (earlier : List ClauseLine) (l : ClauseLine) (ks : List Code) (stamps : List Stamp) (clauses : List (List Code)) (f : Formula) (m : ℕ) → AreReady p g earlier l ks stamps clauses → l ≡ FreshLine f m
    → m + length (block_sorts (out-Formula f)) ≤ 2 ^ 64
fresh_numbered p g earlier l ks stamps clauses f m r e = subst AreNumbered e (numbered p g l r.stated.0 r.stated.1)

pub set_none : (p : Problem) (g : ℕ) (set : BTreeSet Constant) → set.keys ≡ [] → IsOfLines p g [] set
set_none p g set e = record { each = λ n s. ap (list_any (λ (q : Constant). is_eq (constant_order (record { term = Fresh n s }) q))) e }

pub was_found : (set : BTreeSet Constant) (c : Constant) (n : ℕ) (s t : Sort) (b : Bool) → c.term ≡ Fresh n s → s ≡ t → b ≡ contains constant_order set c → has set n t ≡ b
was_found set c n s t b e q h = ap (λ x. contains constant_order set (record { term = x })) (ap (Fresh n) (sym q) ∙ sym e) ∙ sym h
