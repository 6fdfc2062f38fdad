-- Lines stay allowed with more hypotheses and lines before them, and keep their factors.
use Rattle.std.specs.Prelude.{ℕ, zero, suc, ◌+◌, Bool, true, List, [], ◌∷◌, ◌++◌, ◌≡◌, map, length, slice_get, Some}
use Rattle.std.specs.List.{AllByRecursion}
use Rattle.std.proofs.Common.{refl, sym, ap, ◌∙◌, subst, inl, inr, append_assoc}
use Rattle.std.proofs.lemmas.List.{append-nil, map-append}
use Rattle.ae_base.specs.Options.{◌>>=◌}
use Rattle.ae_base.proofs.AllOf.{all_append as all_behind, all_of_map, all_weaker}
use Rattle.ae_base.proofs.ListFacts.{get_append, get_after}
use Rattle.ae_core.specs.Sorts.{within}
use Rattle.ae_core.specs.declared.formulas.Lit.{Lit}
use Rattle.ae_core.specs.declared.problems.Signature.{Signature}
use Rattle.ae_core.specs.declared.proofs.EqLine.{EqLine}
use Rattle.ae_core.specs.declared.proofs.Scaled.{Scaled}
use Rattle.ae_core.specs.declared.proofs.EqLine.TheVariants.{EqHyp, EqRefl, EqSym, EqTrans, EqCong, EqAc, EqLin, EqField, EqFields, LeHyp, LtHyp, LeSum, LtSum, LeRound}
use Rattle.ae_rules.specs.Built.{HasFactorsWithin}
use Rattle.ae_rules.specs.Lines.{Fact, equal, states, Stated, Allowed, AllAllowed}
use Rattle.ae_rules.proofs.Written.{StandsIn, equated_in, combined_in, all_append}
use Rattle.ae_derivations.specs.Inner.Moved.{moved, part_moved}

pub states_moved : (n m : ℕ) (l : EqLine) → states (moved n m l) ≡ states l
states_moved n m (EqHyp s t i) = refl
states_moved n m (EqRefl s t) = refl
states_moved n m (EqSym s t k) = refl
states_moved n m (EqTrans s t j k) = refl
states_moved n m (EqCong s t ks) = refl
states_moved n m (EqAc s t) = refl
states_moved n m (EqLin s t d ps) = refl
states_moved n m (EqField s t) = refl
states_moved n m (EqFields s t ks) = refl
states_moved n m (LeHyp s t i) = refl
states_moved n m (LtHyp s t i) = refl
states_moved n m (LeSum s t d ps) = refl
states_moved n m (LtSum s t d ps) = refl
states_moved n m (LeRound s t k) = refl

stated_moved : (n m : ℕ) (xs : List EqLine) (k : ℕ) (f : Fact) → Stated xs k f → Stated (map (moved n m) xs) k f
stated_moved n m [] k f s = s
stated_moved n m (x ∷ xs) zero f s = ap Some (states_moved n m x) ∙ s
stated_moved n m (x ∷ xs) (suc k) f s = stated_moved n m xs k f s

pub stands_past : (m : ℕ) (pre xs : List EqLine) → StandsIn xs (length pre) (pre ++ map (moved (length pre) m) xs)
stands_past m pre xs k f s = ap (λ o. o >>= λ l. Some (states l)) (get_after pre (map (moved (length pre) m) xs) k) ∙ stated_moved (length pre) m xs k f s

-- a hypothesis among more
given_past : (pre hyps : List Lit) (i : ℕ) (h : Lit) → slice_get hyps i ≡ Some h → slice_get (pre ++ hyps) (length pre + i) ≡ Some h
given_past pre hyps i h e = get_after pre hyps i ∙ e

module _ (pre hyps : List Lit) (xs : List EqLine) (n : ℕ) (ys : List EqLine) (stand : StandsIn xs n ys) (sig : Signature) where
  allowed_past : (l : EqLine) → Allowed sig hyps xs l → Allowed sig (pre ++ hyps) ys (moved n (length pre) l)
  allowed_past (EqHyp s t i) a = given_past pre hyps i _ a
  allowed_past (EqRefl s t) a = a
  allowed_past (EqSym s t k) a = stand k (equal t s) a
  allowed_past (EqTrans s t j k) (m, a, b) = (m, stand j (equal s m) a, stand k (equal m t) b)
  allowed_past (EqCong s t ks) (h, ss, us, vs, a, b, e) = (h, ss, us, vs, a, b, equated_in xs n ys stand ks us vs e)
  allowed_past (EqAc s t) a = a
  allowed_past (EqLin s t d ps) (m, fs, c, q, z) = (m, fs, combined_in xs n ys stand ps fs c, q, z)
  allowed_past (EqField s t) a = a
  allowed_past (EqFields s t ks) (m, ss, e, fs, a, b, c, q) = (m, ss, e, fs, a, b, c, equated_in xs n ys stand ks _ _ q)
  allowed_past (LeHyp s t i) (inl a) = inl (given_past pre hyps i _ a)
  allowed_past (LeHyp s t i) (inr a) = inr (given_past pre hyps i _ a)
  allowed_past (LtHyp s t i) (inl a) = inl (given_past pre hyps i _ a)
  allowed_past (LtHyp s t i) (inr a) = inr (given_past pre hyps i _ a)
  allowed_past (LeSum s t d ps) (m, fs, c, q, z) = (m, fs, combined_in xs n ys stand ps fs c, q, z)
  allowed_past (LtSum s t d ps) (m, fs, c, q, w, z) = (m, fs, combined_in xs n ys stand ps fs c, q, w, z)
  allowed_past (LeRound s t k) (from, a, r) = (from, stand k from a, r)

module _ (hyps more : List Lit) (xs : List EqLine) (sig : Signature) where
  allowed_more : (l : EqLine) → Allowed sig hyps xs l → Allowed sig (hyps ++ more) xs l
  allowed_more (EqHyp s t i) a = get_append hyps more i _ a
  allowed_more (EqRefl s t) a = a
  allowed_more (EqSym s t k) a = a
  allowed_more (EqTrans s t j k) a = a
  allowed_more (EqCong s t ks) a = a
  allowed_more (EqAc s t) a = a
  allowed_more (EqLin s t d ps) a = a
  allowed_more (EqField s t) a = a
  allowed_more (EqFields s t ks) a = a
  allowed_more (LeHyp s t i) (inl a) = inl (get_append hyps more i _ a)
  allowed_more (LeHyp s t i) (inr a) = inr (get_append hyps more i _ a)
  allowed_more (LtHyp s t i) (inl a) = inl (get_append hyps more i _ a)
  allowed_more (LtHyp s t i) (inr a) = inr (get_append hyps more i _ a)
  allowed_more (LeSum s t d ps) a = a
  allowed_more (LtSum s t d ps) a = a
  allowed_more (LeRound s t k) a = a

all_more : (sig : Signature) (ok : Fact → Bool) (hyps more : List Lit) (e xs : List EqLine) → AllAllowed sig ok hyps e xs → AllAllowed sig ok (hyps ++ more) e xs
all_more sig ok hyps more e [] a = tt
all_more sig ok hyps more e (x ∷ xs) a = ((a.0.0, allowed_more hyps more e sig x a.0.1), all_more sig ok hyps more (e ++ x ∷ []) xs a.1)

all_past : (sig : Signature) (ok : Fact → Bool) (ph hyps : List Lit) (pre e xs : List EqLine) → AllAllowed sig ok hyps e xs
    → AllAllowed sig ok (ph ++ hyps) (pre ++ map (moved (length pre) (length ph)) e) (map (moved (length pre) (length ph)) xs)
all_past sig ok ph hyps pre e [] a = tt
all_past sig ok ph hyps pre e (x ∷ xs) a =
    let mv = moved (length pre) (length ph) in (
      (ap ok (states_moved (length pre) (length ph) x) ∙ a.0.0, allowed_past ph hyps e (length pre) (pre ++ map mv e) (stands_past (length ph) pre e) sig x a.0.1),
      subst (λ z. AllAllowed sig ok (ph ++ hyps) z (map mv xs)) (ap (λ t. pre ++ t) (map-append mv e (x ∷ [])) ∙ sym (append_assoc pre (map mv e) (mv x ∷ []))) (all_past sig ok ph hyps pre (e ++ x ∷ []) xs a.1),
    )

pub all_joined : (sig : Signature) (ok : Fact → Bool) (ph hyps : List Lit) (pre xs : List EqLine) → AllAllowed sig ok ph [] pre → AllAllowed sig ok hyps [] xs
    → AllAllowed sig ok (ph ++ hyps) [] (pre ++ map (moved (length pre) (length ph)) xs)
all_joined sig ok ph hyps pre xs a b =
    all_append sig ok (ph ++ hyps) [] pre (map (moved (length pre) (length ph)) xs) (all_more sig ok ph hyps [] pre a)
    (subst (λ z. AllAllowed sig ok (ph ++ hyps) z (map (moved (length pre) (length ph)) xs)) (append-nil pre) (all_past sig ok ph hyps pre [] xs b))

-- ---- factors
parts_moved : (n : ℕ) (ps : List Scaled) → AllByRecursion (λ p. within p.factor ≡ true) ps → AllByRecursion (λ p. within p.factor ≡ true) (map (part_moved n) ps)
parts_moved n ps a = all_of_map (λ (p : Scaled). within p.factor ≡ true) (part_moved n) ps a

factors_moved : (n m : ℕ) (l : EqLine) → HasFactorsWithin l → HasFactorsWithin (moved n m l)
factors_moved n m (EqHyp s t i) f = tt
factors_moved n m (EqRefl s t) f = tt
factors_moved n m (EqSym s t k) f = tt
factors_moved n m (EqTrans s t j k) f = tt
factors_moved n m (EqCong s t ks) f = tt
factors_moved n m (EqAc s t) f = tt
factors_moved n m (EqLin s t d ps) f = (f.0, parts_moved n ps f.1)
factors_moved n m (EqField s t) f = tt
factors_moved n m (EqFields s t ks) f = tt
factors_moved n m (LeHyp s t i) f = tt
factors_moved n m (LtHyp s t i) f = tt
factors_moved n m (LeSum s t d ps) f = (f.0, parts_moved n ps f.1)
factors_moved n m (LtSum s t d ps) f = (f.0, parts_moved n ps f.1)
factors_moved n m (LeRound s t k) f = tt

pub factors_joined : (n m : ℕ) (pre xs : List EqLine) → AllByRecursion HasFactorsWithin pre → AllByRecursion HasFactorsWithin xs → AllByRecursion HasFactorsWithin (pre ++ map (moved n m) xs)
factors_joined n m pre xs a b =
    all_behind HasFactorsWithin pre (map (moved n m) xs) a
    (all_of_map HasFactorsWithin (moved n m) xs (all_weaker HasFactorsWithin (λ l. HasFactorsWithin (moved n m l)) (factors_moved n m) xs b))
