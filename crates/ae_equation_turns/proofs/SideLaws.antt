-- Sides with representatives for their names, and what they reduce to: of one sort, own, and descended.
use Rattle.std.specs.Prelude.{ℕ, ◌<◌, ◌≡◌, List, [], ◌∷◌, ◌++◌, map, length, Option}
use Rattle.std.specs.List.{AllByRecursion}
use Rattle.std.proofs.Common.{refl, sym, ap, ◌∙◌, subst, arith}
use Rattle.std.proofs.lemmas.List.{length-map}
use Rattle.std.proofs.lemmas.Option.{same_Some}
use Rattle.ae_base.proofs.AllOf.{all_always, all_append, all_back, all_front, all_of_map}
use Rattle.ae_core.specs.declared.terms.Sort.{Sort}
use Rattle.ae_core.specs.declared.terms.Term.{Term}
use Rattle.ae_core.specs.declared.problems.AcSymbol.{AcSymbol}
use Rattle.ae_core.specs.declared.problems.Signature.{Signature}
use Rattle.ae_multiset.specs.Multisets.{IsSame, rising}
use Rattle.ae_multiset.specs.Rewriting.{ReducesTo}
use Rattle.ae_multiset.proofs.Counts.{back, length_same}
use Rattle.ae_settled.specs.Swept.{AreOwn}
use Rattle.ae_just.specs.declared.steps.Step.{Step}
use Rattle.ae_state_steps.specs.ManySteps.{IsOfSort}
use Rattle.ae_multiset_steps.specs.Equating.{AreNamesOf}
use Rattle.ae_multiset_steps.proofs.Lists.{all_same}
use Rattle.ae_monoid.specs.declared.rules.Kept.{Kept}
use Rattle.ae_monoid.specs.Rules.{AreRules, IsRuleOf}
use Rattle.ae_descents.proofs.Descending.{descends_then, to_same, reduced, renamed}
use Rattle.ae_rule_steps.specs.Said.{AreSaid}
use Rattle.ae_sweeps.specs.Given.{rep_in}
use Rattle.ae_equation_turns.specs.Turned.{DescendsBy, AreRightsOwn, AreLeast}
use Rattle.ae_equation_turns.proofs.OrderLaws.{same_rising, all_reduced}

-- the second of two lists, spelled in rising order
pub names_spelled : (sig : Signature) (ts : List Term) (u : AcSymbol) (names own : List ℕ) → AreNamesOf sig ts u (names ++ own) → AreNamesOf sig ts u (names ++ rising own)
names_spelled sig ts u names own a =
    let P = IsOfSort sig ts a.sort in
    record { sort = a.sort; symbol = a.symbol; of_names = a.of_names; sorted = all_append P names (rising own) (all_front P names own a.sorted) (all_same P (rising own) own (same_rising own) (all_back P names own a.sorted)) }

-- the second of two lists, and once more in rising order
pub names_twice : (sig : Signature) (ts : List Term) (u : AcSymbol) (names own xs ys : List ℕ) → xs ≡ own → ys ≡ rising own → AreNamesOf sig ts u (names ++ own) → AreNamesOf sig ts u (xs ++ ys)
names_twice sig ts u names own xs ys e f a =
    let P = IsOfSort sig ts a.sort in
    let second = all_back P names own a.sorted in
    subst (λ (zs : List ℕ). AreNamesOf sig ts u (zs ++ ys)) (sym e)
    (subst (λ (zs : List ℕ). AreNamesOf sig ts u (own ++ zs)) (sym f) (record { sort = a.sort; symbol = a.symbol; of_names = a.of_names; sorted = all_append P own (rising own) second (all_same P (rising own) own (same_rising own) second) }))

pub names_back : (sig : Signature) (ts : List Term) (u : AcSymbol) (names own : List ℕ) → AreNamesOf sig ts u (names ++ own) → AreNamesOf sig ts u own
names_back sig ts u names own a = record { sort = a.sort; symbol = a.symbol; of_names = a.of_names; sorted = all_back (IsOfSort sig ts a.sort) names own a.sorted }

-- lists that are the same
pub same_spelled : (xs ys own : List ℕ) → xs ≡ own → ys ≡ rising own → IsSame xs ys
same_spelled xs ys own e f = subst (λ (zs : List ℕ). IsSame zs ys) (sym e) (subst (λ (zs : List ℕ). IsSame own zs) (sym f) (back (same_rising own)))

pub some_mapped : (f : ℕ → ℕ) (xs ys : List ℕ) → ys ≡ map f xs → 0 < length xs → 0 < length ys
some_mapped f xs ys e l = omega (arith, l, ap length e, length-map xs f)

pub some_spelled : (f : ℕ → ℕ) (xs ys : List ℕ) → ys ≡ rising (map f xs) → 0 < length xs → 0 < length ys
some_spelled f xs ys e l = let s = length_same (rising (map f xs)) (map f xs) (same_rising (map f xs)) in omega (arith, l, ap length e, s, length-map xs f)

-- ---- sorts
one_sort : (sig : Signature) (ts : List Term) (names : List ℕ) (s t : Sort) → 0 < length names → AllByRecursion (IsOfSort sig ts s) names → AllByRecursion (IsOfSort sig ts t) names → s ≡ t
one_sort sig ts [] s t l a b = absurd (omega (arith, l))
one_sort sig ts (x ∷ names) s t l a b = same_Some s t (sym a.0 ∙ b.0)

-- two pairs of lists that share a list
pub names_joined : (sig : Signature) (ts : List Term) (u : AcSymbol) (left names other : List ℕ) → 0 < length names → AreNamesOf sig ts u (left ++ names) → AreNamesOf sig ts u (names ++ other) → AreNamesOf sig ts u (left ++ other)
names_joined sig ts u left names other l a b =
    let P = IsOfSort sig ts b.sort in
    let e = one_sort sig ts names a.sort b.sort l (all_back (IsOfSort sig ts a.sort) left names a.sorted) (all_front P names other b.sorted) in
    record { sort = b.sort; symbol = b.symbol; of_names = b.of_names; sorted = all_append P left other (subst (λ (s : Sort). AllByRecursion (IsOfSort sig ts s) left) e (all_front (IsOfSort sig ts a.sort) left names a.sorted)) (all_back P names other b.sorted) }

-- the two sides after each was changed
pub names_across : (sig : Signature) (ts : List Term) (u : AcSymbol) (left right now then : List ℕ) → 0 < length left → 0 < length right → AreNamesOf sig ts u (left ++ right) → AreNamesOf sig ts u (left ++ now)
    → AreNamesOf sig ts u (right ++ then) → AreNamesOf sig ts u (now ++ then)
names_across sig ts u left right now then l m a b c =
    let P = IsOfSort sig ts b.sort in
    let turned : AreNamesOf sig ts u (now ++ left) = record { sort = b.sort; symbol = b.symbol; of_names = b.of_names; sorted = all_append P now left (all_back P left now b.sorted) (all_front P left now b.sorted) } in
    names_joined sig ts u now left then l turned (names_joined sig ts u left right then m a c)

module _ (sig : Signature) (ts : List Term) (steps : List Step) (kept : ℕ → Option Kept) (next : ℕ) (u : AcSymbol) (rules : AreRules kept next) (said : AreSaid sig ts steps kept) where
  -- a rule's right side is of the sort of its left side
  right_sorted : (s : Sort) (l r : List ℕ) → IsRuleOf kept u l r → AllByRecursion (IsOfSort sig ts s) l → AllByRecursion (IsOfSort sig ts s) r
  right_sorted s l r h a =
      let left = h.rule.entry.left in
      let right = h.rule.entry.right in
      let n = (said.each h.number h.rule h.there).names in
      let two = (rules.well h.number h.rule h.there).two in
      let a' = subst (λ (zs : List ℕ). AllByRecursion (IsOfSort sig ts s) zs) (sym h.left) a in
      let e = one_sort sig ts left n.sort s (omega (arith, two)) (all_front (IsOfSort sig ts n.sort) left right n.sorted) a' in
      subst (λ (zs : List ℕ). AllByRecursion (IsOfSort sig ts s) zs) h.right (subst (λ (t : Sort). AllByRecursion (IsOfSort sig ts t) right) e (all_back (IsOfSort sig ts n.sort) left right n.sorted))

  -- names, and what the second list reduces to
  pub names_reduced : (names own : List ℕ) {now : List ℕ} → AreNamesOf sig ts u (names ++ own) → ReducesTo (IsRuleOf kept u) own now → AreNamesOf sig ts u (names ++ now)
  names_reduced names own {now} a f =
      let P = IsOfSort sig ts a.sort in
      record { sort = a.sort; symbol = a.symbol; of_names = a.of_names; sorted = all_append P names now (all_front P names own a.sorted) (all_reduced P (IsRuleOf kept u) (right_sorted a.sort) f (all_back P names own a.sorted)) }

-- ---- own representatives
module _ (reps : List ℕ) (kept : ℕ → Option Kept) (u : AcSymbol) where
  pub own_reduced : AreRightsOwn reps kept → {a b : List ℕ} → ReducesTo (IsRuleOf kept u) a b → AreOwn (rep_in reps) a → AreOwn (rep_in reps) b
  own_reduced rights f a = all_reduced (λ n. rep_in reps n ≡ n) (IsRuleOf kept u) (λ l r h _. subst (λ (zs : List ℕ). AreOwn (rep_in reps) zs) h.right (rights.each h.number h.rule h.there)) f a

  pub own_renamed : AreLeast reps → (names now : List ℕ) → now ≡ rising (map (rep_in reps) names) → AreOwn (rep_in reps) now
  own_renamed least names now e =
      let P : ℕ → Type 0 = λ n. rep_in reps n ≡ n in
      subst (λ (zs : List ℕ). AreOwn (rep_in reps) zs) (sym e)
      (all_same P (rising (map (rep_in reps) names)) (map (rep_in reps) names) (same_rising (map (rep_in reps) names)) (all_of_map P (rep_in reps) names (all_always (λ n. P (rep_in reps n)) least.own names)))

  -- ---- descents
  pub descends_renamed : (names now : List ℕ) → now ≡ rising (map (rep_in reps) names) → DescendsBy reps kept u names now
  descends_renamed names now e =
      to_same (λ n r. rep_in reps n ≡ r) (IsRuleOf kept u) (renamed (λ n r. rep_in reps n ≡ r) (IsRuleOf kept u) (rep_in reps) (λ n. refl) names)
      (subst (λ (zs : List ℕ). IsSame (map (rep_in reps) names) zs) (sym e) (back (same_rising (map (rep_in reps) names))))

  pub descends_reduced : {a b : List ℕ} → ReducesTo (IsRuleOf kept u) a b → DescendsBy reps kept u a b
  descends_reduced f = reduced (λ n r. rep_in reps n ≡ r) (IsRuleOf kept u) f

  pub descends_both : {a b c : List ℕ} → DescendsBy reps kept u a b → DescendsBy reps kept u b c → DescendsBy reps kept u a c
  descends_both d e = descends_then (λ n r. rep_in reps n ≡ r) (IsRuleOf kept u) d e
