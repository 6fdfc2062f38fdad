-- The oldest equation, reduced.
use Rattle.std.specs.Prelude.{ℕ, zero, suc, ◌<◌, ◌⊎◌, List, [], ◌∷◌, ◌++◌, ◌≡◌, map, length, slice_get, Some, Result, Ok, Err, IfOk}
use Rattle.std.specs.List.{AllByRecursion}
use Rattle.std.specs.List.Sorted.{IsNonDecreasing}
use Rattle.std.proofs.Common.{sym, subst, inl, inr}
use Rattle.std.proofs.lemmas.Option.{same_Some}
use Rattle.ae_base.specs.Relations.{Pairwise}
use Rattle.ae_base.proofs.AllOf.{all_append, all_back, all_front}
use Rattle.ae_conflicts.specs.Saying.{RestsOnAssumed}
use Rattle.ae_core.specs.declared.problems.AcSymbol.{AcSymbol}
use Rattle.ae_core.specs.declared.problems.Signature.{Signature}
use Rattle.ae_core.specs.declared.terms.Term.{Term}
use Rattle.ae_equation_turns.specs.Said.{IsWaitingSaid, IsHeld, RestsOnHeld}
use Rattle.ae_equation_turns.specs.Turned.{DescendsBy, AreRightsOwn, AreLeast}
use Rattle.ae_equations.specs.Queued.{waiting}
use Rattle.ae_equations.specs.declared.queue.Waiting.{Waiting}
use Rattle.ae_journal.proofs.Splits.{all_contained}
use Rattle.ae_just.specs.Steps.{Fits}
use Rattle.ae_just.specs.declared.steps.Step.{Step}
use Rattle.ae_monoid.specs.Rules.{Contents as Rules, rule_at, IsRuleOf}
use Rattle.ae_multiset.specs.Rewriting.{IsReduced}
use Rattle.ae_multiset_steps.specs.Equating.{RestsOnThese, AreNamesOf, AreEquated}
use Rattle.ae_pmap.specs.Forest.{present}
use Rattle.ae_pmap.specs.Walk.{first_of}
use Rattle.ae_rule_steps.specs.Said.{AreSaid, IsJustOf}
use Rattle.ae_state_steps.specs.ManySteps.{IsOfSort, StatesMany}
use Rattle.ae_store.specs.Growing.{IsFront}
use Rattle.ae_store.specs.Parts.{IsIn}
use Rattle.ae_store.specs.Stores.{Stored}
use Rattle.ae_store.proofs.EnterLaws.{front_same}
use Rattle.ae_store.proofs.PartLaws.{is_one}
use Rattle.ae_settled.specs.Swept.{AreOwn}
use Rattle.ae_sweeps.specs.Given.{rep_in}
use Rattle.ae_theory.specs.Names.{terms_in}
use Rattle.ae_value_fitting.specs.Sources.{RestsOnValues}
use Rattle.ae_state.specs.declared.holding.Holding.{Holding}
use Rattle.ae_state.specs.Names.{all_terms}
use Rattle.ae_state.specs.Right.{IsReason, of_rule, of_equation}
use Rattle.ae_state.proofs.Growing.{held_more}
use Rattle.ae_state.proofs.Reasons.{reason_within}
use Rattle.ae_turns.specs.Representing.{IsTaken, AreRepresentatives}
use Rattle.ae_turns.proofs.Representatives.{representatives_are_least}
use Rattle.ae_representatives.specs.Equal.{IsRepresented, IsEqualTo}
use Rattle.ae_representatives.proofs.EqualTo.{rests_sooner, equal_longer, equated, equal_rests}
use Rattle.ae_representatives.proofs.Taken.{said_all, ruled_all, represented, names_with_reps}
use Rattle.ae_representatives.proofs.MoreSteps.{with_steps, rests_more, rests_by_values, rests_by_these}
use Rattle.ae_orienting.specs.Inner.Reduced.{IsSide, Descend, IsReducedTo, IsFirstReduced}
use Rattle.ae_orienting.proofs.Forgetting.{first_contained}

in_parts : (a : ℕ) (xs ys : List ℕ) (place : ℕ) → slice_get (xs ++ ys) place ≡ Some a → IsIn a xs ⊎ IsIn a ys
in_parts a [] ys place e = inr (record { place = place; is = e })
in_parts a (x ∷ xs) ys zero e = inl (record { place = 0; is = e })
in_parts a (x ∷ xs) ys (suc k) e = elim (in_parts a xs ys k e) [ inl i ↦ inl (record { place = suc i.place; is = i.is }) | inr i ↦ inr i ]

-- the two sides change places
names_turned : (sig : Signature) (ts : List Term) (u : AcSymbol) (xs ys : List ℕ) → AreNamesOf sig ts u (xs ++ ys) → AreNamesOf sig ts u (ys ++ xs)
names_turned sig ts u xs ys a =
    let P = IsOfSort sig ts a.sort in
    record { sort = a.sort; symbol = a.symbol; of_names = a.of_names; sorted = all_append P ys xs (all_back P xs ys a.sorted) (all_front P xs ys a.sorted) }

module _ (o : Holding) (s : Stored) (t : IsTaken o s) (w : Waiting) (at : first_of (waiting o.equations.queue) ≡ Some w) where
  -- ---- the equation and the rules are said, also where there are more steps
  held_then : (js : List Step) → IsFront o.justs js → IsHeld s.signature (terms_in s) js o.equations
  held_then js f =
      subst (λ (ks : List Step). IsHeld s.signature (terms_in s) ks o.equations) (sym f.1) (held_more s.signature (terms_in s) o.justs f.0 o.equations (ruled_all o s t))

  pub rules_said : (js : List Step) → IsFront o.justs js → AreSaid s.signature (terms_in s) js (λ n. rule_at o.equations.rules n)
  rules_said js f = (held_then js f).rules

  pub first_said : (js : List Step) → IsFront o.justs js → IsWaitingSaid s.signature (terms_in s) js w
  first_said js f =
      all_contained (IsWaitingSaid s.signature (terms_in s) js) (waiting o.equations.queue) w (held_then js f).waiting (first_contained (waiting o.equations.queue) w at)

  -- ---- its names
  left_names : AreNamesOf s.signature (terms_in s) w.symbol w.left
  left_names =
      let a = (first_said o.justs (front_same o.justs)).names in
      record { sort = a.sort; symbol = a.symbol; of_names = a.of_names; sorted = all_front (IsOfSort s.signature (terms_in s) a.sort) w.left w.right a.sorted }

  right_names : AreNamesOf s.signature (terms_in s) w.symbol w.right
  right_names =
      let a = (first_said o.justs (front_same o.justs)).names in
      record { sort = a.sort; symbol = a.symbol; of_names = a.of_names; sorted = all_back (IsOfSort s.signature (terms_in s) a.sort) w.left w.right a.sorted }

  module _ (reps : List ℕ) (r : AreRepresentatives o reps) where
    pub left_represented : AllByRecursion (IsRepresented s.signature (terms_in s) o.values reps) w.left
    left_represented = represented o s t reps r left_names.sort w.left left_names.sorted

    pub right_represented : AllByRecursion (IsRepresented s.signature (terms_in s) o.values reps) w.right
    right_represented = represented o s t reps r right_names.sort w.right right_names.sorted

    pub left_with_reps : AreNamesOf s.signature (terms_in s) w.symbol (w.left ++ map (rep_in reps) w.left)
    left_with_reps = names_with_reps o s t reps r w.symbol w.left left_names

    pub right_with_reps : AreNamesOf s.signature (terms_in s) w.symbol (w.right ++ map (rep_in reps) w.right)
    right_with_reps = names_with_reps o s t reps r w.symbol w.right right_names

  -- ---- what the new step rests on
  module _ (js : List Step) (f : IsFront o.justs js) where
    of_reason : (id : ℕ) → IsReason o id → RestsOnAssumed (all_terms o) js (present o.assumed) id
    of_reason id q = rests_more o js f ((t.fits).right).steps id (reason_within o (t.fits).right id q) (((t.fits).right).grounded id q)

    pub first_grounded : (new : List Step) (ls rs : List ℕ) (id : ℕ) → ((p : ℕ) → IsIn p ls → RestsOnValues o.justs js o.values [] p) → ((p : ℕ) → IsIn p rs → RestsOnValues o.justs js o.values [] p)
        → RestsOnHeld (λ n. rule_at o.equations.rules n) w.symbol (w.step ∷ ls ++ rs) js new id → RestsOnAssumed (all_terms o) new (present o.assumed) id
    first_grounded new ls rs id left right h = record { each = λ k tag st on there is. (let u = (h.rests).each k tag st on there is in (by_given u.by (h.are u.by u.one)).each k tag st u.rests u.there is) }
      where
        by_values : (by : ℕ) → RestsOnValues o.justs js o.values [] by → RestsOnAssumed (all_terms o) js (present o.assumed) by
        by_values by v = rests_by_values o js (t.fits).right by v

        by_place : (by place : ℕ) → slice_get (w.step ∷ ls ++ rs) place ≡ Some by → RestsOnAssumed (all_terms o) js (present o.assumed) by
        by_place by zero e = of_reason by (of_equation w (first_contained (waiting o.equations.queue) w at) (same_Some w.step by e))
        by_place by (suc k) e = elim (in_parts by ls rs k e) [ inl i ↦ by_values by (left by i) | inr i ↦ by_values by (right by i) ]

        by_given : (by : ℕ) → IsIn by (w.step ∷ ls ++ rs) ⊎ IsJustOf (λ n. rule_at o.equations.rules n) w.symbol by → RestsOnAssumed (all_terms o) js (present o.assumed) by
        by_given by (inl i) = by_place by i.place i.is
        by_given by (inr j) = of_reason by (of_rule j.number j.rule j.there j.is)

  -- ---- steps that equate its names with their representatives
  module _ (reps : List ℕ) (one two : List Step) (g : IsFront one two) (fits : Fits s.signature (terms_in s) two) where
    pub left_equated : (ls : List ℕ) → Pairwise (IsEqualTo o.justs one o.values reps) w.left ls → AreEquated two w.left (map (rep_in reps) w.left) ls
    left_equated ls all = equated o.justs two o.values reps w.left ls (equal_longer s.signature (terms_in s) reps o.values o.justs one two g fits w.left ls all)

    pub right_equated : (rs : List ℕ) → Pairwise (IsEqualTo one two o.values reps) w.right rs → AreEquated two w.right (map (rep_in reps) w.right) rs
    right_equated rs all = equated one two o.values reps w.right rs all

    pub left_rests : (ls : List ℕ) → Pairwise (IsEqualTo o.justs one o.values reps) w.left ls → (p : ℕ) → IsIn p ls → RestsOnValues o.justs two o.values [] p
    left_rests ls all p m = equal_rests o.justs two o.values reps w.left ls (equal_longer s.signature (terms_in s) reps o.values o.justs one two g fits w.left ls all) p m

    pub right_rests : IsFront o.justs one → Fits s.signature (terms_in s) one → (rs : List ℕ) → Pairwise (IsEqualTo one two o.values reps) w.right rs → (p : ℕ) → IsIn p rs
        → RestsOnValues o.justs two o.values [] p
    right_rests f before rs all p m = rests_sooner s.signature (terms_in s) o.justs one two f before o.values (said_all o s t) p (equal_rests one two o.values reps w.right rs all p m)

  -- ---- its sides, by the rules that are held
  module _ (reps : List ℕ) (r : AreRepresentatives o reps) (rules : Rules) (same : rules ≡ o.equations.rules) where
    pub side_of : AreRightsOwn reps (λ n. rule_at o.equations.rules n) → (names : List ℕ) → (AreLeast reps → AreRightsOwn reps (λ n. rule_at rules n) → AreOwn (rep_in reps) names)
        → IsReduced (IsRuleOf (λ n. rule_at rules n) w.symbol) names → IsNonDecreasing names → 0 < length names → IsSide reps (λ n. rule_at o.equations.rules n) w.symbol names
    side_of rights names own reduced rises some = record {
      own = own (representatives_are_least o reps r) (subst (λ (z : Rules). AreRightsOwn reps (λ n. rule_at z n)) (sym same) rights);
      reduced = subst (λ (z : Rules). IsReduced (IsRuleOf (λ n. rule_at z n) w.symbol) names) same reduced;
      rises = rises;
      some = some;
    }

    pub descend_of : (l q : List ℕ) → DescendsBy reps (λ n. rule_at rules n) w.symbol w.left l → DescendsBy reps (λ n. rule_at rules n) w.symbol w.right q → Descend reps (λ n. rule_at o.equations.rules n) w l q
    descend_of l q a b = subst (λ (z : Rules). Descend reps (λ n. rule_at z n) w l q) same (a, b)

  -- ---- all of it
  module _ (reps : List ℕ) (js : List Step) (l r : List ℕ) (left : IsSide reps (λ n. rule_at o.equations.rules n) w.symbol l) (right : IsSide reps (λ n. rule_at o.equations.rules n) w.symbol r)
      (descend : Descend reps (λ n. rule_at o.equations.rules n) w l r) (names : AreNamesOf s.signature (terms_in s) w.symbol (l ++ r)) where
    reduced_to : (e : Waiting) → e.symbol ≡ w.symbol → ((e.left ≡ l) × (e.right ≡ r)) ⊎ ((e.left ≡ r) × (e.right ≡ l)) → StatesMany js e.step w.symbol e.left e.right
        → RestsOnAssumed (all_terms o) js (present o.assumed) e.step → IsReducedTo s (with_steps o js) reps w e
    reduced_to e u (inl (a, b)) states rests = record {
      symbol = u;
      left = subst (λ (xs : List ℕ). IsSide reps (λ n. rule_at o.equations.rules n) w.symbol xs) (sym a) left;
      right = subst (λ (xs : List ℕ). IsSide reps (λ n. rule_at o.equations.rules n) w.symbol xs) (sym b) right;
      descend = inl (subst (λ (z : List ℕ × List ℕ). Descend reps (λ n. rule_at o.equations.rules n) w z.0 z.1) (λ i. (sym a i, sym b i)) descend);
      said = record {
        names = subst (λ (z : AcSymbol × List ℕ × List ℕ). AreNamesOf s.signature (terms_in s) z.0 (z.1 ++ z.2)) (λ i. (sym u i, sym a i, sym b i)) names;
        left_some = subst (λ (xs : List ℕ). 0 < length xs) (sym a) left.some;
        right_some = subst (λ (xs : List ℕ). 0 < length xs) (sym b) right.some;
        states = subst (λ (v : AcSymbol). StatesMany js e.step v e.left e.right) (sym u) states;
      };
      rests = rests;
    }
    reduced_to e u (inr (a, b)) states rests = record {
      symbol = u;
      left = subst (λ (xs : List ℕ). IsSide reps (λ n. rule_at o.equations.rules n) w.symbol xs) (sym a) right;
      right = subst (λ (xs : List ℕ). IsSide reps (λ n. rule_at o.equations.rules n) w.symbol xs) (sym b) left;
      descend = inr (subst (λ (z : List ℕ × List ℕ). Descend reps (λ n. rule_at o.equations.rules n) w z.1 z.0) (λ i. (sym a i, sym b i)) descend);
      said = record {
        names = subst (λ (z : AcSymbol × List ℕ × List ℕ). AreNamesOf s.signature (terms_in s) z.0 (z.1 ++ z.2)) (λ i. (sym u i, sym a i, sym b i))
            (names_turned s.signature (terms_in s) w.symbol l r names);
        left_some = subst (λ (xs : List ℕ). 0 < length xs) (sym a) right.some;
        right_some = subst (λ (xs : List ℕ). 0 < length xs) (sym b) left.some;
        states = subst (λ (v : AcSymbol). StatesMany js e.step v e.left e.right) (sym u) states;
      };
      rests = rests;
    }

    pub first_reduced : {E : Type 0} (mid : List Step) (id : ℕ) (res : Result Waiting E) → RestsOnAssumed (all_terms o) mid (present o.assumed) id → IfOk res (λ e. e.symbol ≡ w.symbol)
        → IfOk res (λ e. ((e.left ≡ l) × (e.right ≡ r)) ⊎ ((e.left ≡ r) × (e.right ≡ l))) → IfOk res (λ e. StatesMany js e.step w.symbol e.left e.right)
        → IfOk res (λ e. RestsOnThese mid js e.step (id ∷ [])) → IfOk res (λ e. IsFirstReduced s (with_steps o js) reps e)
    first_reduced mid id (Ok e) before u sides states rests =
        let grounded = rests_by_these (with_steps o mid) js (id ∷ []) e.step rests (λ p m. subst (RestsOnAssumed (all_terms o) mid (present o.assumed)) (sym (is_one p id m)) before) in
        record { first = w; at = at; to = reduced_to e u sides states grounded }
    first_reduced mid id (Err x) before u sides states rests = tt
