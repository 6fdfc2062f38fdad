-- Normal forms by the rules of a symbol, step by step.
use Rattle.std.proofs.Common.{drop, get_or}
use Rattle.std.proofs.lemmas.List.{drop_more, drop_all}
use Rattle.std.specs.Prelude.{ℕ, zero, suc, ◌+◌, ◌<◌, ◌≤◌, Bool, true, false, cond, ◌&&◌, ◌≡◌, List, [], ◌∷◌, ◌++◌, length, slice_get, Option, Some, None}
use Rattle.std.proofs.Common.{inl, inr}
use Rattle.std.proofs.lemmas.Bool.{and_parts}
use Rattle.ae_base.proofs.Tests.{true_false}
use mathlib.Core.Path.{refl, sym, ap, ◌∙◌}
use native.Mathlib.Omega.{arith}
use Rattle.ae_base.specs.Decided.{decided}
use Rattle.ae_base.proofs.Decided.{decided_of, decided_yes}
use Rattle.ae_base.proofs.Options.{never_some}
use Rattle.ae_core.specs.Decided.{Head_discrete, Sorts_discrete}
use Rattle.ae_core.specs.Sorts.{same_sorts}
use Rattle.ae_core.specs.declared.problems.AcSymbol.{AcSymbol}
use Rattle.ae_core.specs.declared.terms.Head.{Head}
use Rattle.ae_core.specs.declared.terms.Sort.{Sort}
use Rattle.ae_multiset.specs.Multisets.{count, minus, without, rising}
use Rattle.ae_multiset.specs.Normal as normal
use Rattle.ae_multiset.specs.Normal.{stepped, reduced_within, top, tops, normal_form}
use Rattle.ae_multiset.specs.Ranks.{rank}
use Rattle.ae_multiset.specs.Rewriting.{ReducesTo, IsReduced, Decreases, IsNormalForm}
use Rattle.ae_multiset.specs.Rewriting.ReducesTo.{done, more}
use Rattle.ae_multiset.proofs.Counts.{count-minus}
use Rattle.ae_multiset.proofs.Reducing.{rules_split, is_normal_form}
use Rattle.ae_multiset.proofs.Rising.{count-rising}
use Rattle.ae_journal.specs.Systems.{IsRule}
use Rattle.ae_journal.specs.Evaluate.{sides_at}
use Rattle.ae_journal.specs.declared.systems.RuleEntry.{RuleEntry}
use Rattle.ae_journal.specs.declared.systems.System.{System}
use Rattle.ae_decide.specs.Overlaps.{AllFall, nf, step_by}
use Rattle.ae_decide.specs.Reduction.{is_empty, same_symbol, reduces}

-- ---- the steps of the loops
pub minus_step : (a taken : List ℕ) (i d : ℕ) → i < length taken → minus a (drop i taken) ≡ minus (without (get_or taken i d) a) (drop (i + 1) taken)
minus_step a taken i d h = ap (minus a) (drop_more taken i d h)

one_step : (c : AcSymbol) (e : RuleEntry) (es : List RuleEntry) (a : List ℕ)
    → stepped (sides_at c.head c.sorts (e ∷ es)) a ≡ cond (reduces e c a) (Some (e.right ++ minus a e.left)) (stepped (sides_at c.head c.sorts es) a)
unfolding stepped
one_step c e es a = go (same_symbol e.symbol c) (minus e.left a)
  where
    go : (b : Bool) (m : List ℕ)
        → stepped (cond b ((e.left, e.right) ∷ sides_at c.head c.sorts es) (sides_at c.head c.sorts es)) a
        ≡ cond (b && is_empty (minus e.left a)) (Some (e.right ++ minus a e.left)) (stepped (sides_at c.head c.sorts es) a)
    go false m = refl
    go true m = by_rest (minus e.left a)
      where
        by_rest : (m : List ℕ) → (elim m as (λ _. Option (List ℕ)) [ [] ↦ Some (e.right ++ minus a e.left) | x ∷ xs ↦ stepped (sides_at c.head c.sorts es) a ])
            ≡ cond (is_empty m) (Some (e.right ++ minus a e.left)) (stepped (sides_at c.head c.sorts es) a)
        by_rest [] = refl
        by_rest (x ∷ xs) = refl

pub step_here : (es : List RuleEntry) (c : AcSymbol) (a : List ℕ) (i : ℕ) (d : RuleEntry) → i < length es → reduces (get_or es i d) c a ≡ true
    → step_by (drop i es) c a ≡ Some ((get_or es i d).right ++ minus a (get_or es i d).left)
unfolding step_by
step_here es c a i d h e =
    ap (λ rest. stepped (sides_at c.head c.sorts rest) a) (drop_more es i d h) ∙ one_step c (get_or es i d) (drop (i + 1) es) a
    ∙ ap (λ b. cond b (Some ((get_or es i d).right ++ minus a (get_or es i d).left)) (stepped (sides_at c.head c.sorts (drop (i + 1) es)) a)) e

pub step_past : (es : List RuleEntry) (c : AcSymbol) (a : List ℕ) (i : ℕ) (d : RuleEntry) → i < length es → reduces (get_or es i d) c a ≡ false
    → step_by (drop (i + 1) es) c a ≡ step_by (drop i es) c a
unfolding step_by
step_past es c a i d h e =
    sym (ap (λ rest. stepped (sides_at c.head c.sorts rest) a) (drop_more es i d h) ∙ one_step c (get_or es i d) (drop (i + 1) es) a
    ∙ ap (λ b. cond b (Some ((get_or es i d).right ++ minus a (get_or es i d).left)) (stepped (sides_at c.head c.sorts (drop (i + 1) es)) a)) e)

pub step_end : (es : List RuleEntry) (c : AcSymbol) (a : List ℕ) (i : ℕ) → length es ≤ i → step_by (drop i es) c a ≡ None
unfolding step_by stepped
step_end es c a i h = ap (λ rest. stepped (sides_at c.head c.sorts rest) a) (drop_all i es h)

-- ---- steps for as long as there is one
abbrev pub Sides : Type 0
Sides = List (List ℕ × List ℕ)

-- there are at most n steps
abbrev pub Ends : Sides → ℕ → List ℕ → Type 0
Ends rules n a = stepped rules (reduced_within n rules a) ≡ None

-- how many there are
abbrev pub count_steps : Sides → ℕ → List ℕ → ℕ
count_steps rules zero a = 0
count_steps rules (suc n) a = elim (stepped rules a) [ None ↦ 0 | Some b ↦ suc (count_steps rules n b) ]

module _ (rules : Sides) where
  within_none : (n : ℕ) (a : List ℕ) → stepped rules a ≡ None → reduced_within n rules a ≡ a
  unfolding reduced_within
  within_none zero a e = refl
  within_none (suc n) a e = ap (λ (o : Option (List ℕ)). elim o as (λ _. List ℕ) [ None ↦ a | Some b ↦ reduced_within n rules b ]) e

  within_some : (n : ℕ) (a b : List ℕ) → stepped rules a ≡ Some b → reduced_within (suc n) rules a ≡ reduced_within n rules b
  unfolding reduced_within
  within_some n a b e = ap (λ (o : Option (List ℕ)). elim o as (λ _. List ℕ) [ None ↦ a | Some b ↦ reduced_within n rules b ]) e

  none_left : (a : List ℕ) → Ends rules 0 a → stepped rules a ≡ None
  unfolding reduced_within
  none_left a e = e

  within_more : (n : ℕ) (a : List ℕ) → Ends rules n a → reduced_within (suc n) rules a ≡ reduced_within n rules a
  within_more zero a e = within_none 1 a (none_left a e) ∙ sym (within_none 0 a (none_left a e))
  within_more (suc n) a e = go (within_more n) (stepped rules a) refl
    where
      go : ((b : List ℕ) → Ends rules n b → reduced_within (suc n) rules b ≡ reduced_within n rules b)
          → (o : Option (List ℕ)) → stepped rules a ≡ o → reduced_within (suc (suc n)) rules a ≡ reduced_within (suc n) rules a
      go ih None q = within_none (suc (suc n)) a q ∙ sym (within_none (suc n) a q)
      go ih (Some b) q =
          within_some (suc n) a b q ∙ ih b (sym (ap (stepped rules) (within_some n a b q)) ∙ e) ∙ sym (within_some n a b q)

  count_none : (n : ℕ) (a : List ℕ) → stepped rules a ≡ None → count_steps rules n a ≡ 0
  count_none zero a e = refl
  count_none (suc n) a e = ap (λ (o : Option (List ℕ)). elim o as (λ _. ℕ) [ None ↦ 0 | Some b ↦ suc (count_steps rules n b) ]) e

  count_some : (n : ℕ) (a b : List ℕ) → stepped rules a ≡ Some b → count_steps rules (suc n) a ≡ suc (count_steps rules n b)
  count_some n a b e = ap (λ (o : Option (List ℕ)). elim o as (λ _. ℕ) [ None ↦ 0 | Some b ↦ suc (count_steps rules n b) ]) e

  count_more : (n : ℕ) (a : List ℕ) → Ends rules n a → count_steps rules (suc n) a ≡ count_steps rules n a
  count_more zero a e = count_none 1 a (none_left a e)
  count_more (suc n) a e = go (count_more n) (stepped rules a) refl
    where
      go : ((b : List ℕ) → Ends rules n b → count_steps rules (suc n) b ≡ count_steps rules n b)
          → (o : Option (List ℕ)) → stepped rules a ≡ o → count_steps rules (suc (suc n)) a ≡ count_steps rules (suc n) a
      go ih None q = count_none (suc (suc n)) a q ∙ sym (count_none (suc n) a q)
      go ih (Some b) q =
          count_some (suc n) a b q ∙ ap suc (ih b (sym (ap (stepped rules) (within_some n a b q)) ∙ e)) ∙ sym (count_some n a b q)

  -- what a step does
  pub record Next (n : ℕ) (a b : List ℕ) : Type 0 where
    pub ends : Ends rules n b
    pub same : reduced_within n rules b ≡ reduced_within n rules a
    pub falls : count_steps rules n b < count_steps rules n a

  pub next : (n : ℕ) (a b : List ℕ) → Ends rules n a → stepped rules a ≡ Some b → Next n a b
  next zero a b e q = absurd (never_some b (sym (none_left a e) ∙ q))
  next (suc n) a b e q =
      let f : Ends rules n b = sym (ap (stepped rules) (within_some n a b q)) ∙ e in
      let m = within_more n b f in
      let c = count_more n b f in
      let d = count_some n a b q in
      record { ends = ap (stepped rules) m ∙ f; same = m ∙ sym (within_some n a b q); falls = omega (arith, c, d) }

  pub ended : (n : ℕ) (a b : List ℕ) → reduced_within n rules b ≡ reduced_within n rules a → stepped rules b ≡ None → b ≡ reduced_within n rules a
  ended n a b e q = sym (within_none n b q) ∙ e

-- no step of a reduced multiset
not_stepped : (rules : Sides) (a : List ℕ) → IsReduced (normal.IsRule rules) a → stepped rules a ≡ None
unfolding stepped
not_stepped [] a r = refl
not_stepped (e ∷ es) a r = go (not_stepped es a (λ l m i p. r l m (suc i.0, omega (arith, i.1), i.2) p)) (minus e.0 a) refl
  where
    go : stepped es a ≡ None → (m : List ℕ) → minus e.0 a ≡ m
        → (elim m as (λ _. Option (List ℕ)) [ [] ↦ Some (e.1 ++ minus a e.0) | x ∷ xs ↦ stepped es a ]) ≡ None
    go ih [] q = absurd (r e.0 e.1 (zero, omega arith, refl) (record { each = λ x. omega (arith, count-minus x e.0 a, ap (count x) q) }))
    go ih (x ∷ xs) q = ih

-- ---- the rules of a symbol
module _ (h : Head) (ss : List Sort) where
  abbrev Stands : List RuleEntry → List ℕ → List ℕ → Type 0
  Stands es l r = (k : ℕ) × (slice_get es k ≡ Some (record { symbol = record { head = h; sorts = ss }; left = l; right = r }))

  of_sides : (es : List RuleEntry) (l r : List ℕ) → normal.IsRule (sides_at h ss es) l r → Stands es l r
  of_sides [] l r s = absurd (omega (arith, s.1))
  of_sides (e ∷ es) l r s = tested (of_sides es l r) (decided (Head_discrete e.symbol.head h) && same_sorts e.symbol.sorts ss) refl s
    where
      tested : (normal.IsRule (sides_at h ss es) l r → Stands es l r) → (b : Bool) → decided (Head_discrete e.symbol.head h) && same_sorts e.symbol.sorts ss ≡ b
          → normal.IsRule (cond b ((e.left, e.right) ∷ sides_at h ss es) (sides_at h ss es)) l r → Stands (e ∷ es) l r
      tested ih false z s = let (k, q) = ih s in (suc k, q)
      tested ih true z s =
          let p = and_parts (decided (Head_discrete e.symbol.head h)) (same_sorts e.symbol.sorts ss) z in
          let a = decided_yes (Head_discrete e.symbol.head h) p.0 in
          let b = decided_yes (Sorts_discrete e.symbol.sorts ss) p.1 in
          elim (rules_split (e.left, e.right) (sides_at h ss es) l r s) as (λ _. Stands (e ∷ es) l r) [
            | inl q ↦ (zero, λ i. Some (record { symbol = record { head = a i; sorts = b i }; left = (q i).0; right = (q i).1 }))
            | inr q ↦ let (k, w) = ih q in (suc k, w)
          ]

  in_sides : (es : List RuleEntry) (l r : List ℕ) → Stands es l r → normal.IsRule (sides_at h ss es) l r
  in_sides [] l r (k, q) = absurd (cc)
  in_sides (e ∷ es) l r (k, q) = placed (λ m w. in_sides es l r (m, w)) k q
    where
      deeper : (b : Bool) → normal.IsRule (sides_at h ss es) l r → normal.IsRule (cond b ((e.left, e.right) ∷ sides_at h ss es) (sides_at h ss es)) l r
      deeper true (m, k, w) = (suc m, omega (arith, k), w)
      deeper false i = i

      first : e ≡ record { symbol = record { head = h; sorts = ss }; left = l; right = r } → (b : Bool)
          → decided (Head_discrete e.symbol.head h) && same_sorts e.symbol.sorts ss ≡ b
          → normal.IsRule (cond b ((e.left, e.right) ∷ sides_at h ss es) (sides_at h ss es)) l r
      first z true q = (zero, omega arith, λ i. ((z i).left, (z i).right))
      first z false q =
          let a = decided_of (Head_discrete e.symbol.head h) (ap (λ (f : RuleEntry). f.symbol.head) z) in
          let b = decided_of (Sorts_discrete e.symbol.sorts ss) (ap (λ (f : RuleEntry). f.symbol.sorts) z) in
          true_false (sym (λ i. a i && b i) ∙ q)

      placed : ((m : ℕ) → slice_get es m ≡ Some (record { symbol = record { head = h; sorts = ss }; left = l; right = r }) → normal.IsRule (sides_at h ss es) l r)
          → (k : ℕ) → slice_get (e ∷ es) k ≡ Some (record { symbol = record { head = h; sorts = ss }; left = l; right = r })
          → normal.IsRule (sides_at h ss (e ∷ es)) l r
      placed ih (suc m) q = deeper (decided (Head_discrete e.symbol.head h) && same_sorts e.symbol.sorts ss) (ih m q)
      placed ih zero q =
          let z : e ≡ record { symbol = record { head = h; sorts = ss }; left = l; right = r } = cc in
          first z (decided (Head_discrete e.symbol.head h) && same_sorts e.symbol.sorts ss) refl

  sides_fall : (es : List RuleEntry) → AllFall es → Decreases (normal.IsRule (sides_at h ss es))
  sides_fall es falls l r i = let (k, q) = of_sides es l r i in falls k _ q

-- ---- the loop of the normal form
abbrev pub fuel : List RuleEntry → AcSymbol → List ℕ → ℕ
fuel es c a = rank (length a) (top a + tops (sides_at c.head c.sorts es)) a

pub at_first : (es : List RuleEntry) (c : AcSymbol) (a : List ℕ) → AllFall es → Ends (sides_at c.head c.sorts es) (fuel es c a) a
unfolding normal_form
at_first es c a falls =
    let rules = sides_at c.head c.sorts es in
    let b = reduced_within (fuel es c a) rules a in
    not_stepped rules b
    (λ l r i p. (is_normal_form rules (sides_fall c.head c.sorts es falls)).reduced a l r i (record { each = λ x. omega (arith, p.each x, count-rising x b) }))

pub at_step : (es : List RuleEntry) (c : AcSymbol) (a b m : List ℕ) → Ends (sides_at c.head c.sorts es) (fuel es c a) b → step_by es c b ≡ Some m
    → Next (sides_at c.head c.sorts es) (fuel es c a) b m
unfolding step_by
at_step es c a b m e q = next (sides_at c.head c.sorts es) (fuel es c a) b m e q

pub at_last : (es : List RuleEntry) (c : AcSymbol) (a b : List ℕ)
    → reduced_within (fuel es c a) (sides_at c.head c.sorts es) b ≡ reduced_within (fuel es c a) (sides_at c.head c.sorts es) a
    → step_by es c b ≡ None → rising b ≡ nf es c a
unfolding normal_form step_by
at_last es c a b e q = ap rising (ended (sides_at c.head c.sorts es) (fuel es c a) a b e q)

-- ---- normal forms by the rules of a system
module _ (y : System) (h : Head) (ss : List Sort) where
  follows_by : {a b : List ℕ} → ReducesTo (normal.IsRule (sides_at h ss y.rules)) a b → ReducesTo (IsRule y h ss) a b
  follows_by (done p) = done p
  follows_by (more s f) =
      more (record { left = s.left; right = s.right; rule = of_sides h ss y.rules s.left s.right s.rule; rest = s.rest; before = s.before; after = s.after })
      (follows_by f)

  pub normal_forms : AllFall y.rules → IsNormalForm (IsRule y h ss) (nf y.rules (record { head = h; sorts = ss }))
  normal_forms falls =
      let n = is_normal_form (sides_at h ss y.rules) (sides_fall h ss y.rules falls) in
      record {
        follows = λ a. follows_by (n.follows a);
        reduced = λ a l r i p. n.reduced a l r (in_sides h ss y.rules l r i) p;
        rises = n.rises;
      }
