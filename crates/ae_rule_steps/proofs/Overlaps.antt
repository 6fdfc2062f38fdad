-- The overlap of two rules, as two rewritings of one multiset.
use Rattle.std.specs.Prelude.{ℕ, ◌+◌, ◌<◌, ◌≡◌, List, ◌++◌, length}
use Rattle.std.specs.List.{AllByRecursion}
use Rattle.std.proofs.Common.{sym, ◌∙◌, subst, arith}
use Rattle.std.proofs.lemmas.Option.{same_Some}
use Rattle.ae_base.proofs.AllOf.{all_append, all_front}
use Rattle.ae_core.specs.declared.terms.Sort.{Sort}
use Rattle.ae_core.specs.declared.terms.Term.{Term}
use Rattle.ae_core.specs.declared.problems.AcSymbol.{AcSymbol}
use Rattle.ae_core.specs.declared.problems.Signature.{Signature}
use Rattle.ae_multiset.specs.Multisets.{count, IsSame, minus, common}
use Rattle.ae_multiset.specs.Rewriting.{overlap_first, overlap_second}
use Rattle.ae_multiset.proofs.Counts.{count-append, count-minus, count-common}
use Rattle.ae_just.specs.declared.steps.Step.{Step}
use Rattle.ae_state_steps.specs.ManySteps.{IsOfSort, StatesMany}
use Rattle.ae_multiset_steps.specs.Equating.{AreNamesOf, IsRewriting}
use Rattle.ae_multiset_steps.proofs.Lists.{counted}
use Rattle.ae_monoid.specs.declared.rules.Kept.{Kept}
use Rattle.ae_monoid.specs.declared.pending.PendingPair.{PendingPair}
use Rattle.ae_monoid.specs.Rules.{IsWellKept}
use Rattle.ae_monoid.specs.Equations.{IsDeduced}
use Rattle.ae_rule_steps.specs.Said.{IsSaid}
use Rattle.ae_rule_steps.proofs.Turns.{all_of_part}

-- two equations of one symbol whose left sides share a name, and the two results of their overlap
pub record IsOverlapping (sig : Signature) (ts : List Term) (steps : List Step) (u : AcSymbol) (l1 r1 l2 r2 left right : List ℕ) (j1 j2 : ℕ) : Type 0 where
  pub names1 : AreNamesOf sig ts u (l1 ++ r1)
  pub names2 : AreNamesOf sig ts u (l2 ++ r2)
  pub states1 : StatesMany steps j1 u l1 r1
  pub states2 : StatesMany steps j2 u l2 r2
  pub shared : ℕ
  pub in1 : 0 < count shared l1
  pub in2 : 0 < count shared l2
  pub some1 : (0 < length l1) × (0 < length r1)
  pub some2 : (0 < length l2) × (0 < length r2)
  pub is_left : IsSame left (overlap_first l1 r1 l2)
  pub is_right : IsSame right (overlap_second l1 l2 r2)

pub overlapping_rules : (sig : Signature) (ts : List Term) (steps : List Step) (p q : Kept) (pair : PendingPair) → IsWellKept p → IsWellKept q → IsSaid sig ts steps p → IsSaid sig ts steps q → p.entry.symbol ≡ q.entry.symbol
    → IsDeduced p q pair → IsOverlapping sig ts steps pair.symbol p.entry.left p.entry.right q.entry.left q.entry.right pair.left pair.right p.just q.just
overlapping_rules sig ts steps p q pair wp wq sp sq e d =
    let a = sym d.symbol in
    let b = sym (d.symbol ∙ e) in
    let two_p = wp.two in
    let two_q = wq.two in
    record {
      names1 = subst (λ (u : AcSymbol). AreNamesOf sig ts u (p.entry.left ++ p.entry.right)) a sp.names;
      names2 = subst (λ (u : AcSymbol). AreNamesOf sig ts u (q.entry.left ++ q.entry.right)) b sq.names;
      states1 = subst (λ (u : AcSymbol). StatesMany steps p.just u p.entry.left p.entry.right) a sp.states;
      states2 = subst (λ (u : AcSymbol). StatesMany steps q.just u q.entry.left q.entry.right) b sq.states;
      shared = d.shared;
      in1 = d.in_first;
      in2 = d.in_second;
      some1 = (omega (arith, two_p), wp.some);
      some2 = (omega (arith, two_q), wq.some);
      is_left = d.left;
      is_right = d.right;
    }

module _ (sig : Signature) (ts : List Term) (steps : List Step) (u : AcSymbol) (l1 r1 l2 r2 left right : List ℕ) (j1 j2 : ℕ) (o : IsOverlapping sig ts steps u l1 r1 l2 r2 left right j1 j2) where
  -- lists that are equal to these
  pub overlapping_at : (a1 b1 a2 b2 a b : List ℕ) → a1 ≡ l1 → b1 ≡ r1 → a2 ≡ l2 → b2 ≡ r2 → a ≡ left → b ≡ right → IsOverlapping sig ts steps u a1 b1 a2 b2 a b j1 j2
  overlapping_at a1 b1 a2 b2 a b e1 f1 e2 f2 e f =
      subst (λ (zs : List ℕ). IsOverlapping sig ts steps u zs b1 a2 b2 a b j1 j2) (sym e1)
      (subst (λ (zs : List ℕ). IsOverlapping sig ts steps u l1 zs a2 b2 a b j1 j2) (sym f1)
      (subst (λ (zs : List ℕ). IsOverlapping sig ts steps u l1 r1 zs b2 a b j1 j2) (sym e2)
      (subst (λ (zs : List ℕ). IsOverlapping sig ts steps u l1 r1 l2 zs a b j1 j2) (sym f2)
      (subst (λ (zs : List ℕ). IsOverlapping sig ts steps u l1 r1 l2 r2 zs b j1 j2) (sym e)
      (subst (λ (zs : List ℕ). IsOverlapping sig ts steps u l1 r1 l2 r2 left zs j1 j2) (sym f) o)))))

  one_sort : o.names2.sort ≡ o.names1.sort
  one_sort =
      let s = o.names1.sort in
      let t = o.names2.sort in
      let p : IsOfSort sig ts s o.shared = counted (IsOfSort sig ts s) o.shared l1 (all_front (IsOfSort sig ts s) l1 r1 o.names1.sorted) o.in1 in
      let q : IsOfSort sig ts t o.shared = counted (IsOfSort sig ts t) o.shared l2 (all_front (IsOfSort sig ts t) l2 r2 o.names2.sorted) o.in2 in
      same_Some t s (sym q ∙ p)

  -- what is left of a left side beside the common part is of the symbol, with the other equation
  module _ (shared : List ℕ) (is_shared : IsSame shared (common l1 l2)) where
    pub first_rewriting : (rest : List ℕ) → IsSame rest (minus l2 shared) → IsRewriting sig ts steps u l1 r1 j1 rest left
    first_rewriting rest r =
        let s = o.names1.sort in
        let P = IsOfSort sig ts s in
        let all2 : AllByRecursion P l2 = subst (λ (t : Sort). AllByRecursion (IsOfSort sig ts t) l2) one_sort (all_front (IsOfSort sig ts o.names2.sort) l2 r2 o.names2.sorted) in
        let below : (x : ℕ) → count x rest < count x l2 + 1 = λ x. (let b = r.each x in omega (arith, b, count-minus x l2 shared)) in
        record {
          names = record { sort = s; symbol = o.names1.symbol; of_names = o.names1.of_names; sorted = all_append P (l1 ++ r1) rest o.names1.sorted (all_of_part P rest l2 (λ x. (let b = below x in omega (arith, b))) all2) };
          states = o.states1;
          left_some = o.some1.0;
          right_some = o.some1.1;
          after = record { each = after };
        }
      where
        after : (x : ℕ) → count x left ≡ count x (r1 ++ rest)
        after x =
            let a = o.is_left.each x in
            let b = r.each x in
            let c = is_shared.each x in
            omega (arith, a, b, c, count-append x r1 rest, count-append x r1 (minus l2 (common l1 l2)), count-minus x l2 shared, count-minus x l2 (common l1 l2))

    pub second_rewriting : (rest : List ℕ) → IsSame rest (minus l1 shared) → IsRewriting sig ts steps u l2 r2 j2 rest right
    second_rewriting rest r =
        let t = o.names2.sort in
        let P = IsOfSort sig ts t in
        let all1 : AllByRecursion P l1 = subst (λ (s : Sort). AllByRecursion (IsOfSort sig ts s) l1) (sym one_sort) (all_front (IsOfSort sig ts o.names1.sort) l1 r1 o.names1.sorted) in
        let below : (x : ℕ) → count x rest < count x l1 + 1 = λ x. (let b = r.each x in omega (arith, b, count-minus x l1 shared)) in
        record {
          names = record { sort = t; symbol = o.names2.symbol; of_names = o.names2.of_names; sorted = all_append P (l2 ++ r2) rest o.names2.sorted (all_of_part P rest l1 (λ x. (let b = below x in omega (arith, b))) all1) };
          states = o.states2;
          left_some = o.some2.0;
          right_some = o.some2.1;
          after = record { each = after };
        }
      where
        after : (x : ℕ) → count x right ≡ count x (r2 ++ rest)
        after x =
            let a = o.is_right.each x in
            let b = r.each x in
            let c = is_shared.each x in
            omega (arith, a, b, c, count-append x r2 rest, count-append x r2 (minus l1 (common l1 l2)), count-minus x l1 shared, count-minus x l1 (common l1 l2))

    -- both are rewritings of one multiset
    pub one_whole : (rest others : List ℕ) → IsSame rest (minus l2 shared) → IsSame others (minus l1 shared) → IsSame (l1 ++ rest) (l2 ++ others)
    one_whole rest others r q = record { each = each }
      where
        each : (x : ℕ) → count x (l1 ++ rest) ≡ count x (l2 ++ others)
        each x =
            let a = r.each x in
            let b = q.each x in
            let c = is_shared.each x in
            omega (arith, a, b, c, count-append x l1 rest, count-append x l2 others, count-minus x l2 shared, count-minus x l1 shared, count-common x l1 l2)
