-- A decision for the clauses on overlaps and on names of AC symbols, where the rules fit.
use Rattle.std.proofs.Math.Bool.{Bool-discrete}
use Rattle.std.specs.Prelude.{false, ℕ, ◌≤◌, ◌≡◌, List, [], ◌∷◌, length, Some}
use Rattle.std.specs.List.Sorted.{IsNonDecreasing}
use Rattle.std.proofs.lemmas.List.Sorted.{IsNonDecreasingBy-short}
use mathlib.Core.List.{List-discrete}
use mathlib.Core.Path.{refl, subst}
use native.Mathlib.Decide.{map_dec, ℕ_discrete}
use native.Mathlib.Omega.{arith}
use Rattle.ae_core.specs.Sorts.{sort_of}
use Rattle.ae_core.specs.declared.problems.Signature.{Signature}
use Rattle.ae_core.specs.declared.terms.Head.{Head}
use Rattle.ae_core.specs.declared.terms.Head.TheVariants as head
use Rattle.ae_core.specs.declared.terms.Op.TheVariants as op
use Rattle.ae_core.specs.declared.terms.Sort.{Sort}
use Rattle.ae_core.specs.declared.terms.Term.{Term, Apply}
use Rattle.ae_rules.specs.Linear.{form, is_number}
use Rattle.ae_multiset.specs.Multisets.{IsPart}
use Rattle.ae_multiset.specs.Rewriting.{Decreases, ReducesTo}
use Rattle.ae_multiset.proofs.NormalForms.{linked_from, nf_only}
use Rattle.ae_journal.specs.Evaluate.{reduced_by}
use Rattle.ae_journal.specs.Evaluation.{Reduction}
use Rattle.ae_journal.specs.Values.{Val}
use Rattle.ae_journal.specs.Systems.{IsCompleted, IsJoin, IsName, IsRule, Represents, StandsFor, ValueOf, value_at}
use Rattle.ae_journal.specs.declared.systems.System.{System}
use Rattle.ae_evaluation.proofs.Names.{two_parts}
use Rattle.ae_evaluation.proofs.Rules.{reduction_of}
use Rattle.ae_decide.specs.Clauses.{Part, Clause, RulesFit, AllOverlapsJoin, AllNamesJoin}
use Rattle.ae_decide.specs.Clauses.Part.{terms, leaves, computing, records, congruence, rules, reduction, overlaps, joins}
use Rattle.ae_decide.specs.Overlaps.{all_join}
use Rattle.ae_decide.proofs.NineClauses.{clauses_of, completed_of}
use Rattle.ae_decide.proofs.OverlapTests.{overlaps_tested}
use Rattle.ae_decide.specs.Inner.Decisions.{both}
use Rattle.ae_system_checks.proofs.Decide.{implied, at_all, known_with}
use Rattle.ae_system_checks.proofs.Tests.{decide_terms, decide_leaves, decide_computed, decide_records, decide_congruence, decide_rules, decide_reduction, each_applied, has_value, is_ac_symbol, is_so, represents}

numbers_discrete : Discrete (List ℕ)
numbers_discrete = List-discrete ℕ_discrete

no_part : (n : ℕ) (l : List ℕ) → 2 ≤ length l → IsPart l (n ∷ []) → ⊥
no_part n [] h p = omega (arith, h)
no_part n (x ∷ []) h p = omega (arith, h)
no_part n (x ∷ z ∷ l) h p = two_parts n x z l p

module _ (sig : Signature) (y : System) where
  stands_for : (t : Term) (n : ℕ) → Dec (StandsFor sig y t n)
  stands_for t n =
      map_dec (λ (s, e, (v, w, (x, r))). record { sort = s; value = v; sorted = e; valued = x; represents = r })
      (λ s. (s.sort, s.sorted, (s.value, s.represents.has.value, (s.valued, s.represents))))
      (known_with (sort_of sig t) (λ s. (v : Val) × (value_at y n ≡ Some v) × (ValueOf y t v × Represents sig y s v n))
      (λ s. known_with (value_at y n) (λ v. ValueOf y t v × Represents sig y s v n) (λ v. both (has_value sig y t v) (represents sig y s v n))))

  is_join : (h : Head) (a b : Term) → Dec (IsJoin sig h a b)
  is_join (head.Symbol n) a b = is_ac_symbol sig y n
  is_join (head.Int op.Mul) a b = both (Bool-discrete (is_number (form a)) false) (Bool-discrete (is_number (form b)) false)
  is_join (head.Real op.Mul) a b = both (Bool-discrete (is_number (form a)) false) (Bool-discrete (is_number (form b)) false)
  is_join (head.Int op.Add) a b = no (λ e. e)
  is_join (head.Int op.Sub) a b = no (λ e. e)
  is_join (head.Int op.Neg) a b = no (λ e. e)
  is_join (head.Int op.Div) a b = no (λ e. e)
  is_join (head.Int op.Mod) a b = no (λ e. e)
  is_join (head.Real op.Add) a b = no (λ e. e)
  is_join (head.Real op.Sub) a b = no (λ e. e)
  is_join (head.Real op.Neg) a b = no (λ e. e)
  is_join (head.Real op.Div) a b = no (λ e. e)
  is_join (head.Real op.Mod) a b = no (λ e. e)
  is_join (head.Build n) a b = no (λ e. e)
  is_join (head.Field n i) a b = no (λ e. e)
  is_join head.True a b = no (λ e. e)
  is_join head.False a b = no (λ e. e)
  is_join head.Void a b = no (λ e. e)

  module _ (fit : RulesFit sig y) where
    abbrev nf : Head → List Sort → List ℕ → List ℕ
    nf = reduced_by y

    normal : Reduction y (reduced_by y)
    normal = reduction_of y (λ k e i. (fit k e i).falls)

    falls : (h : Head) (ss : List Sort) → Decreases (IsRule y h ss)
    falls h ss l r x = (fit x.0 (record { symbol = record { head = h; sorts = ss }; left = l; right = r }) x.1).falls

    pub decide_overlaps : Dec (AllOverlapsJoin sig y)
    decide_overlaps =
        let t = overlaps_tested sig y (λ k e i. (fit k e i).falls) (all_join y.rules) refl in
        map_dec t.0 t.1 (is_so (all_join y.rules))

    -- ---- names of AC symbols
    module _ (o : AllOverlapsJoin sig y) where
      -- what is asked of each number that is a name
      abbrev EachName : (ℕ → Type 0) → Type 0
      EachName P = (n : ℕ) (t : Term) → IsName y n t → P n

      each_name : (P : ℕ → Type 0) → ((n : ℕ) → Dec (P n)) → Dec (EachName P)
      each_name P d = at_all y.names (λ n t. P n) (λ n t. d n)

      abbrev JoinsAt : ℕ → Head → List Sort → List Term → Type 0
      JoinsAt n h ss (a ∷ b ∷ []) =
          IsJoin sig h a b
          → EachName (λ p. StandsFor sig y a p → EachName (λ q. StandsFor sig y b q
          → EachName (λ r. StandsFor sig y (Apply h ss (a ∷ b ∷ [])) r → nf h ss (p ∷ q ∷ []) ≡ r ∷ [])))
      JoinsAt n h ss us = Unit {0}

      joins_at : (n : ℕ) (h : Head) (ss : List Sort) (us : List Term) → Dec (JoinsAt n h ss us)
      joins_at n h ss (a ∷ b ∷ []) =
          implied (is_join h a b)
          (each_name
          (λ p. StandsFor sig y a p → EachName (λ q. StandsFor sig y b q
          → EachName (λ r. StandsFor sig y (Apply h ss (a ∷ b ∷ [])) r → nf h ss (p ∷ q ∷ []) ≡ r ∷ [])))
          (λ p. implied (stands_for a p)
          (each_name (λ q. StandsFor sig y b q → EachName (λ r. StandsFor sig y (Apply h ss (a ∷ b ∷ [])) r → nf h ss (p ∷ q ∷ []) ≡ r ∷ []))
          (λ q. implied (stands_for b q)
          (each_name (λ r. StandsFor sig y (Apply h ss (a ∷ b ∷ [])) r → nf h ss (p ∷ q ∷ []) ≡ r ∷ [])
          (λ r. implied (stands_for (Apply h ss (a ∷ b ∷ [])) r) (numbers_discrete (nf h ss (p ∷ q ∷ [])) (r ∷ []))))))))
      joins_at n h ss [] = yes tt
      joins_at n h ss (a ∷ []) = yes tt
      joins_at n h ss (a ∷ b ∷ c ∷ us) = yes tt

      rises_one : (n : ℕ) → IsNonDecreasing (n ∷ [])
      rises_one n = IsNonDecreasingBy-short (λ x. x) (n ∷ []) (omega arith)

      back_at : AllNamesJoin sig y → (n : ℕ) (h : Head) (ss : List Sort) (us : List Term) → IsName y n (Apply h ss us) → JoinsAt n h ss us
      back_at g n h ss (a ∷ b ∷ []) i =
          λ j p t ip sp q u iq sq r v ir sr. nf_only (IsRule y h ss) (falls h ss) (o h ss) (nf h ss) (normal h ss) (p ∷ q ∷ []) (r ∷ [])
          (linked_from (IsRule y h ss) (g n h ss a b p q r i j sp sq sr))
          (λ l m x part. no_part r l (fit x.0 (record { symbol = record { head = h; sorts = ss }; left = l; right = m }) x.1).two part) (rises_one r)
      back_at g n h ss [] i = tt
      back_at g n h ss (a ∷ []) i = tt
      back_at g n h ss (a ∷ b ∷ c ∷ us) i = tt

      pub decide_joins : Dec (AllNamesJoin sig y)
      decide_joins =
          map_dec
          (λ f n h ss a b p q r i j sp sq sr. subst (λ (w : List ℕ). ReducesTo (IsRule y h ss) (p ∷ q ∷ []) w)
          (f n h ss (a ∷ b ∷ []) i j p sp.represents.has.term sp.represents.has.is sp q sq.represents.has.term sq.represents.has.is sq r
          sr.represents.has.term sr.represents.has.is sr) ((normal h ss).follows (p ∷ q ∷ [])))
          back_at (each_applied sig y JoinsAt joins_at)

  -- ---- all nine
  pub decide_completed : Dec (IsCompleted sig y)
  decide_completed = by_rules (decide_rules sig y)
    where
      all : RulesFit sig y → AllOverlapsJoin sig y → Dec (IsCompleted sig y)
      all r o =
          map_dec (λ (a, (b, (c, (d, (e, (g, j)))))). completed_of sig y (each a b c d e g j))
          (λ c. (
            clauses_of sig y c terms,
            (clauses_of sig y c leaves, (clauses_of sig y c computing, (clauses_of sig y c records, (c.congruent, (clauses_of sig y c reduction, c.joins))))),
          ))
          (both (decide_terms sig y)
          (both (decide_leaves sig y)
          (both (decide_computed sig y)
          (both (decide_records sig y) (both (decide_congruence sig y) (both (decide_reduction sig y) (decide_joins r o)))))))
        where
          each : Clause sig y terms → Clause sig y leaves → Clause sig y computing → Clause sig y records → Clause sig y congruence → Clause sig y reduction
              → Clause sig y joins → (part : Part) → Clause sig y part
          each a b c d e g j terms = a
          each a b c d e g j leaves = b
          each a b c d e g j computing = c
          each a b c d e g j records = d
          each a b c d e g j congruence = e
          each a b c d e g j rules = r
          each a b c d e g j reduction = g
          each a b c d e g j overlaps = o
          each a b c d e g j joins = j

      by_overlaps : (r : RulesFit sig y) → Dec (AllOverlapsJoin sig y) → Dec (IsCompleted sig y)
      by_overlaps r (yes o) = all r o
      by_overlaps r (no n) = no (λ c. n c.overlaps)

      by_rules : Dec (RulesFit sig y) → Dec (IsCompleted sig y)
      by_rules (yes r) = by_overlaps r (decide_overlaps r)
      by_rules (no n) = no (λ c. n c.rules_fit)
