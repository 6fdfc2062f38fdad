-- The clauses that are collected are the given ones.
use Rattle.std.specs.Prelude.{ℕ, zero, suc, ◌+◌, ◌<◌, ◌≡◌, List, [], ◌∷◌, ◌++◌, length, take, get_or, nat_lt, slice_get, Option, Some, None}
use Rattle.std.specs.List.{AllByRecursion, Contains, flat_map}
use Rattle.std.proofs.Common.{sym, ap, ◌∙◌, subst, arith, inl, inr, append_assoc}
use Rattle.std.proofs.lemmas.Bool.{cases_eq}
use Rattle.std.proofs.lemmas.List.{flat_map_more, take_more}
use Rattle.std.proofs.lemmas.List.Elements.{Contains-append_cases, Contains-append_left, Contains-append_right}
use Rattle.std.proofs.lemmas.Option.{same_Some, slice_get_within}
use Rattle.ae_base.proofs.AllOf.{all_from_places}
use Rattle.ae_base.proofs.Options.{bind_some, only_some}
use Rattle.ae_base.specs.Options.{◌>>=◌, only}
use Rattle.ae_core.specs.declared.formulas.Formula.{Formula}
use Rattle.ae_core.specs.declared.problems.Item.{Item}
use Rattle.ae_core.specs.declared.problems.Item.TheVariants.{Axiom, Goal}
use Rattle.ae_core.specs.declared.problems.Problem.{Problem}
use Rattle.ae_core.specs.declared.proofs.ClauseLine.TheVariants as clause_line
use Rattle.ae_journal.proofs.Splits.{contains_at, contains_cases, contains_here, contains_later, contains_one}
use Rattle.ae_journal.specs.Standing.{IsGiven, Setting}
use Rattle.ae_journal.specs.Standing.IsBrought.{by_hypothesis, by_goal, by_type_instance, by_term_instance}
use Rattle.ae_journal.specs.Standing.SurelyStands.{by_given}
use Rattle.ae_journal.specs.declared.lines.Line.{Line}
use Rattle.ae_journal.specs.declared.lines.Line.TheVariants as line
use Rattle.ae_rules.specs.Clauses.{Clause, no_of, yes_of}
use Rattle.ae_rules.specs.Derivations.{clause_of, conclusion, goal_body}
use Rattle.ae_rules.specs.Instances.{axiom_with, hypothesis}
use Rattle.ae_sure_literals.specs.Inner.Closing.{Forces}
use Rattle.ae_sure_literals.specs.Inner.Given.{given_in, hypotheses_before, line_clauses, listed}

-- ---- a clause that is there
listed_has : (o : Option Clause) (c : Clause) → o ≡ Some c → Contains (listed o) c
listed_has o c e = subst (λ (q : Option Clause). Contains (listed q) c) (sym e) (contains_here c [])

listed_from : (o : Option Clause) (c : Clause) → Contains (listed o) c → o ≡ Some c
listed_from None c h = absurd (omega (arith, h.1))
listed_from (Some d) c h = ap Some (contains_one d c h)

-- ---- one more
module _ (p : Problem) (g : ℕ) where
  next_hypotheses : (k : ℕ) → hypotheses_before p g (k + 1) ≡ hypotheses_before p g k ++ listed (clause_of p g (clause_line.Hyp k []))
  next_hypotheses k = ap (hypotheses_before p g) (let e : k + 1 ≡ suc k = omega arith in e)

  pub more_hypotheses : (k : ℕ) (start now : List Clause) → now ≡ start ++ hypotheses_before p g k → now ++ listed (clause_of p g (clause_line.Hyp k [])) ≡ start ++ hypotheses_before p g (k + 1)
  more_hypotheses k start now e =
      let more : List Clause = listed (clause_of p g (clause_line.Hyp k [])) in
      ap (λ (w : List Clause). w ++ more) e ∙ append_assoc start (hypotheses_before p g k) more ∙ ap (λ (w : List Clause). start ++ w) (sym (next_hypotheses k))

  pub more_lines : (lines : List Line) (i : ℕ) (j : Line) (start now : List Clause) → i < length lines → j ≡ get_or lines i j → now ≡ start ++ flat_map (line_clauses p g) (take i lines)
      → now ++ line_clauses p g j ≡ start ++ flat_map (line_clauses p g) (take (i + 1) lines)
  more_lines lines i j start now l e f =
      ap (λ (w : List Clause). w ++ line_clauses p g j) f ∙ flat_map_more (line_clauses p g) start (take i lines) j
      ∙ ap (λ (w : List Line). start ++ flat_map (line_clauses p g) w) (ap (λ (y : Line). take i lines ++ y ∷ []) e ∙ sym (take_more lines i j l))

-- ---- each given clause is among them
module _ (x : Setting) where
  abbrev p : Problem
  p = x.problem

  abbrev g : ℕ
  g = x.goal

  hypothesis_clause : (k : ℕ) (f : Formula) → hypothesis p g k [] ≡ Some f → clause_of p g (clause_line.Hyp k []) ≡ Some (yes_of f ∷ [])
  hypothesis_clause k f e = ap (λ (o : Option Formula). o >>= λ h. Some (yes_of h ∷ [])) e

  hypothesis_within : (k : ℕ) (f : Formula) → hypothesis p g k [] ≡ Some f → k < length p.items
  hypothesis_within k f e =
      let w = bind_some (only (nat_lt k g) (slice_get p.items k)) (λ (i : Item). elim i [ Axiom n v h ↦ axiom_with v h [] | Goal n v h ↦ None ]) f e in
      slice_get_within p.items k w.0 (only_some (nat_lt k g) (slice_get p.items k) w.0 w.1).1

  in_hypotheses : (n k : ℕ) (f : Formula) → k < n → hypothesis p g k [] ≡ Some f → Contains (hypotheses_before p g n) (yes_of f ∷ [])
  in_hypotheses zero k f l e = absurd (omega (arith, l))
  in_hypotheses (suc n) k f l e = elim (cases_eq k n) as (λ _. Contains (hypotheses_before p g (suc n)) (yes_of f ∷ [])) [
    | inl q ↦
        Contains-append_right (hypotheses_before p g n) (listed (clause_of p g (clause_line.Hyp n []))) (yes_of f ∷ [])
        (listed_has (clause_of p g (clause_line.Hyp n [])) (yes_of f ∷ []) (subst (λ (m : ℕ). clause_of p g (clause_line.Hyp m []) ≡ Some (yes_of f ∷ [])) q (hypothesis_clause k f e)))
    | inr d ↦ Contains-append_left (hypotheses_before p g n) (listed (clause_of p g (clause_line.Hyp n []))) (yes_of f ∷ []) (in_hypotheses n k f (omega (arith, l, d)) e)
  ]

  abbrev firsts : List Clause
  firsts = hypotheses_before p g (length p.items) ++ listed (clause_of p g clause_line.Goal)

  of_line : (js : List Line) (j : Line) (c : Clause) → Contains js j → Contains (line_clauses p g j) c → Contains (flat_map (line_clauses p g) js) c
  of_line [] j c h k = absurd (omega (arith, h.1))
  of_line (i ∷ js) j c h k = elim (contains_cases i js j h) as (λ _. Contains (line_clauses p g i ++ flat_map (line_clauses p g) js) c) [
    | inl e ↦ Contains-append_left (line_clauses p g i) (flat_map (line_clauses p g) js) c (subst (λ (w : Line). Contains (line_clauses p g w) c) (sym e) k)
    | inr r ↦ Contains-append_right (line_clauses p g i) (flat_map (line_clauses p g) js) c (of_line js j c r k)
  ]

  in_lines : (js : List Line) (j : Line) (c : Clause) → Contains js j → Contains (line_clauses p g j) c → Contains (firsts ++ flat_map (line_clauses p g) js) c
  in_lines js j c h k = Contains-append_right firsts (flat_map (line_clauses p g) js) c (of_line js j c h k)

  pub all_collected : (js : List Line) (c : Clause) → IsGiven x js c → Contains (given_in p g js) c
  unfolding given_in
  all_collected js _ (inl (by_hypothesis k f e)) =
      Contains-append_left firsts (flat_map (line_clauses p g) js) (yes_of f ∷ [])
      (Contains-append_left (hypotheses_before p g (length p.items)) (listed (clause_of p g clause_line.Goal)) (yes_of f ∷ []) (in_hypotheses (length p.items) k f (hypothesis_within k f e) e))
  all_collected js _ (inl (by_goal f e)) =
      Contains-append_left firsts (flat_map (line_clauses p g) js) (no_of f ∷ [])
      (Contains-append_right (hypotheses_before p g (length p.items)) (listed (clause_of p g clause_line.Goal)) (no_of f ∷ [])
      (listed_has (clause_of p g clause_line.Goal) (no_of f ∷ []) (ap (λ (o : Option Formula). o >>= λ h. Some (no_of h ∷ [])) e)))
  all_collected js c (inl (by_type_instance k ss _ at e)) = in_lines js (line.TypeInstance k ss) c at (listed_has (conclusion p g (clause_line.Hyp k ss)) c e)
  all_collected js c (inl (by_term_instance f ts _ at e)) = in_lines js (line.TermInstance f ts) c at (listed_has (conclusion p g (clause_line.Inst f ts)) c e)
  all_collected js c (inr h) = in_lines js (line.Learn c) c h (contains_here c [])

  -- ---- and no other one is
  given_hypothesis : (js : List Line) (k : ℕ) (c : Clause) → clause_of p g (clause_line.Hyp k []) ≡ Some c → IsGiven x js c
  given_hypothesis js k c e =
      let w = bind_some (hypothesis p g k []) (λ (f : Formula). Some (yes_of f ∷ [])) c e in
      subst (IsGiven x js) (same_Some (yes_of w.0 ∷ []) c w.2) (inl (by_hypothesis k w.0 w.1))

  given_hypotheses : (js : List Line) (n : ℕ) (c : Clause) → Contains (hypotheses_before p g n) c → IsGiven x js c
  given_hypotheses js zero c h = absurd (omega (arith, h.1))
  given_hypotheses js (suc n) c h = elim (Contains-append_cases (hypotheses_before p g n) (listed (clause_of p g (clause_line.Hyp n []))) c h) as (λ _. IsGiven x js c) [
    | inl a ↦ given_hypotheses js n c a
    | inr b ↦ given_hypothesis js n c (listed_from (clause_of p g (clause_line.Hyp n [])) c b)
  ]

  given_goal : (js : List Line) (c : Clause) → clause_of p g clause_line.Goal ≡ Some c → IsGiven x js c
  given_goal js c e =
      let w = bind_some (goal_body p g) (λ (f : Formula). Some (no_of f ∷ [])) c e in
      subst (IsGiven x js) (same_Some (no_of w.0 ∷ []) c w.2) (inl (by_goal w.0 w.1))

  given_line : (js : List Line) (j : Line) (c : Clause) → Contains js j → Contains (line_clauses p g j) c → IsGiven x js c
  given_line js (line.Learn d) c at h = inr (subst (λ (e : Clause). Contains js (line.Learn e)) (contains_one d c h) at)
  given_line js (line.TypeInstance k ss) c at h = inl (by_type_instance k ss c at (listed_from (conclusion p g (clause_line.Hyp k ss)) c h))
  given_line js (line.TermInstance f ts) c at h = inl (by_term_instance f ts c at (listed_from (conclusion p g (clause_line.Inst f ts)) c h))
  given_line js (line.Decide l) c at h = absurd (omega (arith, h.1))
  given_line js (line.Orient o) c at h = absurd (omega (arith, h.1))
  given_line js (line.Drop o) c at h = absurd (omega (arith, h.1))
  given_line js (line.Pair u l m) c at h = absurd (omega (arith, h.1))
  given_line js (line.Combine strict f) c at h = absurd (omega (arith, h.1))
  given_line js (line.Back n) c at h = absurd (omega (arith, h.1))

  given_lines : (all js : List Line) → ((j : Line) → Contains js j → Contains all j) → (c : Clause) → Contains (flat_map (line_clauses p g) js) c → IsGiven x all c
  given_lines all [] within c h = absurd (omega (arith, h.1))
  given_lines all (j ∷ js) within c h = elim (Contains-append_cases (line_clauses p g j) (flat_map (line_clauses p g) js) c h) as (λ _. IsGiven x all c) [
    | inl a ↦ given_line all j c (within j (contains_here j js)) a
    | inr b ↦ given_lines all js (λ k m. within k (contains_later j js k m)) c b
  ]

  given_firsts : (js : List Line) (c : Clause) → Contains firsts c → IsGiven x js c
  given_firsts js c h = elim (Contains-append_cases (hypotheses_before p g (length p.items)) (listed (clause_of p g clause_line.Goal)) c h) as (λ _. IsGiven x js c) [
    | inl a ↦ given_hypotheses js (length p.items) c a
    | inr b ↦ given_goal js c (listed_from (clause_of p g clause_line.Goal) c b)
  ]

  pub all_given : (js : List Line) (c : Clause) → Contains (given_in p g js) c → IsGiven x js c
  unfolding given_in
  all_given js c h = elim (Contains-append_cases firsts (flat_map (line_clauses p g) js) c h) as (λ _. IsGiven x js c) [
    | inl a ↦ given_firsts js c a
    | inr b ↦ given_lines js js (λ j m. m) c b
  ]

  -- each of them gives its literal where its others fail
  pub all_force : (js : List Line) → AllByRecursion (Forces x js) (given_in p g js)
  all_force js = all_from_places (Forces x js) (given_in p g js) (λ k c at l h others. by_given c l (all_given js c (contains_at (given_in p g js) k c at)) h others)
