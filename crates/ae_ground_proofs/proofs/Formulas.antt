-- The formulas that a search begins with are among formulas that may stand in a ground proof, with all their parts.
use Rattle.std.specs.Prelude.{ℕ, Bool, true, false, List, [], ◌∷◌, ◌≡◌, map, Some}
use Rattle.std.specs.List.{AllByRecursion, Contains}
use Rattle.std.proofs.Common.{refl, sym, subst, inl, inr}
use Rattle.std.proofs.lemmas.Option.{same_Some}
use Rattle.ae_base.specs.Options.{◌>>=◌}
use Rattle.ae_base.proofs.Options.{bind_some}
use Rattle.ae_core.specs.Putting.{put_formula}
use Rattle.ae_core.specs.Signatures.{IsLawful}
use Rattle.ae_core.specs.Sorts.{sort_of}
use Rattle.ae_core.specs.declared.formulas.Formula.{Formula, Eq, All}
use Rattle.ae_core.specs.declared.formulas.Lit.{Lit}
use Rattle.ae_core.specs.declared.problems.Problem.{Problem}
use Rattle.ae_core.specs.declared.proofs.ClauseLine.{ClauseLine}
use Rattle.ae_core.specs.declared.terms.Sort.{Sort, out-Sort}
use Rattle.ae_core.specs.declared.terms.Term.{Term, Apply}
use Rattle.ae_rules.specs.Clauses.{Clause, literal, yes_of, no_of, is_true}
use Rattle.ae_rules.specs.Instances.{choices_of, count_from, exhaustion}
use Rattle.ae_explain.specs.Trail.{clause}
use Rattle.ae_journal.specs.Ground.{IsFragmentTerm, IsGround, MayStand}
use Rattle.ae_journal.proofs.RowParts.{literal_part}
use Rattle.ae_journal.proofs.Splits.{contains_cases, contains_one}
use Rattle.ae_store.specs.Stores.{Stored}
use Rattle.ae_theory.specs.Names.{terms_in}
use Rattle.ae_sat.specs.Search.{HasParts, AllAmong}
use Rattle.ae_sat.specs.Standing.{IsOneOf}
use Rattle.ae_sat.proofs.Closure.{parts_said}
use Rattle.ae_open_states.proofs.Choices.{choice, of_head}
use Rattle.ae_reach.specs.Budget.{IsFirst, a_hypothesis, the_goal, the_block}
use Rattle.ae_reach.specs.Reach.{IsInReach}
use Rattle.ae_reach.proofs.Simple.{simple_eq}
use Rattle.ae_goal_names.specs.Named.{HasNamed, all_terms}
use Rattle.ae_first_clauses.specs.First.{IsFirstLine, a_hypothesis as hypothesis_line, the_goal as goal_line, the_block as block_line, AreFirst}
use Rattle.ae_first_clauses.proofs.States.{line_of}
use Rattle.ae_first_clauses.proofs.Subformulas.{all_covered}
use Rattle.ae_choice_clauses.specs.Choices.{IsChoiceLine, a_choice, AddsChoices}
use Rattle.ae_choice_clauses.proofs.Begun.{either}
use Rattle.ae_ground_laws.proofs.Chosen.{choice_ground, choice_sorted}
use Rattle.ae_ground_laws.proofs.Fragment.{first_stands, part_stands}
use Rattle.ae_ground_laws.proofs.OccurringTerms.{occurs_ground}
use Rattle.ae_ground_laws.proofs.Plain.{atoms_eq}
use Rattle.ae_ground_proofs.proofs.Chosen.{first_occurs}

module _ (p : Problem) (g : ℕ) (reach : IsInReach p g) (ground : IsGround p g) where
  abbrev Stands : Formula → Type 0
  Stands = MayStand p g

  literal_stands : (f : Formula) → IsFirst p g f → (sign : Bool) → MayStand p g (literal sign f).formula
  literal_stands f i sign = literal_part Stands (part_stands p g ground) f (first_stands p g ground reach f i) sign

  line_stands : (l : ClauseLine) (c : Clause) → IsFirstLine p g l c → (m : Lit) → Contains c m → MayStand p g m.formula
  line_stands _ _ (hypothesis_line k f e) m h = subst (λ (x : Lit). MayStand p g x.formula) (contains_one (yes_of f) m h) (literal_stands f (a_hypothesis k f e) true)
  line_stands _ _ (goal_line f e) m h = subst (λ (x : Lit). MayStand p g x.formula) (contains_one (no_of f) m h) (literal_stands f (the_goal f e) false)
  line_stands _ _ (block_line q e) m h =
      elim (contains_cases (is_true (All q)) (no_of (put_formula (count_from 0 q.sorts) q.body) ∷ []) m h) as (λ _. MayStand p g m.formula) [
        | inl i ↦ subst (λ (x : Lit). MayStand p g x.formula) i (first_stands p g ground reach (All q) (the_goal (All q) e))
        | inr i ↦
            subst (λ (x : Lit). MayStand p g x.formula) (contains_one (no_of (put_formula (count_from 0 q.sorts) q.body)) m i)
            (literal_stands (put_formula (count_from 0 q.sorts) q.body) (the_block q e) false)
      ]

  -- ---- the clauses of enumerations
  module _ (law : IsLawful p.signature) where
    equation_stands : (a b : Term) → IsFragmentTerm p.signature [] a → IsFragmentTerm p.signature [] b → MayStand p g (Eq a b)
    equation_stands a b i j = inl (record { simple = simple_eq a b; terms = subst (AllByRecursion (IsFragmentTerm p.signature [])) (sym (atoms_eq a b)) (i, (j, tt)) })

    choice_stands : (t : Term) (c : Clause) → ((s : Sort) → sort_of p.signature t ≡ Some s → IsFragmentTerm p.signature [] t) → exhaustion p.signature t ≡ Some c → (m : Lit) → Contains c m → MayStand p g m.formula
    choice_stands t c i e m h =
        let s = bind_some (sort_of p.signature t) (λ s. choices_of p.signature (out-Sort s) >>= λ hs. Some (map (choice t) hs)) c e in
        let hs = bind_some (choices_of p.signature (out-Sort s.0)) (λ hs. Some (map (choice t) hs)) c s.2 in
        let k = of_head (choice t) hs.0 m (subst (λ (w : Clause). Contains w m) (sym (same_Some (map (choice t) hs.0) c hs.2)) h) in
        let constant = (choice_ground p.signature law t s.0 hs.0 k.0 s.1 hs.1 k.1).1 s.0 (choice_sorted p.signature law t s.0 hs.0 k.0 s.1 hs.1 k.1) in
        subst (λ (x : Lit). MayStand p g x.formula) k.2 (equation_stands t (Apply k.0 [] []) (i s.0 s.1) constant)

    -- ---- all of them
    module _ (firsts : List ClauseLine) (first : List Clause) (begun : AreFirst p g firsts first) (old before : Stored) (same : old.signature ≡ p.signature) (empty : terms_in old ≡ [])
        (n : HasNamed old before (all_terms first)) (s : Stored) (lines : List ClauseLine) (clauses : List Clause) (adds : AddsChoices p g before s firsts lines first clauses) where
      name_fragment : (t : Term) → Contains (terms_in before) t → (o : Sort) → sort_of p.signature t ≡ Some o → IsFragmentTerm p.signature [] t
      name_fragment t h = (occurs_ground p g law reach ground t (first_occurs p g firsts first begun old before same empty n t h)).1

      choice_line : (l : ClauseLine) (c : Clause) → IsChoiceLine p.signature (terms_in before) l c → (m : Lit) → Contains c m → MayStand p g m.formula
      choice_line _ _ (a_choice t c h e) m k = choice_stands t c (name_fragment t h) e m k

      clause_stands : (c : Clause) → IsOneOf clauses c → (m : Lit) → Contains c m → MayStand p g m.formula
      clause_stands c o m k = elim (either p g before s firsts lines first clauses adds c o) as (λ _. MayStand p g m.formula) [
        | inl i ↦ (let l = line_of p g firsts first begun.states i.0 i.1 in line_stands l.0 (clause first i.0) l.1.0 m (subst (λ (w : Clause). Contains w m) (sym i.2) k))
        | inr w ↦ choice_line w.0 c w.1.0 m k
      ]

      pub with_parts : (fs : List Formula) × HasParts fs × AllAmong fs clauses × AllByRecursion (MayStand p g) fs
      with_parts =
          let w = all_covered Stands (part_stands p g ground) clauses (λ m i. clause_stands (clause clauses i.0) (i.0, i.1, refl) m i.2) in
          (w.formulas, parts_said w.formulas w.parts, (λ c l o k. w.own l (o.0, o.1, subst (λ (x : Clause). Contains x l) (sym o.2) k)), w.all)
