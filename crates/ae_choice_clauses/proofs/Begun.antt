-- What a search begins with when the clauses of enumerations were added.
use Rattle.std.specs.Prelude.{ℕ, ◌<◌, List, [], ◌∷◌, ◌++◌, ◌≡◌, ◌⊎◌, map, length, slice_get, slice_index_or, Some}
use Rattle.std.specs.List.{AllByRecursion, Contains}
use Rattle.std.proofs.Common.{sym, ap, ◌∙◌, subst, arith, inl, inr}
use Rattle.std.proofs.lemmas.List.Elements.{Contains-append_left, Contains-append_cases}
use Rattle.std.proofs.lemmas.Option.{slice_get-get_or}
use Rattle.ae_base.specs.Options.{◌>>=◌}
use Rattle.ae_base.specs.Relations.{Pairwise}
use Rattle.ae_base.proofs.AllOf.{all_append}
use Rattle.ae_base.proofs.Relations.{pairwise_back, pairwise_weaker}
use Rattle.ae_core.specs.Signatures.{IsLawful}
use Rattle.ae_core.specs.declared.formulas.Formula.{Formula, Eq}
use Rattle.ae_core.specs.declared.formulas.Lit.{Lit}
use Rattle.ae_core.specs.declared.problems.Problem.{Problem}
use Rattle.ae_core.specs.declared.proofs.ClauseLine.{ClauseLine}
use Rattle.ae_core.specs.declared.terms.Term.{Term}
use Rattle.ae_rules.specs.Clauses.{Clause}
use Rattle.ae_rules.specs.Derivations.{conclusion}
use Rattle.ae_rules.specs.Instances.{exhaustion}
use Rattle.ae_explain.specs.Trail.{clause}
use Rattle.ae_journal.specs.SolverLines.{IsSourceLine}
use Rattle.ae_journal.specs.Standing.{Setting, IsEntered, IsFormula, IsPossible, choice_of}
use Rattle.ae_journal.specs.Standing.IsEntered.{of_formula}
use Rattle.ae_journal.specs.Standing.IsFormula.{of_choice}
use Rattle.ae_journal.specs.States.{outside}
use Rattle.ae_journal.proofs.Splits.{contains_cases, contains_here, contains_later, contains_one}
use Rattle.ae_store.specs.Stores.{Stored}
use Rattle.ae_theory.specs.Names.{terms_in}
use Rattle.ae_sat.specs.Search.{AllAmong, AllNamed, HasParts, IsLawfulState, IsStated}
use Rattle.ae_sat.specs.Standing.{IsOneOf}
use Rattle.ae_reach.specs.Reach.{IsInReach}
use Rattle.ae_reach.proofs.Simple.{simple_eq}
use Rattle.ae_open_states.specs.Choices.{IsChoiceOf}
use Rattle.ae_open_states.specs.Finished.{IsGroundOrGoal, AreOverGround, ground}
use Rattle.ae_open_states.proofs.Choices.{choice, of_head, made_of, exhaustion_is}
use Rattle.ae_goal_names.proofs.Outer.{outside_eq}
use Rattle.ae_first_clauses.specs.First.{AreFirst, States, search_setting}
use Rattle.ae_first_clauses.proofs.States.{lawful_state}
use Rattle.ae_first_clauses.proofs.Subformulas.{firsts_over, over_from}
use Rattle.ae_first_names.proofs.Lists.{one_contained, contained_one}
use Rattle.ae_choice_clauses.specs.Choices.{IsChoiceLine, a_choice, StatesChoice, AddsChoices}
use Rattle.ae_choice_clauses.specs.Inner.Added.{constant}
use Rattle.ae_choice_clauses.proofs.Kept.{kept_in}
use Rattle.ae_choice_clauses.proofs.Constructors.{a_constructor, clause_made, choice_of_itself}

-- two lists behind two others
joined : {A B : Type 0} (R : A → B → Type 0) (xs : List A) (ys : List B) (zs : List A) (ws : List B) → Pairwise R xs ys → Pairwise R zs ws → Pairwise R (xs ++ zs) (ys ++ ws)
joined R [] [] zs ws h k = k
joined R (x ∷ xs) (y ∷ ys) zs ws h k = (h.0, joined R xs ys zs ws h.1 k)
joined R [] (y ∷ ys) zs ws h k = absurd h
joined R (x ∷ xs) [] zs ws h k = absurd h

module _ (p : Problem) (g : ℕ) (old new : Stored) (firsts lines : List ClauseLine) (first clauses : List Clause) (added : AddsChoices p g old new firsts lines first clauses) where
  abbrev pub Own : ClauseLine → Clause → Type 0
  Own = StatesChoice p g (terms_in old)

  -- a clause is one of the first ones, or one of an enumeration
  abbrev pub Either : Clause → Type 0
  Either c = IsOneOf first c ⊎ ((l : ClauseLine) × Own l c)

  pub either : (c : Clause) → IsOneOf clauses c → Either c
  either c o =
      elim (Contains-append_cases first added.more c (subst (λ (ws : List Clause). Contains ws c) added.clauses_are (one_contained clauses c o))) as (λ _. Either c) [
        | inl k ↦ inl (contained_one first c k)
        | inr k ↦
            (let b = pairwise_back Own added.more_lines added.more k.0 c added.states (slice_get-get_or added.more k.0 c k.1 ∙ ap (λ (z : Clause). Some z) k.2) in
            inr (b.0, b.1))
      ]

  pub still : (c : Clause) → IsOneOf first c → IsOneOf clauses c
  still c o = contained_one clauses c (subst (λ (ws : List Clause). Contains ws c) (sym added.clauses_are) (Contains-append_left first added.more c (one_contained first c o)))

  -- ---- names
  pub choices_entered : (names : List Term) → ((t : Term) → Contains (terms_in old) t → IsEntered (search_setting p g names) [] t) → (t : Term) → Contains (terms_in new) t → IsEntered (search_setting p g names) [] t
  choices_entered names before t h = elim (added.only t h) as (λ _. IsEntered (search_setting p g names) [] t) [
    | inl o ↦ before t o
    | inr w ↦ by w.0 (before w.0 w.1) w.2
  ]
    where
      by : (u : Term) → IsEntered (search_setting p g names) [] u → IsChoiceOf p.signature u t → IsEntered (search_setting p g names) [] t
      by u e k =
          let c = constant k.head in
          let f = of_choice [] u (map (choice u) k.heads) (choice u k.head) e (exhaustion_is p.signature u k.sort k.heads k.sorted k.choices) (made_of (choice u) k.heads k.head k.one) in
          subst (IsEntered (search_setting p g names) []) (sym k.is)
          (of_formula [] (Eq u c) c f (subst (λ (ws : List Term). Contains ws c) (sym (outside_eq u c)) (contains_later u (c ∷ []) c (contains_here c []))))

  pub choices_named : AllNamed old first → AllNamed new clauses
  choices_named before c l o i t k = elim (either c o) as (λ _. Contains (terms_in new) t) [
    | inl w ↦ kept_in (terms_in old) (terms_in new) added.keeps t (before c l w i t k)
    | inr w ↦ by w.0 c (w.1).0 i
  ]
    where
      sides : (u a : Term) → Contains (terms_in old) u → IsChoiceOf p.signature u a → Contains (outside (Eq u a)) t → Contains (terms_in new) t
      sides u a j q h = elim (contains_cases u (a ∷ []) t (subst (λ (ws : List Term). Contains ws t) (outside_eq u a) h)) as (λ _. Contains (terms_in new) t) [
        | inl e ↦ kept_in (terms_in old) (terms_in new) added.keeps t (subst (Contains (terms_in old)) e j)
        | inr r ↦ subst (Contains (terms_in new)) (contains_one a t r) (added.named u a j q)
      ]

      by : (m : ClauseLine) (c : Clause) → IsChoiceLine p.signature (terms_in old) m c → Contains c l → Contains (terms_in new) t
      by _ c (a_choice u _ j e) i =
          let s = clause_made p.signature u c e in
          let h = of_head (choice u) s.0 l (subst (λ (ws : Clause). Contains ws l) (sym s.2) i) in
          sides u (constant h.0) j (a_constructor p.signature u s.0 s.1 h.0 h.1) (subst (λ (x : Lit). Contains (outside x.formula) t) (sym h.2) k)

  pub choices_chosen : IsLawful p.signature → (u : Term) (c : Clause) → Contains (terms_in new) u → exhaustion p.signature u ≡ Some c → IsChoiceOf p.signature u u ⊎ IsOneOf clauses c
  choices_chosen law u c h e = elim (added.only u h) as (λ _. IsChoiceOf p.signature u u ⊎ IsOneOf clauses c) [
    | inl o ↦ added.all u c o e
    | inr w ↦ inl (choice_of_itself p.signature law w.0 u w.2)
  ]

  module _ (begun : AreFirst p g firsts first) where
    -- ---- lines
    abbrev Concludes : ClauseLine → Clause → Type 0
    Concludes l c = conclusion p g l ≡ Some c

    all_conclude : Pairwise Concludes lines clauses
    all_conclude =
        subst (λ (x : List ClauseLine × List Clause). Pairwise Concludes x.0 x.1) (λ i. (sym added.lines_are i, sym added.clauses_are i))
        (joined Concludes firsts first added.more_lines added.more (pairwise_weaker (States p g) Concludes (λ l c h. h.1) firsts first begun.states)
        (pairwise_weaker Own Concludes (λ l c h. h.1) added.more_lines added.more added.states))

    pub choices_stated : (places : List ℕ) → length places ≡ length clauses → ((k : ℕ) → k < length clauses → slice_index_or places k 0 ≡ k) → IsStated p g lines clauses places
    choices_stated places size own = record {
      allowed = added.allowed begun.allowed;
      size = size;
      states = λ k lt.
          let l = pairwise_back Concludes lines clauses k (clause clauses k) all_conclude (slice_get-get_or clauses k [] lt) in
          ap (λ (m : ℕ). slice_get lines m >>= conclusion p g) (own k lt) ∙ ap (λ o. o >>= conclusion p g) l.2 ∙ l.1;
    }

    -- ---- clauses
    module _ (names : List Term) (before : (t : Term) → Contains (terms_in old) t → IsEntered (search_setting p g names) [] t) where
      abbrev x : Setting
      x = search_setting p g names

      possible : (l : ClauseLine) (c : Clause) → IsChoiceLine p.signature (terms_in old) l c → IsPossible x [] c
      possible _ c (a_choice t _ i e) = choice_of [] t c (before t i) e

      formulas : (l : ClauseLine) (c : Clause) → IsChoiceLine p.signature (terms_in old) l c → (m : Lit) → Contains c m → IsFormula x [] m.formula
      formulas _ c (a_choice t _ i e) m h = of_choice [] t c m (before t i) e h

      source : (l : ClauseLine) (c : Clause) → IsChoiceLine p.signature (terms_in old) l c → conclusion p g l ≡ Some c → IsSourceLine x [] l
      source _ c (a_choice t _ i e) w = (c, w, choice_of [] t c (before t i) e)

      sources : (ls : List ClauseLine) (cs : List Clause) → Pairwise Own ls cs → AllByRecursion (IsSourceLine x []) ls
      sources [] [] h = tt
      sources [] (c ∷ cs) h = absurd h
      sources (l ∷ ls) [] h = absurd h
      sources (l ∷ ls) (c ∷ cs) h = (source l c (h.0).0 (h.0).1, sources ls cs h.1)

      pub choices_lawful : IsLawfulState x [] clauses 0 lines []
      choices_lawful =
          let base = lawful_state p g names firsts first begun in
          record {
            possible = λ c o. elim (either c o) as (λ _. IsPossible x [] c) [
              | inl w ↦ base.possible c w
              | inr w ↦ possible w.0 c (w.1).0
            ];
            formulas = λ c l o h. elim (either c o) as (λ _. IsFormula x [] l.formula) [
              | inl w ↦ base.formulas c l w h
              | inr w ↦ formulas w.0 c (w.1).0 l h
            ];
            given = λ c h. still c (base.given c h);
            rows = λ j r c lt. absurd (omega (arith, lt));
            layered = base.layered;
            sources = subst (AllByRecursion (IsSourceLine x [])) (sym added.lines_are)
                (all_append (IsSourceLine x []) firsts added.more_lines base.sources (sources added.more_lines added.more added.states));
            again = base.again;
          }

    -- ---- formulas
    module _ (reach : IsInReach p g) where
      choice_over : (l : ClauseLine) (c : Clause) → IsChoiceLine p.signature (terms_in old) l c → (m : Lit) → Contains c m → IsGroundOrGoal p g m.formula
      choice_over _ c (a_choice u _ j e) m i =
          let s = clause_made p.signature u c e in
          let h = of_head (choice u) s.0 m (subst (λ (ws : Clause). Contains ws m) (sym s.2) i) in
          subst (λ (y : Lit). IsGroundOrGoal p g y.formula) h.2 (ground (simple_eq u (constant h.0)))

      all_over : (c : Clause) (l : Lit) → IsOneOf clauses c → Contains c l → IsGroundOrGoal p g l.formula
      all_over c l o k = elim (either c o) as (λ _. IsGroundOrGoal p g l.formula) [
        | inl w ↦ firsts_over p g reach firsts first begun c l w k
        | inr w ↦ choice_over w.0 c (w.1).0 l k
      ]

      pub choices_over : (later : List ClauseLine) (now : List Clause) (places : List ℕ) → ((fs : List Formula) → HasParts fs → AllAmong fs clauses → AllAmong fs now) → IsStated p g later now places → AreOverGround p g now
      choices_over later now places among stated = over_from p g reach later clauses now places all_over among stated
