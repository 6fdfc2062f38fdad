-- The lines of an instance are there, and what it says is had.
use Rattle.std.specs.Prelude.{ℕ, suc, ◌≡◌, ◌≢◌, ◌⊎◌, true, List, [], ◌∷◌, ◌++◌, Option, Some}
use Rattle.std.specs.List.{Contains}
use Rattle.std.proofs.Common.{refl, sym, ap, ◌∙◌, subst, inl, inr}
use Rattle.std.proofs.lemmas.List.Elements.{Contains-append_cases, Contains-append_left, Contains-append_right, Contains-push, Contains-push_cases}
use Rattle.std.proofs.lemmas.Option.{same_Some}
use Rattle.ae_base.specs.Options.{◌>>=◌}
use Rattle.ae_base.proofs.Options.{only_some}
use Rattle.ae_between_rounds.specs.declared.search.Search.{Search}
use Rattle.ae_core.specs.declared.formulas.Formula.{Formula, out-Formula}
use Rattle.ae_core.specs.declared.formulas.Formula.TheOpen as layer
use Rattle.ae_core.specs.declared.formulas.Lit.{Lit}
use Rattle.ae_core.specs.declared.formulas.Quant.{Quant}
use Rattle.ae_core.specs.declared.problems.Problem.{Problem}
use Rattle.ae_core.specs.declared.proofs.ClauseLine.TheVariants.{Hyp, Inst}
use Rattle.ae_core.specs.declared.terms.Sort.{Sort}
use Rattle.ae_core.specs.declared.terms.Term.{Term}
use Rattle.ae_instance_lines.proofs.Bringing.{axiom_has_lines, literal_has_lines}
use Rattle.ae_instance_lines.specs.Stated.{IsLineOfSorts, IsLineOfTerms}
use Rattle.ae_instance_lines.specs.declared.lines.InstanceLine.{InstanceLine}
use Rattle.ae_journal.proofs.Splits.{contains_cases, contains_here, contains_later, contains_one}
use Rattle.ae_journal.specs.InstanceLines.{IsInstance}
use Rattle.ae_journal.specs.InstanceLines.IsInstance.{of_axiom_terms as from_axiom_terms, of_terms as from_terms, of_type as from_type}
use Rattle.ae_journal.specs.Standing.{Setting}
use Rattle.ae_journal.specs.States.{Owner, of_axiom, of_literal, instance_literals, is_universal}
use Rattle.ae_journal.specs.declared.lines.Line.{Line}
use Rattle.ae_journal.specs.declared.lines.Line.TheVariants as line
use Rattle.ae_made_instances.proofs.Joining.{came_join, goes_join, said_join, said_of}
use Rattle.ae_made_instances.specs.Inner.Making.{AreSaid, IsBodyNoted, IsInLine, IsMade, made_of}
use Rattle.ae_made_instances.specs.Inner.Making.IsBodyNoted.{block, plain}
use Rattle.ae_made_instances.specs.Inner.Noting.{IsNoted}
use Rattle.ae_opening.specs.declared.opening.OpenedBlocks.{OpenedBlocks}
use Rattle.ae_owed.specs.Instances.{Instance}
use Rattle.ae_owed.specs.Recorded.{HasLines, IsOfInstance}
use Rattle.ae_owed.specs.Recorded.IsOfInstance.{of_axiom_terms, of_sorts, of_terms}
use Rattle.ae_rules.specs.Clauses.{Clause, yes_of}
use Rattle.ae_rules.specs.Derivations.{clause_of, conclusion, line_ok}
use Rattle.ae_rules.specs.Instances.{hypothesis}

-- ---- settings of a problem and a goal
at_setting : (P : Problem → ℕ → Type 0) (p : Problem) (g : ℕ) (x : Setting) → x.problem ≡ p → x.goal ≡ g → P p g → P x.problem x.goal
at_setting P p g x ep eg a = subst (λ (q : Problem). P q x.goal) (sym ep) (subst (P p) (sym eg) a)

abbrev some_setting : Problem → ℕ → Setting
some_setting p g = record { problem = p; goal = g; names = []; fresh = λ f. 0 }

-- ---- the clause of a line
sorts_clause : (x : Setting) (j : Line) (c : Clause) (w : Owner) (us : List Sort) (ts : List Term) (k : ℕ) (ss : List Sort) → IsInstance x j c w us ts → j ≡ line.TypeInstance k ss → conclusion x.problem x.goal (Hyp k ss) ≡ Some c
sorts_clause x _ _ _ _ _ k ss (from_type a os ts c e) q = subst (λ (z : ℕ × List Sort). conclusion x.problem x.goal (Hyp z.0 z.1) ≡ Some c) (λ i. (first q i, second q i)) e
  where
    first : line.TypeInstance a os ≡ line.TypeInstance k ss → a ≡ k
    first e = cc e

    second : line.TypeInstance a os ≡ line.TypeInstance k ss → os ≡ ss
    second e = cc e
sorts_clause x _ _ _ _ _ k ss (from_terms f ts c sign e) q = absurd (other f ts q)
  where
    other : (f : Formula) (ts : List Term) → line.TermInstance f ts ≡ line.TypeInstance k ss → ⊥
    other f ts e = cc e
sorts_clause x _ _ _ _ _ k ss (from_axiom_terms a os f ts c e d) q = absurd (other f ts q)
  where
    other : (f : Formula) (ts : List Term) → line.TermInstance f ts ≡ line.TypeInstance k ss → ⊥
    other f ts e = cc e

same_formula : (f h : Formula) (ts us : List Term) → line.TermInstance f ts ≡ line.TermInstance h us → f ≡ h
same_formula f h ts us e = cc e

same_terms : (f h : Formula) (ts us : List Term) → line.TermInstance f ts ≡ line.TermInstance h us → ts ≡ us
same_terms f h ts us e = cc e

terms_clause : (x : Setting) (j : Line) (c : Clause) (w : Owner) (us : List Sort) (vs : List Term) (f : Formula) (ts : List Term) → IsInstance x j c w us vs → j ≡ line.TermInstance f ts
    → conclusion x.problem x.goal (Inst f ts) ≡ Some c
terms_clause x _ _ _ _ _ f ts (from_type a os vs c e) q = absurd (other a os q)
  where
    other : (a : ℕ) (os : List Sort) → line.TypeInstance a os ≡ line.TermInstance f ts → ⊥
    other a os e = cc e
terms_clause x _ _ _ _ _ f ts (from_terms h us c sign e) q =
    subst (λ (z : Formula × List Term). conclusion x.problem x.goal (Inst z.0 z.1) ≡ Some c) (λ i. (same_formula h f us ts q i, same_terms h f us ts q i)) e
terms_clause x _ _ _ _ _ f ts (from_axiom_terms a os h us c d e) q =
    subst (λ (z : Formula × List Term). conclusion x.problem x.goal (Inst z.0 z.1) ≡ Some c) (λ i. (same_formula h f us ts q i, same_terms h f us ts q i)) e

-- ---- what was noted
module _ (p : Problem) (g n : ℕ) (o o2 : Search) (a : InstanceLine) (d : IsNoted p g n a o o2) where
  now_there : Contains o2.journal.lines a.own
  now_there = elim d.noted as (λ _. Contains o2.journal.lines a.own) [
    | inl r ↦ subst (λ (z : List Line). Contains z a.own) (sym r.1) r.0
    | inr e ↦ subst (λ (z : List Line). Contains z a.own) (sym e) (Contains-push o.journal.lines a.own)
  ]

  still_there : (j : Line) → Contains o.journal.lines j → Contains o2.journal.lines j
  still_there j i = elim d.noted as (λ _. Contains o2.journal.lines j) [
    | inl r ↦ subst (λ (z : List Line). Contains z j) (sym r.1) i
    | inr e ↦ subst (λ (z : List Line). Contains z j) (sym e) (Contains-append_left o.journal.lines (a.own ∷ []) j i)
  ]

  -- no other line came
  only_own : (P : Line → Type 0) → P a.own → (j : Line) → Contains o2.journal.lines j → Contains o.journal.lines j ⊎ P j
  only_own P own j i = elim d.noted as (λ _. Contains o.journal.lines j ⊎ P j) [
    | inl r ↦ inl (subst (λ (z : List Line). Contains z j) r.1 i)
    | inr e ↦
        elim (Contains-push_cases o.journal.lines a.own j (subst (λ (z : List Line). Contains z j) e i)) as (λ _. Contains o.journal.lines j ⊎ P j) [ inl k ↦ inl k | inr q ↦ inr (subst P q own) ]
  ]

-- ---- of a universal literal
module _ (p : Problem) (g n : ℕ) (o o2 : Search) (l : Lit) (ts : List Term) (u : is_universal l ≡ true) (a : InstanceLine) (w : IsLineOfTerms p g l.formula ts a) (d : IsNoted p g n a o o2) where
  abbrev literal_one : Instance
  literal_one = made_of (of_literal l) [] ts n

  literal_there : Contains o2.journal.lines (line.TermInstance l.formula ts)
  literal_there = subst (Contains o2.journal.lines) w.own (now_there p g n o o2 a d)

  literal_covers : (m : Lit) → Contains (instance_literals p g (of_literal l) [] ts) m → Contains a.clause m
  literal_covers m i =
      let own = line.TermInstance l.formula ts in
      let r = literal_has_lines (some_setting p g) (own ∷ []) literal_one l a.clause refl refl u w.concludes (contains_here own []) m i in
      let e = terms_clause (some_setting p g) r.own r.clause (of_literal l) [] ts l.formula ts r.instance (sym (contains_one own r.own r.noted)) in
      subst (λ (z : Clause). Contains z m) (same_Some r.clause a.clause (sym e ∙ w.concludes)) r.has

  not_axiom : (k : ℕ) → of_literal l ≡ of_axiom k → ⊥
  not_axiom k e = cc e

  pub literal_made : IsMade p g n (of_literal l) [] ts o o2
  literal_made = record {
    beside = d.beside;
    goes_on = d.goes_on;
    came = d.came;
    looked = d.looked;
    instances = d.instances;
    said = a.clause;
    are_said = said_of o.blocks.opened (suc n) o.store o.ages o2.store o2.ages a.clause d.brought;
    covers = literal_covers;
    clauses = λ x ep eg m i. record {
      own = line.TermInstance l.formula ts;
      clause = a.clause;
      noted = literal_there;
      instance = from_terms l.formula ts a.clause l.positive (at_setting (λ q k. conclusion q k (Inst l.formula ts) ≡ Some a.clause) p g x ep eg w.concludes);
      has = i;
    };
    lines = λ x ep eg. literal_has_lines x o2.journal.lines literal_one l a.clause refl refl u (at_setting (λ q k. conclusion q k (Inst l.formula ts) ≡ Some a.clause) p g x ep eg w.concludes) literal_there;
    only = λ x ep eg.
        only_own p g n o o2 a d (IsOfInstance x o2.journal.lines (literal_one ∷ [])) (subst (IsOfInstance x o2.journal.lines (literal_one ∷ [])) (sym w.own) (of_terms literal_one l (contains_here literal_one []) refl));
    typed = λ k e. absurd (not_axiom k e);
  }

-- ---- of an axiom
module _ (p : Problem) (g n k : ℕ) (ss : List Sort) (ts : List Term) where
  abbrev axiom_one : Instance
  axiom_one = made_of (of_axiom k) ss ts n

  same_place : (j : ℕ) → of_axiom k ≡ of_axiom j → k ≡ j
  same_place j e = cc e

  module _ (o o2 : Search) (a : InstanceLine) (w : IsLineOfSorts p g k ss a) (d : IsNoted p g n a o o2) where
    pub axiom_there : Contains o2.journal.lines (line.TypeInstance k ss)
    axiom_there = subst (Contains o2.journal.lines) w.own (now_there p g n o o2 a d)

    of_axiom_line : (x : Setting) (js : List Line) → IsOfInstance x js (axiom_one ∷ []) a.own
    of_axiom_line x js = subst (IsOfInstance x js (axiom_one ∷ [])) (sym w.own) (of_sorts axiom_one k (contains_here axiom_one []) refl)

    in_axiom_line : (js : List Line) → Contains js (line.TypeInstance k ss) → (x : Setting) → x.problem ≡ p → x.goal ≡ g → (m : Lit) → Contains a.clause m → IsInLine x js (of_axiom k) ss ts m
    in_axiom_line js there x ep eg m i = record {
      own = line.TypeInstance k ss;
      clause = a.clause;
      noted = there;
      instance = from_type k ss ts a.clause (at_setting (λ q j. conclusion q j (Hyp k ss) ≡ Some a.clause) p g x ep eg w.concludes);
      has = i;
    }

    module _ (f : Formula) (e : hypothesis p g k ss ≡ Some f) where
      -- whose formula is no block for all values
      module _ (none : (q : Quant) → out-Formula f ≢ layer.All q) where
        plain_lines : (x : Setting) (js : List Line) → x.problem ≡ p → x.goal ≡ g → Contains js (line.TypeInstance k ss) → HasLines x js axiom_one
        plain_lines x js ep eg there =
            axiom_has_lines x js axiom_one k f a.clause refl (at_setting (λ q j. hypothesis q j k ss ≡ Some f) p g x ep eg e) (at_setting (λ q j. conclusion q j (Hyp k ss) ≡ Some a.clause) p g x ep eg w.concludes) there
            (λ q c. absurd (none q c))

        plain_covers : (m : Lit) → Contains (instance_literals p g (of_axiom k) ss ts) m → Contains a.clause m
        plain_covers m i =
            let own = line.TypeInstance k ss in
            let r = plain_lines (some_setting p g) (own ∷ []) refl refl (contains_here own []) m i in
            let c = sorts_clause (some_setting p g) r.own r.clause (of_axiom k) ss ts k ss r.instance (sym (contains_one own r.own r.noted)) in
            subst (λ (z : Clause). Contains z m) (same_Some r.clause a.clause (sym c ∙ w.concludes)) r.has

        plain_made : IsMade p g n (of_axiom k) ss ts o o2
        plain_made = record {
          beside = d.beside;
          goes_on = d.goes_on;
          came = d.came;
          looked = d.looked;
          instances = d.instances;
          said = a.clause;
          are_said = said_of o.blocks.opened (suc n) o.store o.ages o2.store o2.ages a.clause d.brought;
          covers = plain_covers;
          clauses = in_axiom_line o2.journal.lines axiom_there;
          lines = λ x ep eg. plain_lines x o2.journal.lines ep eg axiom_there;
          only = λ x ep eg. only_own p g n o o2 a d (IsOfInstance x o2.journal.lines (axiom_one ∷ [])) (of_axiom_line x o2.journal.lines);
          typed = λ j q. subst (λ (z : ℕ). Contains o2.journal.lines (line.TypeInstance z ss)) (same_place j q) axiom_there;
        }

      -- and whose formula is one
      module _ (q : Quant) (all : out-Formula f ≡ layer.All q) (o3 : Search) (b : InstanceLine) (v : IsLineOfTerms p g f ts b) (y : IsNoted p g n b o2 o3) where
        both_lines : (x : Setting) (js : List Line) → x.problem ≡ p → x.goal ≡ g → Contains js (line.TypeInstance k ss) → Contains js (line.TermInstance f ts) → HasLines x js axiom_one
        both_lines x js ep eg there body =
            axiom_has_lines x js axiom_one k f a.clause refl (at_setting (λ q j. hypothesis q j k ss ≡ Some f) p g x ep eg e) (at_setting (λ q j. conclusion q j (Hyp k ss) ≡ Some a.clause) p g x ep eg w.concludes) there
            (λ r c. (b.clause, at_setting (λ q j. conclusion q j (Inst f ts) ≡ Some b.clause) p g x ep eg v.concludes, body))

        both_covers : (m : Lit) → Contains (instance_literals p g (of_axiom k) ss ts) m → Contains (a.clause ++ b.clause) m
        both_covers m i =
            let one = line.TypeInstance k ss in
            let two = line.TermInstance f ts in
            let x = some_setting p g in
            let r = both_lines x (one ∷ two ∷ []) refl refl (contains_here one (two ∷ [])) (contains_later one (two ∷ []) two (contains_here two [])) m i in
            elim (contains_cases one (two ∷ []) r.own r.noted) as (λ _. Contains (a.clause ++ b.clause) m) [
              | inl s ↦
                  let c = sorts_clause x r.own r.clause (of_axiom k) ss ts k ss r.instance (sym s) in
                  Contains-append_left a.clause b.clause m (subst (λ (z : Clause). Contains z m) (same_Some r.clause a.clause (sym c ∙ w.concludes)) r.has)
              | inr s ↦
                  let c = terms_clause x r.own r.clause (of_axiom k) ss ts f ts r.instance (sym (contains_one two r.own s)) in
                  Contains-append_right a.clause b.clause m (subst (λ (z : Clause). Contains z m) (same_Some r.clause b.clause (sym c ∙ v.concludes)) r.has)
            ]

        type_there : Contains o3.journal.lines (line.TypeInstance k ss)
        type_there = still_there p g n o2 o3 b y (line.TypeInstance k ss) axiom_there

        body_there : Contains o3.journal.lines (line.TermInstance f ts)
        body_there = subst (Contains o3.journal.lines) v.own (now_there p g n o2 o3 b y)

        both_said : AreSaid o.blocks.opened (suc n) o.store o.ages o3.store o3.ages (a.clause ++ b.clause)
        both_said =
            said_join o.blocks.opened (suc n) o.store o.ages o2.store o2.ages o3.store o3.ages a.clause b.clause d.goes_on.extends.signature
            (said_of o.blocks.opened (suc n) o.store o.ages o2.store o2.ages a.clause d.brought)
            (subst (λ (z : OpenedBlocks). AreSaid z.opened (suc n) o2.store o2.ages o3.store o3.ages b.clause) d.goes_on.blocks (said_of o2.blocks.opened (suc n) o2.store o2.ages o3.store o3.ages b.clause y.brought))

        in_body_line : (x : Setting) → x.problem ≡ p → x.goal ≡ g → (m : Lit) → Contains b.clause m → IsInLine x o3.journal.lines (of_axiom k) ss ts m
        in_body_line x ep eg m i = record {
          own = line.TermInstance f ts;
          clause = b.clause;
          noted = body_there;
          instance = from_axiom_terms k ss f ts b.clause (at_setting (λ q j. conclusion q j (Hyp k ss) ≡ Some (yes_of f ∷ [])) p g x ep eg stated)
              (at_setting (λ q j. conclusion q j (Inst f ts) ≡ Some b.clause) p g x ep eg v.concludes);
          has = i;
        }
          where
            stated : conclusion p g (Hyp k ss) ≡ Some (yes_of f ∷ [])
            stated =
                let c = only_some (line_ok p g (Hyp k ss)) (clause_of p g (Hyp k ss)) a.clause w.concludes in
                let z : yes_of f ∷ [] ≡ a.clause = same_Some (yes_of f ∷ []) a.clause (sym (ap (λ (o : Option Formula). o >>= λ f. Some (yes_of f ∷ [])) e) ∙ c.1) in
                w.concludes ∙ ap (λ (c : Clause). Some c) (sym z)

        of_body_line : (x : Setting) → x.problem ≡ p → x.goal ≡ g → IsOfInstance x o3.journal.lines (axiom_one ∷ []) b.own
        of_body_line x ep eg =
            subst (IsOfInstance x o3.journal.lines (axiom_one ∷ [])) (sym v.own)
            (of_axiom_terms axiom_one k f (contains_here axiom_one []) refl (at_setting (λ q j. hypothesis q j k ss ≡ Some f) p g x ep eg e))

        both_only : (x : Setting) → x.problem ≡ p → x.goal ≡ g → (j : Line) → Contains o3.journal.lines j → Contains o.journal.lines j ⊎ IsOfInstance x o3.journal.lines (axiom_one ∷ []) j
        both_only x ep eg j i =
            elim (only_own p g n o2 o3 b y (IsOfInstance x o3.journal.lines (axiom_one ∷ [])) (of_body_line x ep eg) j i) as (λ _. Contains o.journal.lines j ⊎ IsOfInstance x o3.journal.lines (axiom_one ∷ []) j) [
              | inl r ↦ only_own p g n o o2 a d (IsOfInstance x o3.journal.lines (axiom_one ∷ [])) (of_axiom_line x o3.journal.lines) j r
              | inr r ↦ inr r
            ]

        both_made : IsMade p g n (of_axiom k) ss ts o o3
        both_made = record {
          beside = y.beside;
          goes_on = goes_join o o2 o3 d.goes_on y.goes_on;
          came = came_join o o2 o3 d.came y.came;
          looked = y.looked ∙ d.looked;
          instances = y.instances ∙ d.instances;
          said = a.clause ++ b.clause;
          are_said = both_said;
          covers = both_covers;
          clauses = λ x ep eg m i. elim (Contains-append_cases a.clause b.clause m i) as (λ _. IsInLine x o3.journal.lines (of_axiom k) ss ts m) [
            | inl r ↦ in_axiom_line o3.journal.lines type_there x ep eg m r
            | inr r ↦ in_body_line x ep eg m r
          ];
          lines = λ x ep eg. both_lines x o3.journal.lines ep eg type_there body_there;
          only = both_only;
          typed = λ j s. subst (λ (z : ℕ). Contains o3.journal.lines (line.TypeInstance z ss)) (same_place j s) type_there;
        }

    pub axiom_made : (o3 : Search) → IsBodyNoted p g n k ss ts o2 o3 → IsMade p g n (of_axiom k) ss ts o o3
    axiom_made o3 (plain f e none same) = subst (IsMade p g n (of_axiom k) ss ts o) (sym same) (plain_made f e none)
    axiom_made o3 (block f q b e all v y) = both_made f e q all o3 b v y
