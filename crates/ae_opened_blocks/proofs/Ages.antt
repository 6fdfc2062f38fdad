-- Generations and instances, once one more block is opened and its clause is brought.
use Rattle.std.specs.Prelude.{ℕ, zero, suc, ◌<◌, ◌≤◌, ◌≡◌, ◌⊎◌, List, [], ◌∷◌, ◌++◌, Some}
use Rattle.std.specs.List.{Contains}
use Rattle.std.proofs.Common.{sym, ap, ◌∙◌, subst, arith, inl, inr}
use Rattle.std.proofs.lemmas.Bool.{cases_lt}
use Rattle.std.proofs.lemmas.List.{map_push}
use Rattle.std.proofs.lemmas.List.Elements.{Contains-append_left, Contains-push, Contains-push_cases}
use Rattle.std.proofs.lemmas.Option.{same_Some}
use Rattle.ae_ages.proofs.Having.{age_later, young_later}
use Rattle.ae_ages.specs.Ages.{HasAge}
use Rattle.ae_ages.specs.Interned.{IsHad}
use Rattle.ae_ages.specs.Laws.{AreAllHad, AreJustifiedAges}
use Rattle.ae_ages.specs.declared.entries.Aged.{Aged}
use Rattle.ae_base.proofs.Relations.{pairwise_weaker}
use Rattle.ae_between_rounds.proofs.Growing.{noted_kept}
use Rattle.ae_between_rounds.specs.Held.{HaveInstances, IsNotedAs}
use Rattle.ae_between_rounds.specs.declared.search.Instance.{Instance}
use Rattle.ae_block_constants.specs.Blocks.{opened_pairs}
use Rattle.ae_block_constants.specs.declared.opened.Opened.{Opened}
use Rattle.ae_brought_clauses.specs.Brought.{AreBrought, HaveBodies}
use Rattle.ae_core.specs.declared.formulas.Formula.{Formula, out-Formula}
use Rattle.ae_core.specs.declared.formulas.Lit.{Lit}
use Rattle.ae_core.specs.declared.problems.Problem.{Problem}
use Rattle.ae_core.specs.declared.proofs.ClauseLine.{ClauseLine}
use Rattle.ae_inst.specs.declared.instances.Taken.{Taken}
use Rattle.ae_journal.proofs.Splits.{contains_cases, contains_here, contains_later}
use Rattle.ae_journal.specs.InstanceLines.{HasGeneration}
use Rattle.ae_journal.specs.InstanceLines.FormulaFrom.{of_fresh}
use Rattle.ae_journal.specs.Standing.{Setting}
use Rattle.ae_journal.specs.declared.lines.Line.{Line}
use Rattle.ae_opening.specs.Opens.{Opens}
use Rattle.ae_owed.specs.Generations.{IsJustified}
use Rattle.ae_owed.specs.Instances.{Instance as NotedInstance}
use Rattle.ae_owed.specs.Recorded.{AreOpenedIn}
use Rattle.ae_owners.specs.declared.owners.Owner.{Owner}
use Rattle.ae_rules.specs.Clauses.{Clause, yes_of, no_of}
use Rattle.ae_rules.specs.Instances.{fresh_clause}
use Rattle.ae_searching.proofs.Settings.{told_before}
use Rattle.ae_searching.specs.Told.{IsToldIn}
use Rattle.ae_store.specs.Stores.{Stored}
use Rattle.ae_theory.specs.Names.{Extends}

-- in a setting in which the blocks have their constants, so have their pairs
pub opened_in : (x : Setting) (os : List Opened) → ((o : Opened) → Contains os o → x.fresh o.formula ≡ o.first) → AreOpenedIn x (opened_pairs os)
opened_in x [] h f m c = absurd (let k = c.1 in omega (arith, k))
opened_in x (o ∷ os) h f m c = elim (contains_cases (o.formula, o.first) (opened_pairs os) (f, m) c) as (λ _. x.fresh f ≡ m) [
  | inl e ↦ subst (λ (w : Formula × ℕ). x.fresh w.0 ≡ w.1) e (h o (contains_here o os))
  | inr r ↦ opened_in x os (λ q i. h q (contains_later o os q i)) f m r
]

-- what the clause of a block of a generation says has it too
of_block : (x : Setting) (js : List Line) (n : ℕ) (f : Formula) (c : Clause) (l : Lit) → HasGeneration x js n f → fresh_clause f (x.fresh f) (out-Formula f) ≡ Some c → Contains c l → HasGeneration x js n l.formula
of_block x js zero f c l a e i = of_fresh f c l a e i
of_block x js (suc n) f c l a e i = of_fresh f c l a e i

module _ (n m age bound : ℕ) (f : Formula) (old new : List Opened) (l : ClauseLine) (c : Clause) (o : Opens f n m old new l c) (s s2 : Stored) (es fs : List Aged) (b : AreBrought old age s es s2 fs c)
    (least : (k : ℕ) → HasAge es k f → age ≤ k) (known : HasAge es age f ⊎ (age ≡ bound)) where
  abbrev block : Opened
  block = record { formula = f; first = n }

  not_younger : (k : ℕ) → HasAge fs k f → age ≤ k
  not_younger k a = elim (cases_lt k age) as (λ _. age ≤ k) [
    | inl lt ↦ absurd (let le = least k (b.late_ages k f lt a) in omega (arith, le, lt))
    | inr ge ↦ ge
  ]

  had_later : (k : ℕ) (h : Formula) → age ≤ k → IsHad s2 fs age h → IsHad s2 fs k h
  had_later k h le a = record { terms = λ t i. young_later s2 age k t le (a.terms t i); formulas = λ q i. age_later fs age k q le (a.formulas q i) }

  -- what the clause of the block says is had at each generation that the block has
  own_bodies : (k : ℕ) (d : Clause) (x : Lit) → HasAge fs k f → fresh_clause f n (out-Formula f) ≡ Some d → Contains d x → (x.formula ≡ f) ⊎ IsHad s2 fs k x.formula
  own_bodies k d x a e i = inr (had_later k x.formula (not_younger k a) (b.had x (subst (λ (w : Clause). Contains w x) (same_Some d c (sym e ∙ o.clause)) i)))

  pairs : opened_pairs new ≡ opened_pairs old ++ (f, n) ∷ []
  pairs = ap opened_pairs o.more ∙ map_push (λ (e : Opened). (e.formula, e.first)) old block

  have_bodies : HaveBodies old s es → HaveBodies new s2 fs
  have_bodies h k q j d x i a e r =
      elim (Contains-push_cases (opened_pairs old) (f, n) (k, q) (subst (λ (w : List (Formula × ℕ)). Contains w (k, q)) pairs i)) as (λ _. (x.formula ≡ k) ⊎ IsHad s2 fs j x.formula) [
        | inl y ↦ b.bodies h k q j d x y a e r
        | inr y ↦
            subst (λ (w : Formula × ℕ). HasAge fs j w.0 → fresh_clause w.0 w.1 (out-Formula w.0) ≡ Some d → Contains d x → (x.formula ≡ w.0) ⊎ IsHad s2 fs j x.formula) y
            (λ a2 e2 r2. own_bodies j d x a2 e2 r2) a e r
      ]

  still_opened : (e : Opened) → Contains old e → Contains new e
  still_opened e i = subst (λ (w : List Opened). Contains w e) (sym o.more) (Contains-append_left old (block ∷ []) e i)

  now_opened : Contains new block
  now_opened = subst (λ (w : List Opened). Contains w block) (sym o.more) (Contains-push old block)

  extends : Extends s s2
  extends = record { signature = b.named.signature; keeps = b.named.keeps }

  module _ (p : Problem) (g : ℕ) where
    all_had : (is : List NotedInstance) → AreAllHad p g (opened_pairs old) is s es → AreAllHad p g (opened_pairs new) is s2 fs
    all_had is h = record {
      hypotheses = λ k q e. b.stay 0 (yes_of q).formula (h.hypotheses k q e);
      goal = λ q e. b.stay 0 (no_of q).formula (h.goal q e);
      instance_ones = λ i x a r. b.stay (suc i.number) x.formula (h.instance_ones i x a r);
      bodies = have_bodies h.bodies;
    }

    narrow : (x : Setting) → IsToldIn p g s2 new x → IsToldIn p g s old x
    narrow x told = told_before p g s s2 old new x extends still_opened told

    module _ (x : Setting) (js : List Line) (told : IsToldIn p g s2 new x) where
      its_clause : fresh_clause f (x.fresh f) (out-Formula f) ≡ Some c
      its_clause = ap (λ k. fresh_clause f k (out-Formula f)) (told.fresh block now_opened) ∙ o.clause

      literals : AreJustifiedAges x bound es js → (y : Lit) → Contains c y → age < bound → HasGeneration x js age y.formula
      literals j y i lt = elim known as (λ _. HasGeneration x js age y.formula) [
        | inl a ↦ of_block x js age f c y (j age f lt a) its_clause i
        | inr e ↦ absurd (omega (arith, e, lt))
      ]

      justified_opened : s.signature ≡ p.signature → IsJustified x bound s js × AreJustifiedAges x bound es js → IsJustified x bound s2 js × AreJustifiedAges x bound fs js
      justified_opened same j =
          b.justified x bound js (same ∙ ap (λ (q : Problem). q.signature) (sym told.problem)) (opened_in x old (λ e i. told.fresh e (still_opened e i))) (literals j.1) j.0 j.1

    pub instances_opened : (owners : List Owner) (made : List Instance) (taken : List Taken) (js : List Line) → s.signature ≡ p.signature → HaveInstances p g bound s old owners made taken es js
        → HaveInstances p g bound s2 new owners made taken fs js
    instances_opened owners made taken js same h = record {
      right = h.right;
      apart = h.apart;
      axioms = h.axioms;
      instances = h.instances;
      are = pairwise_weaker (IsNotedAs s owners) (IsNotedAs s2 owners) (λ i k r. noted_kept s s2 owners i k extends r) made h.instances h.are;
      taken_ones = h.taken_ones;
      recorded = λ x told. h.recorded x (narrow x told);
      typed = h.typed;
      had = all_had h.instances h.had;
      justified = λ x told. justified_opened x js told same (h.justified x (narrow x told));
    }
