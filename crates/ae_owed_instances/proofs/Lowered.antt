-- What is held of instances where the number of one of them falls and what it says was brought again.
use Rattle.std.specs.Prelude.{ℕ, suc, ◌<◌, List, ◌≡◌, ◌⊎◌, length, slice_get, slice_set, Some}
use Rattle.std.specs.List.{AllByRecursion, Contains}
use Rattle.std.proofs.Common.{sym, ap, ◌∙◌, subst, arith, inl, inr}
use Rattle.std.proofs.Math.Seq.{map-set_same}
use Rattle.std.proofs.lemmas.Option.{same_Some, get_or_from_slice_get}
use Rattle.ae_ages.specs.Interned.{IsHad}
use Rattle.ae_ages.specs.Laws.{AreAllHad, AreJustifiedAges}
use Rattle.ae_ages.specs.declared.entries.Aged.{Aged}
use Rattle.ae_base.proofs.Relations.{pairwise_get, pairwise_weaker}
use Rattle.ae_base.specs.Relations.{Pairwise}
use Rattle.ae_between_rounds.proofs.Growing.{noted_kept}
use Rattle.ae_between_rounds.specs.Held.{HaveInstances, IsNotedAs, by_owner, noted_as, taken_of}
use Rattle.ae_between_rounds.specs.declared.search.Instance.{Instance}
use Rattle.ae_block_constants.specs.Blocks.{opened_pairs}
use Rattle.ae_block_constants.specs.declared.opened.Opened.{Opened}
use Rattle.ae_brought_clauses.specs.Brought.{AreBrought}
use Rattle.ae_core.specs.declared.formulas.Formula.{Formula}
use Rattle.ae_core.specs.declared.formulas.Lit.{Lit}
use Rattle.ae_core.specs.declared.problems.Problem.{Problem}
use Rattle.ae_inst.specs.declared.instances.Taken.{Taken}
use Rattle.ae_journal.proofs.Splits.{contains_at}
use Rattle.ae_journal.specs.InstanceLines.{HasGeneration, IsMatchAt}
use Rattle.ae_journal.specs.InstanceLines.FormulaFrom.{of_clause}
use Rattle.ae_journal.specs.Standing.{Setting}
use Rattle.ae_journal.specs.declared.lines.Line.{Line}
use Rattle.ae_journal.specs.declared.lines.Line.TheVariants as line
use Rattle.ae_owed.proofs.Recording.{matches_are_recorded}
use Rattle.ae_owed.specs.Generations.{IsJustified}
use Rattle.ae_owed.specs.Instances.{Instance as NotedInstance, brought}
use Rattle.ae_owed.specs.Recorded.{AreOpenedIn, AreRecorded, HasLines, IsOfInstance, IsRecorded, of_sorts, of_terms, of_axiom_terms}
use Rattle.ae_owed_matches.proofs.FoundLaws.{from_map}
use Rattle.ae_owners.specs.Owners.{owner_of}
use Rattle.ae_owners.specs.declared.owners.Owner.{Owner}
use Rattle.ae_rules.specs.Clauses.{yes_of, no_of}
use Rattle.ae_rules.specs.Instances.{hypothesis}
use Rattle.ae_searching.specs.Told.{IsToldIn}
use Rattle.ae_store.specs.Stores.{Stored}
use Rattle.ae_theory.specs.Names.{Extends}
use Rattle.ae_owed_instances.proofs.Lists.{pairwise_set, place_of, set_cases, set_here, set_kept}

-- an instance is noted with its owner, and its names are there
pub noted_is : (s : Stored) (owners : List Owner) (i : Instance) (w : Owner) (y : NotedInstance) → slice_get owners i.owner ≡ Some w → IsNotedAs s owners i y
    → (noted_as s w i ≡ y) × AllByRecursion (λ n. n < length s.nodes) i.subst.terms
noted_is s owners i w _ own (by_owner o _ at within) = (ap (λ (z : Owner). noted_as s z i) (same_Some w o (sym own ∙ at)), within)

-- the formulas that were opened have the constants of a setting
pub opened_in : (p : Problem) (g : ℕ) (s : Stored) (opened : List Opened) (x : Setting) → IsToldIn p g s opened x → AreOpenedIn x (opened_pairs opened)
opened_in p g s opened x told f m c =
    let r = from_map (λ (o : Opened). (o.formula, o.first)) opened (f, m) c in
    ap x.fresh (ap (λ (z : Formula × ℕ). z.0) (sym r.2)) ∙ told.fresh r.0 r.1 ∙ ap (λ (z : Formula × ℕ). z.1) r.2

module _ (p : Problem) (g bound : ℕ) (s t : Stored) (opened : List Opened) (owners : List Owner) (made : List Instance) (taken : List Taken) (es fs : List Aged) (js : List Line)
    (h : HaveInstances p g bound s opened owners made taken es js) (k : ℕ) (i : Instance) (w : Owner) (n : ℕ) (at : slice_get made k ≡ Some i) (own : slice_get owners i.owner ≡ Some w)
    (less : n < i.number) where
  -- with its old number, and with its new one
  abbrev noted : NotedInstance
  noted = noted_as s w i

  abbrev lowered : NotedInstance
  lowered = noted_as s w (record i { number = n })

  abbrev new_ones : List NotedInstance
  new_ones = slice_set h.instances k lowered

  its_place : slice_get h.instances k ≡ Some noted
  its_place = let r = pairwise_get (IsNotedAs s owners) made h.instances k i h.are at in r.2 ∙ ap (λ (z : NotedInstance). Some z) (sym (noted_is s owners i w r.0 own r.1).0)

  pub its_names : AllByRecursion (λ v. v < length s.nodes) i.subst.terms
  its_names = let r = pairwise_get (IsNotedAs s owners) made h.instances k i h.are at in (noted_is s owners i w r.0 own r.1).1

  pub is_noted : Contains h.instances noted
  is_noted = contains_at h.instances k noted its_place

  is_lowered : Contains new_ones lowered
  is_lowered = contains_at new_ones k lowered (set_here h.instances k lowered noted its_place)

  new_cases : (y : NotedInstance) → Contains new_ones y → Contains h.instances y ⊎ (lowered ≡ y)
  new_cases y c =
      let r = place_of new_ones y c in
      elim (set_cases h.instances k r.0 lowered y r.1) as (λ _. Contains h.instances y ⊎ (lowered ≡ y)) [ inl e ↦ inl (contains_at h.instances r.0 y e) | inr e ↦ inr e ]

  old_cases : (y : NotedInstance) → Contains h.instances y → Contains new_ones y ⊎ (noted ≡ y)
  old_cases y c =
      let r = place_of h.instances y c in
      elim (set_kept h.instances k r.0 lowered y r.1) as (λ _. Contains new_ones y ⊎ (noted ≡ y)) [
        | inl e ↦ inl (contains_at new_ones r.0 y e)
        | inr e ↦ inr (same_Some noted y (sym its_place ∙ ap (slice_get h.instances) (sym e) ∙ r.1))
      ]

  -- ---- beside a journal
  module _ (x : Setting) (told : IsToldIn p g s opened x) (matched : IsMatchAt x js (HasGeneration x js n) (owner_of w) i.subst.sorts lowered.terms) where
    said_lines : HasLines x js lowered
    said_lines l c =
        let b = ((h.recorded x told).each noted is_noted l c).line_of in
        record { own = b.own; clause = b.clause; noted = b.noted; instance = b.instance; has = b.has }

    pub lowered_recorded : IsRecorded x js lowered
    lowered_recorded = matches_are_recorded x js lowered said_lines matched

    of_moved : (j : Line) → IsOfInstance x js h.instances j → IsOfInstance x js new_ones j
    of_moved _ (of_sorts y m c e) = elim (old_cases y c) as (λ _. IsOfInstance x js new_ones (line.TypeInstance m y.sorts)) [
      | inl d ↦ of_sorts y m d e
      | inr q ↦ subst (λ (z : NotedInstance). IsOfInstance x js new_ones (line.TypeInstance m z.sorts)) q (of_sorts lowered m is_lowered (ap (λ (z : NotedInstance). z.owner) q ∙ e))
    ]
    of_moved _ (of_terms y l c e) = elim (old_cases y c) as (λ _. IsOfInstance x js new_ones (line.TermInstance l.formula y.terms)) [
      | inl d ↦ of_terms y l d e
      | inr q ↦ subst (λ (z : NotedInstance). IsOfInstance x js new_ones (line.TermInstance l.formula z.terms)) q (of_terms lowered l is_lowered (ap (λ (z : NotedInstance). z.owner) q ∙ e))
    ]
    of_moved _ (of_axiom_terms y m f c e a) = elim (old_cases y c) as (λ _. IsOfInstance x js new_ones (line.TermInstance f y.terms)) [
      | inl d ↦ of_axiom_terms y m f d e a
      | inr q ↦ subst (λ (z : NotedInstance). IsOfInstance x js new_ones (line.TermInstance f z.terms)) q
          (of_axiom_terms lowered m f is_lowered (ap (λ (z : NotedInstance). z.owner) q ∙ e) (ap (λ (z : NotedInstance). hypothesis x.problem x.goal m z.sorts) q ∙ a))
    ]

    all_recorded : AreRecorded x js bound new_ones
    all_recorded =
        let r = h.recorded x told in
        record {
          each = λ y c. elim (new_cases y c) as (λ _. IsRecorded x js y) [ inl d ↦ r.each y d | inr q ↦ subst (IsRecorded x js) q lowered_recorded ];
          within = λ y c. elim (new_cases y c) as (λ _. y.number < bound) [
            | inl d ↦ r.within y d
            | inr q ↦ subst (λ (z : NotedInstance). z.number < bound) q (let a = r.within noted is_noted in omega (arith, less, a))
          ];
          sorts = λ m ss c. of_moved (line.TypeInstance m ss) (r.sorts m ss c);
          terms = λ f us c. of_moved (line.TermInstance f us) (r.terms f us c);
        }

  -- ---- what is said was brought again
  module _ (ls : List Lit) (says : ls ≡ brought p g noted) (again : AreBrought opened (suc n) s es t fs ls) (signature : p.signature ≡ s.signature)
      (matched : (x : Setting) → IsToldIn p g s opened x → IsMatchAt x js (HasGeneration x js n) (owner_of w) i.subst.sorts lowered.terms) (narrow : (x : Setting) → IsToldIn p g t opened x → IsToldIn p g s opened x) where
    extends : Extends s t
    extends = record { signature = again.named.signature; keeps = again.named.keeps }

    notes : Pairwise (IsNotedAs t owners) (slice_set made k (record i { number = n })) new_ones
    notes =
        pairwise_set (IsNotedAs t owners) made h.instances k (record i { number = n }) lowered
        (pairwise_weaker (IsNotedAs s owners) (IsNotedAs t owners) (λ a y r. noted_kept s t owners a y extends r) made h.instances h.are)
        (noted_kept s t owners (record i { number = n }) lowered extends (by_owner w (record i { number = n }) own its_names))

    all_had : AreAllHad p g (opened_pairs opened) new_ones t fs
    all_had = record {
      hypotheses = λ m f e. again.stay 0 (yes_of f).formula (h.had.hypotheses m f e);
      goal = λ f e. again.stay 0 (no_of f).formula (h.had.goal f e);
      instance_ones = λ y l c d. elim (new_cases y c) as (λ _. IsHad t fs (suc y.number) l.formula) [
        | inl a ↦ again.stay (suc y.number) l.formula (h.had.instance_ones y l a d)
        | inr q ↦
            subst (λ (z : NotedInstance). IsHad t fs (suc z.number) l.formula) q
            (again.had l (subst (λ (zs : List Lit). Contains zs l) (sym says) (subst (λ (z : NotedInstance). Contains (brought p g z) l) (sym q) d)))
      ];
      bodies = again.bodies h.had.bodies;
    }

    brought_generation : (x : Setting) → IsToldIn p g s opened x → (l : Lit) → Contains ls l → HasGeneration x js (suc n) l.formula
    brought_generation x told l c =
        let d : Contains (brought x.problem x.goal lowered) l =
        subst (λ (z : Problem). Contains (brought z x.goal lowered) l) (sym told.problem) (subst (λ (z : ℕ). Contains (brought p z lowered) l) (sym told.goal) (subst (λ (zs : List Lit). Contains zs l) says c)) in
        let r = lowered_recorded x told (matched x told) l d in
        of_clause r.line_of.clause l (inr r.below) r.line_of.has

    all_justified : (x : Setting) → IsToldIn p g s opened x → IsJustified x bound t js × AreJustifiedAges x bound fs js
    all_justified x told =
        let j = h.justified x told in
        again.justified x bound js (sym signature ∙ ap (λ (z : Problem). z.signature) (sym told.problem)) (opened_in p g s opened x told) (λ l c lt. brought_generation x told l c) j.0 j.1

    pub lowered_instances : HaveInstances p g bound t opened owners (slice_set made k (record i { number = n })) taken fs js
    lowered_instances = record {
      right = h.right;
      apart = h.apart;
      axioms = h.axioms;
      instances = new_ones;
      are = notes;
      taken_ones = h.taken_ones ∙ sym (map-set_same taken_of made k (record i { number = n }) i (ap taken_of (sym (get_or_from_slice_get made k i i at))));
      recorded = λ x told. all_recorded x (narrow x told) (matched x (narrow x told));
      typed = λ y m c e. elim (new_cases y c) as (λ _. Contains js (line.TypeInstance m y.sorts)) [
        | inl d ↦ h.typed y m d e
        | inr q ↦ subst (λ (z : NotedInstance). Contains js (line.TypeInstance m z.sorts)) q (h.typed noted m is_noted (ap (λ (z : NotedInstance). z.owner) q ∙ e))
      ];
      had = all_had;
      justified = λ x told. all_justified x (narrow x told);
    }
