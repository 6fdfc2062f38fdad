-- The number of an instance falls to one at which it is a match now.
use Rattle.std.specs.Prelude.{ℕ, suc, ◌+◌, ◌<◌, ◌≤◌, ◌||◌, Bool, true, false, List, ◌≡◌, slice_set, Some, Result, Ok, Err}
use Rattle.std.specs.List.{Contains}
use Rattle.std.proofs.Common.{refl, sym, ap, ◌∙◌, subst, arith, inl, inr}
use Rattle.std.proofs.lemmas.Bool.{cases_lt}
use Rattle.std.proofs.lemmas.List.{length-set}
use Rattle.ae_ages.specs.declared.entries.Aged.{Aged}
use Rattle.ae_alike_names.specs.Alike.{AlikeNamesAreEqualInSearches}
use Rattle.ae_base.proofs.Tests.{false_true, true_false}
use Rattle.ae_between_rounds.proofs.Growing.{some_told}
use Rattle.ae_between_rounds.specs.Between.{IsBetweenRounds}
use Rattle.ae_between_rounds.specs.Finished.{IsOpenSearch}
use Rattle.ae_between_rounds.specs.Held.{noted_as}
use Rattle.ae_between_rounds.specs.declared.search.Instance.{Instance}
use Rattle.ae_between_rounds.specs.declared.search.Search.{Search}
use Rattle.ae_block_constants.specs.declared.opened.Opened.{Opened}
use Rattle.ae_brought_clauses.specs.Brought.{AreBrought}
use Rattle.ae_core.specs.declared.formulas.Formula.{out-Formula}
use Rattle.ae_core.specs.declared.formulas.Lit.{Lit}
use Rattle.ae_core.specs.declared.problems.Problem.{Problem}
use Rattle.ae_core.specs.declared.terms.Term.{Term}
use Rattle.ae_goal_names.specs.Named.{clause_terms}
use Rattle.ae_journal.specs.InstanceLines.{HasGeneration, IsMatchAt}
use Rattle.ae_journal.specs.Standing.{Setting}
use Rattle.ae_later_lines.proofs.Names.{no_new_names}
use Rattle.ae_owed.proofs.Recording.{found_ones_match}
use Rattle.ae_owed.specs.Instances.{Instance as NotedInstance, brought}
use Rattle.ae_owed.specs.Known.{IsFoundAt}
use Rattle.ae_owed.specs.Laws.{HoldNow}
use Rattle.ae_owed.specs.Recorded.{IsBroughtBy}
use Rattle.ae_owners.specs.Owners.{owner_of}
use Rattle.ae_propagation.specs.Settled.{last_level}
use Rattle.ae_rules.specs.Clauses.{Clause}
use Rattle.ae_rules.specs.Derivations.{clause_ok}
use Rattle.ae_rules.specs.Instances.{fresh_clause}
use Rattle.ae_searching.proofs.Settings.{told_before}
use Rattle.ae_searching.specs.Told.{IsToldIn}
use Rattle.ae_store.specs.Stores.{Stored, IsStore}
use Rattle.ae_theory.specs.Names.{Extends, terms_in}
use Rattle.ae_value_table.specs.Alike.{alike}
use Rattle.ae_owed_instances.proofs.Lists.{total_less}
use Rattle.ae_owed_instances.proofs.Lowered.{is_noted, lowered_instances}
use Rattle.ae_owed_instances.proofs.Noted.{fresh_named, said_named, said_sorted}
use Rattle.ae_owed_instances.proofs.Staying.{names_stay, open_stays}
use Rattle.ae_owed_instances.specs.Inner.Falling.{HasFallen, IsLeastNow, IsMatchNow, total}

module _ (p : Problem) (g bound : ℕ) (o : Search) (b : IsBetweenRounds p g bound o) (place n : ℕ) (m : IsMatchNow p g o place n) (less : n < m.instance.number) where
  abbrev noted : NotedInstance
  noted = noted_as o.store m.owner m.instance

  its_instance : Contains b.holds.instances.instances noted
  its_instance =
      is_noted p g bound o.store o.store o.blocks.opened o.owners o.instances.made o.instances.taken.taken o.ages o.ages o.journal.lines b.holds.instances place m.instance m.owner n m.at m.there less

  module _ (ls : List Lit) (says : ls ≡ brought p g noted) where
    brings : (x : Setting) → IsToldIn p g o.store o.blocks.opened x → (l : Lit) → Contains ls l → IsBroughtBy x o.journal.lines noted l
    brings x told l c =
        let d : Contains (brought x.problem x.goal noted) l =
        subst (λ (z : Problem). Contains (brought z x.goal noted) l) (sym told.problem) (subst (λ (z : ℕ). Contains (brought p z noted) l) (sym told.goal) (subst (λ (zs : List Lit). Contains zs l) says c)) in
        ((b.holds.instances.recorded x told).each noted its_instance l d).line_of

    -- ---- what bringing asks for
    pub literals_sorted : clause_ok p.signature ls ≡ true
    literals_sorted =
        let s = some_told p g o.blocks.next o.store o.blocks.opened b.holds.constants.apart in
        subst (λ (z : Problem). clause_ok z.signature ls ≡ true) s.1.problem (said_sorted s.0 o.journal.lines noted ls (brings s.0 s.1))

    literals_named : (t : Term) → Contains (clause_terms ls) t → Contains (terms_in o.store) t
    literals_named =
        let s = some_told p g o.blocks.next o.store o.blocks.opened b.holds.constants.apart in
        said_named s.0 o.journal.lines noted ls (brings s.0 s.1) o.store o.solver.propagation.clauses b.searching.alive.named (b.searching.lawful s.0 s.1).given

    -- ---- after it
    module _ (t : Stored) (fs : List Aged) (again : AreBrought o.blocks.opened (n + 1) o.store o.ages t fs ls) (store : IsStore t.signature t.nodes) (hold : AlikeNamesAreEqualInSearches) (i : IsOpenSearch o) where
      same : terms_in t ≡ terms_in o.store
      same = no_new_names o.store t (clause_terms ls) b.holds.store store again.named literals_named

      extends : Extends o.store t
      extends = record { signature = again.named.signature; keeps = again.named.keeps }

      narrow : (x : Setting) → IsToldIn p g t o.blocks.opened x → IsToldIn p g o.store o.blocks.opened x
      narrow x told = told_before p g o.store t o.blocks.opened o.blocks.opened x extends (λ e c. c) told

      within : n < bound
      within =
          let s = some_told p g o.blocks.next o.store o.blocks.opened b.holds.constants.apart in
          let a = (b.holds.instances.recorded s.0 s.1).within noted its_instance in
          omega (arith, a, less)

      holds_now : (x : Setting) → IsToldIn p g o.store o.blocks.opened x → HoldNow x o.store (alike o.solver.theory.values) o.journal.lines
      holds_now x told =
          hold p g bound (last_level o.solver.propagation.trail) o.store o.store o.blocks.opened o.solver o.lines.items o.journal.lines
          (record { store = b.holds.store; fits = b.searching.alive.fits_store; all = i.complete.1 }) (record { signature = refl; keeps = λ k u e. e }) b.searching x told

      matched : (x : Setting) → IsToldIn p g o.store o.blocks.opened x → IsMatchAt x o.journal.lines (HasGeneration x o.journal.lines n) (owner_of m.owner) m.instance.subst.sorts noted.terms
      matched x told =
          let f : IsFoundAt x.problem x.goal o.store (alike o.solver.theory.values) n (owner_of m.owner) m.instance.subst.sorts noted.terms =
          subst (λ (z : Problem). IsFoundAt z x.goal o.store (alike o.solver.theory.values) n (owner_of m.owner) m.instance.subst.sorts noted.terms) (sym told.problem)
          (subst (λ (z : ℕ). IsFoundAt p z o.store (alike o.solver.theory.values) n (owner_of m.owner) m.instance.subst.sorts noted.terms) (sym told.goal) m.found) in
          found_ones_match x bound o.store (alike o.solver.theory.values) o.journal.lines n (owner_of m.owner) m.instance.subst.sorts noted.terms (b.holds.instances.justified x told).0 (holds_now x told) within f

      abbrev lowered : List Instance
      lowered = slice_set o.instances.made place (record m.instance { number = n })

      after : IsBetweenRounds p g bound (record o { store = t; ages = fs; instances = record o.instances { made = lowered } })
      after =
          names_stay p g bound o b t again.named.signature same store fs lowered
          (lowered_instances p g bound o.store t o.blocks.opened o.owners o.instances.made o.instances.taken.taken o.ages fs o.journal.lines b.holds.instances place m.instance m.owner n m.at m.there less ls says
          (subst (λ (k : ℕ). AreBrought o.blocks.opened k o.store o.ages t fs ls) (let e : n + 1 ≡ suc n = omega arith in e) again) b.searching.signature matched narrow)

      pub falls : total lowered < total o.instances.made
      falls = total_less o.instances.made place m.instance n m.at less

      pub fallen : HasFallen p g bound o (record o { store = t; ages = fs; instances = record o.instances { made = lowered } })
      fallen = record {
        between = after;
        is_open = open_stays p g bound o b t again.named.signature same store fs lowered i;
        owners = refl;
        taken = refl;
        many = length-set o.instances.made place (record m.instance { number = n });
        total = (let l = falls in omega (arith, l));
      }

-- the terms of the `fresh` clauses of the blocks that are opened have names
pub blocks_named : (p : Problem) (g bound : ℕ) (o : Search) → IsBetweenRounds p g bound o → (e : Opened) (c : Clause) (t : Term) → Contains o.blocks.opened e
    → fresh_clause e.formula e.first (out-Formula e.formula) ≡ Some c → Contains (clause_terms c) t → Contains (terms_in o.store) t
blocks_named p g bound o b e c t i f h =
    let a = b.holds.constants.added e i in
    fresh_named o.store o.solver.propagation.clauses e c a.0 t b.searching.alive.named a.1 a.2 f h

-- ---- numbers that have fallen
pub fallen_itself : (p : Problem) (g bound : ℕ) (o : Search) → IsBetweenRounds p g bound o → IsOpenSearch o → HasFallen p g bound o o
fallen_itself p g bound o b i = record { between = b; is_open = i; owners = refl; taken = refl; many = refl; total = omega arith }

pub fallen_further : (p : Problem) (g bound : ℕ) (o a e : Search) → HasFallen p g bound o a → HasFallen p g bound a e → HasFallen p g bound o e
fallen_further p g bound o a e x y = record {
  between = y.between;
  is_open = y.is_open;
  owners = y.owners ∙ x.owners;
  taken = y.taken ∙ x.taken;
  many = y.many ∙ x.many;
  total = (let k = x.total in let l = y.total in omega (arith, k, l));
}

-- nothing else has changed, step after step
pub rest_itself : (o : Search) → o ≡ record o { store = o.store; ages = o.ages; instances = o.instances }
rest_itself o = refl

pub rest_further : (o a e : Search) → a ≡ record o { store = a.store; ages = a.ages; instances = a.instances } → e ≡ record a { store = e.store; ages = e.ages; instances = e.instances }
    → e ≡ record o { store = e.store; ages = e.ages; instances = e.instances }
rest_further o a e x y = y ∙ ap (λ (z : Search). record z { store = e.store; ages = e.ages; instances = e.instances }) x

-- ---- one pass over the instances
up_to : (n : ℕ) (P : ℕ → Type 0) → ((k : ℕ) → k < n → P k) → P n → (k : ℕ) → k < n + 1 → P k
up_to n P f h k l =
    elim (cases_lt k n) as (λ _. P k) [ inl a ↦ f k a | inr a ↦ subst P (let e : n ≡ k = omega (arith, a, l) in e) h ]

still_less : (old now new : ℕ) (fell falls both : Bool) → now ≤ old → new ≤ now → (fell ≡ true → now < old) → (falls ≡ true → new < now) → both ≡ fell || falls → both ≡ true → new < old
still_less old now new true falls both a b f h is t = let k = f refl in omega (arith, b, k)
still_less old now new false true both a b f h is t = let k = h refl in omega (arith, a, k)
still_less old now new false false both a b f h is t = false_true (sym is ∙ t)

neither : (fell now both : Bool) → both ≡ fell || now → both ≡ false → (fell ≡ false) × (now ≡ false)
neither true now both is n = true_false (sym is ∙ n)
neither false true both is n = true_false (sym is ∙ n)
neither false false both is n = (refl, refl)

module _ (p : Problem) (g bound : ℕ) (o a e : Search) (fell falls both : Bool) (place : ℕ) (x : HasFallen p g bound o a) (y : HasFallen p g bound a e) (is : both ≡ fell || falls) where
  pub pass_less : (fell ≡ true → total a.instances.made < total o.instances.made) → (falls ≡ true → total e.instances.made < total a.instances.made)
      → both ≡ true → total e.instances.made < total o.instances.made
  pass_less f h t = still_less (total o.instances.made) (total a.instances.made) (total e.instances.made) fell falls both x.total y.total f h is t

  pub pass_least : (falls ≡ false → e ≡ a) → (fell ≡ false → (k : ℕ) → k < place → IsLeastNow p g a k) → (falls ≡ false → IsLeastNow p g a place)
      → both ≡ false → (k : ℕ) → k < place + 1 → IsLeastNow p g e k
  pass_least same f h n k l =
      let both_not = neither fell falls both is n in
      subst (λ (z : Search). IsLeastNow p g z k) (sym (same both_not.1))
      (up_to place (λ j. IsLeastNow p g a j) (f both_not.0) (h both_not.1) k l)

abbrev its_truth : {E : Type 0} → Result Bool E → Bool
its_truth (Ok b) = b
its_truth (Err e) = true

pub same_truth : {E : Type 0} (a b : Bool) → ◌≡◌ {A = Result Bool E} (Ok a) (Ok b) → a ≡ b
same_truth a b e = ap its_truth e
