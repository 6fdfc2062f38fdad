-- What a search holds, once an instance is made.
use Rattle.std.specs.Prelude.{ℕ, suc, ◌<◌, ◌≡◌, List, [], ◌∷◌, ◌++◌, length, map, slice_get, Some}
use Rattle.std.specs.List.{AllByRecursion, Contains}
use Rattle.std.proofs.Common.{refl, sym, ap, ◌∙◌, subst, arith, inl, inr, append-nil}
use Rattle.std.proofs.lemmas.List.{map_push}
use Rattle.std.proofs.lemmas.List.Elements.{Contains-append_left, Contains-append_right, Contains-push_cases}
use Rattle.ae_ages.specs.Interned.{IsHad}
use Rattle.ae_ages.specs.Laws.{AreAllHad, AreJustifiedAges}
use Rattle.ae_base.proofs.Relations.{pairwise_push, pairwise_weaker}
use Rattle.ae_between_rounds.proofs.Growing.{noted_kept}
use Rattle.ae_between_rounds.specs.Held.{HaveInstances, IsNotedAs, by_owner, noted_as, taken_of}
use Rattle.ae_between_rounds.specs.declared.search.Instance.{Instance}
use Rattle.ae_between_rounds.specs.declared.search.Search.{Search}
use Rattle.ae_block_constants.specs.Blocks.{opened_pairs}
use Rattle.ae_block_constants.specs.declared.opened.Opened.{Opened}
use Rattle.ae_core.specs.declared.formulas.Formula.{Formula}
use Rattle.ae_core.specs.declared.formulas.Lit.{Lit}
use Rattle.ae_core.specs.declared.problems.Problem.{Problem}
use Rattle.ae_core.specs.declared.terms.Sort.{Sort}
use Rattle.ae_core.specs.declared.terms.Term.{Term}
use Rattle.ae_inst.specs.declared.instances.Taken.{Taken}
use Rattle.ae_journal.proofs.Splits.{contains_cases, contains_here, contains_later, cut}
use Rattle.ae_journal.specs.InstanceLines.{HasGeneration, IsInstanceBelow, IsMatchAt}
use Rattle.ae_journal.specs.InstanceLines.FormulaFrom.{of_clause}
use Rattle.ae_journal.specs.Standing.{Setting}
use Rattle.ae_journal.specs.States.{Owner, of_axiom}
use Rattle.ae_journal.specs.declared.lines.Line.{Line}
use Rattle.ae_journal.specs.declared.lines.Line.TheVariants as line
use Rattle.ae_later_lines.proofs.Later.{justified_ages_stay, justified_stay, still_of}
use Rattle.ae_made_instances.specs.Inner.Making.{IsDue, IsInLine, IsMade}
use Rattle.ae_opening.specs.declared.opening.OpenedBlocks.{OpenedBlocks}
use Rattle.ae_owed.proofs.Recording.{matches_are_recorded, records_grow}
use Rattle.ae_owed.specs.Generations.{IsJustified}
use Rattle.ae_owed.specs.Instances.{Instance as NotedInstance, brought}
use Rattle.ae_owed.specs.Recorded.{AreOpenedIn, AreRecorded, IsOfInstance, IsRecorded}
use Rattle.ae_owners.specs.Owners.{owner_of}
use Rattle.ae_owners.specs.declared.owners.Owner.{Owner as OwnerEntry}
use Rattle.ae_rules.specs.Clauses.{yes_of, no_of}
use Rattle.ae_searching.proofs.Settings.{told_before}
use Rattle.ae_searching.specs.Told.{IsToldIn}
use Rattle.ae_store.specs.Shapes.{shapes}
use Rattle.ae_store.specs.Terms.{named, terms}
use Rattle.ae_trigger.specs.declared.patterns.Subst.{Subst}

-- in a setting in which the blocks have their constants, so have their pairs
opened_in : (x : Setting) (os : List Opened) → ((o : Opened) → Contains os o → x.fresh o.formula ≡ o.first) → AreOpenedIn x (opened_pairs os)
opened_in x [] h f m c = absurd (let k = c.1 in omega (arith, k))
opened_in x (o ∷ os) h f m c = elim (contains_cases (o.formula, o.first) (opened_pairs os) (f, m) c) as (λ _. x.fresh f ≡ m) [
  | inl e ↦ subst (λ (w : Formula × ℕ). x.fresh w.0 ≡ w.1) e (h o (contains_here o os))
  | inr r ↦ opened_in x os (λ q i. h q (contains_later o os q i)) f m r
]

-- what the clause of a line of a match at n says has the next generation
generation_of : (x : Setting) (js : List Line) (n : ℕ) (w : Owner) (ss : List Sort) (ts : List Term) → IsMatchAt x js (HasGeneration x js n) w ss ts → (l : Lit) → IsInLine x js w ss ts l → HasGeneration x js (suc n) l.formula
generation_of x js n w ss ts m l i = of_clause i.clause l (inr below) i.has
  where
    below : IsInstanceBelow x (HasGeneration x js n) js i.clause
    below =
        let c = cut js i.own i.noted in
        record {
          before = c.0;
          since = i.own ∷ c.1;
          later = [];
          is = c.2 ∙ sym (append-nil (c.0 ++ i.own ∷ c.1));
          instance_line = i.own;
          rest = c.1 ++ [];
          begins = refl;
          owner = w;
          sorts = ss;
          terms = ts;
          brings = i.instance;
          matched = subst (λ (z : List Line). IsMatchAt x z (HasGeneration x js n) w ss ts) c.2 m;
        }

module _ (p : Problem) (g bound n : ℕ) (lt : n < bound) (o o2 : Search) (owner : OwnerEntry) (k : ℕ) (subst_of : Subst) (at : slice_get o.owners k ≡ Some owner) (within : AllByRecursion (λ v. v < length o.store.nodes) subst_of.terms)
    (d : IsMade p g n (owner_of owner) subst_of.sorts (map (named (terms (shapes o.store.nodes))) subst_of.terms) o o2)
    (due : IsDue p g o2 n (owner_of owner) subst_of.sorts (map (named (terms (shapes o.store.nodes))) subst_of.terms)) (same : p.signature ≡ o.store.signature)
    (made : List Instance) (taken : List Taken) (h : HaveInstances p g bound o.store o.blocks.opened o.owners made taken o.ages o.journal.lines) where
  abbrev inst : Instance
  inst = record { owner = k; subst = subst_of; number = n }

  abbrev new : NotedInstance
  new = noted_as o.store owner inst

  abbrev all : List NotedInstance
  all = h.instances ++ new ∷ []

  abbrev js : List Line
  js = o2.journal.lines

  told_now : (x : Setting) → IsToldIn p g o2.store o.blocks.opened x → IsToldIn p g o2.store o2.blocks.opened x
  told_now x told = subst (λ (z : OpenedBlocks). IsToldIn p g o2.store z.opened x) (sym d.goes_on.blocks) told

  told_earlier : (x : Setting) → IsToldIn p g o2.store o.blocks.opened x → IsToldIn p g o.store o.blocks.opened x
  told_earlier x told = told_before p g o.store o2.store o.blocks.opened o.blocks.opened x d.goes_on.extends (λ e i. i) told

  matched : (x : Setting) → IsToldIn p g o2.store o.blocks.opened x → IsMatchAt x js (HasGeneration x js n) (owner_of owner) subst_of.sorts (map (named (terms (shapes o.store.nodes))) subst_of.terms)
  matched x told = due.matched x (told_now x told)

  -- what holds of the instances that were made and of this one holds of all
  each_made : (P : NotedInstance → Type 0) → ((i : NotedInstance) → Contains h.instances i → P i) → P new → (i : NotedInstance) → Contains all i → P i
  each_made P a b i c = elim (Contains-push_cases h.instances new i c) as (λ _. P i) [ inl r ↦ a i r | inr e ↦ subst P e b ]

  wider : (i : NotedInstance) → Contains h.instances i → Contains all i
  wider i c = Contains-append_left h.instances (new ∷ []) i c

  one_of_all : (i : NotedInstance) → Contains (new ∷ []) i → Contains all i
  one_of_all i c = Contains-append_right h.instances (new ∷ []) i c

  -- a line of an instance is one of these
  of_one : (x : Setting) → IsToldIn p g o2.store o.blocks.opened x → (j : Line) → (Contains o.journal.lines j → IsOfInstance x o.journal.lines h.instances j) → Contains js j → IsOfInstance x js all j
  of_one x told j old c = elim (d.only x told.problem told.goal j c) as (λ _. IsOfInstance x js all j) [
    | inl r ↦ still_of x o.journal.lines js h.instances all wider j (old r)
    | inr e ↦ still_of x js js (new ∷ []) all one_of_all j e
  ]

  recorded : (x : Setting) → IsToldIn p g o2.store o.blocks.opened x → AreRecorded x js bound all
  recorded x told =
      let r = h.recorded x (told_earlier x told) in
      record {
        each = each_made (IsRecorded x js)
            (λ i c. subst (λ (z : List Line). IsRecorded x z i) (sym d.goes_on.is) (records_grow x o.journal.lines d.goes_on.added i (r.each i c)))
            (matches_are_recorded x js new (d.lines x told.problem told.goal) (matched x told));
        within = each_made (λ i. i.number < bound) r.within lt;
        sorts = λ a us c. of_one x told (line.TypeInstance a us) (r.sorts a us) c;
        terms = λ f us c. of_one x told (line.TermInstance f us) (r.terms f us) c;
      }

  typed : (i : NotedInstance) (a : ℕ) → Contains all i → i.owner ≡ of_axiom a → Contains js (line.TypeInstance a i.sorts)
  typed i a c =
      each_made (λ i. i.owner ≡ of_axiom a → Contains js (line.TypeInstance a i.sorts))
      (λ i r e. subst (λ (z : List Line). Contains z (line.TypeInstance a i.sorts)) (sym d.goes_on.is) (Contains-append_left o.journal.lines d.goes_on.added (line.TypeInstance a i.sorts) (h.typed i a r e)))
      (d.typed a) i c

  had : AreAllHad p g (opened_pairs o.blocks.opened) all o2.store o2.ages
  had = record {
    hypotheses = λ a f e. d.are_said.stay 0 (yes_of f).formula (h.had.hypotheses a f e);
    goal = λ f e. d.are_said.stay 0 (no_of f).formula (h.had.goal f e);
    instance_ones = λ i l c.
        each_made (λ i. Contains (brought p g i) l → IsHad o2.store o2.ages (suc i.number) l.formula) (λ i r b. d.are_said.stay (suc i.number) l.formula (h.had.instance_ones i l r b))
        (λ b. d.are_said.had l (d.covers l b)) i c;
    bodies = d.are_said.bodies h.had.bodies;
  }

  justified : (x : Setting) → IsToldIn p g o2.store o.blocks.opened x → IsJustified x bound o2.store js × AreJustifiedAges x bound o2.ages js
  justified x told =
      let j = h.justified x (told_earlier x told) in
      let sig : o.store.signature ≡ x.problem.signature = sym same ∙ ap (λ (q : Problem). q.signature) (sym told.problem) in
      d.are_said.justified x bound js sig (opened_in x o.blocks.opened told.fresh)
      (λ l i lt2. generation_of x js n (owner_of owner) subst_of.sorts (map (named (terms (shapes o.store.nodes))) subst_of.terms) (matched x told) l (d.clauses x told.problem told.goal l i))
      (subst (IsJustified x bound o.store) (sym d.goes_on.is) (justified_stay x bound o.store o.journal.lines d.goes_on.added j.0))
      (subst (AreJustifiedAges x bound o.ages) (sym d.goes_on.is) (justified_ages_stay x bound o.ages o.journal.lines d.goes_on.added j.1))

  pub instances_made : HaveInstances p g bound o2.store o2.blocks.opened o2.owners (made ++ inst ∷ []) (taken ++ taken_of inst ∷ []) o2.ages js
  instances_made =
      subst (λ (z : OpenedBlocks). HaveInstances p g bound o2.store z.opened o2.owners (made ++ inst ∷ []) (taken ++ taken_of inst ∷ []) o2.ages js) (sym d.goes_on.blocks)
      (subst (λ (z : List OwnerEntry). HaveInstances p g bound o2.store o.blocks.opened z (made ++ inst ∷ []) (taken ++ taken_of inst ∷ []) o2.ages js) (sym d.goes_on.owners) (record {
        right = h.right;
        apart = h.apart;
        axioms = h.axioms;
        instances = all;
        are = pairwise_push (IsNotedAs o2.store o.owners) made h.instances inst new
            (pairwise_weaker (IsNotedAs o.store o.owners) (IsNotedAs o2.store o.owners) (λ i m r. noted_kept o.store o2.store o.owners i m d.goes_on.extends r) made h.instances h.are)
            (noted_kept o.store o2.store o.owners inst new d.goes_on.extends (by_owner owner inst at within));
        taken_ones = ap (λ (z : List Taken). z ++ taken_of inst ∷ []) h.taken_ones ∙ sym (map_push taken_of made inst);
        recorded = recorded;
        typed = typed;
        had = had;
        justified = justified;
      }))
