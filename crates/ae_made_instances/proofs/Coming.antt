-- What noting a line comes to, whether it was there or not.
use Rattle.std.specs.Prelude.{ℕ, suc, ◌+◌, ◌<◌, ◌≡◌, Bool, true, false, if◌then◌else◌, Result, Err, List, [], ◌∷◌, ◌++◌, length, Some}
use Rattle.std.specs.List.{Contains}
use Rattle.std.specs.declared.alloc.AllocError.{AllocError}
use Rattle.std.proofs.Common.{refl, sym, ap, ◌∙◌, subst, arith, inl, inr, append-nil, length-append, true≢false}
use Rattle.ae_ages.specs.declared.entries.Aged.{Aged}
use Rattle.ae_between_rounds.proofs.Growing.{some_told}
use Rattle.ae_between_rounds.specs.Between.{IsSearchingBelow, IsStopped}
use Rattle.ae_between_rounds.specs.declared.search.Search.{Search}
use Rattle.ae_block_constants.specs.declared.opened.Opened.{Opened}
use Rattle.ae_brought_clauses.specs.Brought.{AreBrought}
use Rattle.ae_between_rounds.specs.Rewriting.{IsMarkOf}
use Rattle.ae_between_rounds.specs.Rewriting.{Mark}
use Rattle.ae_core.specs.declared.formulas.Formula.{out-Formula}
use Rattle.ae_core.specs.declared.formulas.Lit.{Lit}
use Rattle.ae_core.specs.declared.problems.Problem.{Problem}
use Rattle.ae_core.specs.declared.proofs.ClauseLine.{ClauseLine}
use Rattle.ae_core.specs.declared.terms.Term.{Term}
use Rattle.ae_goal_names.specs.Named.{clause_terms}
use Rattle.ae_instance_lines.specs.declared.lines.InstanceLine.{InstanceLine}
use Rattle.ae_journal.proofs.Counting.{counted-append}
use Rattle.ae_journal.specs.InstanceLines.{MayInstantiate}
use Rattle.ae_journal.specs.Journals.{IsBack, counted_in, is_counted}
use Rattle.ae_journal.specs.Legal.{IsLegalLine}
use Rattle.ae_journal.specs.Noted.{Noted}
use Rattle.ae_journal.specs.Standing.{Setting, IsBrought}
use Rattle.ae_journal.specs.Standing.IsBrought.{by_term_instance, by_type_instance}
use Rattle.ae_journal.specs.Standing.IsFormula.{of_clause}
use Rattle.ae_journal.specs.States.{outside}
use Rattle.ae_journal.specs.declared.journal.JournalFail.{JournalFail}
use Rattle.ae_journal.specs.declared.journal.JournalFail.TheVariants as fail
use Rattle.ae_journal.specs.declared.lines.Line.{Line}
use Rattle.ae_journal.specs.declared.lines.Line.TheVariants as line
use Rattle.ae_kept_blocks.proofs.Members.{from_flat}
use Rattle.ae_later_lines.proofs.Names.{no_new_names}
use Rattle.ae_made_instances.proofs.Besides.{beside_come, beside_said, extends}
use Rattle.ae_made_instances.specs.Inner.Beside.{IsBeside}
use Rattle.ae_made_instances.specs.Inner.Noting.{Comes, IsNoted, IsReadyLine, Says}
use Rattle.ae_made_instances.specs.Inner.Noting.Came.{nothing, some}
use Rattle.ae_next_clauses.proofs.Coming.{instance_comes}
use Rattle.ae_next_clauses.proofs.Naming.{terms_grow}
use Rattle.ae_rules.proofs.SortedLines.{stated_sorted}
use Rattle.ae_rules.specs.Clauses.{Clause}
use Rattle.ae_rules.specs.Derivations.{clause_ok, conclusion}
use Rattle.ae_rules.specs.Instances.{fresh_clause}
use Rattle.ae_sat.specs.Standing.{IsOneOf}
use Rattle.ae_sat.specs.declared.solver.Solver.{Solver}
use Rattle.ae_opening.specs.declared.opening.OpenedBlocks.{OpenedBlocks}
use Rattle.ae_searching.proofs.Combinations.{instance_is_none}
use Rattle.ae_searching.proofs.Searching.{searching_named, so_far}
use Rattle.ae_searching.proofs.Settings.{for_setting, told_before}
use Rattle.ae_searching.specs.Searching.{IsSearching}
use Rattle.ae_searching.specs.Steps.{Grows, IsInstanceLine, IsStatedBy, MayBring}
use Rattle.ae_state.proofs.Standing.{larger_fit}
use Rattle.ae_state.specs.Fitting.{FitsStore}
use Rattle.ae_state.specs.Names.{assumed_in}
use Rattle.ae_state.specs.Stepping.{IsInStep}
use Rattle.ae_state.specs.declared.holding.Holding.{Holding}
use Rattle.ae_store.specs.Stores.{Stored}
use Rattle.ae_theory.specs.Names.{terms_in}
use Rattle.std.proofs.lemmas.Option.{same_Some}

-- ---- lines of instances
pub stated_instance : (j : Line) (k : ClauseLine) → IsStatedBy j k → IsInstanceLine j
stated_instance (line.TypeInstance a ss) k h = tt
stated_instance (line.TermInstance f ts) k h = tt
stated_instance (line.Learn c) k h = h
stated_instance (line.Decide l) k h = h
stated_instance (line.Orient o) k h = h
stated_instance (line.Drop o) k h = h
stated_instance (line.Pair u a b) k h = h
stated_instance (line.Combine b f) k h = h
stated_instance (line.Back n) k h = h

-- such a line is counted, so where there is room it is noted
counted_instance : (j : Line) → IsInstanceLine j → is_counted j ≡ true
counted_instance (line.TypeInstance a ss) h = refl
counted_instance (line.TermInstance f ts) h = refl
counted_instance (line.Learn c) h = absurd h
counted_instance (line.Decide l) h = absurd h
counted_instance (line.Orient o) h = absurd h
counted_instance (line.Drop o) h = absurd h
counted_instance (line.Pair u a b) h = absurd h
counted_instance (line.Combine b f) h = absurd h
counted_instance (line.Back n) h = absurd h

one_counted : (j : Line) → IsInstanceLine j → counted_in (j ∷ []) ≡ 1
one_counted j h = ap (λ (b : Bool). (if b then 1 else 0) + 0) (counted_instance j h)

pub never_refused : {A : Type 0} (journal : Noted) (j : Line) (r : Result A JournalFail) (e : JournalFail) → IsInstanceLine j → counted_in journal.lines < journal.limit
    → (r ≡ Err fail.Full → (is_counted j ≡ true) × (counted_in journal.lines ≡ journal.limit)) → ((f : AllocError) → r ≡ Err (fail.Memory f) → is_counted j ≡ false) → r ≡ Err e → ⊥
never_refused journal j r fail.Full h room full memory q = let e = (full q).1 in omega (arith, room, e)
never_refused journal j r (fail.Memory f) h room full memory q = true≢false (sym (counted_instance j h) ∙ memory f q)

pub legal_instance : (x : Setting) (bound : ℕ) (js : List Line) (j : Line) (k : ClauseLine) → IsStatedBy j k → MayInstantiate x bound js j → IsLegalLine x bound js j
legal_instance x bound js (line.TypeInstance a ss) k h m = m
legal_instance x bound js (line.TermInstance f ts) k h m = m
legal_instance x bound js (line.Learn c) k h m = absurd h
legal_instance x bound js (line.Decide l) k h m = absurd h
legal_instance x bound js (line.Orient o) k h m = absurd h
legal_instance x bound js (line.Drop o) k h m = absurd h
legal_instance x bound js (line.Pair u a b) k h m = absurd h
legal_instance x bound js (line.Combine b f) k h m = absurd h
legal_instance x bound js (line.Back n) k h m = absurd h

pub not_back : (j : Line) (k : ClauseLine) → IsStatedBy j k → ¬ IsBack j
not_back (line.Back n) k h b = h
not_back (line.TypeInstance a ss) k h b = b
not_back (line.TermInstance f ts) k h b = b
not_back (line.Learn c) k h b = b
not_back (line.Decide l) k h b = b
not_back (line.Orient o) k h b = b
not_back (line.Drop o) k h b = b
not_back (line.Pair u a c) k h b = b
not_back (line.Combine c f) k h b = b

-- the clause of a line that is there is brought
pub brought_there : (x : Setting) (js : List Line) (j : Line) (k : ClauseLine) (c : Clause) → IsStatedBy j k → conclusion x.problem x.goal k ≡ Some c → Contains js j → IsBrought x js c
brought_there x js (line.TypeInstance a ss) k c h e i = by_type_instance a ss c i (ap (conclusion x.problem x.goal) (sym h) ∙ e)
brought_there x js (line.TermInstance f ts) k c h e i = by_term_instance f ts c i (ap (conclusion x.problem x.goal) (sym h) ∙ e)
brought_there x js (line.Learn d) k c h e i = absurd h
brought_there x js (line.Decide l) k c h e i = absurd h
brought_there x js (line.Orient o) k c h e i = absurd h
brought_there x js (line.Drop o) k c h e i = absurd h
brought_there x js (line.Pair u a b) k c h e i = absurd h
brought_there x js (line.Combine b f) k c h e i = absurd h
brought_there x js (line.Back n) k c h e i = absurd h

-- a search is lawful wherever it stops
pub stopped_here : (p : Problem) (g bound level : ℕ) (o : Search) → IsSearchingBelow p g bound level o → IsBeside p g o → IsStopped p g bound o
stopped_here p g bound level o s h = record {
  lawful = so_far FitsStore assumed_in IsMarkOf IsInStep p g bound o.store o.blocks.opened level o.solver o.lines.items o.journal.lines s;
  apart = h.constants.apart;
  signature = sym s.signature;
  store = h.store;
}

module _ (p : Problem) (g bound level : ℕ) (o : Search) (s : IsSearchingBelow p g bound level o) (h : IsBeside p g o) where
  -- the terms of a clause that is there have names
  clause_named : (c : Clause) (t : Term) → IsOneOf o.solver.propagation.clauses c → Contains (clause_terms c) t → Contains (terms_in o.store) t
  clause_named c t i k = let m = from_flat (λ (m : Lit). outside m.formula) c t k in s.alive.named c m.0 i m.1 t m.2

  pub blocks_named : (e : Opened) (c : Clause) (t : Term) → Contains o.blocks.opened e → fresh_clause e.formula e.first (out-Formula e.formula) ≡ Some c → Contains (clause_terms c) t → Contains (terms_in o.store) t
  blocks_named e c t i q k =
      let a = h.constants.added e i in
      clause_named c t (subst (IsOneOf o.solver.propagation.clauses) (same_Some a.0 c (sym a.1 ∙ q)) a.2) k

  module _ (l : InstanceLine) (r : IsReadyLine p g bound o l) where
    pub sorted : clause_ok p.signature l.clause ≡ true
    sorted = stated_sorted p g l.statement l.clause r.concludes

    -- ---- a line that is there
    module _ (there : Contains o.journal.lines l.own) where
      is_one : IsOneOf o.solver.propagation.clauses l.clause
      is_one =
          let x = some_told p g o.blocks.next o.store o.blocks.opened h.constants.apart in
          let e : conclusion x.0.problem x.0.goal l.statement ≡ Some l.clause = for_setting (λ q k. conclusion q k l.statement ≡ Some l.clause) p g o.store o.blocks.opened x.0 x.1 r.concludes in
          (s.lawful x.0 x.1).given l.clause (inl (brought_there x.0 o.journal.lines l.own l.statement l.clause r.stated_by e there))

      module _ (n : ℕ) (o2 : Search) (w : Says (suc n) l.clause o o2) where
        solver_same : o2.solver.propagation.clauses ≡ o.solver.propagation.clauses
        solver_same = ap (λ (z : Solver Holding Mark). z.propagation.clauses) w.solver

        pub grown_again : Grows p g o.store o2.store o.blocks.opened o.blocks.opened o.journal.lines
        grown_again =
            terms_grow p g o.store o2.store o.blocks.opened o.blocks.opened o.journal.lines l.clause s.signature w.brought.named (λ e i. i)
            (λ x told m i. of_clause o.journal.lines l.clause m
            (brought_there x o.journal.lines l.own l.statement l.clause r.stated_by (for_setting (λ q k. conclusion q k l.statement ≡ Some l.clause) p g o2.store o.blocks.opened x told r.concludes) there) i)

        pub searching_again : IsSearchingBelow p g bound level o2
        searching_again =
            moved (searching_named FitsStore assumed_in IsMarkOf IsInStep p g bound o.store o2.store o.blocks.opened o.blocks.opened level o.solver o.lines.items o.journal.lines
            (λ f. larger_fit o.solver.theory o.store o2.store (extends p g o o2 h (suc n) bound l r w.brought) f) grown_again s)
          where
            moved : IsSearching FitsStore assumed_in IsMarkOf IsInStep p g bound o2.store o.blocks.opened level o.solver o.lines.items o.journal.lines → IsSearchingBelow p g bound level o2
            moved y =
                subst (λ (z : OpenedBlocks). IsSearching FitsStore assumed_in IsMarkOf IsInStep p g bound o2.store z.opened level o2.solver o2.lines.items o2.journal.lines) (sym w.blocks)
                (subst (λ (z : Solver Holding Mark). IsSearching FitsStore assumed_in IsMarkOf IsInStep p g bound o2.store o.blocks.opened level z o2.lines.items o2.journal.lines) (sym w.solver)
                (subst (λ (z : List ClauseLine). IsSearching FitsStore assumed_in IsMarkOf IsInStep p g bound o2.store o.blocks.opened level o.solver z o2.journal.lines) (sym w.items)
                (subst (λ (z : Noted). IsSearching FitsStore assumed_in IsMarkOf IsInStep p g bound o2.store o.blocks.opened level o.solver o.lines.items z.lines) (sym w.journal) y)))

        pub noted_again : IsNoted p g n l o o2
        noted_again = record {
          beside = beside_said p g o o2 h (suc n) bound l r w.brought w.store w.items solver_same w.blocks w.known w.looked;
          goes_on = record {
            extends = extends p g o o2 h (suc n) bound l r w.brought;
            trail = ap (λ (z : Solver Holding Mark). z.propagation.trail) w.solver;
            theory = ap (λ (z : Solver Holding Mark). z.theory) w.solver;
            blocks = w.blocks;
            owners = w.owners;
            limit = ap (λ (z : Noted). z.limit) w.journal;
            added = [];
            is = ap (λ (z : Noted). z.lines) w.journal ∙ sym (append-nil o.journal.lines);
            forth = tt;
            plain = tt;
          };
          came = nothing w.solver w.journal w.lines w.items
              (no_new_names o.store o2.store (clause_terms l.clause) h.store w.store w.brought.named (λ t k. clause_named l.clause t is_one k));
          noted = inl (there, ap (λ (z : Noted). z.lines) w.journal);
          brought = w.brought;
          looked = w.looked;
          instances = w.instances;
        }

    -- ---- a line that is new
    pub may_bring : (n : ℕ) (s2 : Stored) (fs : List Aged) → AreBrought o.blocks.opened n o.store o.ages s2 fs l.clause → ¬ Contains o.journal.lines l.own
        → MayBring p g bound o.store s2 o.blocks.opened o.journal.lines l.own l.statement l.clause
    may_bring n s2 fs b new =
        instance_comes p g bound o.store s2 o.blocks.opened o.journal.lines l.own l.statement l.clause s.signature b.named r.stated_by r.concludes
        (λ x told. legal_instance x bound o.journal.lines l.own l.statement r.stated_by
        (r.legal x (told_before p g o.store s2 o.blocks.opened o.blocks.opened x (record { signature = b.named.signature; keeps = b.named.keeps }) (λ e i. i) told) new))

    pub noted_come : (n : ℕ) (o2 : Search) → Comes (suc n) l o o2 → IsNoted p g n l o o2
    noted_come n o2 w = record {
      beside = beside_come p g o o2 h (suc n) bound l r w.brought w.store w.lines w.clauses w.blocks w.known w.looked;
      goes_on = record {
        extends = extends p g o o2 h (suc n) bound l r w.brought;
        trail = w.trail;
        theory = w.theory;
        blocks = w.blocks;
        owners = w.owners;
        limit = ap (λ (z : Noted). z.limit) w.journal;
        added = l.own ∷ [];
        is = ap (λ (z : Noted). z.lines) w.journal;
        forth = (not_back l.own l.statement r.stated_by, tt);
        plain = (instance_is_none l.own (stated_instance l.own l.statement r.stated_by), tt);
      };
      came = some w.news (omega (arith, ap (λ (z : Noted). length z.lines) w.journal, length-append o.journal.lines (l.own ∷ [])))
          (let e : length o2.lines.items ≡ length (o.lines.items ++ l.statement ∷ []) = ap (λ (z : List ClauseLine). length z) w.lines in omega (arith, e, length-append o.lines.items (l.statement ∷ [])))
          (omega (arith, ap (λ (z : Noted). counted_in z.lines) w.journal, counted-append o.journal.lines (l.own ∷ []), one_counted l.own (stated_instance l.own l.statement r.stated_by)));
      noted = inr (ap (λ (z : Noted). z.lines) w.journal);
      brought = w.brought;
      looked = w.looked;
      instances = w.instances;
    }
