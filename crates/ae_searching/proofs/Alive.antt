-- The conditions of a search are kept by more terms, by lines that are noted, and by going back.
use Rattle.std.proofs.Common.{◌≡◌, Bool, true, ℕ, ◌≤◌, List, [], ◌∷◌, ◌++◌, length, refl, sym, ◌∙◌, ap, subst, arith, append_assoc, append-nil}
use Rattle.ae_rules.specs.Clauses.{Clause}
use Rattle.ae_core.specs.declared.formulas.Lit.{Lit}
use Rattle.ae_core.specs.declared.proofs.ClauseLine.{ClauseLine}
use Rattle.ae_explain.specs.declared.trail.Assigned.{Assigned}
use Rattle.ae_explain.specs.Fronts.{IsFront}
use Rattle.ae_journal.specs.declared.lines.Line.{Line}
use Rattle.ae_journal.specs.declared.lines.Line.TheVariants as line
use Rattle.ae_journal.specs.Journals.{after_line, decisions, live, OnlyCombines}
use Rattle.ae_journal.proofs.Living.{live_push, decisions-append}
use Rattle.ae_num.specs.declared.forms.Lin.{Lin}
use Rattle.ae_store.specs.Stores.{Stored}
use Rattle.ae_theory.specs.Names.{Extends, terms_in}
use Rattle.ae_theory.specs.Noting.{is_silent}
use Rattle.ae_theory.specs.Tagged.{Tagged}
use Rattle.ae_sat.specs.Marked.{IsRunning}
use Rattle.ae_sat.specs.Search.{AllNamed, IsAlive}
use Rattle.ae_sat.specs.Standing.{HasRows}
use Rattle.ae_sat.proofs.Decisions.{before_more}
use Rattle.ae_sat.proofs.Propagating.{rows_front}
use Rattle.ae_sat.proofs.Running.{all_lits}
use Rattle.ae_searching.proofs.Settings.{contains_kept}
use Rattle.ae_searching.specs.Steps.{IsStatedBy}

-- a line that undoes nothing and decides nothing
pub record IsPlain (j : Line) : Type 0 where
  pub stays : (kept : List Line) → after_line kept j ≡ kept ++ j ∷ []
  pub none_decided : decisions (j ∷ []) ≡ []

module _ {T M : Type 0} (fits : T → Stored → Type 0) (assumed : T → List Tagged) (fits_mark : T → M → T → Type 0) (in_step : T → List Line → Type 0) where
  -- ---- a store with more terms
  pub named_alive : (old new : Stored) (theory : T) (marks : List M) (t : List Assigned) (u : List Clause) (told n : ℕ) (js : List Line) → Extends old new → (fits theory old → fits theory new)
      → IsAlive fits assumed fits_mark in_step old theory marks t u told n js → IsAlive fits assumed fits_mark in_step new theory marks t u told n js
  named_alive old new theory marks t u told n js e more a = record {
    running = a.running;
    fits_store = more a.fits_store;
    named = λ c l o h m i. contains_kept (terms_in old) (terms_in new) m e.keeps (a.named c l o h m i);
    told_within = a.told_within;
    expanded_within = a.expanded_within;
    has_rows = a.has_rows;
  }

  -- ---- a line that is noted
  noted_runs : (theory : T) (marks : List M) (t : List Assigned) (u : List Clause) (told : ℕ) (lines : List Line) (j : Line) → IsPlain j → in_step theory (live lines ++ j ∷ [])
      → IsRunning assumed fits_mark in_step theory marks t u told (live lines) → IsRunning assumed fits_mark in_step theory marks t u told (live (lines ++ j ∷ []))
  noted_runs theory marks t u told lines j plain step r =
      let q : live (lines ++ j ∷ []) ≡ live lines ++ j ∷ [] = live_push lines j ∙ plain.stays (live lines) in
      let stood : length (decisions (live lines)) ≡ length marks = ap length r.decided ∙ (all_lits t u r.lawful ∙ sym r.count) in
      subst (λ (w : List Line). IsRunning assumed fits_mark in_step theory marks t u told w) (sym q) (record {
        lawful = r.lawful;
        count = r.count;
        marked = λ k d h.
            let old = r.marked k d h in
            record {
              then = old.then;
              fits = old.fits;
              place = old.place;
              within = old.within;
              decision = old.decision;
              level = old.level;
              assumed_then = old.assumed_then;
              step = subst (in_step old.then) (sym (before_more k (live lines) (j ∷ []) (omega (arith, h, stood)))) old.step;
            };
        step = step;
        decided = decisions-append (live lines) (j ∷ []) ∙ (ap (λ (w : List Lit). decisions (live lines) ++ w) plain.none_decided ∙ (append-nil (decisions (live lines)) ∙ r.decided));
        told_all = r.told_all;
        stands = r.stands;
      })

  pub noted_alive : (s : Stored) (theory : T) (marks : List M) (t : List Assigned) (u : List Clause) (told n : ℕ) (js : List Line) (j : Line) → IsPlain j
      → ((ls : List Line) → in_step theory ls → in_step theory (ls ++ j ∷ []))
      → IsAlive fits assumed fits_mark in_step s theory marks t u told n js → IsAlive fits assumed fits_mark in_step s theory marks t u told n (js ++ j ∷ [])
  noted_alive s theory marks t u told n js j plain silent a = record {
    running = noted_runs theory marks t u told js j plain (silent (live js) a.running.step) a.running;
    fits_store = a.fits_store;
    named = a.named;
    told_within = a.told_within;
    expanded_within = a.expanded_within;
    has_rows = a.has_rows;
  }

  pub combined_alive : (s : Stored) (theory : T) (marks : List M) (t : List Assigned) (u : List Clause) (told n : ℕ) (js ls : List Line)
      → ((b : Bool) (f : Lin) (ks : List Line) → in_step theory ks → in_step theory (ks ++ line.Combine b f ∷ [])) → OnlyCombines ls
      → IsAlive fits assumed fits_mark in_step s theory marks t u told n js → IsAlive fits assumed fits_mark in_step s theory marks t u told n (js ++ ls)
  combined_alive s theory marks t u told n js [] silent o a = subst (IsAlive fits assumed fits_mark in_step s theory marks t u told n) (sym (append-nil js)) a
  combined_alive s theory marks t u told n js (line.Combine b f ∷ ls) silent o a =
      subst (IsAlive fits assumed fits_mark in_step s theory marks t u told n) (append_assoc js (line.Combine b f ∷ []) ls)
      (combined_alive s theory marks t u told n (js ++ line.Combine b f ∷ []) ls silent o
      (noted_alive s theory marks t u told n js (line.Combine b f) (record { stays = λ kept. refl; none_decided = refl }) (silent b f) a))
  combined_alive s theory marks t u told n js (line.Learn c ∷ ls) silent o a = absurd o
  combined_alive s theory marks t u told n js (line.TypeInstance k ss ∷ ls) silent o a = absurd o
  combined_alive s theory marks t u told n js (line.TermInstance f ts ∷ ls) silent o a = absurd o
  combined_alive s theory marks t u told n js (line.Orient q ∷ ls) silent o a = absurd o
  combined_alive s theory marks t u told n js (line.Drop q ∷ ls) silent o a = absurd o
  combined_alive s theory marks t u told n js (line.Pair v l m ∷ ls) silent o a = absurd o
  combined_alive s theory marks t u told n js (line.Decide l ∷ ls) silent o a = absurd o
  combined_alive s theory marks t u told n js (line.Back k ∷ ls) silent o a = absurd o

  -- ---- going back
  pub returned_alive : (s : Stored) (theory theory2 : T) (marks marks2 : List M) (t t2 : List Assigned) (u u2 : List Clause) (told told2 n n2 : ℕ) (js js2 : List Line) (level : ℕ)
      → IsRunning assumed fits_mark in_step theory2 marks2 t2 u2 told2 (live js2) → (fits theory s → fits theory2 s) → told2 ≤ length t2 → n2 ≤ n → n2 ≤ length t2 → IsFront t level t2 → u2 ≡ u
      → IsAlive fits assumed fits_mark in_step s theory marks t u told n js → IsAlive fits assumed fits_mark in_step s theory2 marks2 t2 u2 told2 n2 js2
  returned_alive s theory theory2 marks marks2 t t2 u u2 told told2 n n2 js js2 level r f told_in small inside front eu a = record {
    running = r;
    fits_store = f a.fits_store;
    named = subst (AllNamed s) (sym eu) a.named;
    told_within = told_in;
    expanded_within = inside;
    has_rows = subst (λ (w : List Clause). HasRows t2 n2 w) (sym eu) (rows_front t u level t2 n n2 a.running.lawful front small a.has_rows);
  }

-- ---- instance lines
pub instance_plain : (j : Line) (l : ClauseLine) → IsStatedBy j l → IsPlain j
instance_plain (line.TypeInstance k ss) l h = record { stays = λ kept. refl; none_decided = refl }
instance_plain (line.TermInstance f ts) l h = record { stays = λ kept. refl; none_decided = refl }
instance_plain (line.Learn d) l h = absurd h
instance_plain (line.Decide m) l h = absurd h
instance_plain (line.Orient o) l h = absurd h
instance_plain (line.Drop o) l h = absurd h
instance_plain (line.Pair u a b) l h = absurd h
instance_plain (line.Combine b f) l h = absurd h
instance_plain (line.Back n) l h = absurd h

pub instance_silent : (j : Line) (l : ClauseLine) → IsStatedBy j l → is_silent j ≡ true
instance_silent (line.TypeInstance k ss) l h = refl
instance_silent (line.TermInstance f ts) l h = refl
instance_silent (line.Learn d) l h = absurd h
instance_silent (line.Decide m) l h = absurd h
instance_silent (line.Orient o) l h = absurd h
instance_silent (line.Drop o) l h = absurd h
instance_silent (line.Pair u a b) l h = absurd h
instance_silent (line.Combine b f) l h = absurd h
instance_silent (line.Back n) l h = absurd h
