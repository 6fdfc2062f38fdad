-- What opened blocks say, brought where all its terms have names.
use Rattle.std.specs.Prelude.{ℕ, zero, suc, Bool, true, List, [], ◌≡◌, slice_get, Option, Some, None}
use Rattle.std.specs.List.{Contains}
use Rattle.std.proofs.Common.{refl, sym, ap, ◌∙◌, subst, arith, inl, inr}
use Rattle.std.proofs.lemmas.Option.{same_Some, slice_get-get_or}
use Rattle.ae_ages.specs.Ages.{HasAge}
use Rattle.ae_ages.specs.declared.entries.Aged.{Aged}
use Rattle.ae_base.proofs.ListFacts.{get_map, value_at}
use Rattle.ae_base.specs.Options.{only, or_else}
use Rattle.ae_block_constants.specs.Blocks.{opened_pairs}
use Rattle.ae_block_constants.specs.declared.opened.Opened.{Opened}
use Rattle.ae_brought_clauses.specs.Inner.Bringing.{Brings, HaveNames, IsServed, said_by}
use Rattle.ae_core.specs.Sorts.{formula_ok}
use Rattle.ae_core.specs.declared.formulas.Formula.{Formula, out-Formula}
use Rattle.ae_core.specs.declared.formulas.Lit.{Lit}
use Rattle.ae_core.specs.declared.problems.Problem.{Problem}
use Rattle.ae_core.specs.declared.problems.Signature.{Signature}
use Rattle.ae_core.specs.declared.proofs.ClauseLine.TheVariants.{Fresh}
use Rattle.ae_core.specs.declared.terms.Term.{Term, Apply}
use Rattle.ae_goal_names.proofs.Joining.{as_many}
use Rattle.ae_goal_names.specs.Named.{StandsIn, itself, argument, field, clause_terms}
use Rattle.ae_journal.proofs.Splits.{contains_at}
use Rattle.ae_journal.specs.InstanceLines.{HasGeneration}
use Rattle.ae_journal.specs.InstanceLines.FormulaFrom.{of_fresh}
use Rattle.ae_journal.specs.Standing.{Setting}
use Rattle.ae_journal.specs.declared.lines.Line.{Line}
use Rattle.ae_owed.proofs.Young.{argument_young, field_young}
use Rattle.ae_owed.specs.Known.{IsYoung}
use Rattle.ae_rules.proofs.SortedLines.{stated_sorted}
use Rattle.ae_rules.specs.Clauses.{Clause}
use Rattle.ae_rules.specs.Derivations.{clause_ok}
use Rattle.ae_rules.specs.Instances.{fresh_clause}
use Rattle.ae_store.proofs.Gets.{get_unmap}
use Rattle.ae_store.specs.Stores.{Stored, IsStore}
use Rattle.ae_store.specs.Terms.{Keeps}
use Rattle.ae_theory.specs.Names.{terms_in}

place_of : {A : Type 0} (xs : List A) (x : A) → (h : Contains xs x) → slice_get xs h.0 ≡ Some x
place_of xs x h = slice_get-get_or xs h.0 x h.1 ∙ ap Some h.2

-- ---- what stands in names has names
module _ (s : Stored) (store : IsStore s.signature s.nodes) where
  young_of : (t : Term) → Contains (terms_in s) t → (n : ℕ) × IsYoung s n t
  young_of t h =
      let x = value_at s.nodes h.0 (let l = h.1 in omega (arith, l, as_many s)) in
      let node = x.0 in
      (node.generation, record { name = h.0; at = place_of (terms_in s) t h; node = node; there = x.1; young = omega arith })

  name_of : (n : ℕ) (t : Term) → IsYoung s n t → Contains (terms_in s) t
  name_of n t y = contains_at (terms_in s) y.name t y.at

  pub stands_there : (ts : List Term) → ((t : Term) → Contains ts t → Contains (terms_in s) t) → (t : Term) → StandsIn s.signature ts t → Contains (terms_in s) t
  stands_there ts f t (itself h) = f t h
  stands_there ts f t (argument h ss us a i) = let y = young_of (Apply h ss us) (stands_there ts f (Apply h ss us) a) in name_of y.0 t (argument_young s store y.0 h ss us t y.1 i)
  stands_there ts f t (field o ss u a e r i) = let y = young_of u (stands_there ts f u a) in name_of y.0 t (field_young s store y.0 o ss u t y.1 e r i)

-- ---- what a block says
pub said_is : (o : Opened) (l : Lit) → Contains (said_by o) l → (c : Clause) × (fresh_clause o.formula o.first (out-Formula o.formula) ≡ Some c) × Contains c l
said_is o l h = go (fresh_clause o.formula o.first (out-Formula o.formula)) refl h
  where
    go : (w : Option Clause) → fresh_clause o.formula o.first (out-Formula o.formula) ≡ w → Contains (or_else w []) l → (c : Clause) × (fresh_clause o.formula o.first (out-Formula o.formula) ≡ Some c) × Contains c l
    go (Some c) e i = (c, e, i)
    go None e i = absurd (let k = i.1 in omega (arith, k))

pub said_of : (o : Opened) (c : Clause) → fresh_clause o.formula o.first (out-Formula o.formula) ≡ Some c → said_by o ≡ c
said_of o c e = ap (λ (w : Option Clause). or_else w []) e

pub said_none : (o : Opened) → fresh_clause o.formula o.first (out-Formula o.formula) ≡ None → said_by o ≡ []
said_none o e = ap (λ (w : Option Clause). or_else w []) e

pub said_sorted : (sig : Signature) (o : Opened) (c : Clause) → formula_ok sig o.formula ≡ true → fresh_clause o.formula o.first (out-Formula o.formula) ≡ Some c → clause_ok sig c ≡ true
said_sorted sig o c ok e =
    let p : Problem = record { signature = sig; items = [] } in
    stated_sorted p 0 (Fresh o.formula o.first) c (ap (λ (b : Bool). only b (fresh_clause o.formula o.first (out-Formula o.formula))) ok ∙ e)

pub pair_among : (os : List Opened) (o : Opened) → Contains os o → Contains (opened_pairs os) (o.formula, o.first)
pair_among os o h = contains_at (opened_pairs os) h.0 (o.formula, o.first) (get_map (λ (w : Opened). (w.formula, w.first)) os h.0 o (place_of os o h))

pub pair_of : (os : List Opened) (f : Formula) (m : ℕ) → Contains (opened_pairs os) (f, m) → (k : ℕ) × (o : Opened) × (slice_get os k ≡ Some o) × (o.formula ≡ f) × (o.first ≡ m)
pair_of os f m h =
    let r = get_unmap (λ (w : Opened). (w.formula, w.first)) os h.0 (f, m) (place_of (opened_pairs os) (f, m) h) in
    (h.0, r.0, r.1, ap (λ (w : Formula × ℕ). w.0) r.2, ap (λ (w : Formula × ℕ). w.1) r.2)

-- it has the block's generation
fresh_so : (x : Setting) (js : List Line) (n : ℕ) (f : Formula) (c : Clause) (l : Lit) → HasGeneration x js n f → fresh_clause f (x.fresh f) (out-Formula f) ≡ Some c → Contains c l → HasGeneration x js n l.formula
fresh_so x js zero f c l a e i = of_fresh f c l a e i
fresh_so x js (suc n) f c l a e i = of_fresh f c l a e i

said_so : (x : Setting) (js : List Line) (n : ℕ) (o : Opened) → x.fresh o.formula ≡ o.first → HasGeneration x js n o.formula → (l : Lit) → Contains (said_by o) l → HasGeneration x js n l.formula
said_so x js n o e a l h =
    let c = said_is o l h in
    fresh_so x js n o.formula c.0 l a (ap (λ (m : ℕ). fresh_clause o.formula m (out-Formula o.formula)) e ∙ c.1) c.2

module _ (opened : List Opened) (g : ℕ) where
  pub served_at : (a : Stored) (es : List Aged) (b : Stored) (fs : List Aged) (k : ℕ) (o : Opened) → slice_get opened k ≡ Some o → Brings opened g a es b fs (said_by o) → IsServed opened g b fs k
  served_at a es b fs k o at x w l e h = x.had l (subst (λ (z : Opened). Contains (said_by z) l) (same_Some w o (sym e ∙ at)) h)

  pub block_again : (a : Stored) (es : List Aged) (b : Stored) (fs : List Aged) (o : Opened) → IsStore a.signature a.nodes → Contains opened o → HaveNames opened a → HasAge es g o.formula
      → Brings opened g a es b fs (said_by o) → Brings opened g a es b fs []
  block_again a es b fs o store among there aged x = record {
    named = record {
      signature = x.named.signature;
      keeps = x.named.keeps;
      named = λ t h. absurd (let i = h.1 in omega (arith, i));
      only = λ t h. inl (elim (x.named.only t h) as (λ _. Contains (terms_in a) t) [ inl k ↦ k | inr w ↦ stands_there a store (clause_terms (said_by o)) (λ u i. there o u among i) t w ]);
    };
    had = λ l h. absurd (let i = h.1 in omega (arith, i));
    stay = x.stay;
    known = x.known;
    kept = x.kept;
    only = x.only;
    late = x.late;
    justified = λ z bound js same are has terms ages.
        x.justified z bound js same are (λ l i lt. said_so z js g o (are o.formula o.first (pair_among opened o among)) (ages g o.formula lt aged) l i) terms ages;
  }

-- the terms of `fresh` clauses have names, and keep them
pub names_there : (opened : List Opened) (s : Stored)
    → ((o : Opened) (c : Clause) (t : Term) → Contains opened o → fresh_clause o.formula o.first (out-Formula o.formula) ≡ Some c → Contains (clause_terms c) t → Contains (terms_in s) t) → HaveNames opened s
names_there opened s h o t among c = go (fresh_clause o.formula o.first (out-Formula o.formula)) refl c
  where
    go : (w : Option Clause) → fresh_clause o.formula o.first (out-Formula o.formula) ≡ w → Contains (clause_terms (or_else w [])) t → Contains (terms_in s) t
    go (Some d) e i = h o d t among e i
    go None e i = absurd (let k = i.1 in omega (arith, k))

pub names_kept : (opened : List Opened) (a b : Stored) → Keeps (terms_in a) (terms_in b) → HaveNames opened a → HaveNames opened b
names_kept opened a b k h o t among c = let i = h o t among c in contains_at (terms_in b) i.0 t (k i.0 t (place_of (terms_in a) t i))
