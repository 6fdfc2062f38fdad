-- One step of a batch after another, and what is due after a step.
use Rattle.std.specs.Prelude.{ℕ, ◌<◌, ◌≡◌, List, [], ◌++◌, length, map, slice_get, Some}
use Rattle.std.specs.List.{AllByRecursion, Contains}
use Rattle.std.proofs.Common.{refl, sym, ap, ◌∙◌, subst, arith, inl, inr, append_assoc, append-nil}
use Rattle.std.proofs.lemmas.List.Elements.{Contains-append_cases, Contains-append_left, Contains-append_right}
use Rattle.ae_ages.specs.Interned.{IsHad}
use Rattle.ae_ages.specs.declared.entries.Aged.{Aged}
use Rattle.ae_base.proofs.AllOf.{all_append, all_of_map, all_weaker}
use Rattle.ae_between_rounds.proofs.Growing.{more_names}
use Rattle.ae_between_rounds.specs.Owed.{IsOwedAt}
use Rattle.ae_between_rounds.specs.declared.search.Owed.{Owed}
use Rattle.ae_between_rounds.specs.declared.search.Search.{Search}
use Rattle.ae_block_constants.specs.declared.opened.Opened.{Opened}
use Rattle.ae_brought_clauses.specs.Brought.{AreBrought}
use Rattle.ae_core.specs.declared.formulas.Lit.{Lit}
use Rattle.ae_core.specs.declared.problems.Problem.{Problem}
use Rattle.ae_core.specs.declared.terms.Sort.{Sort}
use Rattle.ae_core.specs.declared.terms.Term.{Term}
use Rattle.ae_explain.specs.declared.trail.Assigned.{Assigned}
use Rattle.ae_goal_names.proofs.Joining.{as_many}
use Rattle.ae_journal.proofs.Splits.{contains_at}
use Rattle.ae_journal.specs.InstanceLines.{HasGeneration, IsMatchAt}
use Rattle.ae_journal.specs.Journals.{IsBack, counted_in}
use Rattle.ae_journal.specs.Noted.{Noted}
use Rattle.ae_journal.specs.Standing.{Setting}
use Rattle.ae_journal.specs.States.{Owner}
use Rattle.ae_journal.specs.declared.lines.Line.{Line}
use Rattle.ae_made_instances.specs.Inner.Making.{AreSaid, IsDue, IsDueOwed}
use Rattle.ae_made_instances.specs.Inner.Noting.{Came, GoesOn}
use Rattle.ae_made_instances.specs.Inner.Noting.Came.{nothing, some}
use Rattle.ae_open_states.specs.Shown.{trail_literals}
use Rattle.ae_opening.specs.declared.opening.OpenedBlocks.{OpenedBlocks}
use Rattle.ae_owed.proofs.Recording.{found_ones_match, matches_grow}
use Rattle.ae_owed.specs.Generations.{IsJustified}
use Rattle.ae_owed.specs.Known.{IsFoundAt}
use Rattle.ae_owed.specs.Laws.{HoldNow}
use Rattle.ae_owed.specs.Owed.{OwnerIsThere}
use Rattle.ae_owners.specs.Owners.{owner_of}
use Rattle.ae_owners.specs.declared.owners.Owner.{Owner as OwnerEntry}
use Rattle.ae_searching.proofs.Settings.{contains_kept, for_setting, told_before}
use Rattle.ae_searching.specs.Steps.{HasNews, IsCombination}
use Rattle.ae_searching.specs.Told.{IsToldIn}
use Rattle.ae_settled.proofs.Nodes.{named_at}
use Rattle.ae_store.proofs.TermLaws.{all_named_kept}
use Rattle.ae_store.specs.Shapes.{shapes}
use Rattle.ae_store.specs.Stores.{Stored}
use Rattle.ae_store.specs.Terms.{named, terms}
use Rattle.ae_theory.specs.Names.{terms_in}
use Rattle.ae_value_table.specs.Alike.{alike}

-- ---- steps
pub goes_nowhere : (o : Search) → GoesOn o o
goes_nowhere o = record {
  extends = record { signature = refl; keeps = λ i t h. h };
  trail = refl;
  theory = refl;
  blocks = refl;
  owners = refl;
  limit = refl;
  added = [];
  is = sym (append-nil o.journal.lines);
  forth = tt;
  plain = tt;
}

pub goes_join : (a b c : Search) → GoesOn a b → GoesOn b c → GoesOn a c
goes_join a b c x y = record {
  extends = record { signature = y.extends.signature ∙ x.extends.signature; keeps = λ i t h. y.extends.keeps i t (x.extends.keeps i t h) };
  trail = y.trail ∙ x.trail;
  theory = y.theory ∙ x.theory;
  blocks = y.blocks ∙ x.blocks;
  owners = y.owners ∙ x.owners;
  limit = y.limit ∙ x.limit;
  added = x.added ++ y.added;
  is = y.is ∙ (ap (λ (z : List Line). z ++ y.added) x.is ∙ append_assoc a.journal.lines x.added y.added);
  forth = all_append (λ (j : Line). ¬ IsBack j) x.added y.added x.forth y.forth;
  plain = all_append (λ (j : Line). ¬ IsCombination j) x.added y.added x.plain y.plain;
}

pub came_join : (a b c : Search) → Came a b → Came b c → Came a c
came_join a b c (nothing s j l i t) (nothing s2 j2 l2 i2 t2) = nothing (s2 ∙ s) (j2 ∙ j) (l2 ∙ l) (i2 ∙ i) (t2 ∙ t)
came_join a b c (nothing s j l i t) (some news later more counted) =
    some news (omega (arith, ap (λ (z : Noted). length z.lines) j, later)) (let e : length b.lines.items ≡ length a.lines.items = ap length i in omega (arith, e, more))
    (omega (arith, ap (λ (z : Noted). counted_in z.lines) j, counted))
came_join a b c (some news later more counted) (nothing s j l i t) =
    some (subst (λ (z : Noted). HasNews z.lines) (sym j) news) (omega (arith, ap (λ (z : Noted). length z.lines) j, later)) (let e : length c.lines.items ≡ length b.lines.items = ap length i in omega (arith, e, more))
    (omega (arith, ap (λ (z : Noted). counted_in z.lines) j, counted))
came_join a b c (some news later more counted) (some news2 later2 more2 counted2) = some news2 (omega (arith, later, later2)) (omega (arith, more, more2)) (omega (arith, counted, counted2))

pub said_of : (opened : List Opened) (n : ℕ) (old : Stored) (es : List Aged) (new : Stored) (fs : List Aged) (ls : List Lit) → AreBrought opened n old es new fs ls → AreSaid opened n old es new fs ls
said_of opened n old es new fs ls b = record { had = b.had; stay = b.stay; bodies = b.bodies; justified = b.justified }

pub said_join : (opened : List Opened) (n : ℕ) (a : Stored) (ea : List Aged) (b : Stored) (eb : List Aged) (c : Stored) (ec : List Aged) (ls ms : List Lit) → b.signature ≡ a.signature → AreSaid opened n a ea b eb ls
    → AreSaid opened n b eb c ec ms → AreSaid opened n a ea c ec (ls ++ ms)
said_join opened n a ea b eb c ec ls ms same s1 s2 = record {
  had = λ l i. elim (Contains-append_cases ls ms l i) as (λ _. IsHad c ec n l.formula) [ inl k ↦ s2.stay n l.formula (s1.had l k) | inr k ↦ s2.had l k ];
  stay = λ m h y. s2.stay m h (s1.stay m h y);
  bodies = λ y. s2.bodies (s1.bodies y);
  justified = λ x bound js sig own gens j e.
      let r = s1.justified x bound js sig own (λ l i. gens l (Contains-append_left ls ms l i)) j e in
      s2.justified x bound js (same ∙ sig) own (λ l i. gens l (Contains-append_right ls ms l i)) r.0 r.1;
}

-- ---- what is due
module _ (p : Problem) (g n : ℕ) (o o2 : Search) (y : GoesOn o o2) where
  pub told_earlier : (x : Setting) → IsToldIn p g o2.store o2.blocks.opened x → IsToldIn p g o.store o.blocks.opened x
  told_earlier x told = told_before p g o.store o2.store o.blocks.opened o2.blocks.opened x y.extends (λ e i. subst (λ (z : OpenedBlocks). Contains z.opened e) (sym y.blocks) i) told

  pub due_grows : (w : Owner) (ss : List Sort) (ts : List Term) → IsDue p g o n w ss ts → IsDue p g o2 n w ss ts
  due_grows w ss ts d = record {
    there = subst (λ (z : List Assigned). OwnerIsThere (trail_literals z) w) (sym y.trail) d.there;
    names = all_weaker (Contains (terms_in o.store)) (Contains (terms_in o2.store)) (λ t i. contains_kept (terms_in o.store) (terms_in o2.store) t y.extends.keeps i) ts d.names;
    matched = λ x told.
        subst (λ (z : List Line). IsMatchAt x z (HasGeneration x z n) w ss ts) (sym y.is)
        (matches_grow x o.journal.lines y.added n w ss ts y.forth (d.matched x (told_earlier x told)));
  }

  pub same_terms : (ns : List ℕ) → AllByRecursion (λ v. v < length o.store.nodes) ns → map (named (terms (shapes o2.store.nodes))) ns ≡ map (named (terms (shapes o.store.nodes))) ns
  same_terms ns within =
      let many = as_many o.store in
      all_named_kept (terms_in o.store) (terms_in o2.store) y.extends.keeps ns
      (all_weaker (λ v. v < length o.store.nodes) (λ v. v < length (terms_in o.store)) (λ v lt. omega (arith, lt, many)) ns within)

  pub owed_grows : (w : Owed) → IsDueOwed p g o n w → IsDueOwed p g o2 n w
  owed_grows w d =
      let more = more_names o.store o2.store y.extends in
      record {
        owner = d.owner;
        at = subst (λ (z : List OwnerEntry). slice_get z w.owner ≡ Some d.owner) (sym y.owners) d.at;
        within = all_weaker (λ v. v < length o.store.nodes) (λ v. v < length o2.store.nodes) (λ v lt. omega (arith, lt, more)) w.subst.terms d.within;
        due = subst (IsDue p g o2 n (owner_of d.owner) w.subst.sorts) (sym (same_terms w.subst.terms d.within)) (due_grows (owner_of d.owner) w.subst.sorts (map (named (terms (shapes o.store.nodes))) w.subst.terms) d.due);
      }

-- what is owed is due, where names that are alike are equal by equations that may stand
pub names_there : (s : Stored) (ns : List ℕ) → AllByRecursion (λ v. v < length s.nodes) ns → AllByRecursion (Contains (terms_in s)) (map (named (terms_in s)) ns)
names_there s ns within =
    let many = as_many s in
    all_of_map (Contains (terms_in s)) (named (terms_in s)) ns
    (all_weaker (λ v. v < length s.nodes) (λ v. Contains (terms_in s) (named (terms_in s) v)) (λ v lt. contains_at (terms_in s) v (named (terms_in s) v) (named_at (terms_in s) v (omega (arith, lt, many)))) ns within)

pub owed_due : (p : Problem) (g bound n : ℕ) (o : Search) → n < bound → ((x : Setting) → IsToldIn p g o.store o.blocks.opened x → HoldNow x o.store (alike o.solver.theory.values) o.journal.lines)
    → ((x : Setting) → IsToldIn p g o.store o.blocks.opened x → IsJustified x bound o.store o.journal.lines) → (w : Owed) → IsOwedAt p g o n w → IsDueOwed p g o n w
owed_due p g bound n o lt hold just w d =
    let ts : List Term = map (named (terms (shapes o.store.nodes))) w.subst.terms in
    record {
      owner = d.owner;
      at = d.at;
      within = d.within;
      due = record {
        there = d.there;
        names = names_there o.store w.subst.terms d.within;
        matched = λ x told.
            found_ones_match x bound o.store (alike o.solver.theory.values) o.journal.lines n (owner_of d.owner) w.subst.sorts ts (just x told) (hold x told) lt
            (for_setting (λ q j. IsFoundAt q j o.store (alike o.solver.theory.values) n (owner_of d.owner) w.subst.sorts ts) p g o.store o.blocks.opened x told d.found);
      };
    }
