-- Where the clause of an open order comes, and a run goes on to an open trail, fewer orders are open.
use Rattle.std.specs.Prelude.{◌<◌, ◌≤◌, ◌≡◌, ◌≢◌, ◌&&◌, true, List, [], ◌∷◌, ◌++◌, filter, Some}
use Rattle.std.specs.List.{Contains}
use Rattle.std.proofs.Common.{refl, sym, ap, ◌∙◌, subst, arith, inl, inr}
use Rattle.std.proofs.lemmas.Bool.{and_from, and_parts}
use Rattle.std.proofs.lemmas.List.Concat.{flat_map-append}
use Rattle.std.proofs.lemmas.List.Elements.{Contains-append_cases}
use Rattle.std.proofs.lemmas.Map.Made.{is_member-filter}
use Rattle.ae_base.proofs.Decided.{decided_yes}
use Rattle.ae_base.proofs.Options.{when_some}
use Rattle.ae_block_constants.specs.declared.opened.Opened.{Opened}
use Rattle.ae_block_counts.proofs.Blocks.{clause_blocks}
use Rattle.ae_block_counts.proofs.Opening.{no_more}
use Rattle.ae_block_counts.specs.Counts.{blocks_in, blocks_of, blocks_step, quantifiers_left}
use Rattle.ae_core.specs.Decided.{Formula_discrete}
use Rattle.ae_core.specs.Sorts.{same_numeric, sort_of}
use Rattle.ae_core.specs.declared.formulas.Formula.{Formula, Formula-F, Eq, Lt, map-Formula, out-Formula, roll-Formula, roll-out-Formula, para-roll-Formula}
use Rattle.ae_core.specs.declared.formulas.Formula.TheOpen as layer
use Rattle.ae_core.specs.declared.formulas.Formula.TheVariants.{outs-Eq, outs-Lt}
use Rattle.ae_core.specs.declared.formulas.Lit.{Lit}
use Rattle.ae_core.specs.declared.formulas.Quant.{Quant, para-Quant}
use Rattle.ae_core.specs.declared.problems.Signature.{Signature}
use Rattle.ae_core.specs.declared.terms.Term.{Term}
use Rattle.ae_explain.specs.Trail.{at, clause}
use Rattle.ae_explain.specs.declared.trail.Assigned.{Assigned}
use Rattle.ae_journal.proofs.Splits.{contains_one}
use Rattle.ae_kept_blocks.proofs.Members.{contained, from_flat}
use Rattle.ae_kept_blocks.proofs.Runs.{quantifiers_kept}
use Rattle.ae_kept_blocks.specs.Kept.{GoesOnOver}
use Rattle.ae_order_counts.proofs.Comparisons.{clause_comparisons, comparison_in, of_equation, of_order, old_comparisons, own_equation, own_order}
use Rattle.ae_order_counts.proofs.Distinct.{contained_in, fewer, laws, member, present}
use Rattle.ae_order_counts.proofs.Orders.{compared_equation, compared_order, open_before, open_by, open_for_two, turned_open}
use Rattle.ae_order_counts.proofs.Reasons.{each_literal, one_false, one_true, order_clause}
use Rattle.ae_order_counts.specs.Counts.{IsOrderOpen, comparisons_in, comparisons_of, is_open_in, orders_left}
use Rattle.ae_order_counts.specs.Trails.{IsOpenTrail}
use Rattle.ae_propagation.specs.Settled.{Holds}
use Rattle.ae_rules.specs.Clauses.{Clause}
use Rattle.ae_rules.specs.Instances.{trichotomy}
use Rattle.ae_sat.proofs.Deriving.{in_clause}
use Rattle.ae_sat.specs.Search.{Brings}
use Rattle.ae_sat.specs.Standing.{IsOneOf}

-- ---- the comparisons that are open
abbrev open_ones : List Assigned → List Clause → List Formula
open_ones t clauses = filter (is_open_in t) (comparisons_in clauses)

module _ (t : List Assigned) (clauses : List Clause) (f : Formula) where
  by_member : member (open_ones t clauses) f ≡ (member (comparisons_in clauses) f && is_open_in t f)
  by_member = is_member-filter laws (is_open_in t) f (λ h e. ap (is_open_in t) (decided_yes (Formula_discrete f h) e)) (comparisons_in clauses)

  in_open : Contains (comparisons_in clauses) f → is_open_in t f ≡ true → Contains (open_ones t clauses) f
  in_open h e = contained_in (open_ones t clauses) f (by_member ∙ and_from (member (comparisons_in clauses) f) (is_open_in t f) (present (comparisons_in clauses) f h) e)

  from_open : Contains (open_ones t clauses) f → Contains (comparisons_in clauses) f × (is_open_in t f ≡ true)
  from_open h =
      let w = and_parts (member (comparisons_in clauses) f) (is_open_in t f) (sym by_member ∙ present (open_ones t clauses) f h) in
      (contained_in (comparisons_in clauses) f w.0, w.1)

-- ---- the literals of the clause of an order
module _ (s u : Term) where
  own_comparison : (m : Lit) → Contains (order_clause s u) m → Contains (comparisons_of m.formula) m.formula
  own_comparison = each_literal s u (λ m. Contains (comparisons_of m.formula) m.formula) (own_equation s u) (own_order s u) (own_order u s)

  opens : (t : List Assigned) → IsOrderOpen t s u → (m : Lit) → Contains (order_clause s u) m → is_open_in t m.formula ≡ true
  opens t o =
      each_literal s u (λ m. is_open_in t m.formula ≡ true) (open_for_two t (Eq s u) s u (compared_equation s u) o) (open_for_two t (Lt s u) s u (compared_order s u) o)
      (open_for_two t (Lt u s) u s (compared_order u s) (turned_open t s u o))

  opened_by : (t : List Assigned) (m : Lit) → Contains (order_clause s u) m → is_open_in t m.formula ≡ true → IsOrderOpen t s u
  opened_by t =
      each_literal s u (λ m. is_open_in t m.formula ≡ true → IsOrderOpen t s u) (open_by t (Eq s u) s u (compared_equation s u)) (open_by t (Lt s u) s u (compared_order s u))
      (λ e. turned_open t u s (open_by t (Lt u s) u s (compared_order u s) e))

  -- each comparison of the clause is one of its literals'
  compares : (f : Formula) → Contains (comparisons_in (order_clause s u ∷ [])) f → (m : Lit) × Contains (order_clause s u) m × (m.formula ≡ f)
  compares f h =
      let c = from_flat clause_comparisons (order_clause s u ∷ []) f h in
      let same : order_clause s u ≡ c.0 = contains_one (order_clause s u) c.0 c.1 in
      let l = from_flat (λ (m : Lit). comparisons_of m.formula) c.0 f c.2 in
      let k : Contains (order_clause s u) l.0 = subst (λ (d : Clause). Contains d l.0) (sym same) l.1 in
      (l.0, k, each_literal s u (λ m. Contains (comparisons_of m.formula) f → m.formula ≡ f) (of_equation s u f) (of_order s u f) (of_order u s f) l.0 k l.2)

-- ---- fewer are open
module _ (t more : List Assigned) (clauses clauses2 : List Clause) (s u : Term) (old : IsOpenTrail t clauses) (is_open : IsOrderOpen t s u)
    (brings : Brings t (clauses ++ order_clause s u ∷ []) (t ++ more) clauses2) (among : GoesOnOver (clauses ++ order_clause s u ∷ []) clauses2)
    (there : IsOneOf clauses2 (order_clause s u)) (new : IsOpenTrail (t ++ more) clauses2) where
  abbrev now : List Assigned
  now = t ++ more

  no_longer : IsOrderOpen now s u → ⊥
  no_longer o =
      let w = one_true t more clauses clauses2 s u old is_open brings there new in
      each_literal s u (λ m. Holds now m → ⊥) o.equal o.below o.above w.0 w.1 w.2

  -- one of the clause's literals was false in the old trail: its formula is a comparison of the old clauses, of which the order was open
  gone : (m : Lit) × Contains (order_clause s u) m × Contains (open_ones t clauses) m.formula
  gone =
      let w = one_false t more clauses clauses2 s u old is_open brings there new in
      let c = in_clause t clauses old.lawful old.stands w.2.0 w.2.1 in
      let m = w.0 in
      let known : Contains (comparisons_in clauses) m.formula =
      comparison_in clauses (clause clauses c.0) (at t w.2.0).lit m.formula (contained clauses (clause clauses c.0) (c.0, c.1, refl)) c.2
      (subst (λ (x : Lit). Contains (comparisons_of x.formula) m.formula) (sym w.2.2) (own_comparison s u m w.1)) in
      (m, w.1, in_open t clauses m.formula known (opens s u t is_open m w.1))

  within : (f : Formula) → Contains (open_ones now clauses2) f → Contains (open_ones t clauses) f × (f ≢ gone.0.formula)
  within f h =
      let w = from_open now clauses2 f h in
      let all = subst (λ (z : List Formula). Contains z f) (flat_map-append clause_comparisons clauses (order_clause s u ∷ [])) (old_comparisons (clauses ++ order_clause s u ∷ []) clauses2 among f w.0) in
      let known : Contains (comparisons_in clauses) f = elim (Contains-append_cases (comparisons_in clauses) (comparisons_in (order_clause s u ∷ [])) f all) as (λ _. Contains (comparisons_in clauses) f) [
        | inl k ↦ k
        | inr k ↦ let l = compares s u f k in absurd (no_longer (opened_by s u now l.0 l.1 (subst (λ (x : Formula). is_open_in now x ≡ true) (sym l.2) w.1)))
      ] in (
        in_open t clauses f known (open_before t now brings.holds f w.1),
        λ e. no_longer (opened_by s u now gone.0 gone.1 (subst (λ (x : Formula). is_open_in now x ≡ true) e w.1)),
      )

  fewer_open : orders_left now clauses2 < orders_left t clauses
  fewer_open = fewer (open_ones now clauses2) (open_ones t clauses) gone.0.formula gone.2 within

pub asked_fewer : (sig : Signature) (s u : Term) (c : Clause) (t t2 : List Assigned) (clauses clauses2 : List Clause) → IsOpenTrail t clauses → IsOrderOpen t s u → trichotomy sig s u ≡ Some c
    → Brings t (clauses ++ c ∷ []) t2 clauses2 → GoesOnOver (clauses ++ c ∷ []) clauses2 → IsOneOf clauses2 c → IsOpenTrail t2 clauses2 → orders_left t2 clauses2 < orders_left t clauses
asked_fewer sig s u c t t2 clauses clauses2 old is_open e brings among there new =
    let same = (when_some (same_numeric (sort_of sig s) (sort_of sig u)) (order_clause s u) c e).1 in
    let more = brings.front.0 in
    let longer = brings.front.1 in
    subst (λ (w : List Assigned). orders_left w clauses2 < orders_left t clauses) (sym longer)
    (fewer_open t more clauses clauses2 s u old is_open
    (subst (λ (w : List Assigned). Brings t (clauses ++ order_clause s u ∷ []) w clauses2) longer (subst (λ (d : Clause). Brings t (clauses ++ d ∷ []) t2 clauses2) (sym same) brings))
    (subst (λ (d : Clause). GoesOnOver (clauses ++ d ∷ []) clauses2) (sym same) among) (subst (IsOneOf clauses2) (sym same) there)
    (subst (λ (w : List Assigned). IsOpenTrail w clauses2) longer new))

-- ---- no block comes in
no_blocks_by : (f : Formula) (o : Formula-F Formula Quant) → out-Formula f ≡ o
    → blocks_step (map-Formula Formula Quant (Formula × List Formula) (Quant × Unit {0}) (λ h. (h, blocks_of h)) (λ q. (q, para-Quant (List Formula) (Unit {0}) blocks_step (λ q. tt) q)) o) ≡ [] → blocks_of f ≡ []
unfolding blocks_of
no_blocks_by f o e n = ap blocks_of (sym (roll-out-Formula f) ∙ ap roll-Formula e) ∙ para-roll-Formula (List Formula) (Unit {0}) blocks_step (λ q. tt) o ∙ n

no_blocks : (s u : Term) (m : Lit) → Contains (order_clause s u) m → blocks_of m.formula ≡ []
no_blocks s u =
    each_literal s u (λ m. blocks_of m.formula ≡ []) (no_blocks_by (Eq s u) (layer.Eq s u) (outs-Eq s u) refl) (no_blocks_by (Lt s u) (layer.Lt s u) (outs-Lt s u) refl)
    (no_blocks_by (Lt u s) (layer.Lt u s) (outs-Lt u s) refl)

old_blocks : (s u : Term) (clauses : List Clause) (f : Formula) → Contains (blocks_in (clauses ++ order_clause s u ∷ [])) f → Contains (blocks_in clauses) f
old_blocks s u clauses f h =
    elim (Contains-append_cases (blocks_in clauses) (blocks_in (order_clause s u ∷ [])) f
    (subst (λ (z : List Formula). Contains z f) (flat_map-append clause_blocks clauses (order_clause s u ∷ [])) h)) as (λ _. Contains (blocks_in clauses) f) [
      | inl k ↦ k
      | inr k ↦
          let c = from_flat clause_blocks (order_clause s u ∷ []) f k in
          let same : order_clause s u ≡ c.0 = contains_one (order_clause s u) c.0 c.1 in
          let l = from_flat (λ (m : Lit). blocks_of m.formula) c.0 f c.2 in
          let none = no_blocks s u l.0 (subst (λ (d : Clause). Contains d l.0) (sym same) l.1) in
          let i = (subst (λ (z : List Formula). Contains z f) none l.2).1 in
          absurd (omega (arith, i))
    ]

pub asked_quantifiers : (sig : Signature) (s u : Term) (c : Clause) (opened : List Opened) (clauses clauses2 : List Clause) → trichotomy sig s u ≡ Some c → GoesOnOver (clauses ++ c ∷ []) clauses2
    → quantifiers_left opened clauses2 ≤ quantifiers_left opened clauses
asked_quantifiers sig s u c opened clauses clauses2 e among =
    let same = (when_some (same_numeric (sort_of sig s) (sort_of sig u)) (order_clause s u) c e).1 in
    let run = quantifiers_kept (clauses ++ order_clause s u ∷ []) clauses2 (subst (λ (d : Clause). GoesOnOver (clauses ++ d ∷ []) clauses2) (sym same) among) opened in
    let own = no_more opened clauses (clauses ++ order_clause s u ∷ []) (old_blocks s u clauses) in
    omega (arith, run, own)
