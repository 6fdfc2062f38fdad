-- The step of two records whose fields steps equate, and steps that are added place by place.
use Rattle.std.specs.Prelude.{ℕ, ◌<◌, ◌≡◌, zero, suc, List, [], ◌∷◌, ◌++◌, map, length, get_or, slice_get, Some}
use Rattle.std.proofs.Common.{refl, sym, ap, ◌∙◌, subst, arith}
use Rattle.std.proofs.lemmas.List.{length-map}
use Rattle.std.proofs.lemmas.Option.{same_Some, slice_get_within}
use Rattle.ae_base.specs.Options.{known}
use Rattle.ae_core.proofs.SortFacts.{same_known_of}
use Rattle.ae_core.specs.Sorts.{sort_of}
use Rattle.ae_core.specs.declared.terms.Sort.{Sort, Named}
use Rattle.ae_core.specs.declared.terms.Term.{Term}
use Rattle.ae_core.specs.declared.problems.Signature.{Signature}
use Rattle.ae_core.specs.declared.problems.FieldEntry.{FieldEntry}
use Rattle.ae_core.specs.Putting.{put_sort}
use Rattle.ae_rules.specs.Lines.{equal, Stated, Equated, fields_from}
use Rattle.ae_store.specs.Growing.{IsFront}
use Rattle.ae_store.specs.Parts.{IsIn}
use Rattle.ae_store.specs.Shapes.{shapes}
use Rattle.ae_store.specs.Stores.{IsStore}
use Rattle.ae_store.specs.Terms.{terms, named}
use Rattle.ae_store.specs.declared.nodes.Node.{Node}
use Rattle.ae_store.proofs.FieldLaws.{named_back}
use Rattle.ae_store.proofs.PartLaws.{in_none}
use Rattle.ae_just.specs.declared.steps.Rule.TheVariants as rule
use Rattle.ae_just.specs.declared.steps.Side.TheVariants as side
use Rattle.ae_just.specs.declared.steps.Step.{Step}
use Rattle.ae_just.specs.Steps.{Fits, IsAllowedStep, own_line}
use Rattle.ae_settled.specs.Valued.{AreValues}
use Rattle.ae_state_steps.proofs.Stated.{stated_by}
use Rattle.ae_value_steps.proofs.Added.{equal_kept}
use Rattle.ae_value_table.specs.declared.patterns.Pattern.{Pattern}
use Rattle.ae_value_table.specs.Table.{Contents, held}
use Rattle.ae_value_fitting.specs.Fitting.{system_in, ArePatterns}
use Rattle.ae_value_fitting.specs.Sources.{RestsOnValues}
use Rattle.ae_value_fitting.proofs.Resting.{rests_longer}
use Rattle.ae_equal_steps.specs.Inner.Parts.{name_of}
use Rattle.ae_equal_steps.specs.Inner.Pairs.{IsPair, ArePairs, IsEqualBy, AreEqualBy}
use Rattle.ae_equal_steps.proofs.PairLaws.{ArePlaced, AreRecords}

-- ---- place by place
pub pairs_length : (sig : Signature) (ts : List Term) (c : Contents) (ps qs : List Pattern) → ArePairs sig ts c ps qs → length qs ≡ length ps
pairs_length sig ts c [] [] h = refl
pairs_length sig ts c (p ∷ ps) (q ∷ qs) h = ap suc (pairs_length sig ts c ps qs h.1)
pairs_length sig ts c [] (q ∷ qs) h = absurd h
pairs_length sig ts c (p ∷ ps) [] h = absurd h

pub pair_at : (sig : Signature) (ts : List Term) (c : Contents) (ps qs : List Pattern) (i : ℕ) (a b : Pattern) → i < length ps → ArePairs sig ts c ps qs → IsPair sig ts c (get_or ps i a) (get_or qs i b)
pair_at sig ts c [] qs i a b l h = absurd (omega (arith, l))
pair_at sig ts c (p ∷ ps) [] i a b l h = absurd h
pair_at sig ts c (p ∷ ps) (q ∷ qs) zero a b l h = h.0
pair_at sig ts c (p ∷ ps) (q ∷ qs) (suc i) a b l h = pair_at sig ts c ps qs i a b (omega (arith, l)) h.1

pub equal_push : (first steps : List Step) (c : Contents) (ps qs : List Pattern) (ids : List ℕ) (p q : Pattern) (id : ℕ) → AreEqualBy first steps c ps qs ids → IsEqualBy first steps c p q id
    → AreEqualBy first steps c (ps ++ p ∷ []) (qs ++ q ∷ []) (ids ++ id ∷ [])
equal_push first steps c [] [] [] p q id h e = (e, tt)
equal_push first steps c (r ∷ ps) (s ∷ qs) (k ∷ ids) p q id h e = (h.0, equal_push first steps c ps qs ids p q id h.1 e)
equal_push first steps c [] [] (k ∷ ids) p q id h e = absurd h
equal_push first steps c [] (s ∷ qs) ids p q id h e = absurd h
equal_push first steps c (r ∷ ps) [] ids p q id h e = absurd h
equal_push first steps c (r ∷ ps) (s ∷ qs) [] p q id h e = absurd h

pub equal_longer : (sig : Signature) (ts : List Term) (first mid new : List Step) → IsFront mid new → Fits sig ts new → (c : Contents) (ps qs : List Pattern) (ids : List ℕ) → AreEqualBy first mid c ps qs ids → AreEqualBy first new c ps qs ids
equal_longer sig ts first mid new f fits c [] [] [] h = tt
equal_longer sig ts first mid new f fits c (p ∷ ps) (q ∷ qs) (id ∷ ids) h = (
  record {
    states = equal_kept mid new f id (name_of p) (name_of q) (h.0).states;
    rests = rests_longer sig ts first mid new f fits c [] id (slice_get_within mid id _ ((h.0).states).there) (h.0).rests;
  },
  equal_longer sig ts first mid new f fits c ps qs ids h.1,
)
equal_longer sig ts first mid new f fits c [] [] (k ∷ ids) h = absurd h
equal_longer sig ts first mid new f fits c [] (q ∷ qs) ids h = absurd h
equal_longer sig ts first mid new f fits c (p ∷ ps) [] ids h = absurd h
equal_longer sig ts first mid new f fits c (p ∷ ps) (q ∷ qs) [] h = absurd h

-- each of the steps rests on steps that say values
pub equal_rests : (first steps : List Step) (c : Contents) (ps qs : List Pattern) (ids : List ℕ) → AreEqualBy first steps c ps qs ids → (id : ℕ) → IsIn id ids → RestsOnValues first steps c [] id
equal_rests first steps c [] [] [] h id m = absurd (in_none id m)
equal_rests first steps c (p ∷ ps) (q ∷ qs) (k ∷ ids) h id m = by_place (λ i e. equal_rests first steps c ps qs ids h.1 id (record { place = i; is = e })) m.place m.is
  where
    by_place : ((i : ℕ) → slice_get ids i ≡ Some id → RestsOnValues first steps c [] id) → (i : ℕ) → slice_get (k ∷ ids) i ≡ Some id → RestsOnValues first steps c [] id
    by_place later zero e = subst (RestsOnValues first steps c []) (same_Some k id e) (h.0).rests
    by_place later (suc i) e = later i e
equal_rests first steps c [] [] (k ∷ ids) h id m = absurd h
equal_rests first steps c [] (q ∷ qs) ids h id m = absurd h
equal_rests first steps c (p ∷ ps) [] ids h id m = absurd h
equal_rests first steps c (p ∷ ps) (q ∷ qs) [] h id m = absurd h

-- ---- records
module _ (sig : Signature) (nodes : List Node) (c : Contents) (store : IsStore sig nodes) (patterns : ArePatterns sig (terms (shapes nodes)) (held c)) (are : AreValues sig (system_in (terms (shapes nodes)) c)) where
  abbrev ts : List Term
  ts = terms (shapes nodes)

  equated : (first steps : List Step) (ss : List Sort) (us ws : List Term) (ps qs : List Pattern) (ids : List ℕ) → ArePlaced sig nodes c store patterns are ss us ps → ArePlaced sig nodes c store patterns are ss ws qs
      → AreEqualBy first steps c ps qs ids → Equated (map (own_line ts) steps) ids us ws
  equated first steps [] [] [] [] [] [] a b e = tt
  equated first steps (s ∷ ss) (u ∷ us) (w ∷ ws) (p ∷ ps) (q ∷ qs) (id ∷ ids) a b e =
      let states = (e.0).states in
      let stated = stated_by ts steps id (record { left = side.Name (name_of p); right = side.Name (name_of q); rule = states.by }) states.there in (
        subst (λ (t : Term). Stated (map (own_line ts) steps) id (equal u t)) (b.0).term (subst (λ (t : Term). Stated (map (own_line ts) steps) id (equal t (named ts (name_of q)))) (a.0).term stated),
        equated first steps ss us ws ps qs ids a.1 b.1 e.1,
      )
  equated first steps [] (u ∷ us) ws ps qs ids a b e = absurd a
  equated first steps [] [] ws (p ∷ ps) qs ids a b e = absurd a
  equated first steps [] [] (w ∷ ws) [] qs ids a b e = absurd b
  equated first steps [] [] [] [] (q ∷ qs) ids a b e = absurd b
  equated first steps [] [] [] [] [] (id ∷ ids) a b e = absurd e
  equated first steps (s ∷ ss) [] ws ps qs ids a b e = absurd a
  equated first steps (s ∷ ss) (u ∷ us) ws [] qs ids a b e = absurd a
  equated first steps (s ∷ ss) (u ∷ us) [] (p ∷ ps) qs ids a b e = absurd b
  equated first steps (s ∷ ss) (u ∷ us) (w ∷ ws) (p ∷ ps) [] ids a b e = absurd b
  equated first steps (s ∷ ss) (u ∷ us) (w ∷ ws) (p ∷ ps) (q ∷ qs) [] a b e = absurd e

  pub fields_step : (first steps : List Step) (k n : ℕ) (ps qs : List Pattern) (ids : List ℕ) → AreRecords sig nodes c store patterns are k n ps qs → AreEqualBy first steps c ps qs ids
      → IsAllowedStep sig ts steps (record { left = side.Name k; right = side.Name n; rule = rule.Fields ids })
  fields_step first steps k n ps qs ids r e =
      let i = r.record_is in
      let named_sort : Named i.type i.sorts ≡ r.sort = named_back r.sort i.type i.sorts i.out in
      let many : length r.sorts ≡ length i.fields = ap length i.are ∙ length-map i.fields (λ (f : FieldEntry). put_sort i.sorts f.sort) in
      let left : sort_of sig (named ts k) ≡ Some (Named i.type i.sorts) = r.left ∙ ap (λ (s : Sort). Some s) (sym named_sort) in
      let right : sort_of sig (named ts n) ≡ Some (Named i.type i.sorts) = r.right ∙ ap (λ (s : Sort). Some s) (sym named_sort) in
      let same = equated first steps r.sorts (fields_from i.type i.sorts (named ts k) 0 (length r.sorts)) (fields_from i.type i.sorts (named ts n) 0 (length r.sorts)) ps qs ids r.lefts r.rights e in
      record {
        sorted = same_known_of (sort_of sig (named ts k)) (sort_of sig (named ts n)) (ap known r.left) (r.left ∙ sym r.right);
        allowed = (
          i.type,
          i.sorts,
          i.entry,
          i.fields,
          i.at,
          i.kind,
          (left, right),
          subst (λ (m : ℕ). Equated (map (own_line ts) steps) ids (fields_from i.type i.sorts (named ts k) 0 m) (fields_from i.type i.sorts (named ts n) 0 m)) many same,
        );
      }
