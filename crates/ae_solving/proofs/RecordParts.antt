-- Patterns of one sort that have different values: those of records have fields of which two differ, in one place.
use Rattle.std.specs.Prelude.{ℕ, zero, suc, ◌<◌, ◌+◌, ◌≡◌, ◌≢◌, false, nat_eq, List, [], ◌∷◌, ◌++◌, map, take, length, get_or, slice_get, IsTrue, Option, Some, None}
use Rattle.std.proofs.Common.{refl, sym, ap, ◌∙◌, subst, arith}
use Rattle.std.proofs.lemmas.Bool.{eqb-true}
use Rattle.std.proofs.lemmas.List.{map_push, length-map}
use Rattle.std.proofs.lemmas.Option.{none-some, same_Some, slice_get-get_or, slice_get_within}
use Rattle.ae_base.proofs.ListFacts.{value_at, get_front}
use Rattle.ae_base.proofs.Tests.{by_bool, by_either, true_false}
use Rattle.ae_congruent_steps.specs.Congruent.{AreCongruent}
use Rattle.ae_core.specs.Sorts.{sort_of}
use Rattle.ae_core.specs.declared.terms.Head.TheVariants as head
use Rattle.ae_core.specs.declared.terms.Sort.{Sort}
use Rattle.ae_core.specs.declared.terms.Term.{Term, Apply}
use Rattle.ae_core.specs.declared.problems.Signature.{Signature}
use Rattle.ae_equal_steps.specs.Inner.Pairs.{IsOf}
use Rattle.ae_equal_steps.specs.Inner.Parts.{name_of, parts_of}
use Rattle.ae_equal_steps.proofs.PairLaws.{IsMadeOf, a_number, a_record, a_leaf, made_of, of_within, name_is, IsPlaced, ArePlaced, placed}
use Rattle.ae_equal_steps.proofs.PatternLaws.{name-Fields, parts-Fields, number_fields, leaf_fields}
use Rattle.ae_journal.specs.Systems.{record_fields, field_terms}
use Rattle.ae_just.specs.declared.steps.Step.{Step}
use Rattle.ae_num.specs.declared.forms.Value.{Value}
use Rattle.ae_num.specs.declared.forms.Value as value
use Rattle.ae_rules.specs.Lines.{fields_from}
use Rattle.ae_settled.proofs.Sorts.{IsRecord, is_record}
use Rattle.ae_settled.specs.Valued.{AreValues}
use Rattle.ae_solving.specs.Inner.Apart.{AreOfOneSort, AreApart, AreListsApart, ArePlacesApart, AreFieldsOf, AreToJoin}
use Rattle.ae_state.proofs.Alikeness.{one_by, from_known}
use Rattle.ae_state.proofs.Shown.{first_pushed}
use Rattle.ae_state_steps.specs.ManySteps.{StatesNames}
use Rattle.ae_state_steps.specs.ValueSteps.{StatesEqual}
use Rattle.ae_store.specs.Shapes.{shapes}
use Rattle.ae_store.specs.Stores.{IsStore}
use Rattle.ae_store.specs.Terms.{terms, named}
use Rattle.ae_store.specs.declared.nodes.Node.{Node}
use Rattle.ae_store.proofs.StoreLaws.{name_term}
use Rattle.ae_value_fitting.specs.Fitting.{system_in, HavePatterns, ArePatterns}
use Rattle.ae_value_table.specs.Alike.{alike, alike_entries}
use Rattle.ae_value_table.specs.Table.{Contents, number_at, leaf_at, value_in, held}
use Rattle.ae_value_table.specs.declared.patterns.Entry.{Entry}
use Rattle.ae_value_table.specs.declared.patterns.Pattern.{Pattern, Fields}
use Rattle.ae_value_table.proofs.ValueLaws.{by-Fields}

-- the field in a place of fields
pub field_in : (k : ℕ) (ss : List Sort) (t : Term) (j n i : ℕ) (u : Term) → slice_get (fields_from k ss t j n) i ≡ Some u → u ≡ Apply (head.Field k (j + i)) ss (t ∷ [])
field_in k ss t j zero i u e = absurd (none-some u e)
field_in k ss t j (suc n) zero u e =
    let z : j ≡ j + 0 = omega arith in
    sym (same_Some (Apply (head.Field k j) ss (t ∷ [])) u e) ∙ ap (λ (m : ℕ). Apply (head.Field k m) ss (t ∷ [])) z
field_in k ss t j (suc n) (suc i) u e =
    let z : suc j + i ≡ j + suc i = omega arith in
    field_in k ss t (suc j) n i u e ∙ ap (λ (m : ℕ). Apply (head.Field k m) ss (t ∷ [])) z

-- one field of two names is congruent
pub fields_congruent : (sig : Signature) (ts : List Term) (steps : List Step) (left right step : ℕ) → AreFieldsOf sig ts steps left right step → AreCongruent ts steps left right (step ∷ [])
fields_congruent sig ts steps left right step f =
    record {
      head = head.Field f.type f.place;
      sorts = f.sorts;
      first = f.first ∷ [];
      second = f.second ∷ [];
      left_is = f.left_is;
      right_is = f.right_is;
      equated = record { as_many = refl; one_each = refl; each = by_place };
    }
  where
    by_place : (i x y id : ℕ) → slice_get (f.first ∷ []) i ≡ Some x → slice_get (f.second ∷ []) i ≡ Some y → slice_get (step ∷ []) i ≡ Some id → StatesNames steps id x y
    by_place zero x y id a b c =
        subst (λ (z : ℕ × ℕ × ℕ). StatesNames steps z.2 z.0 z.1) (λ i. (same_Some f.first x a i, same_Some f.second y b i, same_Some step id c i))
        (record { by = f.states.by; there = f.states.there })
    by_place (suc i) x y id a b c = absurd (none-some x a)

-- what an element in a list is by its place
pub item_at : {A : Type 0} (xs : List A) (i : ℕ) (x : A) → i < length xs → x ≡ get_or xs i x → slice_get xs i ≡ Some x
item_at xs i x l e = slice_get-get_or xs i x l ∙ ap Some (sym e)

-- lists that are the same after a map up to a place, and there
pub map_more : {A B : Type 0} (f : A → B) (xs ys : List A) (i : ℕ) (x y : A) → slice_get xs i ≡ Some x → slice_get ys i ≡ Some y → map f (take i xs) ≡ map f (take i ys) → f x ≡ f y
    → map f (take (i + 1) xs) ≡ map f (take (i + 1) ys)
map_more f xs ys i x y a b before here =
    ap (map f) (sym (first_pushed xs (take i xs) (take i xs ++ x ∷ []) i x refl refl a)) ∙ map_push f (take i xs) x ∙ (λ z. before z ++ here z ∷ []) ∙ sym (map_push f (take i ys) y)
    ∙ ap (map f) (first_pushed ys (take i ys) (take i ys ++ y ∷ []) i y refl refl b)

module _ (sig : Signature) (nodes : List Node) (c : Contents) (store : IsStore sig nodes) (patterns : ArePatterns sig (terms (shapes nodes)) (held c)) (are : AreValues sig (system_in (terms (shapes nodes)) c)) where
  abbrev ts : List Term
  ts = terms (shapes nodes)

  abbrev V : Pattern → Value
  V = value_in c

  -- ---- patterns of one sort, and their names
  -- the sort that is known of a pattern's name
  entry_sort : (s : Sort) (p : Pattern) (n : ℕ) (o : IsOf sig ts c s p n) → o.entry.sort ≡ s
  entry_sort s p n o =
      let t = value_at ts n (of_within sig nodes c store patterns are s p n o) in
      patterns.sorts n t.0 s o.entry t.1 (sym (ap (sort_of sig) (name_term ts n t.0 t.1)) ∙ o.sorted) o.there

  -- names that are the same have one value
  pub same_values : (p q : Pattern) → AreOfOneSort sig ts c p q → IsTrue (alike c (name_of p) (name_of q)) → V p ≡ V q
  same_values p q both same =
      by_either (nat_eq (name_of p) (name_of q)) (alike_entries c (slice_get (held c) (name_of p)) (slice_get (held c) (name_of q))) same
      (λ e.
      let one : both.left.entry ≡ both.right.entry = same_Some both.left.entry both.right.entry (sym both.left.there ∙ ap (slice_get (held c)) (eqb-true (name_of p) (name_of q) e) ∙ both.right.there) in
      ap V (sym both.left.pattern ∙ ap (λ (x : Entry). x.pattern) one ∙ both.right.pattern))
      (λ f.
      let o = one_by c (slice_get (held c) (name_of p)) (slice_get (held c) (name_of q)) f in
      let first : o.first ≡ both.left.entry = same_Some o.first both.left.entry (sym o.first_is ∙ both.left.there) in
      let second : o.second ≡ both.right.entry = same_Some o.second both.right.entry (sym o.second_is ∙ both.right.there) in
      ap V (sym both.left.pattern) ∙ ap (λ (x : Entry). V x.pattern) (sym first) ∙ o.values_are ∙ ap (λ (x : Entry). V x.pattern) second ∙ ap V both.right.pattern)

  -- names of one sort and one value are the same
  pub same_names : (p q : Pattern) → AreOfOneSort sig ts c p q → V p ≡ V q → IsTrue (alike c (name_of p) (name_of q))
  same_names p q both e =
      from_known c (name_of p) (name_of q)
      (record {
        first = both.left.entry;
        second = both.right.entry;
        first_is = both.left.there;
        second_is = both.right.there;
        sorts = entry_sort both.sort p (name_of p) both.left ∙ sym (entry_sort both.sort q (name_of q) both.right);
        values_are = ap V both.left.pattern ∙ e ∙ sym (ap V both.right.pattern);
      })

  -- ---- a record
  record IsRecordSide (s : Sort) (ss : List Sort) (f : record_fields sig s ≡ Some ss) (p : Pattern) (n : ℕ) : Type 0 where
    pub parts : List Pattern
    pub is : p ≡ Fields n parts
    pub all : ArePlaced sig nodes c store patterns are ss (fields_from (is_record sig s ss f).type (is_record sig s ss f).sorts (named ts n) 0 (length ss)) parts

  record_side : (s : Sort) (ss : List Sort) (f : record_fields sig s ≡ Some ss) (p : Pattern) (n : ℕ) → IsOf sig ts c s p n → IsRecordSide s ss f p n
  record_side s ss f p n o =
      let t = value_at ts n (of_within sig nodes c store patterns are s p n o) in
      let is : named ts n ≡ t.0 = name_term ts n t.0 t.1 in
      let r = patterns.records n t.0 s ss o.entry t.1 (sym (ap (sort_of sig) is) ∙ o.sorted) o.there f in
      record {
        parts = r.0;
        is = sym o.pattern ∙ r.1;
        all = placed sig nodes c store patterns are s ss f n r.0 (subst (λ (u : Term). HavePatterns ts (held c) (field_terms s u (length ss)) r.0) (sym is) r.2);
      }

  -- no record's where the pattern isn't
  plain_sort : (s : Sort) (p : Pattern) (n : ℕ) → IsOf sig ts c s p n → ((ps : List Pattern) → p ≡ Fields n ps → ⊥) → record_fields sig s ≡ None
  plain_sort s p n o none = by_fields (record_fields sig s) refl
    where
      by_fields : (fs : Option (List Sort)) → record_fields sig s ≡ fs → record_fields sig s ≡ None
      by_fields None e = e
      by_fields (Some ss) e = let r = record_side s ss e p n o in absurd (none r.parts r.is)

  pub to_join : (p q : Pattern) → AreApart sig ts c p q → ((ps : List Pattern) → p ≡ Fields (name_of p) ps → ⊥) → AreToJoin sig ts c (name_of p) (name_of q)
  to_join p q h none =
      record {
        sort = h.both.sort;
        left = h.both.left.sorted;
        right = h.both.right.sorted;
        plain = plain_sort h.both.sort p (name_of p) h.both.left none;
        left_within = of_within sig nodes c store patterns are h.both.sort p (name_of p) h.both.left;
        right_within = of_within sig nodes c store patterns are h.both.sort q (name_of q) h.both.right;
        apart = by_bool (alike c (name_of p) (name_of q)) (λ e. absurd (h.differ (same_values p q h.both e))) (λ e. e);
      }

  -- ---- the fields of two records that have different values
  pub record ArePartedRecords (k n : ℕ) (ps qs : List Pattern) : Type 0 where
    pub sort : Sort
    pub sorts : List Sort
    pub record_is : IsRecord sig sort sorts
    pub lefts : ArePlaced sig nodes c store patterns are sorts (fields_from record_is.type record_is.sorts (named ts k) 0 (length sorts)) ps
    pub rights : ArePlaced sig nodes c store patterns are sorts (fields_from record_is.type record_is.sorts (named ts n) 0 (length sorts)) qs
    pub differ : map V ps ≢ map V qs

  pub parted_records : (p q : Pattern) (k : ℕ) (ps : List Pattern) → AreApart sig ts c p q → p ≡ Fields k ps → ArePartedRecords (name_of p) (name_of q) ps (parts_of q)
  parted_records p q k ps h is = by_fields (record_fields sig h.both.sort) refl
    where
      k_is : name_of p ≡ k
      k_is = ap name_of is ∙ name-Fields k ps

      by_fields : (fs : Option (List Sort)) → record_fields sig h.both.sort ≡ fs → ArePartedRecords (name_of p) (name_of q) ps (parts_of q)
      by_fields None e = absurd (no_record (made_of sig nodes c store patterns are h.both.sort p (name_of p) h.both.left))
        where
          no_record : IsMadeOf sig nodes c store patterns are h.both.sort p (name_of p) → ⊥
          no_record (a_number real f g) = number_fields (name_of p) k ps (sym g ∙ is)
          no_record (a_record ss os f g hs) = none-some ss (sym e ∙ f)
          no_record (a_leaf g) = leaf_fields (name_of p) k ps (sym g ∙ is)
      by_fields (Some ss) e =
          let a = record_side h.both.sort ss e p (name_of p) h.both.left in
          let b = record_side h.both.sort ss e q (name_of q) h.both.right in
          let r = is_record sig h.both.sort ss e in
          let first : a.parts ≡ ps = sym (parts-Fields (name_of p) a.parts) ∙ ap parts_of (sym a.is ∙ is) ∙ parts-Fields k ps in
          let second : b.parts ≡ parts_of q = sym (parts-Fields (name_of q) b.parts) ∙ ap parts_of (sym b.is) in
          let left_value : V p ≡ value.Fields (map V ps) = ap V is ∙ by-Fields (number_at c) (leaf_at c) k ps in
          let right_value : V q ≡ value.Fields (map V (parts_of q)) =
          ap V b.is ∙ by-Fields (number_at c) (leaf_at c) (name_of q) b.parts ∙ ap (λ (xs : List Pattern). value.Fields (map V xs)) second in
          record {
            sort = h.both.sort;
            sorts = ss;
            record_is = r;
            lefts = subst (ArePlaced sig nodes c store patterns are ss (fields_from r.type r.sorts (named ts (name_of p)) 0 (length ss))) first a.all;
            rights = subst (ArePlaced sig nodes c store patterns are ss (fields_from r.type r.sorts (named ts (name_of q)) 0 (length ss))) second b.all;
            differ = λ same. h.differ (left_value ∙ ap value.Fields same ∙ sym right_value);
          }

  -- the same for lists that are these fields
  pub parted_as : (p q : Pattern) (k : ℕ) (ps xs ys : List Pattern) → AreApart sig ts c p q → p ≡ Fields k ps → xs ≡ ps → ys ≡ parts_of q → ArePartedRecords (name_of p) (name_of q) xs ys
  parted_as p q k ps xs ys h is e f =
      subst (λ (z : List Pattern × List Pattern). ArePartedRecords (name_of p) (name_of q) z.0 z.1) (λ i. (sym e i, sym f i)) (parted_records p q k ps h is)

  -- ---- place by place
  pub record IsPlacedAt (ss : List Sort) (us : List Term) (i : ℕ) (p : Pattern) : Type 0 where
    pub sort : Sort
    pub sort_at : slice_get ss i ≡ Some sort
    pub term : Term
    pub term_at : slice_get us i ≡ Some term
    pub is : IsPlaced sig nodes c store patterns are sort term p

  placed_at : (ss : List Sort) (us : List Term) (ps : List Pattern) (i : ℕ) (p : Pattern) → ArePlaced sig nodes c store patterns are ss us ps → slice_get ps i ≡ Some p → IsPlacedAt ss us i p
  placed_at [] [] [] i p h e = absurd (none-some p e)
  placed_at (s ∷ ss) (u ∷ us) (q ∷ ps) zero p h e =
      record { sort = s; sort_at = refl; term = u; term_at = refl; is = subst (IsPlaced sig nodes c store patterns are s u) (same_Some q p e) h.0 }
  placed_at (s ∷ ss) (u ∷ us) (q ∷ ps) (suc i) p h e =
      let w = placed_at ss us ps i p h.1 e in
      record { sort = w.sort; sort_at = w.sort_at; term = w.term; term_at = w.term_at; is = w.is }
  placed_at [] [] (q ∷ ps) i p h e = absurd h
  placed_at [] (u ∷ us) ps i p h e = absurd h
  placed_at (s ∷ ss) [] ps i p h e = absurd h
  placed_at (s ∷ ss) (u ∷ us) [] i p h e = absurd h

  placed_long : (ss : List Sort) (us : List Term) (ps : List Pattern) → ArePlaced sig nodes c store patterns are ss us ps → length ps ≡ length ss
  placed_long [] [] [] h = refl
  placed_long (s ∷ ss) (u ∷ us) (q ∷ ps) h = ap suc (placed_long ss us ps h.1)
  placed_long [] [] (q ∷ ps) h = absurd h
  placed_long [] (u ∷ us) ps h = absurd h
  placed_long (s ∷ ss) [] ps h = absurd h
  placed_long (s ∷ ss) (u ∷ us) [] h = absurd h

  module _ (k n : ℕ) (ps qs : List Pattern) (r : ArePartedRecords k n ps qs) where
    abbrev us : List Term
    us = fields_from r.record_is.type r.record_is.sorts (named ts k) 0 (length r.sorts)

    abbrev ws : List Term
    ws = fields_from r.record_is.type r.record_is.sorts (named ts n) 0 (length r.sorts)

    both_at : (i : ℕ) (p q : Pattern) → slice_get ps i ≡ Some p → slice_get qs i ≡ Some q → AreOfOneSort sig ts c p q
    both_at i p q a b =
        let x = placed_at r.sorts us ps i p r.lefts a in
        let y = placed_at r.sorts ws qs i q r.rights b in
        let one : y.sort ≡ x.sort = same_Some y.sort x.sort (sym y.sort_at ∙ x.sort_at) in
        record { sort = x.sort; left = x.is.of; right = subst (λ (s : Sort). IsOf sig ts c s q (name_of q)) one y.is.of }

    pub lists_apart : AreListsApart sig ts c ps qs
    lists_apart =
        record {
          as_many = placed_long r.sorts ws qs r.rights ∙ sym (placed_long r.sorts us ps r.lefts);
          each = both_at;
          differ = r.differ;
        }

    -- the two fields in a place, whose records a step equates
    pub fields_of : (steps : List Step) (step i : ℕ) (p q : Pattern) → StatesEqual steps step k n → slice_get ps i ≡ Some p → slice_get qs i ≡ Some q → AreFieldsOf sig ts steps (name_of p) (name_of q) step
    fields_of steps step i p q e a b =
        let x = placed_at r.sorts us ps i p r.lefts a in
        let y = placed_at r.sorts ws qs i q r.rights b in
        let z : 0 + i ≡ i = omega arith in
        record {
          type = r.record_is.type;
          place = i;
          sorts = r.record_is.sorts;
          first = k;
          second = n;
          left_is = x.is.term ∙ field_in r.record_is.type r.record_is.sorts (named ts k) 0 (length r.sorts) i x.term x.term_at
              ∙ ap (λ (m : ℕ). Apply (head.Field r.record_is.type m) r.record_is.sorts (named ts k ∷ [])) z;
          right_is = y.is.term ∙ field_in r.record_is.type r.record_is.sorts (named ts n) 0 (length r.sorts) i y.term y.term_at
              ∙ ap (λ (m : ℕ). Apply (head.Field r.record_is.type m) r.record_is.sorts (named ts n ∷ [])) z;
          states = e;
          sort = x.sort;
          sorted = x.is.of.sorted;
        }

    pub places_apart : (i : ℕ) (p q : Pattern) → slice_get ps i ≡ Some p → slice_get qs i ≡ Some q → ArePlacesApart c ps qs i → AreApart sig ts c p q
    places_apart i p q a b d =
        record {
          both = both_at i p q a b;
          differ = λ e. d.differ (ap V (same_Some d.first p (sym d.first_there ∙ a)) ∙ e ∙ sym (ap V (same_Some d.second q (sym d.second_there ∙ b))));
        }

  -- ---- two names
  pub names_apart : (m n : ℕ) (s : Sort) → m < length ts → n < length ts → sort_of sig (named ts m) ≡ Some s → sort_of sig (named ts n) ≡ Some s → alike c m n ≡ false → (d e : Entry)
      → slice_get (held c) m ≡ Some d → slice_get (held c) n ≡ Some e → AreApart sig ts c d.pattern e.pattern × (name_of d.pattern ≡ m) × (name_of e.pattern ≡ n)
  names_apart m n s k l a b apart d e at there =
      let first : IsOf sig ts c s d.pattern m = record { sorted = a; entry = d; there = at; pattern = refl } in
      let second : IsOf sig ts c s e.pattern n = record { sorted = b; entry = e; there = there; pattern = refl } in
      let m_is : name_of d.pattern ≡ m = name_is sig nodes c store patterns are s d.pattern m first in
      let n_is : name_of e.pattern ≡ n = name_is sig nodes c store patterns are s e.pattern n second in
      let both : AreOfOneSort sig ts c d.pattern e.pattern =
      record { sort = s; left = subst (IsOf sig ts c s d.pattern) (sym m_is) first; right = subst (IsOf sig ts c s e.pattern) (sym n_is) second } in (
        record {
          both = both;
          differ = λ same.
              true_false (sym (same_names d.pattern e.pattern both same) ∙ (λ i. alike c (m_is i) (n_is i)) ∙ apart);
        },
        m_is,
        n_is,
      )

  -- the entry of a name
  pub entry_there : (n : ℕ) (e : Entry) → n < length ts → slice_get c.entries n ≡ Some e → slice_get (held c) n ≡ Some e
  entry_there n e l at =
      let w = value_at (held c) n (omega (arith, l, are.one_each, length-map (held c) (λ (x : Entry). value_in c x.pattern))) in
      w.1 ∙ sym (get_front c.entries c.taken n w.0 w.1).0 ∙ at

  pub entries_long : (n : ℕ) → n < length ts → n < length c.entries
  entries_long n l =
      let w = value_at (held c) n (omega (arith, l, are.one_each, length-map (held c) (λ (x : Entry). value_in c x.pattern))) in
      slice_get_within c.entries n w.0 (get_front c.entries c.taken n w.0 w.1).0
