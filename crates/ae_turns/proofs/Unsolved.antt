-- Names that are left to solve, where a value is put for one of them: it is so no longer, and no other name comes to be so.
use Rattle.std.specs.Prelude.{ℕ, pos, ◌<◌, ◌≤◌, ◌⊎◌, Bool, true, false, cond, List, ◌≡◌, ◌≢◌, length, slice_get, Option, Some, None}
use Rattle.std.proofs.Common.{refl, sym, ap, ◌∙◌, subst, arith, inl, inr}
use Rattle.std.proofs.lemmas.Bool.{cases_lt, eq-eqb, ne_eqb}
use Rattle.std.proofs.lemmas.List.{length-map, length-take, length-take-le}
use Rattle.std.proofs.lemmas.Option.{same_Some, slice_get_within}
use native.Mathlib.Decide.{ℕ_discrete}
use Rattle.ae_base.proofs.Decided.{pick_yes}
use Rattle.ae_base.proofs.ListFacts.{value_at as there}
use Rattle.ae_math.specs.Fractions.{zero_ℚ, one_ℚ, ◌+ℚ◌}
use Rattle.ae_math.specs.Forms.{single, factor, substitute}
use Rattle.ae_math.proofs.FractionLaws.{add_zero_q}
use Rattle.ae_math.proofs.FormLaws.{substitute_gone}
use Rattle.ae_math.proofs.Wholes.{one_whole, zero_whole, whole_same}
use Rattle.ae_core.specs.Sorts.{sort_of, is_numeric}
use Rattle.ae_core.specs.declared.terms.Sort.{Sort}
use Rattle.ae_core.specs.declared.terms.Term.{Term}
use Rattle.ae_core.specs.declared.problems.Signature.{Signature}
use Rattle.ae_num.specs.Forms.{meaning, SameMeaning, IsNormal}
use Rattle.ae_num.specs.declared.forms.Lin.{Lin}
use Rattle.ae_num.specs.declared.forms.Value.{Value, Leaf, Number}
use Rattle.ae_journal.specs.Systems.{IsName, record_fields}
use Rattle.ae_journal.specs.declared.systems.System.{System}
use Rattle.ae_store.specs.Stores.{Stored}
use Rattle.ae_settled.specs.Held.{Held}
use Rattle.ae_settled.specs.Valued.{AreValues, IsOwnNumber, IsOwnLeaf}
use Rattle.ae_settled.proofs.Leaves.{leaf_fields, number_fields}
use Rattle.ae_name_lines.proofs.Written.{no_leaf, same_leaf, same_number}
use Rattle.ae_theory.specs.Names.{terms_in}
use Rattle.ae_value_changes.specs.Put.{put_leaf, IsNumberPut, IsLeafPut}
use Rattle.ae_value_changes.proofs.Puts.{key_there, no_name, keys}
use Rattle.ae_value_table.specs.Table.{Contents, value_in, held, values}
use Rattle.ae_value_table.specs.declared.patterns.Entry.{Entry}
use Rattle.ae_value_fitting.specs.Fitting.{system_in, held_by}
use Rattle.ae_turns.specs.Budget.{HasSort, IsLeaf, own_number, own_leaf, IsUnsolved, a_leaf, a_new_name}

-- ---- the sort of a name by its value
module _ (sig : Signature) (y : System) (are : AreValues sig y) (n : ℕ) (t : Term) (s : Sort) (v : Value) (at : IsName y n t) (sorted : sort_of sig t ≡ Some s) (value : slice_get y.values n ≡ Some v) where
  numeric_by : (f : Lin) → v ≡ Number f → (b : Bool) → is_numeric s ≡ b → (o : Option (List Sort)) → record_fields sig s ≡ o → is_numeric s ≡ true
  numeric_by f e true m o p = m
  numeric_by f e false m None p = absurd (let l = are.others n t s v at sorted value m p in no_leaf l.leaf f (sym l.is ∙ e))
  numeric_by f e false m (Some ss) p = absurd (let r = are.records n t s ss v at sorted value p in number_fields f r.fields (sym e ∙ r.is))

  -- a number is of a numeric sort
  pub of_number : (f : Lin) → v ≡ Number f → is_numeric s ≡ true
  of_number f e = numeric_by f e (is_numeric s) refl (record_fields sig s) refl

  other_by : (k : ℕ) → v ≡ Leaf k → (b : Bool) → is_numeric s ≡ b → (o : Option (List Sort)) → record_fields sig s ≡ o → (is_numeric s ≡ false) × (record_fields sig s ≡ None)
  other_by k e true m o p = absurd (let r = are.numbers n t s v at sorted value m in no_leaf k r.form (sym e ∙ r.is))
  other_by k e false m None p = (m, p)
  other_by k e false m (Some ss) p = absurd (let r = are.records n t s ss v at sorted value p in leaf_fields k r.fields (sym e ∙ r.is))

  -- a leaf is of another one, no record's
  pub of_leaf : (k : ℕ) → v ≡ Leaf k → (is_numeric s ≡ false) × (record_fields sig s ≡ None)
  of_leaf k e = other_by k e (is_numeric s) refl (record_fields sig s) refl

-- ---- a name once
one_not_zero : one_ℚ ≡ zero_ℚ → ⊥
one_not_zero e = let f : pos 1 ≡ pos 0 = whole_same (pos 1) (pos 0) (sym one_whole ∙ e ∙ zero_whole) in cc f

single_own : (n : ℕ) → factor ℕ_discrete (single n) n ≡ one_ℚ
single_own n = pick_yes (ℕ_discrete n n) (one_ℚ +ℚ zero_ℚ) zero_ℚ refl ∙ add_zero_q one_ℚ

-- ---- values of the names of a store
module _ (s : Stored) (c : Contents) where
  -- a name of a value has one
  pub valued_below : (n : ℕ) (v : Value) → slice_get (values c) n ≡ Some v → n < c.taken
  valued_below n v at =
      omega (arith, slice_get_within (values c) n v at, length-map (held c) (λ (e : Entry). value_in c e.pattern), length-take c.taken c.entries)

  -- each name that is left to solve has a sort
  pub unsolved_sorted : (n : ℕ) → IsUnsolved s c n → HasSort s n
  unsolved_sorted n (a_leaf (own_number sort o)) = record { term = o.term; is = o.is; sort = sort; sorted = o.sort }
  unsolved_sorted n (a_leaf (own_leaf sort o)) = record { term = o.term; is = o.is; sort = sort; sorted = o.sort }
  unsolved_sorted n (a_new_name l h) = h

  -- where names are taken in, and those that had values keep them
  module _ (d : Contents) (within : c.taken ≤ length c.entries) (more : c.taken ≤ d.taken) (kept : (n : ℕ) (v : Value) → slice_get (values c) n ≡ Some v → slice_get (values d) n ≡ Some v) where
    had : (n : ℕ) → n < c.taken → (v : Value) × (slice_get (values c) n ≡ Some v)
    had n l = there (values c) n (omega (arith, l, length-map (held c) (λ (e : Entry). value_in c e.pattern), length-take-le c.taken c.entries within))

    leaf_taken : (n : ℕ) → n < c.taken → IsLeaf s d n → IsLeaf s c n
    leaf_taken n l (own_number sort o) =
        let u = had n l in
        let e : u.0 ≡ Number o.value = same_Some u.0 (Number o.value) (sym (kept n u.0 u.1) ∙ o.value_is) in
        own_number sort (record { term = o.term; is = o.is; sort = o.sort; value = o.value; value_is = u.1 ∙ ap (λ (v : Value). Some v) e; own = o.own })
    leaf_taken n l (own_leaf sort o) =
        let u = had n l in
        let e : u.0 ≡ Leaf n = same_Some u.0 (Leaf n) (sym (kept n u.0 u.1) ∙ o.own) in
        own_leaf sort (record { term = o.term; is = o.is; sort = o.sort; own = u.1 ∙ ap (λ (v : Value). Some v) e })

    by_place : (n : ℕ) → (n < c.taken) ⊎ (c.taken ≤ n) → IsLeaf s d n → IsUnsolved s c n
    by_place n (inl l) h = a_leaf (leaf_taken n l h)
    by_place n (inr l) h = a_new_name l (leaf_sorted h)
      where
        leaf_sorted : IsLeaf s d n → HasSort s n
        leaf_sorted (own_number sort o) = record { term = o.term; is = o.is; sort = sort; sorted = o.sort }
        leaf_sorted (own_leaf sort o) = record { term = o.term; is = o.is; sort = sort; sorted = o.sort }

    pub unsolved_taken : (n : ℕ) → IsUnsolved s d n → IsUnsolved s c n
    unsolved_taken n (a_leaf h) = by_place n (cases_lt n c.taken) h
    unsolved_taken n (a_new_name l h) = a_new_name (omega (arith, l, more)) h

-- ---- a value is put for a name
module _ (s : Stored) (c d : Contents) (before : AreValues s.signature (system_in (terms_in s) c)) (after : AreValues s.signature (system_in (terms_in s) d)) (taken : d.taken ≡ c.taken) where
  abbrev old : System
  old = system_in (terms_in s) c

  abbrev new : System
  new = system_in (terms_in s) d

  abbrev x : Held
  x = held_by s.signature s.nodes c

  value_before : (n : ℕ) (t : Term) → slice_get (terms_in s) n ≡ Some t → (v : Value) × (slice_get (values c) n ≡ Some v)
  value_before n t at = there (values c) n (omega (arith, slice_get_within (terms_in s) n t at, before.one_each))

  -- a number
  module _ (sort : Sort) (name : ℕ) (q : Lin) (put : IsNumberPut x sort name q (values d)) where
    abbrev Stays : Sort → ℕ → Type 0
    Stays r k = IsOwnNumber s.signature old r k × SameMeaning (substitute ℕ_discrete (single k) name (meaning q)) (single k)

    other_name : (k : ℕ) → SameMeaning (substitute ℕ_discrete (single k) name (meaning q)) (single k) → k ≢ name
    other_name k same e =
        let gone : factor ℕ_discrete (substitute ℕ_discrete (single k) name (meaning q)) name ≡ zero_ℚ = substitute_gone ℕ_discrete (single k) name (meaning q) (no_name x sort name q (values d) put) in
        one_not_zero (sym (single_own k) ∙ ap (λ (n : ℕ). factor ℕ_discrete (single k) n) e ∙ sym (same.factors name) ∙ gone)

    number_before : (r : Sort) (k : ℕ) → IsOwnNumber s.signature new r k → IsOwnNumber s.signature old r k × (k ≢ name)
    number_before r k o =
        let numeric = of_number s.signature new after k o.term r (Number o.value) o.is o.sort o.value_is o.value refl in
        let u = value_before k o.term o.is in
        let f = before.numbers k o.term r u.0 o.is o.sort u.1 numeric in
        let p = put.numbers k f.form (u.1 ∙ ap (λ (v : Value). Some v) f.is) in
        let g : p.0 ≡ o.value = same_number p.0 o.value (same_Some (Number p.0) (Number o.value) (sym p.1 ∙ o.value_is)) in
        let normal : IsNormal o.value = subst IsNormal g p.2 in
        let same : SameMeaning (meaning o.value) (substitute ℕ_discrete (meaning f.form) name (meaning q)) =
        subst (λ (h : Lin). SameMeaning (meaning h) (substitute ℕ_discrete (meaning f.form) name (meaning q))) g p.3 in
        let stays : Stays r k =
        key_there (Stays r) o.value.den k o.value.parts (keys x sort name q (values d) put r f.form o.value f.over normal same) (λ z. one_not_zero (sym (single_own k) ∙ sym (o.own.factors k) ∙ z)) in
        (stays.0, other_name k stays.1)

    leaf_before : (r : Sort) (k : ℕ) → IsOwnLeaf s.signature new r k → IsOwnLeaf s.signature old r k × (k ≢ name)
    leaf_before r k o =
        let other = of_leaf s.signature new after k o.term r (Leaf k) o.is o.sort o.own k refl in
        let u = value_before k o.term o.is in
        let l = before.others k o.term r u.0 o.is o.sort u.1 other.0 other.1 in
        let at : slice_get (values c) k ≡ Some (Leaf l.leaf) = u.1 ∙ ap (λ (v : Value). Some v) l.is in
        let e : l.leaf ≡ k = same_leaf l.leaf k (same_Some (Leaf l.leaf) (Leaf k) (sym (put.leaves k l.leaf at) ∙ o.own)) in (
          subst (IsOwnLeaf s.signature old r) e l.over,
          λ z. no_leaf l.leaf (put.own).value
              (same_Some (Leaf l.leaf) (Number (put.own).value) (sym at ∙ ap (λ (j : ℕ). slice_get (values c) j) z ∙ (put.own).value_is)),
        )

    pub number_solved : (k : ℕ) → IsUnsolved s d k → IsUnsolved s c k × (k ≢ name)
    number_solved k (a_leaf (own_number r o)) = let p = number_before r k o in (a_leaf (own_number r p.0), p.1)
    number_solved k (a_leaf (own_leaf r o)) = let p = leaf_before r k o in (a_leaf (own_leaf r p.0), p.1)
    number_solved k (a_new_name l h) = (
      a_new_name (omega (arith, l, taken)) h,
      λ e. let below = valued_below s c name (Number (put.own).value) (put.own).value_is in omega (arith, l, taken, below, e),
    )

  -- a name
  module _ (sort : Sort) (name m : ℕ) (put : IsLeafPut x sort name m (values d)) where
    number_stays : (r : Sort) (k : ℕ) → IsOwnNumber s.signature new r k → IsOwnNumber s.signature old r k × (k ≢ name)
    number_stays r k o =
        let numeric = of_number s.signature new after k o.term r (Number o.value) o.is o.sort o.value_is o.value refl in
        let u = value_before k o.term o.is in
        let f = before.numbers k o.term r u.0 o.is o.sort u.1 numeric in
        let at : slice_get (values c) k ≡ Some (Number f.form) = u.1 ∙ ap (λ (v : Value). Some v) f.is in
        let e : o.value ≡ f.form = same_number o.value f.form (same_Some (Number o.value) (Number f.form) (sym o.value_is ∙ put.numbers k f.form at)) in (
          record { term = o.term; is = o.is; sort = o.sort; value = f.form; value_is = at; own = subst (λ (h : Lin). SameMeaning (meaning h) (single k)) e o.own },
          λ z. no_leaf name f.form (same_Some (Leaf name) (Number f.form) (sym (put.own).own ∙ ap (λ (j : ℕ). slice_get (values c) j) (sym z) ∙ at)),
        )

    leaf_by : (r : Sort) (k l : ℕ) → IsOwnLeaf s.signature old r l → put_leaf name m l ≡ k → Dec (l ≡ name) → IsLeaf s c k × (k ≢ name)
    leaf_by r k l over e (yes z) =
        let is : m ≡ k = sym (ap (λ b. cond b m l) (eq-eqb l name z)) ∙ e in
        (own_leaf sort (subst (IsOwnLeaf s.signature old sort) is put.over), λ w. put.differ (is ∙ w))
    leaf_by r k l over e (no z) =
        let is : l ≡ k = sym (ap (λ b. cond b m l) (ne_eqb l name z)) ∙ e in
        (own_leaf r (subst (IsOwnLeaf s.signature old r) is over), λ w. z (is ∙ w))

    leaf_stays : (r : Sort) (k : ℕ) → IsOwnLeaf s.signature new r k → IsLeaf s c k × (k ≢ name)
    leaf_stays r k o =
        let other = of_leaf s.signature new after k o.term r (Leaf k) o.is o.sort o.own k refl in
        let u = value_before k o.term o.is in
        let l = before.others k o.term r u.0 o.is o.sort u.1 other.0 other.1 in
        let at : slice_get (values c) k ≡ Some (Leaf l.leaf) = u.1 ∙ ap (λ (v : Value). Some v) l.is in
        let e : put_leaf name m l.leaf ≡ k =
        same_leaf (put_leaf name m l.leaf) k (same_Some (Leaf (put_leaf name m l.leaf)) (Leaf k) (sym (put.leaves k l.leaf at) ∙ o.own)) in
        leaf_by r k l.leaf l.over e (ℕ_discrete l.leaf name)

    pub leaf_solved : (k : ℕ) → IsUnsolved s d k → IsUnsolved s c k × (k ≢ name)
    leaf_solved k (a_leaf (own_number r o)) = let p = number_stays r k o in (a_leaf (own_number r p.0), p.1)
    leaf_solved k (a_leaf (own_leaf r o)) = let p = leaf_stays r k o in (a_leaf p.0, p.1)
    leaf_solved k (a_new_name l h) = (
      a_new_name (omega (arith, l, taken)) h,
      λ e. let below = valued_below s c name (Leaf name) (put.own).own in omega (arith, l, taken, below, e),
    )
