-- Names that are alike stand in one bucket.
use Rattle.std.specs.Prelude.{ℕ, ◌<◌, ◌≤◌, ◌≡◌, ◌⊎◌, ◌%◌, List, [], ◌∷◌, ◌++◌, length, slice_get, get_or, Some, IsTrue, nat_eq}
use Rattle.std.specs.List.{Contains}
use Rattle.std.proofs.Common.{sym, ap, ◌∙◌, subst, arith, inl, inr}
use Rattle.std.proofs.lemmas.Bool.{cases_lt, eqb-true}
use Rattle.std.proofs.lemmas.List.{length-append, get_or_read}
use Rattle.std.proofs.Math.Nat.{mod-lt}
use Rattle.std.proofs.lemmas.Option.{same_Some, slice_get_within}
use Rattle.ae_base.proofs.ListFacts.{get_before, get_seam, value_at}
use Rattle.ae_base.proofs.Tests.{by_either}
use Rattle.ae_value_table.specs.Table.{Contents}
use Rattle.ae_value_table.specs.Alike.{alike, alike_entries, IsLeastAlike}
use Rattle.ae_value_table.proofs.Least.{alike_itself, least_more}
use Rattle.ae_state.proofs.Alikeness.{at, one_by, alike_turned, alike_through}
use Rattle.ae_least_names.specs.Keys.{value_key, entry_key, key}
use Rattle.ae_least_names.specs.Buckets.{IsMet, slot, AreMet}

module _ (c : Contents) where
  key_alike : (m n : ℕ) → IsTrue (alike c m n) → key c m ≡ key c n
  key_alike m n h =
      by_either (nat_eq m n) (alike_entries c (at c m) (at c n)) h (λ e. ap (key c) (eqb-true m n e))
      (λ f. let o = one_by c (at c m) (at c n) f in ap (entry_key c) o.first_is ∙ ap value_key o.values_are ∙ sym (ap (entry_key c) o.second_is))

  slot_alike : (m n : ℕ) → IsTrue (alike c m n) → slot c m ≡ slot c n
  slot_alike m n h = ap (λ k. k % c.taken) (key_alike m n h)

  pub met_least : (reps : List ℕ) (name r : ℕ) → ((n s : ℕ) → slice_get reps n ≡ Some s → IsLeastAlike c n s) → IsMet c reps name r → IsLeastAlike c name r
  met_least reps name r all m =
      let l = all m.other r m.there in
      record { alike_to = alike_through c r m.other name l.alike_to m.same; first = λ k h. l.first k (alike_through c k name m.other h (alike_turned c m.other name m.same)) }

  module _ (reps : List ℕ) (old : List (List ℕ)) (name : ℕ) (one_each : length reps ≡ name) (met : AreMet c reps old) where
    pub own_least : ((m : ℕ) → Contains (get_or old (slot c name) []) m → IsTrue (alike c m name) → m < length reps → ⊥) → IsLeastAlike c name name
    own_least none = record { alike_to = alike_itself c name; first = λ k h. by_order k h (cases_lt k name) }
      where
        by_order : (k : ℕ) → IsTrue (alike c k name) → (k < name) ⊎ (name ≤ k) → name ≤ k
        by_order k h (inr l) = l
        by_order k h (inl l) =
            let v = value_at reps k (let w : k < length reps = omega (arith, l, one_each) in w) in
            let least = met.least k v.0 v.1 in
            let alike_to = alike_through c v.0 k name least.alike_to h in
            let below : v.0 < length reps = let w = least.first k (alike_itself c k) in omega (arith, w, l, one_each) in
            absurd (none v.0 (subst (λ (s : ℕ). Contains (get_or old s []) v.0) (slot_alike v.0 name alike_to) (met.listed k v.0 v.1)) alike_to below)

    pub met_more : (r : ℕ) (new : List (List ℕ)) → IsLeastAlike c name r → ((k m : ℕ) → Contains (get_or old k []) m → Contains (get_or new k []) m) → Contains (get_or new (slot c r) []) r
        → (more : List ℕ) → more ≡ reps ++ r ∷ [] → AreMet c more new
    met_more r new here kept own more is = record { least = least_more c reps more name r one_each met.least is here; listed = λ n s e. by_order n s e (cases_lt n (length reps)) }
      where
        there : (n s : ℕ) → slice_get more n ≡ Some s → slice_get (reps ++ r ∷ []) n ≡ Some s
        there n s e = ap (λ (xs : List ℕ). slice_get xs n) (sym is) ∙ e

        by_order : (n s : ℕ) → slice_get more n ≡ Some s → (n < length reps) ⊎ (length reps ≤ n) → Contains (get_or new (slot c s) []) s
        by_order n s e (inl b) = kept (slot c s) s (met.listed n s (sym (get_before reps (r ∷ []) n b) ∙ there n s e))
        by_order n s e (inr b) =
            let w = slice_get_within (reps ++ r ∷ []) n s (there n s e) in
            let k : n ≡ length reps = omega (arith, w, b, length-append reps (r ∷ [])) in
            let same : r ≡ s = same_Some r s (sym (get_seam reps [] r) ∙ ap (slice_get (reps ++ r ∷ [])) (sym k) ∙ there n s e) in
            subst (λ (z : ℕ). Contains (get_or new (slot c z) []) z) same own

    -- a name that another stands for
    pub met_shared : (r : ℕ) → IsMet c reps name r → (more : List ℕ) → more ≡ reps ++ r ∷ [] → AreMet c more old
    met_shared r m = met_more r old (met_least reps name r met.least m) (λ k n h. h) (met.listed m.other r m.there)

    -- a name that is its own, in its bucket
    pub met_put : (new : List (List ℕ)) → IsLeastAlike c name name → ((k m : ℕ) → Contains (get_or old k []) m → Contains (get_or new k []) m) → (place : ℕ) → place ≡ slot c name
        → Contains (get_or new place []) name → (more : List ℕ) → more ≡ reps ++ name ∷ [] → AreMet c more new
    met_put new here kept place at own = met_more name new here kept (subst (λ (k : ℕ). Contains (get_or new k []) name) at own)

    -- where no name of its bucket is alike
    pub least_alone : (place : ℕ) (names r : List ℕ) → place ≡ slot c name → length old ≡ c.taken → name < c.taken → r ≡ get_or old place r → names ≡ r
        → ((m : ℕ) → Contains names m → IsTrue (alike c m name) → m < length reps → ⊥) → IsLeastAlike c name name
    least_alone place names r at count within here are none =
        let below : place < length old = subst (λ (k : ℕ). place < k) (sym count) (subst (λ (k : ℕ). k < c.taken) (sym at) (mod-lt (key c name) (omega (arith, within)))) in
        let is : get_or old (slot c name) [] ≡ names = sym (are ∙ get_or_read old place r below here [] ∙ ap (λ k. get_or old k []) at) in
        own_least (λ m h. none m (subst (λ (ns : List ℕ). Contains ns m) is h))
