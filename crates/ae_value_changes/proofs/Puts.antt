-- A number and a leaf put for a name are such changes.
use Rattle.std.specs.Prelude.{ℕ, ℤ, pos, ◌≡◌, ◌≢◌, cond, nat_eq, List, [], ◌∷◌, map, slice_get, Some}
use Rattle.std.specs.List.{AllByRecursion}
use Rattle.std.proofs.Common.{refl, sym, ap, ◌∙◌, subst}
use Rattle.std.proofs.lemmas.Bool.{eqb-true, eq-eqb}
use Rattle.std.proofs.lemmas.Option.{same_Some}
use native.Mathlib.Decide.{ℕ_discrete}
use Rattle.ae_base.specs.Decided.{pick}
use Rattle.ae_base.proofs.Decided.{pick_no}
use Rattle.ae_base.proofs.Tests.{by_bool}
use Rattle.ae_math.specs.Fractions.{ℚ, zero_ℚ, one_ℚ, ratio, ℚ_discrete, ◌+ℚ◌, ◌*ℚ◌}
use Rattle.ae_math.specs.Forms.{Form, number, single, plus, scale, factor, factor_in, substitute}
use Rattle.ae_math.proofs.FractionLaws.{zero_add_q, mul_zero_q, zero_mul_q}
use Rattle.ae_math.proofs.FormLaws.{same_refl, substitute-same, substitute_plus, substitute_scale, substitute_absent, substitute_gone, substitute_elsewhere}
use Rattle.ae_math.proofs.Wholes.{ratio_is_zero}
use Rattle.ae_core.specs.Sorts.{sort_of}
use Rattle.ae_core.specs.declared.terms.Sort.{Sort}
use Rattle.ae_core.specs.declared.terms.Term.{Term}
use Rattle.ae_core.specs.declared.problems.Signature.{Signature}
use Rattle.ae_num.specs.Forms.{meaning, SameMeaning, IsNormal, IsRising, factor_of}
use Rattle.ae_num.specs.declared.forms.Part.{Part}
use Rattle.ae_num.specs.declared.forms.Lin.{Lin}
use Rattle.ae_num.specs.declared.forms.Value.{Value, Number}
use Rattle.ae_num.proofs.MeaningLaws.{factor_meaning}
use Rattle.ae_num.proofs.PairLaws.{absent, factor_head}
use Rattle.ae_journal.specs.Systems.{IsName, IsPredicateName}
use Rattle.ae_journal.specs.declared.systems.System.{System}
use Rattle.ae_store.specs.Stores.{IsStore}
use Rattle.ae_settled.specs.Held.{Held, system_of}
use Rattle.ae_settled.specs.Valued.{AreValues, IsOwnNumber, IsOwnLeaf}
use Rattle.ae_evaluation.proofs.Exact.{forms-Number}
use Rattle.ae_settled.proofs.Sorts.{predicate_unsorted}
use Rattle.ae_settled.proofs.Leaves.{normal}
use Rattle.ae_value_changes.specs.Put.{IsNumberPut, IsLeafPut, NumbersPut, LeavesPut, with_values, put_leaf}
use Rattle.ae_value_changes.proofs.Maps.{IsMap}
use Rattle.ae_value_changes.proofs.Kept.{IsChange, kept}

-- ---- keys of forms
-- what holds of each key with a factor holds of the keys of the parts
each_key : (P : ℕ → Type 0) (ps : List Part) → IsRising ps → AllByRecursion (λ p. p.factor ≢ pos 0) ps → ((k : ℕ) → factor_of ps k ≢ pos 0 → P k) → AllByRecursion (λ p. P p.key) ps
each_key P [] r n h = tt
each_key P (p ∷ ps) r n h = (
  h p.key (λ e. n.0 (sym (factor_head p ps) ∙ e)),
  each_key P ps r.1 n.1 (λ k m. by_bool (nat_eq p.key k)
      (λ t. absurd (m (ap (factor_of ps) (sym (eqb-true p.key k t)) ∙ absent p.key ps r.0)))
      (λ t. h k (λ e. m (sym (ap (λ b. cond b p.factor (factor_of ps k)) t) ∙ e)))),
)

-- a key with a factor is that of a part
key_by : (P : ℕ → Type 0) (k key : ℕ) (x y : ℚ) (c : Dec (key ≡ k)) → P key → (¬ (y ≡ zero_ℚ) → P k) → ¬ (pick c x y ≡ zero_ℚ) → P k
key_by P k key x y (yes e) here further n = subst P e here
key_by P k key x y (no e) here further n = further n

pub key_there : (P : ℕ → Type 0) (d : ℤ) (k : ℕ) (ps : List Part) → AllByRecursion (λ p. P p.key) ps → ¬ (factor_in ℕ_discrete (map (λ p. (p.key, ratio p.factor d)) ps) k ≡ zero_ℚ) → P k
key_there P d k [] a n = absurd (n refl)
key_there P d k (p ∷ ps) a n =
    key_by P k p.key (ratio p.factor d +ℚ factor_in ℕ_discrete (map (λ p. (p.key, ratio p.factor d)) ps) k) (factor_in ℕ_discrete (map (λ p. (p.key, ratio p.factor d)) ps) k) (ℕ_discrete p.key k) a.0 (key_there P d k ps a.1) n

-- no factor of a key that no part has
none_there : (d : ℤ) (k : ℕ) (ps : List Part) → AllByRecursion (λ p. p.key ≢ k) ps → factor_in ℕ_discrete (map (λ p. (p.key, ratio p.factor d)) ps) k ≡ zero_ℚ
none_there d k [] a = refl
none_there d k (p ∷ ps) a = pick_no (ℕ_discrete p.key k) (ratio p.factor d +ℚ factor_in ℕ_discrete (map (λ p. (p.key, ratio p.factor d)) ps) k) (factor_in ℕ_discrete (map (λ p. (p.key, ratio p.factor d)) ps) k) a.0 ∙ none_there d k ps a.1

factor_there : (g : Lin) (k : ℕ) → IsNormal g → factor_of g.parts k ≢ pos 0 → ¬ (factor ℕ_discrete (meaning g) k ≡ zero_ℚ)
factor_there g k n m e = m (ratio_is_zero (factor_of g.parts k) g.den n.positive (sym (factor_meaning g k n.rising) ∙ e))

other_single : (k name : ℕ) → k ≢ name → factor ℕ_discrete (single k) name ≡ zero_ℚ
other_single k name n = pick_no (ℕ_discrete k name) (one_ℚ +ℚ zero_ℚ) zero_ℚ n

-- ---- names of terms
number_sort : (sig : Signature) (y : System) (s o : Sort) (n : ℕ) → IsOwnNumber sig y s n → IsOwnNumber sig y o n → s ≡ o
number_sort sig y s o n a b = let z : a.term ≡ b.term = same_Some a.term b.term (sym a.is ∙ b.is) in same_Some s o (sym a.sort ∙ ap (sort_of sig) z ∙ b.sort)

leaf_sort : (sig : Signature) (y : System) (s o : Sort) (n : ℕ) → IsOwnLeaf sig y s n → IsOwnLeaf sig y o n → s ≡ o
leaf_sort sig y s o n a b = let z : a.term ≡ b.term = same_Some a.term b.term (sym a.is ∙ b.is) in same_Some s o (sym a.sort ∙ ap (sort_of sig) z ∙ b.sort)

-- ---- a number
module _ (x : Held) (s : Sort) (name : ℕ) (q : Lin) (vs : List Value) (put : IsNumberPut x s name q vs) where
  abbrev pub T : Form ℕ → Form ℕ
  T f = substitute ℕ_discrete f name (meaning q)

  is_map : IsMap T
  is_map = record {
    same = λ f g e. substitute-same ℕ_discrete f g name (meaning q) (meaning q) e (same_refl ℕ_discrete (meaning q));
    sum = λ f g. substitute_plus ℕ_discrete f g name (meaning q);
    multiple = λ c f. substitute_scale ℕ_discrete c f name (meaning q);
    fixed = λ c. substitute_absent ℕ_discrete (number c) name (meaning q) refl;
  }

  pub no_name : factor ℕ_discrete (meaning q) name ≡ zero_ℚ
  no_name = none_there q.den name q.parts put.other

  abbrev pub Own : Sort → ℕ → Type 0
  Own o k = IsOwnNumber x.signature (system_of x) o k

  key_own : (o : Sort) (f : Lin) (k : ℕ) → AllByRecursion (λ p. Own o p.key) f.parts → ¬ (factor ℕ_discrete (meaning f) k +ℚ factor ℕ_discrete (meaning f) name *ℚ factor ℕ_discrete (meaning q) k ≡ zero_ℚ) → Own o k
  key_own o f k over n = by_factor (ℚ_discrete (factor ℕ_discrete (meaning f) k) zero_ℚ)
    where
      -- neither the name's factor nor the key's in its value is 0
      of_value : factor ℕ_discrete (meaning f) k ≡ zero_ℚ → Own o k
      of_value e =
          let z : factor ℕ_discrete (meaning f) k +ℚ factor ℕ_discrete (meaning f) name *ℚ factor ℕ_discrete (meaning q) k ≡ factor ℕ_discrete (meaning f) name *ℚ factor ℕ_discrete (meaning q) k =
          ap (λ y. y +ℚ factor ℕ_discrete (meaning f) name *ℚ factor ℕ_discrete (meaning q) k) e ∙ zero_add_q (factor ℕ_discrete (meaning f) name *ℚ factor ℕ_discrete (meaning q) k) in
          let own = key_there (Own o) f.den name f.parts over (λ w. n (z ∙ ap (λ y. y *ℚ factor ℕ_discrete (meaning q) k) w ∙ zero_mul_q (factor ℕ_discrete (meaning q) k))) in
          let there = key_there (Own s) q.den k q.parts put.over (λ w. n (z ∙ ap (λ y. factor ℕ_discrete (meaning f) name *ℚ y) w ∙ mul_zero_q (factor ℕ_discrete (meaning f) name))) in
          subst (λ r. Own r k) (number_sort x.signature (system_of x) s o name put.own own) there

      by_factor : Dec (factor ℕ_discrete (meaning f) k ≡ zero_ℚ) → Own o k
      by_factor (yes e) = of_value e
      by_factor (no e) = key_there (Own o) f.den k f.parts over e

  pub keys : (o : Sort) (f g : Lin) → AllByRecursion (λ p. Own o p.key) f.parts → IsNormal g → SameMeaning (meaning g) (T (meaning f))
      → AllByRecursion (λ p. Own o p.key × SameMeaning (T (single p.key)) (single p.key)) g.parts
  keys o f g over normal same =
      each_key (λ k. Own o k × SameMeaning (T (single k)) (single k)) g.parts normal.rising normal.nonzero
      (λ k m. by_key k (factor_there g k normal m) (ℕ_discrete name k))
    where
      by_key : (k : ℕ) → ¬ (factor ℕ_discrete (meaning g) k ≡ zero_ℚ) → Dec (name ≡ k) → Own o k × SameMeaning (T (single k)) (single k)
      by_key k n (yes e) = absurd (n (ap (factor ℕ_discrete (meaning g)) (sym e) ∙ same.factors name ∙ substitute_gone ℕ_discrete (meaning f) name (meaning q) no_name))
      by_key k n (no e) = (
        key_own o f k over (λ z. n (same.factors k ∙ substitute_elsewhere ℕ_discrete (meaning f) name (meaning q) k e ∙ z)),
        substitute_absent ℕ_discrete (single k) name (meaning q) (other_single k name (λ z. e (sym z))),
      )

  change : IsChange T (λ k. k) x vs
  change = record { one_each = put.one_each; numbers = put.numbers; leaves = put.leaves; records = put.records; keys = keys; names = λ o k h. (h, refl); predicates = λ n t e p. refl }

  pub number_put : IsStore x.signature x.nodes → AreValues x.signature (system_of x) → AreValues x.signature (system_of (with_values x vs))
  number_put store values = kept T is_map (λ k. k) x store values vs change

-- ---- a leaf
module _ (x : Held) (s : Sort) (name m : ℕ) (vs : List Value) (store : IsStore x.signature x.nodes) (values : AreValues x.signature (system_of x)) (put : IsLeafPut x s name m vs) where
  abbrev same_form : Form ℕ → Form ℕ
  same_form f = f

  stays : IsMap same_form
  stays = record { same = λ f g e. e; sum = λ f g. same_refl ℕ_discrete (plus f g); multiple = λ c f. same_refl ℕ_discrete (scale c f); fixed = λ c. same_refl ℕ_discrete (number c) }

  elsewhere : (k : ℕ) → ¬ (k ≡ name) → put_leaf name m k ≡ k
  elsewhere k n = by_bool (nat_eq k name) (λ t. absurd (n (eqb-true k name t))) (λ t. ap (λ b. cond b m k) t)

  at_name : (k : ℕ) → k ≡ name → put_leaf name m k ≡ m
  at_name k e = ap (λ b. cond b m k) (eq-eqb k name e)

  leaf_numbers : (n : ℕ) (f : Lin) → slice_get x.values n ≡ Some (Number f) → (g : Lin) × (slice_get vs n ≡ Some (Number g)) × IsNormal g × SameMeaning (meaning g) (meaning f)
  leaf_numbers n f e = (f, put.numbers n f e, (subst (AllByRecursion IsNormal) (forms-Number f) (normal x store values n (Number f) e)).0, same_refl ℕ_discrete (meaning f))

  leaf_keys : (o : Sort) (f g : Lin) → AllByRecursion (λ p. IsOwnNumber x.signature (system_of x) o p.key) f.parts → IsNormal g → SameMeaning (meaning g) (meaning f)
      → AllByRecursion (λ p. IsOwnNumber x.signature (system_of x) o p.key × SameMeaning (single p.key) (single p.key)) g.parts
  leaf_keys o f g over normal_is same =
      each_key (λ k. IsOwnNumber x.signature (system_of x) o k × SameMeaning (single k) (single k)) g.parts normal_is.rising normal_is.nonzero
      (λ k n. (key_there (λ j. IsOwnNumber x.signature (system_of x) o j) f.den k f.parts over (λ z. factor_there g k normal_is n (same.factors k ∙ z)), same_refl ℕ_discrete (single k)))

  leaf_names : (o : Sort) (k : ℕ) → IsOwnLeaf x.signature (system_of x) o k → IsOwnLeaf x.signature (system_of x) o (put_leaf name m k) × (put_leaf name m (put_leaf name m k) ≡ put_leaf name m k)
  leaf_names o k h = by_name (ℕ_discrete k name)
    where
      by_name : Dec (k ≡ name) → IsOwnLeaf x.signature (system_of x) o (put_leaf name m k) × (put_leaf name m (put_leaf name m k) ≡ put_leaf name m k)
      by_name (yes e) =
          let r : s ≡ o = leaf_sort x.signature (system_of x) s o name put.own (subst (IsOwnLeaf x.signature (system_of x) o) e h) in
          (subst (IsOwnLeaf x.signature (system_of x) o) (sym (at_name k e)) (subst (λ q. IsOwnLeaf x.signature (system_of x) q m) r put.over), ap (put_leaf name m) (at_name k e) ∙ elsewhere m put.differ ∙ sym (at_name k e))
      by_name (no n) = (subst (IsOwnLeaf x.signature (system_of x) o) (sym (elsewhere k n)) h, ap (put_leaf name m) (elsewhere k n))

  leaf_predicates : (n : ℕ) (t : Term) → IsName (system_of x) n t → IsPredicateName x.signature t → put_leaf name m n ≡ n
  leaf_predicates n t e p =
      elsewhere n (λ z. let w : (put.own).term ≡ t = same_Some (put.own).term t (sym (put.own).is ∙ ap (slice_get (system_of x).names) (sym z) ∙ e) in predicate_unsorted x.signature t s p (ap (sort_of x.signature) (sym w) ∙ (put.own).sort))

  leaf_change : IsChange same_form (put_leaf name m) x vs
  leaf_change = record { one_each = put.one_each; numbers = leaf_numbers; leaves = put.leaves; records = put.records; keys = leaf_keys; names = leaf_names; predicates = leaf_predicates }

  pub leaf_put : AreValues x.signature (system_of (with_values x vs))
  leaf_put = kept same_form stays (put_leaf name m) x store values vs leaf_change

pub numbers_put : NumbersPut
numbers_put x s name q vs store values put = number_put x s name q vs put store values

pub leaves_put : LeavesPut
leaves_put x s name m vs store values put = leaf_put x s name m vs store values put
