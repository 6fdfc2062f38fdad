-- Names that were taken before keep their values, where they keep their numbers and leaves.
use Rattle.std.specs.Prelude.{ℕ, ◌<◌, ◌≤◌, ◌≡◌, List, [], ◌∷◌, length, map, take, slice_get, Some}
use Rattle.std.proofs.Common.{refl, sym, ap, ◌∙◌, subst, arith}
use Rattle.std.proofs.lemmas.List.{length-map, length-take-le, get_or-take}
use Rattle.std.proofs.lemmas.Option.{same_Some, slice_get_within, slice_get_read, get_or_from_slice_get}
use Rattle.ae_base.proofs.ListFacts.{value_at, get_map, get_front}
use Rattle.ae_core.specs.declared.terms.Term.{Term}
use Rattle.ae_core.specs.declared.problems.Signature.{Signature}
use Rattle.ae_num.specs.declared.forms.Value.{Value}
use Rattle.ae_num.specs.declared.forms.Value as value
use Rattle.ae_journal.specs.declared.systems.System.{System}
use Rattle.ae_settled.specs.Valued.{HaveValues, AreValues}
use Rattle.ae_store.specs.Terms.{HasOneName}
use Rattle.ae_value_table.specs.declared.patterns.Pattern.{Pattern}
use Rattle.ae_value_table.specs.declared.patterns.Entry.{Entry}
use Rattle.ae_value_table.specs.Table.{Contents, held, number_at, leaf_at, value_in, values}
use Rattle.ae_value_table.proofs.ValueLaws.{by-Number, by-Leaf, by-Fields}
use Rattle.ae_value_fitting.specs.Fitting.{system_in}
use Rattle.ae_patterns.specs.Patterns.{IsPatternOf, of_number, of_record, of_other, of_predicate, ArePatternsOf, no_term, a_term, AreEntriesOf}

take_there : {A : Type 0} (xs : List A) (n k : ℕ) (x : A) → k < n → n ≤ length xs → slice_get xs k ≡ Some x → slice_get (take n xs) k ≡ Some x
take_there xs n k x l w e =
    let long : length (take n xs) ≡ n = length-take-le n xs w in
    slice_get_read (take n xs) (length (take n xs)) k x refl (omega (arith, l, long)) (sym (get_or-take n xs k x l ∙ get_or_from_slice_get xs k x x e))

module _ (sig : Signature) (ts : List Term) (one : HasOneName ts) (c d : Contents) (within : c.taken ≤ length ts) (are : AreValues sig (system_in (take c.taken ts) c))
    (numbers : (n : ℕ) → n < c.taken → number_at d n ≡ number_at c n) (leaves : (n : ℕ) → n < c.taken → leaf_at d n ≡ leaf_at c n) where
  abbrev y : System
  y = system_in (take c.taken ts) c

  -- the value of a name that has one
  value_there : (n : ℕ) (t : Term) → n < c.taken → slice_get ts n ≡ Some t → (v : Value) × (slice_get (values c) n ≡ Some v)
  value_there n t l at =
      let w : n < length (take c.taken ts) = slice_get_within (take c.taken ts) n t (take_there ts c.taken n t l within at) in
      value_at (values c) n (omega (arith, w, are.one_each))

  mutual
    pattern_kept : (n : ℕ) (p : Pattern) → IsPatternOf sig ts n p → n < c.taken → value_in d p ≡ value_in c p
    pattern_kept _ _ (of_number n p t s at o m e) l =
        ap (value_in d) e ∙ by-Number (number_at d) (leaf_at d) n ∙ ap value.Number (numbers n l) ∙ sym (ap (value_in c) e ∙ by-Number (number_at c) (leaf_at c) n)
    pattern_kept _ _ (of_other n p t s at o m f e) l = ap (value_in d) e ∙ by-Leaf (number_at d) (leaf_at d) n ∙ ap value.Leaf (leaves n l) ∙ sym (ap (value_in c) e ∙ by-Leaf (number_at c) (leaf_at c) n)
    pattern_kept _ _ (of_predicate n p t at g e) l = ap (value_in d) e ∙ by-Leaf (number_at d) (leaf_at d) n ∙ ap value.Leaf (leaves n l) ∙ sym (ap (value_in c) e ∙ by-Leaf (number_at c) (leaf_at c) n)
    pattern_kept _ _ (of_record n p t s ss ps at o f hs e) l =
        let v = value_there n t l at in
        let r = are.records n t s ss v.0 (take_there ts c.taken n t l within at) o v.1 f in
        ap (value_in d) e ∙ by-Fields (number_at d) (leaf_at d) n ps ∙ ap value.Fields (patterns_kept _ ps hs r.fields r.are) ∙ sym (ap (value_in c) e ∙ by-Fields (number_at c) (leaf_at c) n ps)

    patterns_kept : (us : List Term) (ps : List Pattern) → ArePatternsOf sig ts us ps → (vs : List Value) → HaveValues y us vs → map (value_in d) ps ≡ map (value_in c) ps
    patterns_kept _ _ no_term vs h = refl
    patterns_kept _ _ (a_term m u us p ps at i is) [] h = absurd h
    patterns_kept _ _ (a_term m u us p ps at i is) (v ∷ vs) h =
        let g = get_front ts c.taken (h.0).name u (h.0).is in
        let same : (h.0).name ≡ m = one (h.0).name m u g.0 at in
        let first = pattern_kept m p i (subst (λ (k : ℕ). k < c.taken) same g.1) in
        let rest = patterns_kept us ps is vs h.1 in
        λ j. first j ∷ rest j

  -- all values of before are values still
  pub values_kept : AreEntriesOf sig ts c.entries → c.taken ≤ d.taken → d.taken ≤ length d.entries → ((n : ℕ) (e : Entry) → slice_get c.entries n ≡ Some e → slice_get d.entries n ≡ Some e)
      → (n : ℕ) (v : Value) → slice_get (values c) n ≡ Some v → slice_get (values d) n ≡ Some v
  values_kept entries longer inside grown n v at =
      let w : n < length (held c) = let k : n < length (values c) = slice_get_within (values c) n v at in let m : length (values c) ≡ length (held c) = length-map (held c) (λ (e : Entry). value_in c e.pattern) in omega (arith, k, m) in
      let e = value_at (held c) n w in
      let g = get_front c.entries c.taken n e.0 e.1 in
      let was : value_in c (e.0).pattern ≡ v = same_Some (value_in c (e.0).pattern) v (sym (get_map (λ (x : Entry). value_in c x.pattern) (held c) n e.0 e.1) ∙ at) in
      let l : n < c.taken = g.1 in
      let there : slice_get (held d) n ≡ Some e.0 = take_there d.entries d.taken n e.0 (omega (arith, l, longer)) inside (grown n e.0 g.0) in
      get_map (λ (x : Entry). value_in d x.pattern) (held d) n e.0 there ∙ ap (λ (x : Value). Some x) (pattern_kept n (e.0).pattern (entries.each n e.0 g.0).pattern l ∙ was)
