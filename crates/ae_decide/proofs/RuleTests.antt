-- The test of rules says `true` exactly where the sixth clause holds.
use Rattle.std.specs.Prelude.{ℕ, zero, suc, ◌<◌, Bool, true, false, not, ◌&&◌, nat_lt, nat_le, ◌≡◌, ◌↔◌, List, length, slice_get, Option, Some, None}
use Rattle.std.specs.List.{list_all}
use Rattle.std.proofs.Common.{inl, inr}
use Rattle.std.proofs.lemmas.Bool.{and_parts, and_from, cases_eq, ltb-true, lt-ltb, leb-true, le-leb}
use Rattle.std.proofs.lemmas.Option.{same_Some}
use Rattle.ae_decide.proofs.NameTests.{denied}
use mathlib.Core.Path.{refl, sym, ap, subst, ◌∙◌}
use native.Mathlib.Omega.{arith}
use Rattle.ae_base.specs.Options.{◌>>=◌, or_else}
use Rattle.ae_base.proofs.AllOf.{all_of_test, test_of_all, all_from_places}
use Rattle.ae_base.proofs.Decided.{decided_of, decided_yes, decided_not}
use Rattle.ae_base.proofs.ListFacts.{list_all_at}
use Rattle.ae_base.proofs.Options.{bind_some}
use Rattle.ae_base.proofs.Tests.{not_where}
use Rattle.ae_core.specs.declared.problems.Nature.{Nature}
use Rattle.ae_core.specs.declared.problems.Nature.TheVariants.{Free, Ac, Choice}
use Rattle.ae_core.specs.declared.problems.Signature.{Signature}
use Rattle.ae_core.specs.declared.problems.SymbolEntry.{SymbolEntry}
use Rattle.ae_core.specs.declared.terms.Head.{Head}
use Rattle.ae_core.specs.declared.terms.Head.TheVariants as head
use Rattle.ae_core.specs.declared.terms.Op.TheVariants as op
use Rattle.ae_core.specs.declared.terms.Sort.{Sort}
use Rattle.ae_rules.specs.Lines.{IsAc}
use Rattle.ae_multiset.specs.Multisets.{IsSame, IsLess, rising}
use Rattle.ae_multiset.proofs.Comparing.{less_differs, less_then}
use Rattle.ae_multiset.proofs.Counts.{less_same, back}
use Rattle.ae_multiset.proofs.Rising.{count-rising}
use Rattle.ae_num.specs.declared.forms.Value.{Value}
use Rattle.ae_journal.specs.Values.{meaning}
use Rattle.ae_journal.specs.Systems.{Has, IsRepresentative, IsRuleFit, Represents, ac_sort}
use Rattle.ae_journal.specs.declared.systems.RuleEntry.{RuleEntry}
use Rattle.ae_journal.specs.declared.systems.System.{System}
use Rattle.ae_decide.specs.Clauses.{HasLeaves, RulesFit}
use Rattle.ae_decide.specs.Inner.Decisions.{less_decided}
use Rattle.ae_decide.specs.Leaves.{has_sort}
use Rattle.ae_decide.specs.Rules.{is_ac_nature, is_ac, has, none_below, is_representative, is_less, fits_at, rule_fits}
use Rattle.ae_decide.specs.Values.{same_known}
use Rattle.ae_decide.proofs.LeafTests.{sort_told, by_sort, known_is, by_known}
use Rattle.ae_decide.proofs.NormalValues.{one_written}
use Rattle.ae_decide.proofs.ValueTests.{written_at}

-- ---- the order of multisets in any order
rising_same : (a : List ℕ) → IsSame a (rising a)
rising_same a = record { each = λ x. sym (count-rising x a) }

pub less_yes : (a b : List ℕ) → IsLess (rising a) (rising b) → is_less a b ≡ true
less_yes a b l = decided_of (less_decided a b) (less_same (back (rising_same a)) (back (rising_same b)) l)

pub less_same_no : (a b : List ℕ) → rising a ≡ rising b → is_less a b ≡ false
less_same_no a b e =
    decided_not (less_decided a b)
    (λ l. less_differs (rising a) (rising b) (less_same (rising_same a) (rising_same b) l) (subst (IsSame (rising a)) e (record { each = λ x. refl })))

pub less_no : (a b : List ℕ) → IsLess (rising b) (rising a) → is_less a b ≡ false
less_no a b g =
    decided_not (less_decided a b)
    (λ l. less_differs (rising b) (rising b) (less_then g (less_same (rising_same a) (rising_same b) l)) (record { each = λ x. refl }))

-- ---- AC symbols
pub ac_by : (sig : Signature) (h : Head) → is_ac sig h ≡ true → IsAc sig h
ac_by sig (head.Symbol n) e = by_entry (slice_get sig.symbols n) refl e
  where
    nature : (m : Nature) → is_ac_nature m ≡ true → m ≡ Ac
    nature Free e = absurd (cc)
    nature Ac e = refl
    nature (Choice of place) e = absurd (cc)

    by_entry : (o : Option SymbolEntry) → slice_get sig.symbols n ≡ o → or_else (o >>= λ e. Some (is_ac_nature e.nature)) false ≡ true → IsAc sig (head.Symbol n)
    by_entry (Some x) i e = (x, i, nature x.nature e)
    by_entry None i e = absurd (cc)
ac_by sig (head.Int op.Mul) e = tt
ac_by sig (head.Real op.Mul) e = tt
ac_by sig (head.Int op.Add) e = absurd (cc)
ac_by sig (head.Int op.Sub) e = absurd (cc)
ac_by sig (head.Int op.Neg) e = absurd (cc)
ac_by sig (head.Int op.Div) e = absurd (cc)
ac_by sig (head.Int op.Mod) e = absurd (cc)
ac_by sig (head.Real op.Add) e = absurd (cc)
ac_by sig (head.Real op.Sub) e = absurd (cc)
ac_by sig (head.Real op.Neg) e = absurd (cc)
ac_by sig (head.Real op.Div) e = absurd (cc)
ac_by sig (head.Real op.Mod) e = absurd (cc)
ac_by sig (head.Build n) e = absurd (cc)
ac_by sig (head.Field n i) e = absurd (cc)
ac_by sig head.True e = absurd (cc)
ac_by sig head.False e = absurd (cc)
ac_by sig head.Void e = absurd (cc)

pub by_ac : (sig : Signature) (h : Head) → IsAc sig h → is_ac sig h ≡ true
by_ac sig (head.Symbol n) (x, i, a) = ap (λ (o : Option SymbolEntry). or_else (o >>= λ e. Some (is_ac_nature e.nature)) false) i ∙ ap is_ac_nature a
by_ac sig (head.Int op.Mul) a = refl
by_ac sig (head.Real op.Mul) a = refl
by_ac sig (head.Int op.Add) a = absurd a
by_ac sig (head.Int op.Sub) a = absurd a
by_ac sig (head.Int op.Neg) a = absurd a
by_ac sig (head.Int op.Div) a = absurd a
by_ac sig (head.Int op.Mod) a = absurd a
by_ac sig (head.Real op.Add) a = absurd a
by_ac sig (head.Real op.Sub) a = absurd a
by_ac sig (head.Real op.Neg) a = absurd a
by_ac sig (head.Real op.Div) a = absurd a
by_ac sig (head.Real op.Mod) a = absurd a
by_ac sig (head.Build n) a = absurd a
by_ac sig (head.Field n i) a = absurd a
by_ac sig head.True a = absurd a
by_ac sig head.False a = absurd a
by_ac sig head.Void a = absurd a

module _ (sig : Signature) (y : System) where
  -- ---- no smaller name
  none_tells : (s : Sort) (v : Option Value) (n m : ℕ) → none_below sig y s v n ≡ true → m < n → has sig y s v m ≡ true → ⊥
  none_tells s v zero m e h a = omega (arith, h)
  none_tells s v (suc n) m e h a = elim (cases_eq m n) [
    | inl k ↦ denied (has sig y s v n) (and_parts (not (has sig y s v n)) (none_below sig y s v n) e).0 (ap (has sig y s v) (sym k) ∙ a)
    | inr d ↦ none_tells s v n m (and_parts (not (has sig y s v n)) (none_below sig y s v n) e).1 (omega (arith, h, d)) a
  ]

  none_from : (s : Sort) (v : Option Value) (n : ℕ) → ((m : ℕ) → m < n → has sig y s v m ≡ true → ⊥) → none_below sig y s v n ≡ true
  none_from s v zero f = refl
  none_from s v (suc n) f = and_from _ _ (not_where (has sig y s v n) (f n (omega arith))) (none_from s v n (λ m h. f m (omega (arith, h))))

  pub one_below : (s : Sort) (v : Option Value) (n m : ℕ) → m < n → has sig y s v m ≡ true → none_below sig y s v n ≡ false
  one_below s v n m h a = go (none_below sig y s v n) refl
    where
      go : (b : Bool) → none_below sig y s v n ≡ b → b ≡ false
      go true e = absurd (none_tells s v n m e h a)
      go false e = refl

  -- ---- representatives
  module _ (leaves : HasLeaves sig y) where
    pub has_told : (s : Sort) (w : Value) (m : ℕ) → has sig y s (Some w) m ≡ true → Has sig y s (meaning w) m
    has_told s w m e =
        let p = and_parts (has_sort sig (slice_get y.names m) s) (same_known (slice_get y.values m) (Some w)) e in
        let (t, i, o) = sort_told sig y (slice_get y.names m) s p.0 in
        record { term = t; is = i; sort = o; value = written_at y m w (known_is sig y (slice_get y.values m) w p.1) }

    pub by_has : (s : Sort) (w : Value) (n m : ℕ) → slice_get y.values n ≡ Some w → Has sig y s (meaning w) m → has sig y s (Some w) m ≡ true
    by_has s w n m i h =
        let (x, f, g) = bind_some (slice_get y.values m) (λ w. Some (meaning w)) (meaning w) h.value in
        and_from (has_sort sig (slice_get y.names m) s) _ (by_sort sig y (slice_get y.names m) s h.term h.is h.sort)
        (by_known sig y (slice_get y.values m) w
        (f ∙ ap (λ (z : Value). Some z) (one_written x w (leaves.normal m x f) (leaves.normal n w i) (same_Some (meaning x) (meaning w) g))))

    representative_by : (s : Sort) (n : ℕ) → is_representative sig y s n ≡ true → IsRepresentative sig y s n
    representative_by s n e = go (slice_get y.values n) refl e
      where
        go : (o : Option Value) → slice_get y.values n ≡ o → has sig y s o n && none_below sig y s o n ≡ true → IsRepresentative sig y s n
        go (Some w) i e =
            let p = and_parts (has sig y s (Some w) n) (none_below sig y s (Some w) n) e in (
              meaning w,
              record {
                has = has_told s w n p.0;
                least = λ m h. let k : ¬ (m < n) = λ l. none_tells s (Some w) n m p.1 l (by_has s w n m i h) in omega (arith, k);
              },
            )
        go None i e = absurd (nothing (has_sort sig (slice_get y.names n) s) (slice_get y.values n) (and_parts (has sig y s None n) (none_below sig y s None n) e).0)
          where
            nothing : (b : Bool) (o : Option Value) → b && same_known o None ≡ true → ⊥
            nothing true None f = cc
            nothing true (Some x) f = cc
            nothing false None f = cc
            nothing false (Some x) f = cc

    by_representative : (s : Sort) (n : ℕ) → IsRepresentative sig y s n → is_representative sig y s n ≡ true
    by_representative s n (v, r) =
        let (w, f, g) = bind_some (slice_get y.values n) (λ w. Some (meaning w)) v r.has.value in
        let m = same_Some (meaning w) v g in
        let q = subst (λ z. Represents sig y s z n) (sym m) r in
        ap (λ o. has sig y s o n && none_below sig y s o n) f
        ∙ and_from (has sig y s (Some w) n) (none_below sig y s (Some w) n) (by_has s w n n f q.has)
        (none_from s (Some w) n (λ k h a. let l = q.least k (has_told s w k a) in omega (arith, h, l)))

    -- ---- rules
    fit_by : (e : RuleEntry) → rule_fits sig y e ≡ true → IsRuleFit sig y e
    fit_by e t = go (ac_sort sig e.symbol.head e.symbol.sorts) refl t
      where
        go : (o : Option Sort) → ac_sort sig e.symbol.head e.symbol.sorts ≡ o → fits_at sig y e o ≡ true → IsRuleFit sig y e
        go (Some s) i t =
            let a = is_ac sig e.symbol.head in
            let b = list_all (is_representative sig y s) e.left in
            let c = list_all (is_representative sig y s) e.right in
            let d = nat_lt 0 (length e.right) in
            let f = nat_le 2 (length e.left) in
            let p = and_parts (a && b && c && d && f) (is_less e.right e.left) t in
            let q = and_parts (a && b && c && d) f p.0 in
            let r = and_parts (a && b && c) d q.0 in
            let u = and_parts (a && b) c r.0 in
            let v = and_parts a b u.0 in
            record {
              sort = s;
              symbol = i;
              ac = ac_by sig e.symbol.head v.0;
              left = all_of_test (is_representative sig y s) (IsRepresentative sig y s) (representative_by s) e.left v.1;
              right = all_of_test (is_representative sig y s) (IsRepresentative sig y s) (representative_by s) e.right u.1;
              some = ltb-true 0 (length e.right) r.1;
              two = leb-true 2 (length e.left) q.1;
              falls = decided_yes (less_decided e.right e.left) p.1;
            }
        go None i t = absurd (cc)

    by_fit : (e : RuleEntry) → IsRuleFit sig y e → rule_fits sig y e ≡ true
    by_fit e r =
        ap (fits_at sig y e) r.symbol
        ∙ and_from _ _ (and_from _ _ (and_from _ _ (and_from _ _ (and_from _ _ (by_ac sig e.symbol.head r.ac)
        (test_of_all (IsRepresentative sig y r.sort) (is_representative sig y r.sort) (by_representative r.sort) e.left r.left))
        (test_of_all (IsRepresentative sig y r.sort) (is_representative sig y r.sort) (by_representative r.sort) e.right r.right))
        (lt-ltb 0 (length e.right) r.some)) (le-leb 2 (length e.left) r.two)) (decided_of (less_decided e.right e.left) r.falls)

    pub rules_tested : (b : Bool) → b ≡ list_all (rule_fits sig y) y.rules → (b ≡ true) ↔ RulesFit sig y
    rules_tested b e = (
      λ t k r i. fit_by r (list_all_at (rule_fits sig y) y.rules k r (sym e ∙ t) i),
      λ f. e ∙ test_of_all (λ r. rule_fits sig y r ≡ true) (rule_fits sig y) (λ r q. q) y.rules
          (all_from_places (λ r. rule_fits sig y r ≡ true) y.rules (λ k r i. by_fit r (f k r i))),
    )
