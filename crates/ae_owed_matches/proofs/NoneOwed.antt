-- Where none of an owner's matches at a number is owed, each is the same as an instance that was noted.
use Rattle.std.specs.Prelude.{ℕ, ◌<◌, ◌≤◌, ◌+◌, Bool, true, cond, not, ◌||◌, nat_eq, List, [], ◌∷◌, ◌≡◌, map, length, slice_get}
use Rattle.std.specs.List.{AllByRecursion, Contains, filter, list_any}
use Rattle.std.proofs.Common.{sym, ap, ◌∙◌, subst, arith, inl, inr, eqb-true}
use Rattle.std.proofs.lemmas.Bool.{and_parts, cases_lt}
use Rattle.std.proofs.lemmas.Option.{same_Some}
use Rattle.ae_base.proofs.Decided.{decided_yes}
use Rattle.ae_base.proofs.Tests.{by_bool, false_true, three_parts}
use Rattle.ae_base.specs.Relations.{Pairwise}
use Rattle.ae_core.specs.Decided.{Sorts_discrete}
use Rattle.ae_core.specs.Sorts.{same_sorts}
use Rattle.ae_core.specs.declared.terms.Sort.{Sort}
use Rattle.ae_core.specs.declared.terms.Term.{Term}
use Rattle.ae_inst.specs.Matches.{are_same, is_match}
use Rattle.ae_journal.proofs.Splits.{contains_cases, contains_here, contains_later}
use Rattle.ae_journal.specs.States as states
use Rattle.ae_matches.specs.Answers.{IsMatchOf}
use Rattle.ae_matching.specs.Laws.{IsEquivalence}
use Rattle.ae_owed.proofs.Moving.{match_moved}
use Rattle.ae_owed.specs.Known.{IsYoung, AreAlike, IsFoundAt}
use Rattle.ae_owed.specs.Owed.{HasSame, OwnerIsThere}
use Rattle.ae_owners.specs.Owners.{owner_of}
use Rattle.ae_settled.proofs.Nodes.{named_at}
use Rattle.ae_store.specs.Shapes.{shapes}
use Rattle.ae_store.specs.Stores.{Stored}
use Rattle.ae_store.specs.Terms.{terms, named}
use Rattle.ae_trigger.specs.declared.patterns.Subst.{Subst}
use Rattle.ae_owed_matches.specs.Found.{is_owed}
use Rattle.ae_owed_matches.specs.Laws.{NoneOwedAt, NothingBetween, PassesLeaveNone}
use Rattle.ae_owed_matches.proofs.Bridges.{count, names_of}
use Rattle.ae_owed_matches.proofs.FoundLaws.{pattern_for}

-- ---- tests of lists
kept_by : {A : Type 0} (test : A → Bool) (xs : List A) (x : A) → Contains xs x → test x ≡ true → Contains (filter test xs) x
kept_by test [] x c t = absurd (let l = c.1 in omega (arith, l))
kept_by test (y ∷ ys) x c t =
    elim (contains_cases y ys x c) as (λ _. Contains (filter test (y ∷ ys)) x) [
      | inl e ↦
          subst (λ zs. Contains zs x) (ap (λ b. cond b (y ∷ filter test ys) (filter test ys)) (sym (ap test e ∙ t)))
          (subst (Contains (y ∷ filter test ys)) e (contains_here y (filter test ys)))
      | inr r ↦
          by_bool (test y)
          (λ h. subst (λ zs. Contains zs x) (ap (λ b. cond b (y ∷ filter test ys) (filter test ys)) (sym h)) (contains_later y (filter test ys) x (kept_by test ys x r t)))
          (λ h. subst (λ zs. Contains zs x) (ap (λ b. cond b (y ∷ filter test ys) (filter test ys)) (sym h)) (kept_by test ys x r t))
    ]

any_there : {A : Type 0} (test : A → Bool) (xs : List A) → list_any test xs ≡ true → (x : A) × Contains xs x × (test x ≡ true)
any_there test [] e = false_true e
any_there test (y ∷ ys) e =
    by_bool (test y) (λ h. (y, contains_here y ys, h))
    (λ h. let r = any_there test ys (sym (ap (λ b. b || list_any test ys) h) ∙ e) in (r.0, contains_later y ys r.0 r.1, r.2))

sorts_are : (xs ys : List Sort) → same_sorts xs ys ≡ true → xs ≡ ys
sorts_are xs ys e = decided_yes (Sorts_discrete xs ys) e

-- ---- names that are the same, one by one
module _ (s : Stored) (alike : ℕ → ℕ → Bool) (q : IsEquivalence alike) where
  abbrev ts : List Term
  ts = terms (shapes s.nodes)

  pairs : (ns ks vs : List ℕ) → are_same alike ns ks ≡ true → are_same alike vs ks ≡ true → AllByRecursion (λ v. v < length s.nodes) ns → AllByRecursion (λ v. v < length s.nodes) vs
      → Pairwise (AreAlike s alike) (map (named ts) ns) (map (named ts) vs)
  pairs [] [] [] e f a b = tt
  pairs [] [] (v ∷ vs) e f a b = false_true f
  pairs [] (k ∷ ks) vs e f a b = false_true e
  pairs (n ∷ ns) [] vs e f a b = false_true e
  pairs (n ∷ ns) (k ∷ ks) [] e f a b = false_true f
  pairs (n ∷ ns) (k ∷ ks) (v ∷ vs) e f a b =
      let x = and_parts (alike n k) (are_same alike ns ks) e in
      let y = and_parts (alike v k) (are_same alike vs ks) f in (
        record {
          left = n;
          right = v;
          left_at = named_at ts n (let h = a.0 in omega (arith, h, count s));
          right_at = named_at ts v (let h = b.0 in omega (arith, h, count s));
          alike_ones = q.transitive n k v x.0 (q.symmetric v k y.0);
        },
        pairs ns ks vs x.1 y.1 a.1 b.1,
      )

pub none_owed_at : NoneOwedAt
none_owed_at p g s alike n k owners w ms taken instances same store q at right found none kept us ts f =
    let r = names_of s n ts f.matches.all_known in
    let z = pattern_for p g s alike n w same right us r.0 ts f r.1 in
    let m : Subst = record { sorts = us; terms = r.0 } in
    let i : IsMatchOf s alike (n + 1) z.0 m = record { within = r.2; is = z.2 } in
    let c = found.complete z.0 m z.1 i in
    let d = and_parts (same_sorts us c.0.sorts) (are_same alike r.0 c.0.terms) c.2 in
    let any : list_any (is_match alike k c.0) taken ≡ true =
    by_bool (list_any (is_match alike k c.0) taken) (λ h. h)
    (λ h. let there = subst (λ zs. Contains zs c.0) none (kept_by (is_owed alike k taken) ms c.0 c.1 (ap not h)) in absurd (let l = there.1 in omega (arith, l))) in
    let t = any_there (is_match alike k c.0) taken any in
    let u = three_parts (nat_eq t.0.owner k) (same_sorts t.0.sorts c.0.sorts) (are_same alike t.0.terms c.0.terms) t.2 in
    let j = kept t.0 t.1 in
    let one : w ≡ j.owner.owner = same_Some w j.owner.owner (sym at ∙ ap (slice_get owners) (sym (eqb-true t.0.owner k u.0)) ∙ j.owner.at) in
    record {
      instance = j.instance;
      among = j.among;
      owner = sym j.owner.is ∙ ap owner_of (sym one);
      sorts = j.sorts ∙ sorts_are t.0.sorts c.0.sorts u.1 ∙ sym (sorts_are us c.0.sorts d.0);
      terms =
          subst (λ (y : List Term × List Term). Pairwise (AreAlike s alike) y.0 y.1) (λ a. (r.1 a, sym j.terms a)) (pairs s alike q r.0 c.0.terms t.0.terms d.1 u.2 r.2 j.within);
    }

pub passes_leave_none : PassesLeaveNone
passes_leave_none p g bound lits s alike owners taken instances same store q done = record {
  noted = λ n o us ts lt there f small.
      let h = done.all o f.pattern there f.of_owner in
      let w = h.1.owner in
      let r = done.none n h.0 w lt h.1.at (subst (OwnerIsThere lits) (sym h.1.is) there) in
      subst (λ (z : states.Owner). HasSame s alike instances z us ts) h.1.is
      (none_owed_at p g s alike n h.0 owners w r.0 taken instances same store q h.1.at (done.right h.0 w h.1.at) r.1 r.2 done.kept us ts
      (subst (λ (z : states.Owner). IsFoundAt p g s alike n z us ts) (sym h.1.is) f));
  least = λ n i lt c there f. elim (cases_lt n i.number) as (λ _. i.number ≤ n) [ inl late ↦ absurd (done.least n i lt late c there f) | inr le ↦ le ];
}

pub nothing_between : NothingBetween
nothing_between p g s alike m n o us ts between f = record {
  pattern = f.pattern;
  of_owner = f.of_owner;
  trigger = f.trigger;
  chosen = f.chosen;
  matches = match_moved p.signature (IsYoung s n) (IsYoung s m) (λ t y. record { name = y.name; at = y.at; node = y.node; there = y.there; young = between y.name y.node y.there y.young }) (AreAlike s alike) (AreAlike s alike)
      (λ t u a b c. c) us ts f.pattern.type_vars f.pattern.vars f.trigger f.matches;
}
