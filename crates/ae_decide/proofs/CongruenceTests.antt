-- The test of the values of applications says `true` exactly where the fifth clause holds.
use Rattle.std.specs.Prelude.{ℕ, Bool, true, ◌&&◌, ◌≡◌, ◌↔◌, List, Some}
use Rattle.std.specs.List.{list_all}
use Rattle.std.proofs.lemmas.Bool.{and_parts, and_from}
use mathlib.Core.Path.{refl, sym, ap, ◌∙◌}
use Rattle.ae_base.specs.Decided.{decided}
use Rattle.ae_base.specs.Options.{known}
use Rattle.ae_base.proofs.AllOf.{test_of_all, all_from_places}
use Rattle.ae_base.proofs.Decided.{decided_of, decided_yes}
use Rattle.ae_base.proofs.ListFacts.{list_all_at}
use Rattle.ae_core.specs.Decided.{Head_discrete, Sorts_discrete}
use Rattle.ae_core.specs.Sorts.{sort_of, same_sorts}
use Rattle.ae_core.specs.declared.problems.Signature.{Signature}
use Rattle.ae_core.specs.declared.terms.Head.{Head}
use Rattle.ae_core.specs.declared.terms.Sort.{Sort}
use Rattle.ae_core.specs.declared.terms.Term.{Term, Term-F, Apply, out-Term}
use Rattle.ae_core.specs.declared.terms.Term.TheOpen as layer
use Rattle.ae_core.specs.declared.terms.Term.TheVariants.{outs-Apply}
use Rattle.ae_journal.specs.Values.{meaning}
use Rattle.ae_journal.specs.Systems.{IsName}
use Rattle.ae_journal.specs.declared.systems.System.{System}
use Rattle.ae_decide.specs.Clauses.{HasTerms, HasLeaves, IsCongruent}
use Rattle.ae_decide.specs.Congruence.{apply_alike_by, apply_alike, agree, all_agree}
use Rattle.ae_decide.specs.Values.{are_alike, all_alike}
use Rattle.ae_decide.proofs.NameTests.{is_application, known_value}
use Rattle.ae_decide.proofs.ValueTests.{value_here, has_written, written_at, alike_of, all_alike_of, of_alike, of_all_alike, implied, by_implied}

module _ (sig : Signature) (y : System) (terms : HasTerms sig y) (leaves : HasLeaves sig y) where
  applied : (h : Head) (ss : List Sort) (us ws : List Term) → all_alike y us ws ≡ true → apply_alike y (Apply h ss us) (Apply h ss ws) ≡ true
  applied h ss us ws e =
      (λ i. apply_alike_by y (outs-Apply h ss us i) (outs-Apply h ss ws i))
      ∙ and_from _ _ (and_from _ _ (decided_of (Head_discrete h h) refl) (decided_of (Sorts_discrete ss ss) refl)) e

  pub congruent_of : all_agree sig y ≡ true → IsCongruent sig y
  congruent_of e m n h ss us ws vs s i j o a b =
      let t = Apply h ss us in
      let u = Apply h ss ws in
      let f = list_all_at (agree sig y t) y.names n u (list_all_at (λ t. list_all (agree sig y t) y.names) y.names m t e i) j in
      let alike = by_implied (apply_alike y t u && known (sort_of sig t)) (are_alike y t u) f
      (and_from (apply_alike y t u) (known (sort_of sig t)) (applied h ss us ws (all_alike_of y terms.apart leaves.normal us ws vs a b)) (ap known o)) in
      let (v, p, q) = of_alike y terms.apart t u alike in
      value_here y terms.apart m t v i p ∙ sym (value_here y terms.apart n u v j q)

  -- two names that agree by the clause
  record Applied (t u : Term) : Type 0 where
    head : Head
    sorts : List Sort
    args : List Term
    others : List Term
    first : t ≡ Apply head sorts args
    second : u ≡ Apply head sorts others
    alike : all_alike y args others ≡ true

  applied_by : (t u : Term) (k l : Term-F Term) → out-Term t ≡ k → out-Term u ≡ l → apply_alike_by y k l ≡ true → Applied t u
  applied_by t u (layer.Apply h ss us) (layer.Apply g os ws) d e f =
      let p = and_parts (decided (Head_discrete h g) && same_sorts ss os) (all_alike y us ws) f in
      let q = and_parts (decided (Head_discrete h g)) (same_sorts ss os) p.0 in
      record {
        head = h;
        sorts = ss;
        args = us;
        others = ws;
        first = is_application t h ss us d;
        second = is_application u g os ws e ∙ (λ i. Apply (sym (decided_yes (Head_discrete h g) q.0) i) (sym (decided_yes (Sorts_discrete ss os) q.1) i) ws);
        alike = p.1;
      }
  applied_by t u (layer.Apply h ss us) (layer.Bound n) d e f = absurd (cc)
  applied_by t u (layer.Apply h ss us) (layer.Num a b r) d e f = absurd (cc)
  applied_by t u (layer.Apply h ss us) (layer.Fresh n s) d e f = absurd (cc)
  applied_by t u (layer.Bound n) l d e f = absurd (cc)
  applied_by t u (layer.Num a b r) l d e f = absurd (cc)
  applied_by t u (layer.Fresh n s) l d e f = absurd (cc)

  agree_at : IsCongruent sig y → (m : ℕ) (t : Term) → IsName y m t → (n : ℕ) (u : Term) → IsName y n u → agree sig y t u ≡ true
  agree_at c m t i n u j = implied (apply_alike y t u && known (sort_of sig t)) (are_alike y t u) alike
    where
      alike : apply_alike y t u && known (sort_of sig t) ≡ true → are_alike y t u ≡ true
      alike e =
          let p = and_parts (apply_alike y t u) (known (sort_of sig t)) e in
          let g = applied_by t u (out-Term t) (out-Term u) refl refl p.0 in
          let (s, o) = known_value (sort_of sig t) p.1 in
          let (vs, a, b) = of_all_alike y terms.apart g.args g.others g.alike in
          let (w, x) = has_written y terms.values m t i in
          let here = written_at y m w x in
          let same = c m n g.head g.sorts g.args g.others vs s (i ∙ ap (λ (w : Term). Some w) g.first) (j ∙ ap (λ (w : Term). Some w) g.second)
          (ap (sort_of sig) (sym g.first) ∙ o) a b in
          alike_of y terms.apart leaves.normal t u (meaning w) (m, i, here) (n, j, sym same ∙ here)

  pub of_congruent : IsCongruent sig y → all_agree sig y ≡ true
  of_congruent c =
      test_of_all (λ t. list_all (agree sig y t) y.names ≡ true) (λ t. list_all (agree sig y t) y.names) (λ t q. q) y.names
      (all_from_places (λ t. list_all (agree sig y t) y.names ≡ true) y.names
      (λ m t i. test_of_all (λ u. agree sig y t u ≡ true) (agree sig y t) (λ u q. q) y.names
      (all_from_places (λ u. agree sig y t u ≡ true) y.names (λ n u j. agree_at c m t i n u j))))

  pub congruence_tested : (b : Bool) → b ≡ all_agree sig y → (b ≡ true) ↔ IsCongruent sig y
  congruence_tested b e = (λ t. congruent_of (sym e ∙ t), λ c. e ∙ of_congruent c)
