-- Representatives of names and of arguments.
use Rattle.std.specs.Prelude.{ℕ, ◌<◌, List, [], ◌∷◌, ◌≡◌, map, length, Some}
use Rattle.std.specs.List.{AllByRecursion}
use Rattle.std.proofs.Common.{refl, sym, ap, ◌∙◌}
use Rattle.ae_base.proofs.ListFacts.{cons_head, cons_tail}
use Rattle.ae_core.specs.Sorts.{sort_of}
use Rattle.ae_core.specs.declared.terms.Sort.{Sort}
use Rattle.ae_core.specs.declared.terms.Term.{Term}
use Rattle.ae_journal.specs.Values.{Val}
use Rattle.ae_journal.specs.Systems.{IsName, Has, StandsFor, ValueOf, ValuesOf}
use Rattle.ae_journal.proofs.Representatives.{one_representative}
use Rattle.ae_store.specs.Terms.{named}
use Rattle.ae_settled.specs.Held.{Held, terms_of, system_of}
use Rattle.ae_settled.specs.Settled.{IsSettled}
use Rattle.ae_settled.proofs.Nodes.{named_at}
use Rattle.ae_settled.proofs.Terms.{apart}

module _ (x : Held) (settled : IsSettled x) where
  pub has : (s : Sort) (t : Term) (v : Val) → sort_of x.signature t ≡ Some s → (h : ValueOf (system_of x) t v) → Has x.signature (system_of x) s v h.0
  has s t v o h = record { term = t; is = h.1; sort = o; value = h.2 }

  -- terms of one sort and one value have one representative
  pub one_rep : (s : Sort) (t u : Term) (v : Val) → sort_of x.signature t ≡ Some s → sort_of x.signature u ≡ Some s → (a : ValueOf (system_of x) t v) (b : ValueOf (system_of x) u v) → x.rep a.0 ≡ x.rep b.0
  one_rep s t u v o p a b =
      one_representative x.signature (system_of x) s v (x.rep a.0) (x.rep b.0) (settled.representatives s v a.0 (has s t v o a)) (settled.representatives s v b.0 (has s u v p b))

  -- what stands for a term is the representative of its name
  pub stands_by : (n m : ℕ) (t : Term) → IsName (system_of x) n t → StandsFor x.signature (system_of x) t m → x.rep n ≡ m
  stands_by n m t e h =
      let same : h.valued.0 ≡ n = apart x settled.store h.valued.0 n t h.valued.1 e in
      ap x.rep (sym same) ∙ one_representative x.signature (system_of x) h.sort h.value (x.rep h.valued.0) m (settled.representatives h.sort h.value h.valued.0 (has h.sort t h.value h.sorted h.valued)) h.represents

  -- names of arguments of the same sorts and values
  pub same_reps : (xs ys : List ℕ) (os : List Sort) (vs : List Val) → AllByRecursion (λ a. a < length (terms_of x)) xs → AllByRecursion (λ a. a < length (terms_of x)) ys
      → map (sort_of x.signature) (map (named (terms_of x)) xs) ≡ map Some os → map (sort_of x.signature) (map (named (terms_of x)) ys) ≡ map Some os
      → ValuesOf (system_of x) (map (named (terms_of x)) xs) vs → ValuesOf (system_of x) (map (named (terms_of x)) ys) vs → map x.rep xs ≡ map x.rep ys
  same_reps [] [] os vs k l e f g h = refl
  same_reps [] (b ∷ ys) os [] k l e f g h = absurd h
  same_reps [] (b ∷ ys) os (v ∷ vs) k l e f g h = absurd g
  same_reps (a ∷ xs) ys os [] k l e f g h = absurd g
  same_reps (a ∷ xs) [] os (v ∷ vs) k l e f g h = absurd h
  same_reps (a ∷ xs) (b ∷ ys) [] (v ∷ vs) k l e f g h = absurd (cc)
  same_reps (a ∷ xs) (b ∷ ys) (o ∷ os) (v ∷ vs) k l e f g h =
      let p = cons_head (sort_of x.signature (named (terms_of x) a)) (Some o) (map (sort_of x.signature) (map (named (terms_of x)) xs)) (map Some os) e in
      let q = cons_head (sort_of x.signature (named (terms_of x) b)) (Some o) (map (sort_of x.signature) (map (named (terms_of x)) ys)) (map Some os) f in
      let one = one_rep o (named (terms_of x) a) (named (terms_of x) b) v p q g.0 h.0 in
      let c : (g.0).0 ≡ a = apart x settled.store (g.0).0 a (named (terms_of x) a) (g.0).1 (named_at (terms_of x) a k.0) in
      let d : (h.0).0 ≡ b = apart x settled.store (h.0).0 b (named (terms_of x) b) (h.0).1 (named_at (terms_of x) b l.0) in
      let first : x.rep a ≡ x.rep b = ap x.rep (sym c) ∙ one ∙ ap x.rep d in
      let rest = same_reps xs ys os vs k.1 l.1 (cons_tail (sort_of x.signature (named (terms_of x) a)) (Some o) (map (sort_of x.signature) (map (named (terms_of x)) xs)) (map Some os) e)
      (cons_tail (sort_of x.signature (named (terms_of x) b)) (Some o) (map (sort_of x.signature) (map (named (terms_of x)) ys)) (map Some os) f) g.1 h.1 in
      λ i. first i ∷ rest i
