-- Names that are entered one after another, and which are alike.
use Rattle.std.specs.Prelude.{ℕ, ◌+◌, ◌<◌, List, [], ◌∷◌, ◌≡◌, map, length, slice_get, Some}
use Rattle.std.proofs.Common.{sym, ap, ◌∙◌, subst, arith, inl, inr}
use Rattle.std.specs.List.{AllByRecursion}
use Rattle.std.proofs.lemmas.Option.{same_Some, none-some, slice_get_cases, get_or_from_slice_get}
use Rattle.std.proofs.lemmas.List.{get_or_past, length-map}
use native.Mathlib.Decide.{ℕ_discrete}
use Rattle.ae_base.proofs.AllOf.{all_at}
use Rattle.ae_core.specs.declared.problems.Signature.{Signature}
use Rattle.ae_pmap.specs.Pairs.{found, put_in}
use Rattle.ae_pmap.proofs.PairLemmas.{at_same, at_other}
use Rattle.ae_pmap.proofs.Values.{found_put}
use Rattle.ae_store.specs.declared.nodes.Node.{Node}
use Rattle.ae_store.specs.declared.nodes.NodeHead.TheVariants.{Of}
use Rattle.ae_store.specs.Stores.{IsStore}
use Rattle.ae_free.specs.Tables.{Tables, HasPlaces, Fits, entered}
use Rattle.ae_free.specs.Collisions.{IsCollision}
use Rattle.ae_free.proofs.GrownLaws.{one_sort}
use Rattle.ae_sweeps.specs.Given.{rep_in}
use Rattle.ae_sweeps.specs.Gaps.{AreAlike}
use Rattle.ae_sweeps.specs.Inner.Entered.{IsCompared, IsEntered, AreEqual, AreEntered}
use Rattle.ae_sweeps.proofs.JoinedNames.{same_head}

found_at : {A : Type 0} (key : ℕ) (x : A) (ps : List (ℕ × A)) → found (put_in key x ps) key ≡ Some x
found_at key x ps = found_put key x key ps ∙ at_same (found ps) key (Some x)

found_by : {A : Type 0} (key : ℕ) (x : A) (q : ℕ) (ps : List (ℕ × A)) → (q ≡ key → ⊥) → found (put_in key x ps) q ≡ found ps q
found_by key x q ps n = found_put key x q ps ∙ at_other (found ps) key (Some x) q n

-- ---- representatives of arguments
pub rep_within : (below : ℕ) (reps : List ℕ) → AllByRecursion (λ r. r < below) reps → (n : ℕ) → n < below → rep_in reps n < below
rep_within below reps h n l =
    elim (slice_get_cases reps n).1 [
      | inl c ↦ subst (λ r. r < below) (sym (get_or_from_slice_get reps n c.0 n c.2)) (all_at (λ r. r < below) reps n c.0 h c.2)
      | inr c ↦ subst (λ r. r < below) (sym (get_or_past reps n n c.0)) l
    ]

pub reps_within : (below : ℕ) (reps : List ℕ) → AllByRecursion (λ r. r < below) reps → (names : List ℕ) → AllByRecursion (λ a. a < below) names → AllByRecursion (λ a. a < below) (map (rep_in reps) names)
reps_within below reps h [] w = tt
reps_within below reps h (n ∷ ns) w = (rep_within below reps h n w.0, reps_within below reps h ns w.1)

pub has_places : (nodes : List Node) (rep : ℕ → ℕ) (name : ℕ) (p : Node) (args : List ℕ) → slice_get nodes name ≡ Some p → args ≡ map rep p.args → HasPlaces nodes name args
has_places nodes rep name p args at e = record { node = p; at = at; one_each = ap length e ∙ length-map p.args rep }

-- ---- names that are alike
module _ (sig : Signature) (nodes : List Node) (rep : ℕ → ℕ) where
  pub turned : (m n : ℕ) → AreAlike sig nodes rep m n → AreAlike sig nodes rep n m
  turned m n a = record {
    first = a.second;
    second = a.first;
    first_at = a.second_at;
    second_at = a.first_at;
    congruent = record { head = a.congruent.head; first = a.congruent.second; second = a.congruent.first; sorts = sym a.congruent.sorts; args = sym a.congruent.args };
    value = a.value;
  }

  -- alike to one name
  through : (m n o : ℕ) → AreAlike sig nodes rep m n → AreAlike sig nodes rep n o → AreAlike sig nodes rep m o
  through m n o a b =
      let z : a.second ≡ b.first = same_Some a.second b.first (sym a.second_at ∙ b.first_at) in
      let h : b.congruent.head ≡ a.congruent.head = same_head b.congruent.head a.congruent.head (sym b.congruent.first ∙ ap (λ (p : Node). p.head) (sym z) ∙ a.congruent.second) in
      record {
        first = a.first;
        second = b.second;
        first_at = a.first_at;
        second_at = b.second_at;
        congruent = record {
          head = a.congruent.head;
          first = a.congruent.first;
          second = b.congruent.second ∙ ap Of h;
          sorts = a.congruent.sorts ∙ ap (λ (p : Node). p.sorts) z ∙ b.congruent.sorts;
          args = a.congruent.args ∙ ap (λ (p : Node). map rep p.args) z ∙ b.congruent.args;
        };
        value = a.value;
      }

  pub none_entered : (t : Tables) → Fits nodes t → entered t ≡ [] → AreEntered sig nodes rep t 0
  none_entered t f e = record {
    fits = f;
    has = λ n p l. absurd (omega (arith, l));
    only = λ n args g. absurd (none-some args (ap (λ ps. found ps n) (sym e) ∙ g));
    equal = record { each = λ m n l. absurd (omega (arith, l)) };
  }

  module _ (t : Tables) (name : ℕ) (were : AreEntered sig nodes rep t name) where
    -- a name that isn't compared is alike to none
    skipped : (p : Node) → slice_get nodes name ≡ Some p → (IsCompared sig p → ⊥) → (m : ℕ) → AreAlike sig nodes rep m name → ⊥
    skipped p at n m a =
        let z : a.second ≡ p = same_Some a.second p (sym a.second_at ∙ at) in
        n (record { head = a.congruent.head; is = ap (λ (q : Node). q.head) (sym z) ∙ a.congruent.second; value = a.value })

    widened : (n : ℕ) (args : List ℕ) → IsEntered sig nodes rep name n args → IsEntered sig nodes rep (name + 1) n args
    widened n args e = record { before = omega (arith, e.before); node = e.node; at = e.at; compared = e.compared; args_are = e.args_are }

    -- equality below the next number, from that of the earlier names with this one
    next_equal : ((m : ℕ) → m < name → AreAlike sig nodes rep m name → rep m ≡ rep name) → AreEqual sig nodes rep (name + 1)
    next_equal h = record { each = each }
      where
        at_name : (m n : ℕ) → m < name + 1 → n < name + 1 → AreAlike sig nodes rep m n → Dec (m ≡ name) → Dec (n ≡ name) → rep m ≡ rep n
        at_name m n k l a (yes e) (yes f) = ap rep (e ∙ sym f)
        at_name m n k l a (yes e) (no f) =
            ap rep e ∙ sym (h n (omega (arith, l, f)) (subst (AreAlike sig nodes rep n) e (turned m n a)))
        at_name m n k l a (no e) (yes f) = h m (omega (arith, k, e)) (subst (AreAlike sig nodes rep m) f a) ∙ ap rep (sym f)
        at_name m n k l a (no e) (no f) = were.equal.each m n (omega (arith, k, e)) (omega (arith, l, f)) a

        each : (m n : ℕ) → m < name + 1 → n < name + 1 → AreAlike sig nodes rep m n → rep m ≡ rep n
        each m n k l a = at_name m n k l a (ℕ_discrete m name) (ℕ_discrete n name)

    pub skip : (p : Node) → slice_get nodes name ≡ Some p → (IsCompared sig p → ⊥) → AreEntered sig nodes rep t (name + 1)
    skip p at none = record { fits = were.fits; has = has; only = λ n args e. widened n args (were.only n args e); equal = next_equal (λ m l a. absurd (skipped p at none m a)) }
      where
        by_name : (n : ℕ) (q : Node) → n < name + 1 → slice_get nodes n ≡ Some q → IsCompared sig q → Dec (n ≡ name) → found (entered t) n ≡ Some (map rep q.args)
        by_name n q l e c (yes f) = absurd (none (subst (IsCompared sig) (same_Some q p (sym e ∙ ap (slice_get nodes) f ∙ at)) c))
        by_name n q l e c (no f) = were.has n q (omega (arith, l, f)) e c

        has : (n : ℕ) (q : Node) → n < name + 1 → slice_get nodes n ≡ Some q → IsCompared sig q → found (entered t) n ≡ Some (map rep q.args)
        has n q l e c = by_name n q l e c (ℕ_discrete n name)

    module _ (store : IsStore sig nodes) (p : Node) (at : slice_get nodes name ≡ Some p) (compared : IsCompared sig p) (u : Tables) (fits : Fits nodes u)
        (put : entered u ≡ put_in name (map rep p.args) (entered t)) where
      pub here : found (entered u) name ≡ Some (map rep p.args)
      here = ap (λ ps. found ps name) put ∙ found_at name (map rep p.args) (entered t)

      elsewhere : (n : ℕ) → (n ≡ name → ⊥) → found (entered u) n ≡ found (entered t) n
      elsewhere n d = ap (λ ps. found ps n) put ∙ found_by name (map rep p.args) n (entered t) d

      -- an earlier name that is alike collides
      collides : (m : ℕ) → m < name → AreAlike sig nodes rep m name → IsCollision nodes (entered u) name (map rep p.args) m
      collides m l a =
          let z : a.second ≡ p = same_Some a.second p (sym a.second_at ∙ at) in
          let second : p.head ≡ Of a.congruent.head = ap (λ (q : Node). q.head) (sym z) ∙ a.congruent.second in
          let sorts : a.first.sorts ≡ p.sorts = a.congruent.sorts ∙ ap (λ (q : Node). q.sorts) z in
          let args : map rep a.first.args ≡ map rep p.args = a.congruent.args ∙ ap (λ (q : Node). map rep q.args) z in
          record {
            entered = elsewhere m (λ e. omega (arith, l, e)) ∙ were.has m a.first l a.first_at (record { head = a.congruent.head; is = a.congruent.first; value = a.value }) ∙ ap (λ xs. Some xs) args;
            is_other = λ e. omega (arith, l, e);
            node = p;
            at = at;
            other_node = a.first;
            other_at = a.first_at;
            heads = second ∙ sym a.congruent.first;
            sorts = sym sorts;
            sort = one_sort sig nodes name m p a.first a.congruent.head store at a.first_at second a.congruent.first (sym sorts);
          }

      has : (n : ℕ) (q : Node) → n < name + 1 → slice_get nodes n ≡ Some q → IsCompared sig q → found (entered u) n ≡ Some (map rep q.args)
      has n q l e c = by_name (ℕ_discrete n name)
        where
          by_name : Dec (n ≡ name) → found (entered u) n ≡ Some (map rep q.args)
          by_name (yes f) =
              let z : p ≡ q = same_Some p q (sym at ∙ ap (slice_get nodes) (sym f) ∙ e) in
              ap (found (entered u)) f ∙ here ∙ ap (λ (r : Node). Some (map rep r.args)) z
          by_name (no f) = elsewhere n f ∙ were.has n q (omega (arith, l, f)) e c

      only : (n : ℕ) (args : List ℕ) → found (entered u) n ≡ Some args → IsEntered sig nodes rep (name + 1) n args
      only n args e = by_name (ℕ_discrete n name)
        where
          by_name : Dec (n ≡ name) → IsEntered sig nodes rep (name + 1) n args
          by_name (yes f) = record {
            before = omega (arith, f);
            node = p;
            at = ap (slice_get nodes) f ∙ at;
            compared = compared;
            args_are = same_Some args (map rep p.args) (sym e ∙ ap (found (entered u)) f ∙ here);
          }
          by_name (no f) = widened n args (were.only n args (sym (elsewhere n f) ∙ e))

      after : ((m : ℕ) → m < name → AreAlike sig nodes rep m name → rep m ≡ rep name) → AreEntered sig nodes rep u (name + 1)
      after h = record { fits = fits; has = has; only = only; equal = next_equal h }

      pub none_collides : ((n : ℕ) → ¬ IsCollision nodes (entered u) name (map rep p.args) n) → AreEntered sig nodes rep u (name + 1)
      none_collides none = after (λ m l a. absurd (none m (collides m l a)))

      module _ (first : ℕ) (collision : IsCollision nodes (entered u) name (map rep p.args) first) where
        was : IsEntered sig nodes rep name first (map rep p.args)
        was = were.only first (map rep p.args) (sym (elsewhere first collision.is_other) ∙ collision.entered)

        pub alike : AreAlike sig nodes rep first name
        alike =
            let z : collision.node ≡ p = same_Some collision.node p (sym collision.at ∙ at) in
            let w : was.node ≡ collision.other_node = same_Some was.node collision.other_node (sym was.at ∙ collision.other_at) in
            let heads : was.node.head ≡ p.head = ap (λ (q : Node). q.head) w ∙ sym collision.heads ∙ ap (λ (q : Node). q.head) z in
            record {
              first = was.node;
              second = p;
              first_at = was.at;
              second_at = at;
              congruent = record {
                head = compared.head;
                first = heads ∙ compared.is;
                second = compared.is;
                sorts = ap (λ (q : Node). q.sorts) w ∙ sym collision.sorts ∙ ap (λ (q : Node). q.sorts) z;
                args = sym was.args_are;
              };
              value = compared.value;
            }

        pub same : rep first ≡ rep name → AreEntered sig nodes rep u (name + 1)
        same e = after by_first
          where
            by_first : (m : ℕ) → m < name → AreAlike sig nodes rep m name → rep m ≡ rep name
            by_first m l a = were.equal.each m first l was.before (through m name first a (turned first name alike)) ∙ e
