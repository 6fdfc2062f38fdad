-- What holds of a part whose conditions are met.
use Rattle.std.proofs.Common.{arith, ◌≡◌, ◌≤◌, ℕ, inl, inr, true, List, [], ◌∷◌, map, length, subst}
use Rattle.std.proofs.lemmas.List.{reverse-reverse}
use Rattle.std.specs.List.{AllByRecursion}
use Rattle.ae_base.proofs.AllOf.{all_front, all_back, all_before_map, all_reversed}
use Rattle.ae_core.specs.declared.terms.Sort.{Sort}
use Rattle.ae_types.specs.Substitutions.{put}
use Rattle.ae_elab.specs.Conditions.{Demand, Test, Same, Possible, First, IsOneOf, IsFirstOf, sorts_among, Meets, Condition, demands, IsTyping}
use Rattle.ae_elab.specs.Rules.{Passed, Rule, give, ◌>>◌, ◌⇒◌, all_of, each}

module _ (m : ℕ → Sort) where
  -- a condition is met by the sorts that m puts, as far as it says something of them
  abbrev pub MeetsOne : Demand → Type 0
  MeetsOne (Test holds) = holds ≡ true
  MeetsOne (Same s t) = put m s ≡ put m t
  MeetsOne (Possible n s) = Unit {0}
  MeetsOne (First n s) = IsOneOf (put m s) (sorts_among n)

  abbrev pub IsMetOne : Condition → Type 0
  IsMetOne c = MeetsOne c.demand

  one_of_first : (May : Sort → Type 0) (s : Sort) (cs : List Sort) → IsFirstOf May s cs → IsOneOf s cs
  one_of_first May s [] h = absurd h
  one_of_first May s (c ∷ cs) (inl e) = inl e
  one_of_first May s (c ∷ cs) (inr h) = inr (one_of_first May s cs h.1)

  meets_each : (ds : List Demand) → Meets ds m → AllByRecursion MeetsOne ds
  meets_each [] h = tt
  meets_each (Test holds ∷ ds) h = (h.1, meets_each ds h.0)
  meets_each (Same s t ∷ ds) h = (h.1, meets_each ds h.0)
  meets_each (Possible n s ∷ ds) h = (tt, meets_each ds h.0)
  meets_each (First n s ∷ ds) h = (one_of_first _ (put m s) (sorts_among n) h.1, meets_each ds h.0)

  -- sorts that meet all conditions meet each of them
  pub met_each : (cs : List Condition) → IsTyping cs m → AllByRecursion IsMetOne cs
  met_each cs h =
      all_before_map MeetsOne (λ c. c.demand) cs
      (subst (AllByRecursion MeetsOne) (reverse-reverse (map (λ c. c.demand) cs)) (all_reversed MeetsOne (demands cs) (meets_each (demands cs) h)))

  -- ---- what a rule passes on grows
  pub record Grows (p q : Passed) : Type 0 where
    pub next : p.next ≤ q.next
    pub written : length p.written ≤ length q.written

  pub grows_not : (p : Passed) → Grows p p
  grows_not p = record { next = omega arith; written = omega arith }

  pub grows_then : (p q r : Passed) → Grows p q → Grows q r → Grows p r
  grows_then p q r a b = record {
    next = let x = a.next in let y = b.next in omega arith;
    written = let x = a.written in let y = b.written in omega arith;
  }

  -- where its conditions are met a rule gives a value of which this is so
  abbrev pub Meeting : {A : Type 0} → Passed → Rule A → Type 0
  Meeting p r = AllByRecursion IsMetOne (r p).conditions

  pub record Given {A : Type 0} (Q : A → Passed → Type 0) (r : Rule A) (p : Passed) : Type 0 where
    pub grows : Grows p (r p).passed
    pub value : Q (r p).value (r p).passed

  pub record Gives {A : Type 0} (p : Passed) (Q : A → Passed → Type 0) (r : Rule A) : Type 0 where
    pub by : Meeting p r → Given Q r p

  -- the same where nothing is said of what is passed on
  pub record Ends {A : Type 0} (p : Passed) (Q : A → Type 0) (r : Rule A) : Type 0 where
    pub by : Meeting p r → Q (r p).value

  pub gives_value : {A : Type 0} (Q : A → Passed → Type 0) (x : A) (p : Passed) → Q x p → Gives p Q (give x)
  gives_value Q x p q = record { by = λ h. record { grows = grows_not p; value = q } }

  pub gives_then : {A B : Type 0} (Q : A → Passed → Type 0) (R : B → Passed → Type 0) (r : Rule A) (f : A → Rule B) (p : Passed) → Gives p Q r
      → ((x : A) (q : Passed) → Grows p q → Q x q → Gives q R (f x)) → Gives p R (r >> f)
  gives_then Q R r f p h k = record {
    by = λ c. let a = h.by (all_front IsMetOne (r p).conditions (f (r p).value (r p).passed).conditions c) in
        let b = (k (r p).value (r p).passed a.grows a.value).by (all_back IsMetOne (r p).conditions (f (r p).value (r p).passed).conditions c) in
        record { grows = grows_then p (r p).passed (f (r p).value (r p).passed).passed a.grows b.grows; value = b.value };
  }

  pub gives_after : {A : Type 0} (Q : A → Passed → Type 0) (c : Condition) (r : Rule A) (p : Passed) → (IsMetOne c → Gives p Q r) → Gives p Q (c ⇒ r)
  gives_after Q c r p h = record { by = λ k. let a = (h k.0).by k.1 in record { grows = a.grows; value = a.value } }

  pub gives_after_all : {A : Type 0} (Q : A → Passed → Type 0) (cs : List Condition) (r : Rule A) (p : Passed) → (AllByRecursion IsMetOne cs → Gives p Q r) → Gives p Q (all_of cs r)
  gives_after_all Q [] r p h = h tt
  gives_after_all Q (c ∷ cs) r p h = gives_after Q c (all_of cs r) p (λ m. gives_after_all Q cs r p (λ ms. h (m, ms)))

  pub ends_then : {A B : Type 0} (Q : A → Passed → Type 0) (R : B → Type 0) (r : Rule A) (f : A → Rule B) (p : Passed) → Gives p Q r
      → ((x : A) (q : Passed) → Grows p q → Q x q → Ends q R (f x)) → Ends p R (r >> f)
  ends_then Q R r f p h k = record {
    by = λ c. let a = h.by (all_front IsMetOne (r p).conditions (f (r p).value (r p).passed).conditions c) in
        (k (r p).value (r p).passed a.grows a.value).by (all_back IsMetOne (r p).conditions (f (r p).value (r p).passed).conditions c);
  }

  pub ends_whatever : {A B : Type 0} (R : B → Type 0) (r : Rule A) (f : A → Rule B) (p : Passed) → ((x : A) (q : Passed) → Ends q R (f x)) → Ends p R (r >> f)
  ends_whatever R r f p k = record { by = λ c. (k (r p).value (r p).passed).by (all_back IsMetOne (r p).conditions (f (r p).value (r p).passed).conditions c) }

  pub ends_after : {A : Type 0} (R : A → Type 0) (c : Condition) (r : Rule A) (p : Passed) → (IsMetOne c → Ends p R r) → Ends p R (c ⇒ r)
  ends_after R c r p h = record { by = λ k. (h k.0).by k.1 }

  pub ends_after_all : {A : Type 0} (R : A → Type 0) (cs : List Condition) (r : Rule A) (p : Passed) → (AllByRecursion IsMetOne cs → Ends p R r) → Ends p R (all_of cs r)
  ends_after_all R [] r p h = h tt
  ends_after_all R (c ∷ cs) r p h = ends_after R c (all_of cs r) p (λ m. ends_after_all R cs r p (λ ms. h (m, ms)))

  -- a rule for each of a list
  abbrev pub Keeps : {A : Type 0} → (A → Passed → Type 0) → Type 0
  Keeps {A} Q = (x : A) (p q : Passed) → Grows p q → Q x p → Q x q

  abbrev pub Each : {A : Type 0} → (A → Passed → Type 0) → List A → Passed → Type 0
  Each Q xs p = AllByRecursion (λ x. Q x p) xs

  pub keeps_each : {A : Type 0} (Q : A → Passed → Type 0) → Keeps Q → Keeps (Each Q)
  keeps_each Q k [] p q g h = tt
  keeps_each Q k (x ∷ xs) p q g h = (k x p q g h.0, keeps_each Q k xs p q g h.1)

  pub gives_each : {A B : Type 0} (S : A → Type 0) (Q : B → Passed → Type 0) (f : A → Rule B) → Keeps Q → ((x : A) → S x → (p : Passed) → Gives p Q (f x))
      → (xs : List A) → AllByRecursion S xs → (p : Passed) → Gives p (Each Q) (each f xs)
  gives_each S Q f k h [] a p = gives_value (Each Q) [] p tt
  gives_each S Q f k h (x ∷ xs) a p =
      gives_then Q (Each Q) (f x) (λ y. each f xs >> λ ys. give (y ∷ ys)) p (h x a.0 p)
      (λ y q g r. gives_then (Each Q) (Each Q) (each f xs) (λ ys. give (y ∷ ys)) q (gives_each S Q f k h xs a.1 q)
      (λ ys u i v. gives_value (Each Q) (y ∷ ys) u (k y q u i r, v)))
