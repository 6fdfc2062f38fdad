-- The formal parameters of a definition, one by one.
use Rattle.std.proofs.Common.{◌≡◌, ◌∙◌, ℕ, Bool, true, false, not, List, [], ◌∷◌, ◌++◌, reverse, sym, ap, subst, true≢false}
use Rattle.std.specs.Option.{is_some}
use Rattle.std.specs.Str.{bytes_eq}
use Rattle.std.proofs.lemmas.List.{append_assoc, append-nil, reverse-append}
use Rattle.ae_core.specs.declared.problems.Signature.{Signature}
use Rattle.ae_core.specs.declared.terms.Sort.{Sort}
use Rattle.ae_elab.specs.declared.faults.TypeFault.{TypeFault}
use Rattle.ae_elab.specs.declared.grounds.Ground.TheVariants.{Free}
use Rattle.ae_elab.specs.Conditions.{Condition, test}
use Rattle.ae_elab.specs.Declarations.{formals_rule, scope_of, twice}
use Rattle.ae_elab.specs.Formulas.{Bound}
use Rattle.ae_elab.specs.Rules.{Passed, Rule, give, ◌>>◌, fresh}
use Rattle.ae_elab.specs.Scope.{first_place, is_among, name_in}
use Rattle.ae_elab.specs.Steps.{IsWalked, IsStopped, IsTaken}
use Rattle.ae_elab.specs.WrittenTypes.{type_rule}
use Rattle.ae_elab.proofs.IndexLaws.{among_reversed}
use Rattle.ae_elab.proofs.WalkLaws.{give_walked, then_walked, then_stops, then_stops_later, demand_walked, demand_stops, demand_stops_later, test_met, test_not_met}
use Rattle.ae_syntax.specs.declared.decls.TypedName.{TypedName}

module _ (text : List ℕ) (sig : Signature) where
  abbrev rule_of : List (List ℕ) → List TypedName → Rule (List Bound)
  rule_of seen xs = formals_rule text sig (reverse seen) xs

  abbrev pub formal_of : TypedName → Sort → ℕ → Bound
  formal_of x s n = record { name = name_in text x.name; number = n; sort = s }

  -- what the rest comes to, the whole comes to with what is done
  pub record Formals (xs : List TypedName) (m : ℕ → Sort) (start now : Passed) (done : List Bound) (seen : List (List ℕ)) (rest : List TypedName) : Type 0 where
    pub walks : (q : Passed) (cs : List Bound) → IsWalked (rule_of seen rest) m m now q cs → IsWalked (formals_rule text sig [] xs) m m start q (done ++ cs)
    pub stops : (e : TypeFault) → IsStopped (rule_of seen rest) m now e → IsStopped (formals_rule text sig [] xs) m start e

  pub formals_start : (xs : List TypedName) (m : ℕ → Sort) (p : Passed) → Formals xs m p p [] [] xs
  formals_start xs m p = record { walks = λ q cs a. a; stops = λ e a. a }

  module _ (xs : List TypedName) (m : ℕ → Sort) (start now : Passed) (done : List Bound) (seen : List (List ℕ)) (x : TypedName) (rest : List TypedName) (so_far : Formals xs m start now done seen (x ∷ rest)) where
    abbrev here : List ℕ
    here = name_in text x.name

    abbrev taken : Bool
    taken = is_among here (reverse seen)

    abbrev asked : Condition
    asked = test (not taken) (twice text x.name)

    abbrev sorted : Rule Sort
    sorted = type_rule x.sort Free (scope_of text sig)

    abbrev after_rest : Sort → ℕ → List Bound → Rule (List Bound)
    after_rest s n bs = give (formal_of x s n ∷ bs)

    abbrev after_fresh : Sort → ℕ → Rule (List Bound)
    after_fresh s n = formals_rule text sig (here ∷ reverse seen) rest >> after_rest s n

    abbrev after_sort : Sort → Rule (List Bound)
    after_sort s = fresh >> after_fresh s

    is_taken : taken ≡ is_some (first_place (bytes_eq here) seen)
    is_taken = among_reversed (bytes_eq here) seen

    pub formal_twice : is_some (first_place (bytes_eq here) seen) ≡ true → IsStopped (formals_rule text sig [] xs) m start (twice text x.name)
    formal_twice h =
        so_far.stops (twice text x.name) (demand_stops asked (sorted >> after_sort) m now (twice text x.name)
        (test_not_met (not taken) (twice text x.name) m (λ k. true≢false (sym k ∙ ap not (is_taken ∙ h)))))

    module _ (new : is_some (first_place (bytes_eq here) seen) ≡ false) where
      pub formal_sortless : (e : TypeFault) → IsStopped sorted m now e → IsStopped (formals_rule text sig [] xs) m start e
      formal_sortless e a =
          so_far.stops e (demand_stops_later asked (sorted >> after_sort) m m now e (test_met (not taken) (twice text x.name) m (ap not (is_taken ∙ new)))
          (then_stops sorted after_sort m now e a))

      module _ (p q : Passed) (s : Sort) (n : ℕ) (a : IsWalked sorted m m now p s) (b : IsTaken fresh p q n) (later : List (List ℕ)) (longer : later ≡ seen ++ here ∷ []) where
        as_seen : reverse later ≡ here ∷ reverse seen
        as_seen = ap reverse longer ∙ reverse-append seen (here ∷ [])

        pub formal_done : Formals xs m start q (done ++ formal_of x s n ∷ []) later rest
        formal_done = record {
          walks = λ r cs k. subst (λ z. IsWalked (formals_rule text sig [] xs) m m start r z) (sym (append_assoc done (formal_of x s n ∷ []) cs))
              (so_far.walks r (formal_of x s n ∷ cs) (demand_walked asked (sorted >> after_sort) m m m now r (formal_of x s n ∷ cs) (test_met (not taken) (twice text x.name) m (ap not (is_taken ∙ new)))
              (then_walked sorted after_sort m m m now p r s (formal_of x s n ∷ cs) a
              (then_walked fresh (after_fresh s) m m m p q r n (formal_of x s n ∷ cs) (b m)
              (then_walked (formals_rule text sig (here ∷ reverse seen) rest) (after_rest s n) m m m q r r cs (formal_of x s n ∷ cs)
              (subst (λ ns. IsWalked (formals_rule text sig ns rest) m m q r cs) as_seen k) (give_walked (formal_of x s n ∷ cs) m r))))));
          stops = λ e k. so_far.stops e (demand_stops_later asked (sorted >> after_sort) m m now e (test_met (not taken) (twice text x.name) m (ap not (is_taken ∙ new)))
              (then_stops_later sorted after_sort m m now p s e a
              (then_stops_later fresh (after_fresh s) m m p q n e (b m)
              (then_stops (formals_rule text sig (here ∷ reverse seen) rest) (after_rest s n) m q e
              (subst (λ ns. IsStopped (formals_rule text sig ns rest) m q e) as_seen k)))));
        }

  pub formals_whole : (xs : List TypedName) (m : ℕ → Sort) (start now : Passed) (done : List Bound) (seen : List (List ℕ)) → Formals xs m start now done seen []
      → IsWalked (formals_rule text sig [] xs) m m start now done
  formals_whole xs m start now done seen a = subst (λ z. IsWalked (formals_rule text sig [] xs) m m start now z) (append-nil done) (a.walks now [] (give_walked [] m now))
