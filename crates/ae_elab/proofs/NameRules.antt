-- Conditions on names that are declared once, as functions follow them.
use Rattle.std.proofs.Common.{◌≡◌, ◌∙◌, ℕ, ◌+◌, ◌<◌, ◌≤◌, Bool, true, false, not, ◌||◌, Option, Some, None, List, [], ◌∷◌, ◌++◌, length, reverse, drop, get_or, refl, sym, ap, subst, true≢false}
use Rattle.std.specs.Option.{is_some}
use Rattle.std.specs.Str.{bytes_eq}
use Rattle.std.proofs.lemmas.List.{reverse-append, drop_more, drop_all}
use Rattle.ae_core.specs.declared.terms.Sort.{Sort}
use Rattle.ae_core.specs.declared.problems.Signature.{Signature}
use Rattle.ae_syntax.specs.declared.spans.Span.{Span}
use Rattle.ae_elab.specs.declared.faults.TypeFault.{TypeFault}
use Rattle.ae_elab.specs.Conditions.{Condition, test}
use Rattle.ae_elab.specs.Scope.{name_in, first_place, symbol_number, type_number, is_among}
use Rattle.ae_elab.specs.Declarations.{all_different, new_symbols, new_symbol, new_type, twice}
use Rattle.ae_elab.specs.Steps.{IsMet, IsNotMet, AreMet, AreNotMet, AreHeld, AreFailed}
use Rattle.ae_elab.proofs.IndexLaws.{among_reversed}
use Rattle.ae_elab.proofs.WalkLaws.{none_met, one_met, one_stops, later_stops, test_met, test_not_met}

-- ---- along a list of conditions: what the rest comes to, the whole comes to
pub record Follows (whole rest : List Condition) (m : ℕ → Sort) : Type 0 where
  pub holds : AreMet rest m m → AreMet whole m m
  pub stops : (e : TypeFault) → AreNotMet rest m e → AreNotMet whole m e

pub follow_start : (whole : List Condition) (m : ℕ → Sort) → Follows whole whole m
follow_start whole m = record { holds = λ a. a; stops = λ e a. a }

pub follow_next : (c : Condition) (whole rest : List Condition) (m : ℕ → Sort) → Follows whole (c ∷ rest) m → IsMet c m m → Follows whole rest m
follow_next c whole rest m f h = record {
  holds = λ a. f.holds (one_met c rest m m m h a);
  stops = λ e a. f.stops e (later_stops c rest m m e h a);
}

pub follow_stop : (c : Condition) (whole rest : List Condition) (m : ℕ → Sort) (e : TypeFault) → Follows whole (c ∷ rest) m → IsNotMet c m e → AreNotMet whole m e
follow_stop c whole rest m e f h = f.stops e (one_stops c rest m e h)

pub follow_end : (whole : List Condition) (m : ℕ → Sort) → Follows whole [] m → AreMet whole m m
follow_end whole m f = f.holds (none_met m)

-- ---- names of which none is taken, and none stands before it
module _ (text : List ℕ) (g : List ℕ → Bool) (asked : List (List ℕ) → List Span → List Condition) where
  abbrev asks : List (List ℕ) → Span → Condition
  asks seen x = test (not (g (name_in text x) || is_among (name_in text x) seen)) (twice text x)

  abbrev pub Asks : Type 0
  Asks = (seen : List (List ℕ)) (x : Span) (xs : List Span) → asked seen (x ∷ xs) ≡ asks seen x ∷ asked (name_in text x ∷ seen) xs

  module _ (law : Asks) (seen : List (List ℕ)) (x : Span) (n : List ℕ) (same : n ≡ name_in text x) where
    abbrev taken : Bool
    taken = g n || is_some (first_place (bytes_eq n) seen)

    same_test : (b : Bool) → taken ≡ b → not (g (name_in text x) || is_among (name_in text x) (reverse seen)) ≡ not b
    same_test b e =
        ap (λ z. not (g (name_in text x) || z)) (among_reversed (bytes_eq (name_in text x)) seen)
        ∙ ap (λ (k : List ℕ). not (g k || is_some (first_place (bytes_eq k) seen))) (sym same)
        ∙ ap not e

    name_held : (m : ℕ → Sort) → taken ≡ false → IsMet (asks (reverse seen) x) m m
    name_held m e = test_met (not (g (name_in text x) || is_among (name_in text x) (reverse seen))) (twice text x) m (same_test false e)

    name_failed : (m : ℕ → Sort) → taken ≡ true → IsNotMet (asks (reverse seen) x) m (twice text x)
    name_failed m e =
        test_not_met (not (g (name_in text x) || is_among (name_in text x) (reverse seen))) (twice text x) m (λ h. true≢false (sym h ∙ same_test true e))

    module _ (whole : List Condition) (xs : List Span) (i : ℕ) (d : Span) (m : ℕ → Sort) (l : i < length xs) (e : x ≡ get_or xs i d) (f : Follows whole (asked (reverse seen) (drop i xs)) m) where
      at_name : Follows whole (asks (reverse seen) x ∷ asked (name_in text x ∷ reverse seen) (drop (i + 1) xs)) m
      at_name =
          subst (λ (cs : List Condition). Follows whole cs m) (law (reverse seen) x (drop (i + 1) xs))
          (subst (λ (ys : List Span). Follows whole (asked (reverse seen) ys) m) (drop_more xs i d l ∙ ap (λ z. z ∷ drop (i + 1) xs) (sym e)) f)

      pub names_next : taken ≡ false → Follows whole (asked (reverse (seen ++ n ∷ [])) (drop (i + 1) xs)) m
      names_next h =
          subst (λ (ns : List (List ℕ)). Follows whole (asked ns (drop (i + 1) xs)) m) (sym (reverse-append seen (n ∷ []) ∙ ap (λ k. k ∷ reverse seen) same))
          (follow_next (asks (reverse seen) x) whole (asked (name_in text x ∷ reverse seen) (drop (i + 1) xs)) m at_name (name_held m h))

      pub names_stop : taken ≡ true → AreNotMet whole m (twice text x)
      names_stop h = follow_stop (asks (reverse seen) x) whole (asked (name_in text x ∷ reverse seen) (drop (i + 1) xs)) m (twice text x) at_name (name_failed m h)

  pub names_end : ((seen : List (List ℕ)) → asked seen [] ≡ []) → (seen : List (List ℕ)) (whole : List Condition) (xs : List Span) (i : ℕ) (m : ℕ → Sort) → length xs ≤ i
      → Follows whole (asked seen (drop i xs)) m → AreMet whole m m
  names_end none seen whole xs i m l f =
      follow_end whole m (subst (λ (cs : List Condition). Follows whole cs m) (none seen) (subst (λ (ys : List Span). Follows whole (asked seen ys) m) (drop_all i xs l) f))

-- what is taken: the names of symbols, or none
abbrev pub of_symbols : Signature → List ℕ → Bool
of_symbols sig n = is_some (symbol_number sig n)

abbrev pub none_taken : List ℕ → Bool
none_taken n = false

pub symbols_ask : (text : List ℕ) (sig : Signature) → Asks text (of_symbols sig) (new_symbols text sig)
symbols_ask text sig seen x xs = refl

pub different_ask : (text : List ℕ) → Asks text none_taken (all_different text)
different_ask text seen x xs = refl

-- ---- a symbol's name
module _ (text : List ℕ) (sig : Signature) (x : Span) (n : List ℕ) (same : n ≡ name_in text x) where
  abbrev unused : Bool
  unused = not (is_some (symbol_number sig (name_in text x)))

  same_number : (o : Option ℕ) → symbol_number sig n ≡ o → unused ≡ not (is_some o)
  same_number o e = ap (λ o. not (is_some o)) (ap (λ (k : List ℕ). symbol_number sig k) (sym same) ∙ e)

  pub symbol_held : symbol_number sig n ≡ None → AreHeld (new_symbol text sig x ∷ [])
  symbol_held e m = one_met (new_symbol text sig x) [] m m m (test_met unused (twice text x) m (same_number None e)) (none_met m)

  pub symbol_failed : (k : ℕ) → symbol_number sig n ≡ Some k → AreFailed (new_symbol text sig x ∷ []) (twice text x)
  symbol_failed k e m =
      one_stops (new_symbol text sig x) [] m (twice text x) (test_not_met unused (twice text x) m (λ h. true≢false (sym h ∙ same_number (Some k) e)))

-- ---- a type's name
module _ (text : List ℕ) (sig : Signature) (x : Span) (n : List ℕ) (same : n ≡ name_in text x) where
  abbrev free : Bool
  free = not (is_some (type_number sig (name_in text x)))

  pub type_held : type_number sig n ≡ None → AreHeld (new_type text sig x ∷ [])
  type_held e m =
      one_met (new_type text sig x) [] m m m (test_met free (twice text x) m (ap (λ o. not (is_some o)) (ap (λ (k : List ℕ). type_number sig k) (sym same) ∙ e))) (none_met m)

  pub type_failed : (k : ℕ) → type_number sig n ≡ Some k → AreFailed (new_type text sig x ∷ []) (twice text x)
  type_failed k e m =
      one_stops (new_type text sig x) [] m (twice text x)
      (test_not_met free (twice text x) m (λ h. true≢false (sym h ∙ ap (λ o. not (is_some o)) (ap (λ (k : List ℕ). type_number sig k) (sym same) ∙ e))))
