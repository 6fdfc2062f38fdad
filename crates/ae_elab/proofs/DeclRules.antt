-- Declarations that need no terms, as functions follow them.
use Rattle.std.proofs.Common.{arith, ◌≡◌, ◌∙◌, ℕ, suc, ◌+◌, ◌<◌, Bool, true, false, Some, Option, List, [], ◌∷◌, ◌++◌, map, length, take, get_or, sym, ap, subst, append_assoc}
use Rattle.std.proofs.lemmas.Bool.{both_ways}
use Rattle.std.proofs.lemmas.List.{append-nil, map_push, take_more, length-take-le}
use Rattle.ae_core.specs.declared.terms.Sort.{Sort, Named}
use Rattle.ae_core.specs.declared.problems.Signature.{Signature}
use Rattle.ae_core.specs.declared.problems.SymbolEntry.{SymbolEntry}
use Rattle.ae_core.specs.declared.problems.Kind.TheVariants.{Choices}
use Rattle.ae_core.specs.declared.problems.Nature.TheVariants.{Choice}
use Rattle.ae_syntax.specs.declared.spans.Span.{Span}
use Rattle.ae_syntax.specs.declared.types.WrittenType.{WrittenType}
use Rattle.ae_syntax.specs.declared.decls.SymbolResult.{SymbolResult}
use Rattle.ae_elab.specs.declared.faults.TypeFault.{TypeFault}
use Rattle.ae_elab.specs.declared.faults.TypeFault.TheVariants as fault
use Rattle.ae_elab.specs.declared.grounds.Ground.TheVariants.{Free}
use Rattle.ae_elab.specs.Conditions.{test}
use Rattle.ae_elab.specs.Declarations.{Declared, only_declared, declared, new_symbols, new_type, with_types, with_symbols, type_entry, symbol_entry, scope_of, result_rule, may_be_ac, nature_of, logic_decl, constructors_from, count_from, enumeration_decl}
use Rattle.ae_elab.specs.Rules.{Passed, Rule, ◌>>◌, ◌⇒◌, all_of, each, count_written}
use Rattle.ae_elab.specs.Scope.{name_in}
use Rattle.ae_elab.specs.Steps.{IsTaken, IsHalted, AreHeld, AreFailed}
use Rattle.ae_elab.specs.WrittenTypes.{type_rule}
use Rattle.ae_elab.proofs.WalkLaws.{give_walked, then_walked, then_stops, then_stops_later, demand_walked, demand_stops, test_met, test_not_met}
use Rattle.ae_elab.proofs.EachLaws.{all_walked, all_stop, all_stop_later}

-- ---- entries behind others
pub symbols_more : (sig : Signature) (xs ys : List SymbolEntry) → with_symbols (with_symbols sig xs) ys ≡ with_symbols sig (xs ++ ys)
symbols_more sig xs ys = ap (λ (es : List SymbolEntry). record { types = sig.types; symbols = es }) (append_assoc sig.symbols xs ys)

pub symbols_none : (sig : Signature) → sig ≡ with_symbols sig []
symbols_none sig = ap (λ (es : List SymbolEntry). record { types = sig.types; symbols = es }) (sym (append-nil sig.symbols))

-- one more symbol in a loop over names
module _ (f : Span → SymbolEntry) (sig known new : Signature) (xs : List Span) (i : ℕ) (d : Span) where
  pub symbol_next : i < length xs → known ≡ with_symbols sig (map f (take i xs)) → new ≡ with_symbols known (f (get_or xs i d) ∷ []) → new ≡ with_symbols sig (map f (take (i + 1) xs))
  symbol_next l h e =
      e
      ∙ ap (λ (s : Signature). with_symbols s (f (get_or xs i d) ∷ [])) h
      ∙ symbols_more sig (map f (take i xs)) (f (get_or xs i d) ∷ [])
      ∙ ap (with_symbols sig) (sym (map_push f (take i xs) (get_or xs i d)) ∙ ap (map f) (sym (take_more xs i d l)))

-- ---- `logic`
module _ (text : List ℕ) (sig : Signature) (place : Span) (ac : Bool) (names : List Span) (args : List WrittenType) (value : SymbolResult) (p : Passed) where
  abbrev argument : WrittenType → Rule Sort
  argument w = type_rule w Free (scope_of text sig)

  abbrev entry : ℕ → List Sort → Option Sort → Span → SymbolEntry
  entry n ss r x = symbol_entry (name_in text x) n ss r (nature_of ac)

  abbrev bad : TypeFault
  bad = fault.BadAc place.from place.to

  abbrev counted : List Sort → Option Sort → ℕ → Rule Declared
  counted ss r n = declared (with_symbols sig (map (entry n ss r) names))

  abbrev checked : List Sort → Option Sort → Rule Declared
  checked ss r = test (may_be_ac ac ss r) bad ⇒ count_written >> counted ss r

  abbrev valued : List Sort → Rule Declared
  valued ss = result_rule text sig value.sort >> checked ss

  abbrev sorted : Rule Declared
  sorted = each argument args >> valued

  pub names_fail : (e : TypeFault) → AreFailed (new_symbols text sig [] names) e → IsHalted (logic_decl text sig place ac names args value) p e
  names_fail e a m = all_stop sorted p (new_symbols text sig [] names) m e (a m)

  module _ (held : AreHeld (new_symbols text sig [] names)) where
    pub args_fail : (e : TypeFault) → IsHalted (each argument args) p e → IsHalted (logic_decl text sig place ac names args value) p e
    args_fail e a m = all_stop_later sorted p (new_symbols text sig [] names) m m e (held m) (then_stops (each argument args) valued m p e (a m))

    module _ (q : Passed) (ss : List Sort) (taken : IsTaken (each argument args) p q ss) where
      later : (e : TypeFault) → IsHalted (valued ss) q e → IsHalted (logic_decl text sig place ac names args value) p e
      later e a m = all_stop_later sorted p (new_symbols text sig [] names) m m e (held m) (then_stops_later (each argument args) valued m m p q ss e (taken m) (a m))

      pub value_fails : (e : TypeFault) → IsHalted (result_rule text sig value.sort) q e → IsHalted (logic_decl text sig place ac names args value) p e
      value_fails e a = later e (λ m. then_stops (result_rule text sig value.sort) (checked ss) m q e (a m))

      module _ (s : Passed) (r : Option Sort) (found : IsTaken (result_rule text sig value.sort) q s r) where
        pub ac_fails : may_be_ac ac ss r ≡ false → IsHalted (logic_decl text sig place ac names args value) p bad
        ac_fails h =
            later bad (λ m. then_stops_later (result_rule text sig value.sort) (checked ss) m m q s r bad (found m)
            (demand_stops (test (may_be_ac ac ss r) bad) (count_written >> counted ss r) m s bad (test_not_met (may_be_ac ac ss r) bad m (both_ways (may_be_ac ac ss r) h))))

        pub logic_declares : may_be_ac ac ss r ≡ true → (n : ℕ) → IsTaken count_written s s n → (new : Signature) → new ≡ with_symbols sig (map (entry n ss r) names)
            → IsTaken (logic_decl text sig place ac names args value) p s (only_declared new)
        logic_declares h n counts new e m =
            all_walked sorted p (new_symbols text sig [] names) m m m s (only_declared new) (held m)
            (then_walked (each argument args) valued m m m p q s ss (only_declared new) (taken m)
            (then_walked (result_rule text sig value.sort) (checked ss) m m m q s s r (only_declared new) (found m)
            (demand_walked (test (may_be_ac ac ss r) bad) (count_written >> counted ss r) m m m s s (only_declared new) (test_met (may_be_ac ac ss r) bad m h)
            (then_walked count_written (counted ss r) m m m s s s n (only_declared new) (counts m)
            (subst (λ (k : Signature). IsTaken (declared (with_symbols sig (map (entry n ss r) names))) s s (only_declared k)) (sym e) (λ o. give_walked (only_declared (with_symbols sig (map (entry n ss r) names))) o s) m)))))

-- ---- enumerations
pub constructors_push : (text : List ℕ) (of n : ℕ) (cs : List Span) (c : Span)
    → constructors_from text of n (cs ++ c ∷ []) ≡ constructors_from text of n cs ++ symbol_entry (name_in text c) 0 [] (Some (Named of [])) (Choice of (n + length cs)) ∷ []
constructors_push text of n [] c = let h : n ≡ n + 0 = omega arith in ap (λ (k : ℕ). symbol_entry (name_in text c) 0 [] (Some (Named of [])) (Choice of k) ∷ []) h
constructors_push text of n (d ∷ cs) c = ap (λ es. symbol_entry (name_in text d) 0 [] (Some (Named of [])) (Choice of n) ∷ es) (constructors_push text of (suc n) cs c
    ∙ (let h : suc n + length cs ≡ n + length (d ∷ cs) = omega arith in
    ap (λ (k : ℕ). constructors_from text of (suc n) cs ++ symbol_entry (name_in text c) 0 [] (Some (Named of [])) (Choice of k) ∷ []) h))

pub count_push : (n : ℕ) (cs : List Span) (c : Span) → count_from n (cs ++ c ∷ []) ≡ count_from n cs ++ (n + length cs) ∷ []
count_push n [] c = let h : n ≡ n + 0 = omega arith in ap (λ (k : ℕ). k ∷ []) h
count_push n (d ∷ cs) c =
    let h : suc n + length cs ≡ n + length (d ∷ cs) = omega arith in
    ap (λ ns. n ∷ ns) (count_push (suc n) cs c ∙ ap (λ (k : ℕ). count_from (suc n) cs ++ k ∷ []) h)

pub count_next : (first : ℕ) (cs : List Span) (i : ℕ) → i < length cs → count_from first (take (i + 1) cs) ≡ count_from first (take i cs) ++ (first + i) ∷ []
count_next first cs i l =
    let d : Span = record { from = 0; to = 0 } in
    let n : length (take i cs) ≡ i = length-take-le i cs (omega arith) in
    ap (count_from first) (take_more cs i d l) ∙ count_push first (take i cs) (get_or cs i d) ∙ ap (λ (k : ℕ). count_from first (take i cs) ++ (first + k) ∷ []) n

-- one more constructor in a loop over names
module _ (text : List ℕ) (of : ℕ) (sig known new : Signature) (xs : List Span) (i : ℕ) (d : Span) where
  abbrev constructor_entry : SymbolEntry
  constructor_entry = symbol_entry (name_in text (get_or xs i d)) 0 [] (Some (Named of [])) (Choice of i)

  pub constructor_next : i < length xs → known ≡ with_symbols sig (constructors_from text of 0 (take i xs)) → new ≡ with_symbols known (constructor_entry ∷ [])
      → new ≡ with_symbols sig (constructors_from text of 0 (take (i + 1) xs))
  constructor_next l h e =
      let n : 0 + length (take i xs) ≡ i = omega (arith, length-take-le i xs (omega arith)) in
      e
      ∙ ap (λ (s : Signature). with_symbols s (constructor_entry ∷ [])) h
      ∙ symbols_more sig (constructors_from text of 0 (take i xs)) (constructor_entry ∷ [])
      ∙ ap (with_symbols sig)
      (ap (λ (k : ℕ). constructors_from text of 0 (take i xs) ++ symbol_entry (name_in text (get_or xs i d)) 0 [] (Some (Named of [])) (Choice of k) ∷ []) (sym n)
      ∙ sym (constructors_push text of 0 (take i xs) (get_or xs i d))
      ∙ ap (constructors_from text of 0) (sym (take_more xs i d l)))

module _ (text : List ℕ) (sig : Signature) (x : Span) (cs : List Span) (p : Passed) where
  abbrev of : ℕ
  of = length sig.types

  abbrev pub whole : Signature
  whole = with_symbols (with_types sig (type_entry (name_in text x) 0 (Choices (count_from (length sig.symbols) cs)) ∷ [])) (constructors_from text of 0 cs)

  abbrev named : Rule Declared
  named = all_of (new_symbols text sig [] cs) (declared whole)

  pub type_fails : (e : TypeFault) → AreFailed (new_type text sig x ∷ []) e → IsHalted (enumeration_decl text sig x cs) p e
  type_fails e a m = all_stop named p (new_type text sig x ∷ []) m e (a m)

  module _ (free : AreHeld (new_type text sig x ∷ [])) where
    pub constructors_fail : (e : TypeFault) → AreFailed (new_symbols text sig [] cs) e → IsHalted (enumeration_decl text sig x cs) p e
    constructors_fail e a m = all_stop_later named p (new_type text sig x ∷ []) m m e (free m) (all_stop (declared whole) p (new_symbols text sig [] cs) m e (a m))

    pub enumeration_declares : AreHeld (new_symbols text sig [] cs) → (new : Signature) → new ≡ whole → IsTaken (enumeration_decl text sig x cs) p p (only_declared new)
    enumeration_declares held new e m =
        subst (λ (k : Signature). IsTaken (enumeration_decl text sig x cs) p p (only_declared k)) (sym e)
        (λ o. all_walked named p (new_type text sig x ∷ []) o o o p (only_declared whole) (free o)
        (all_walked (declared whole) p (new_symbols text sig [] cs) o o o p (only_declared whole) (held o) (give_walked (only_declared whole) o p))) m
