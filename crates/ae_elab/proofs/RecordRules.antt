-- Types that are declared with or without fields, as functions follow them.
use Rattle.std.proofs.Common.{◌≡◌, ◌∙◌, ℕ, ◌+◌, ◌<◌, ◌≤◌, Bool, true, false, not, Option, Some, None, List, [], ◌∷◌, ◌++◌, map, length, drop, get_or, refl, sym, ap, subst, true≢false}
use Rattle.std.specs.Option.{is_some}
use Rattle.std.proofs.lemmas.List.{drop_more, drop_all}
use Rattle.ae_core.specs.declared.terms.Sort.{Sort}
use Rattle.ae_core.specs.declared.problems.FieldEntry.{FieldEntry}
use Rattle.ae_core.specs.declared.problems.Kind.TheVariants.{Abstract}
use Rattle.ae_core.specs.declared.problems.Signature.{Signature}
use Rattle.ae_syntax.specs.declared.spans.Span.{Span}
use Rattle.ae_syntax.specs.declared.decls.TypedName.{TypedName}
use Rattle.ae_elab.specs.declared.faults.TypeFault.{TypeFault}
use Rattle.ae_elab.specs.declared.grounds.Ground.{Ground}
use Rattle.ae_elab.specs.declared.grounds.Ground.TheVariants.{InField}
use Rattle.ae_elab.specs.Conditions.{Condition, test}
use Rattle.ae_elab.specs.Declarations.{Declared, only_declared, declared, has_field, twice, all_different, new_type, with_types, type_entry, scope_of, fields_rule, type_decl}
use Rattle.ae_elab.specs.Inner.Fields.{record_entry, no_fields, declares_fields}
use Rattle.ae_elab.specs.Rules.{Passed, Rule, ◌>>◌, ◌⇒◌, all_of}
use Rattle.ae_elab.specs.Scope.{name_in, field_place}
use Rattle.ae_elab.specs.declared.fields.FieldPlace.{FieldPlace}
use Rattle.ae_elab.specs.Steps.{IsTaken, IsHalted, IsWalked, IsStopped, AreHeld, AreFailed}
use Rattle.ae_elab.specs.WrittenTypes.{type_rule}
use Rattle.ae_elab.proofs.WalkLaws.{give_walked, test_met, test_not_met}
use Rattle.ae_elab.proofs.EachLaws.{all_walked, all_stop, all_stop_later}
use Rattle.ae_elab.proofs.LeadLaws.{Leads, lead_start, lead_as, lead_condition, lead_unmet, lead_part, lead_fault, demand_then}

-- ---- fields
module _ (text : List ℕ) (before : Signature) (g : Ground) (own : List ℕ) (arity : ℕ) where
  abbrev pub fields_after : List FieldEntry → List TypedName → Rule Declared
  fields_after got xs = fields_rule text before g (record_entry own arity) got xs >> λ fs. declared (with_types before (record_entry own arity fs ∷ []))

  abbrev pub with_got : List FieldEntry → Signature
  with_got got = with_types before (record_entry own arity got ∷ [])

  abbrev pub next_field : TypedName → Sort → FieldEntry
  next_field x s = record { name = name_in text x.name; sort = s }

  abbrev here_twice : List FieldEntry → TypedName → Bool
  here_twice got x = has_field (with_got got).types (name_in text x.name)

  abbrev asked : List FieldEntry → TypedName → Condition
  asked got x = test (not (here_twice got x)) (twice text x.name)

  abbrev typed : List FieldEntry → TypedName → Rule Sort
  typed got x = type_rule x.sort g (scope_of text (with_got got))

  abbrev parted : List FieldEntry → TypedName → List TypedName → Rule Declared
  parted got x xs = asked got x ⇒ (typed got x >> λ s. fields_after (got ++ next_field x s ∷ []) xs)

  same_parts : (got : List FieldEntry) (x : TypedName) (xs : List TypedName) (p : Passed) → fields_after got (x ∷ xs) p ≡ parted got x xs p
  same_parts got x xs p =
      demand_then (typed got x) (λ s. fields_rule text before g (record_entry own arity) (got ++ next_field x s ∷ []) xs)
      (λ fs. declared (with_types before (record_entry own arity fs ∷ []))) p (asked got x)

  module _ (whole : Rule Declared) (m : ℕ → Sort) (start now : Passed) (got : List FieldEntry) (xs : List TypedName) (i : ℕ) (x : TypedName) (l : i < length xs) (e : x ≡ get_or xs i x) (lead : Leads whole (fields_after got (drop i xs)) m m start now) where
    at_field : Leads whole (parted got x (drop (i + 1) xs)) m m start now
    at_field =
        lead_as whole m m start now (fields_after got (x ∷ drop (i + 1) xs)) (parted got x (drop (i + 1) xs)) (same_parts got x (drop (i + 1) xs) now)
        (subst (λ (ys : List TypedName). Leads whole (fields_after got ys) m m start now) (drop_more xs i x l ∙ ap (λ z. z ∷ drop (i + 1) xs) (sym e)) lead)

    pub field_twice : here_twice got x ≡ true → IsStopped whole m start (twice text x.name)
    field_twice h =
        lead_unmet whole m m start now (asked got x) (typed got x >> λ s. fields_after (got ++ next_field x s ∷ []) (drop (i + 1) xs)) (twice text x.name)
        (test_not_met (not (here_twice got x)) (twice text x.name) m (λ k. true≢false (sym k ∙ ap not h))) at_field

    module _ (h : here_twice got x ≡ false) where
      at_type : Leads whole (typed got x >> λ s. fields_after (got ++ next_field x s ∷ []) (drop (i + 1) xs)) m m start now
      at_type =
          lead_condition whole m m start now (asked got x) (typed got x >> λ s. fields_after (got ++ next_field x s ∷ []) (drop (i + 1) xs)) m
          (test_met (not (here_twice got x)) (twice text x.name) m (ap not h)) at_field

      pub field_fails : (k : TypeFault) → IsStopped (typed got x) m now k → IsStopped whole m start k
      field_fails k a = lead_fault whole m m start now (typed got x) (λ s. fields_after (got ++ next_field x s ∷ []) (drop (i + 1) xs)) k a at_type

      pub field_next : (next : Passed) (s : Sort) → IsWalked (typed got x) m m now next s → Leads whole (fields_after (got ++ next_field x s ∷ []) (drop (i + 1) xs)) m m start next
      field_next next s a = lead_part whole m m start now (typed got x) (λ s. fields_after (got ++ next_field x s ∷ []) (drop (i + 1) xs)) m next s a at_type

  pub fields_end : (whole : Rule Declared) (m : ℕ → Sort) (start now : Passed) (got : List FieldEntry) (xs : List TypedName) (i : ℕ) → length xs ≤ i
      → Leads whole (fields_after got (drop i xs)) m m start now → IsWalked whole m m start now (only_declared (with_got got))
  fields_end whole m start now got xs i l lead =
      (subst (λ (ys : List TypedName). Leads whole (fields_after got ys) m m start now) (drop_all i xs l) lead).walks m now (only_declared (with_got got))
      (give_walked (only_declared (with_got got)) m now)

-- what a loop over fields has come to
pub record FieldsSoFar (text : List ℕ) (before : Signature) (g : Ground) (own : List ℕ) (arity : ℕ) (xs : List TypedName) (start now : Passed) (known : Signature) (i : ℕ) : Type 0 where
  pub got : List FieldEntry
  pub known_is : known ≡ with_got text before g own arity got
  pub leads : (m : ℕ → Sort) → Leads (declares_fields text before g own arity xs) (fields_after text before g own arity got (drop i xs)) m m start now

pub so_far_start : (text : List ℕ) (before : Signature) (g : Ground) (own : List ℕ) (arity : ℕ) (xs : List TypedName) (p : Passed) (known : Signature) → known ≡ no_fields before own arity
    → FieldsSoFar text before g own arity xs p p known 0
so_far_start text before g own arity xs p known e = record { got = []; known_is = e; leads = λ m. lead_start (declares_fields text before g own arity xs) m p }

test_by : (o : Option FieldPlace) → elim o [ Some f ↦ true | None ↦ false ] ≡ is_some o
test_by None = refl
test_by (Some f) = refl

module _ (text : List ℕ) (before : Signature) (g : Ground) (own : List ℕ) (arity : ℕ) (xs : List TypedName) (start now : Passed) (known : Signature) (i : ℕ) (x : TypedName) (n : List ℕ) where
  module _ (s : FieldsSoFar text before g own arity xs start now known i) (l : i < length xs) (e : x ≡ get_or xs i x) (same : n ≡ name_in text x.name) where
    twice_is : (b : Bool) → is_some (field_place known n) ≡ b → has_field (with_got text before g own arity s.got).types (name_in text x.name) ≡ b
    twice_is b h =
        test_by (field_place (with_got text before g own arity s.got) (name_in text x.name))
        ∙ ap (λ (k : Signature). is_some (field_place k (name_in text x.name))) (sym s.known_is)
        ∙ ap (λ (m : List ℕ). is_some (field_place known m)) (sym same)
        ∙ h

    pub so_far_twice : is_some (field_place known n) ≡ true → IsHalted (declares_fields text before g own arity xs) start (twice text x.name)
    so_far_twice h m = field_twice text before g own arity (declares_fields text before g own arity xs) m start now s.got xs i x l e (s.leads m) (twice_is true h)

    module _ (h : is_some (field_place known n) ≡ false) where
      pub so_far_fails : (k : TypeFault) → IsHalted (type_rule x.sort g (scope_of text known)) now k → IsHalted (declares_fields text before g own arity xs) start k
      so_far_fails k a m =
          field_fails text before g own arity (declares_fields text before g own arity xs) m start now s.got xs i x l e (s.leads m) (twice_is false h) k
          (subst (λ (z : Signature). IsStopped (type_rule x.sort g (scope_of text z)) m now k) s.known_is (a m))

      pub so_far_next : (next : Passed) (t : Sort) (new : Signature) → IsTaken (type_rule x.sort g (scope_of text known)) now next t
          → ((got : List FieldEntry) → known ≡ with_got text before g own arity got → new ≡ with_got text before g own arity (got ++ record { name = n; sort = t } ∷ []))
          → FieldsSoFar text before g own arity xs start next new (i + 1)
      so_far_next next t new a f = record {
        got = s.got ++ next_field text before g own arity x t ∷ [];
        known_is = f s.got s.known_is ∙ ap (λ (m : List ℕ). with_got text before g own arity (s.got ++ record { name = m; sort = t } ∷ [])) same;
        leads = λ m. field_next text before g own arity (declares_fields text before g own arity xs) m start now s.got xs i x l e (s.leads m) (twice_is false h) next t
            (subst (λ (z : Signature). IsWalked (type_rule x.sort g (scope_of text z)) m m now next t) s.known_is (a m));
      }

pub so_far_end : (text : List ℕ) (before : Signature) (g : Ground) (own : List ℕ) (arity : ℕ) (xs : List TypedName) (start now : Passed) (known : Signature) (i : ℕ) → length xs ≤ i
    → FieldsSoFar text before g own arity xs start now known i → IsTaken (declares_fields text before g own arity xs) start now (only_declared known)
so_far_end text before g own arity xs start now known i l s m =
    subst (λ (k : Signature). IsWalked (declares_fields text before g own arity xs) m m start now (only_declared k)) (sym s.known_is)
    (fields_end text before g own arity (declares_fields text before g own arity xs) m start now s.got xs i l (s.leads m))

-- ---- `type`
module _ (text : List ℕ) (sig : Signature) (params : List Span) (n : Span) (p : Passed) where
  abbrev conditions : List Condition
  conditions = all_different text [] params

  abbrev pub ground : Ground
  ground = InField (map (name_in text) params) (length sig.types)

  abbrev pub after_name : List TypedName → Rule Declared
  after_name [] = declared (with_types sig (type_entry (name_in text n) (length params) Abstract ∷ []))
  after_name (x ∷ xs) = declares_fields text sig ground (name_in text n) (length params) (x ∷ xs)

  abbrev after_params : List TypedName → Rule Declared
  after_params xs = new_type text sig n ⇒ after_name xs

  same_type : (xs : List TypedName) → type_decl text sig params n xs ≡ all_of conditions (after_params xs)
  same_type [] = refl
  same_type (x ∷ xs) = refl

  module _ (xs : List TypedName) where
    as_type : (q : Passed) (d : Declared) → IsTaken (all_of conditions (after_params xs)) p q d → IsTaken (type_decl text sig params n xs) p q d
    as_type q d a = subst (λ (r : Rule Declared). IsTaken r p q d) (sym (same_type xs)) a

    as_fault : (e : TypeFault) → IsHalted (all_of conditions (after_params xs)) p e → IsHalted (type_decl text sig params n xs) p e
    as_fault e a = subst (λ (r : Rule Declared). IsHalted r p e) (sym (same_type xs)) a

    pub params_fail : (e : TypeFault) → AreFailed conditions e → IsHalted (type_decl text sig params n xs) p e
    params_fail e a = as_fault e (λ m. all_stop (after_params xs) p conditions m e (a m))

    module _ (held : AreHeld conditions) where
      pub type_name_fails : (e : TypeFault) → AreFailed (new_type text sig n ∷ []) e → IsHalted (type_decl text sig params n xs) p e
      type_name_fails e a = as_fault e (λ m. all_stop_later (after_params xs) p conditions m m e (held m) (all_stop (after_name xs) p (new_type text sig n ∷ []) m e (a m)))

      module _ (free : AreHeld (new_type text sig n ∷ [])) where
        pub type_fields_fail : (e : TypeFault) → IsHalted (after_name xs) p e → IsHalted (type_decl text sig params n xs) p e
        type_fields_fail e a =
            as_fault e (λ m. all_stop_later (after_params xs) p conditions m m e (held m) (all_stop_later (after_name xs) p (new_type text sig n ∷ []) m m e (free m) (a m)))

        pub type_declares : (q : Passed) (d : Declared) → IsTaken (after_name xs) p q d → IsTaken (type_decl text sig params n xs) p q d
        type_declares q d a =
            as_type q d (λ m. all_walked (after_params xs) p conditions m m m q d (held m) (all_walked (after_name xs) p (new_type text sig n ∷ []) m m m q d (free m) (a m)))

-- what stands behind the name of an abstract type, and of a record type
module _ (text : List ℕ) (sig : Signature) (params : List Span) (n : Span) (p : Passed) where
  abbrev abstract_type : Signature
  abstract_type = with_types sig (type_entry (name_in text n) (length params) Abstract ∷ [])

  pub abstract_taken : (xs : List TypedName) (new : Signature) → xs ≡ [] → new ≡ abstract_type → IsTaken (after_name text sig params n p xs) p p (only_declared new)
  abstract_taken xs new e f m =
      subst (λ (ys : List TypedName). IsWalked (after_name text sig params n p ys) m m p p (only_declared new)) (sym e)
      (subst (λ (k : Signature). IsWalked (declared abstract_type) m m p p (only_declared k)) (sym f) (give_walked (only_declared abstract_type) m p))

  abbrev own_fields : List (List ℕ) → ℕ → List TypedName → Rule Declared
  own_fields parameters number xs = declares_fields text sig (InField parameters number) (name_in text n) (length params) xs

  module _ (parameters : List (List ℕ)) (number : ℕ) (same : parameters ≡ map (name_in text) params) (at : number ≡ length sig.types) where
    same_ground : (xs : List TypedName) → own_fields parameters number xs ≡ own_fields (map (name_in text) params) (length sig.types) xs
    same_ground xs = ap (λ (ps : List (List ℕ)). own_fields ps number xs) same ∙ ap (λ (k : ℕ). own_fields (map (name_in text) params) k xs) at

    pub record_taken : (xs : List TypedName) (q : Passed) (d : Declared) → (xs ≡ [] → ⊥) → IsTaken (own_fields parameters number xs) p q d → IsTaken (after_name text sig params n p xs) p q d
    record_taken [] q d h a = absurd (h refl)
    record_taken (x ∷ xs) q d h a = subst (λ (r : Rule Declared). IsTaken r p q d) (same_ground (x ∷ xs)) a

    pub record_halts : (xs : List TypedName) (e : TypeFault) → (xs ≡ [] → ⊥) → IsHalted (own_fields parameters number xs) p e → IsHalted (after_name text sig params n p xs) p e
    record_halts [] e h a = absurd (h refl)
    record_halts (x ∷ xs) e h a = subst (λ (r : Rule Declared). IsHalted r p e) (same_ground (x ∷ xs)) a
