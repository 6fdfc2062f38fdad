-- The words of a lawful signature: a word names what it is the word of.
use Rattle.std.specs.Prelude.{ℕ, zero, suc, ◌+◌, ◌<◌, ◌≡◌, ◌≢◌, Bool, true, false, cond, List, [], ◌∷◌, map, length, slice_get, Option, Some}
use Rattle.std.specs.List.{AllByRecursion, find, filter, flat_map, range_with_len}
use Rattle.std.specs.Str.{bytes_eq}
use Rattle.std.proofs.Common.{refl, sym, ap, ◌∙◌, subst, arith, inl, inr}
use Rattle.std.proofs.lemmas.Option.{same_Some, none-some, slice_get_within}
use Rattle.std.proofs.lemmas.Slice.Eq.{bytes_eq-Decides}
use Rattle.ae_base.specs.Options.{or_else, ◌>>=◌}
use Rattle.ae_base.proofs.Tests.{false_true}
use Rattle.ae_base.proofs.ListFacts.{get_map, get_after, get_append, value_at}
use Rattle.ae_base.proofs.AllOf.{all_append, all_of_map, all_weaker}
use Rattle.ae_codes.specs.Names.{Listed}
use Rattle.ae_core.specs.Signatures.{fields_of}
use Rattle.ae_core.specs.declared.problems.Signature.{Signature}
use Rattle.ae_core.specs.declared.problems.SymbolEntry.{SymbolEntry}
use Rattle.ae_core.specs.declared.problems.TypeEntry.{TypeEntry}
use Rattle.ae_core.specs.declared.problems.FieldEntry.{FieldEntry}
use Rattle.ae_core.specs.declared.terms.Head.{Head}
use Rattle.ae_core.specs.declared.terms.Head.TheVariants as head
use Rattle.ae_core.specs.declared.terms.Op.TheVariants as op
use Rattle.ae_prooftext.specs.Words.{named, bracket_heads, symbols, places, record_heads, type_heads}
use Rattle.ae_legal_texts.proofs.Places.{part_stands}

-- ---- the first of a list that has a word
abbrev pub Stands : {A : Type 0} → List A → A → Type 0
Stands xs x = (k : ℕ) × (slice_get xs k ≡ Some x)

module _ {A : Type 0} (word : A → List ℕ) (other : A) where
  named_step : (b : Bool) (x a : A) (xs : List A) → bytes_eq (word a) (word x) ≡ b → (word a ≡ word x → a ≡ x) → ((a ≡ x → ⊥) → named word other xs (word x) ≡ x)
      → or_else (cond b (Some a) (find (λ y. bytes_eq (word y) (word x)) xs)) other ≡ x
  named_step true x a xs e same rest = same ((bytes_eq-Decides (word a) (word x)).0 e)
  named_step false x a xs e same rest = rest (λ q. false_true (sym e ∙ (bytes_eq-Decides (word a) (word x)).1 (ap word q)))

  -- what has a word is named by it, where no other has it
  pub named_is : (xs : List A) (x : A) (k : ℕ) → slice_get xs k ≡ Some x → AllByRecursion (λ a. word a ≡ word x → a ≡ x) xs → named word other xs (word x) ≡ x
  named_is [] x k g all = absurd (none-some x g)
  named_is (a ∷ xs) x zero g all = named_step (bytes_eq (word a) (word x)) x a xs refl all.0 (λ n. absurd (n (same_Some a x g)))
  named_is (a ∷ xs) x (suc k) g all = named_step (bytes_eq (word a) (word x)) x a xs refl all.0 (λ n. named_is xs x k g all.1)

  pub word_listed : (xs : List A) (x : A) (k : ℕ) → slice_get xs k ≡ Some x → Listed (map word xs) (word x)
  word_listed [] x k g = absurd (none-some x g)
  word_listed (a ∷ xs) x zero g = inl (ap word (sym (same_Some a x g)))
  word_listed (a ∷ xs) x (suc k) g = inr (word_listed xs x k g)

-- ---- what passes a test stands among what passes
kept_step : {A : Type 0} (b : Bool) (a x : A) (xs : List A) → Stands xs x → Stands (cond b (a ∷ xs) xs) x
kept_step true a x xs s = (suc s.0, s.1)
kept_step false a x xs s = s

kept_first : {A : Type 0} (b : Bool) (a x : A) (xs : List A) → b ≡ true → a ≡ x → Stands (cond b (a ∷ xs) xs) x
kept_first true a x xs t e = (0, ap Some e)
kept_first false a x xs t e = false_true t

pub kept : {A : Type 0} (test : A → Bool) (xs : List A) (x : A) (k : ℕ) → slice_get xs k ≡ Some x → test x ≡ true → Stands (filter test xs) x
kept test [] x k g t = absurd (none-some x g)
kept test (a ∷ xs) x zero g t = let e = same_Some a x g in kept_first (test a) a x (filter test xs) (ap test e ∙ t) e
kept test (a ∷ xs) x (suc k) g t = kept_step (test a) a x (filter test xs) (kept test xs x k g t)

all_kept_step : {A : Type 0} (P : A → Type 0) (b : Bool) (a : A) (xs : List A) → P a → AllByRecursion P xs → AllByRecursion P (cond b (a ∷ xs) xs)
all_kept_step P true a xs p h = (p, h)
all_kept_step P false a xs p h = h

pub all_kept : {A : Type 0} (P : A → Type 0) (test : A → Bool) (xs : List A) → AllByRecursion P xs → AllByRecursion P (filter test xs)
all_kept P test [] h = tt
all_kept P test (a ∷ xs) h = all_kept_step P (test a) a (filter test xs) h.0 (all_kept P test xs h.1)

pub all_flat : {X Y : Type 0} (P : Y → Type 0) (f : X → List Y) (xs : List X) → AllByRecursion (λ x. AllByRecursion P (f x)) xs → AllByRecursion P (flat_map f xs)
all_flat P f [] h = tt
all_flat P f (x ∷ xs) h = all_append P (f x) (flat_map f xs) h.0 (all_flat P f xs h.1)

-- ---- places
pub place_stands : (a n i : ℕ) → i < n → slice_get (range_with_len a n) i ≡ Some (a + i)
place_stands a zero i l = absurd (omega (arith, l))
place_stands a (suc n) zero l = ap Some (let e : a ≡ a + 0 = omega arith in e)
place_stands a (suc n) (suc i) l = place_stands (a + 1) n i (omega (arith, l)) ∙ ap Some (let e : a + 1 + i ≡ a + suc i = omega arith in e)

pub places_below : (a n : ℕ) → AllByRecursion (λ i. i < a + n) (range_with_len a n)
places_below a zero = tt
places_below a (suc n) = (omega arith, all_weaker (λ i. i < a + 1 + n) (λ i. i < a + suc n) (λ i l. omega (arith, l)) (range_with_len (a + 1) n) (places_below (a + 1) n))

pub own_place : {X : Type 0} (xs : List X) (k : ℕ) (x : X) → slice_get xs k ≡ Some x → slice_get (places xs) k ≡ Some k
own_place xs k x g = place_stands 0 (length xs) k (slice_get_within xs k x g) ∙ ap Some (let e : 0 + k ≡ k = omega arith in e)

pub each_place : {X : Type 0} (xs : List X) → AllByRecursion (λ k. (x : X) × (slice_get xs k ≡ Some x)) (places xs)
each_place xs = all_weaker (λ i. i < 0 + length xs) (λ k. (x : _) × (slice_get xs k ≡ Some x)) (λ i l. value_at xs i (omega (arith, l))) (places xs) (places_below 0 (length xs))

-- ---- the heads that may stand in brackets
abbrev pub Declared : Signature → Head → Type 0
Declared sig (head.Symbol n) = (e : SymbolEntry) × (slice_get sig.symbols n ≡ Some e)
Declared sig (head.Build n) = (e : TypeEntry) × (slice_get sig.types n ≡ Some e) × (fields_of e ≢ [])
Declared sig (head.Field n p) = (e : TypeEntry) × (f : FieldEntry) × (slice_get sig.types n ≡ Some e) × (slice_get (fields_of e) p ≡ Some f)
Declared sig (head.Int o) = Unit {0}
Declared sig _ = ⊥

module _ (sig : Signature) where
  abbrev symbol_heads : List Head
  symbol_heads = map (λ n. head.Symbol n) (symbols sig)

  abbrev record_part : List Head
  record_part = flat_map (type_heads sig) (places sig.types)

  record_all : (n : ℕ) (e : TypeEntry) → slice_get sig.types n ≡ Some e → (fs : List FieldEntry) → fields_of e ≡ fs → AllByRecursion (Declared sig) (record_heads n (places fs))
  record_all n e g [] q = tt
  record_all n e g (f ∷ fs) q = (
    (e, g, (λ z. let l : 0 ≡ suc (length fs) = ap length (sym z ∙ q) in omega (arith, l))),
    all_of_map (Declared sig) (λ p. head.Field n p) (places (f ∷ fs))
        (all_weaker (λ k. (x : FieldEntry) × (slice_get (f ∷ fs) k ≡ Some x)) (λ p. Declared sig (head.Field n p)) (λ k h. (e, h.0, g, ap (λ z. slice_get z k) q ∙ h.1)) (places (f ∷ fs)) (each_place (f ∷ fs))),
  )

  heads_of_type : (n : ℕ) (e : TypeEntry) → slice_get sig.types n ≡ Some e → type_heads sig n ≡ record_heads n (places (fields_of e))
  heads_of_type n e g = ap (λ (o : Option TypeEntry). record_heads n (or_else (o >>= λ e. Some (places (fields_of e))) [])) g

  pub all_declared : AllByRecursion (Declared sig) (bracket_heads sig)
  unfolding bracket_heads
  all_declared = (
    tt,
    (
      tt,
      (
        tt,
        (
          tt,
          (
            tt,
            (
              tt,
              all_append (Declared sig) symbol_heads record_part
                  (all_of_map (Declared sig) (λ n. head.Symbol n) (symbols sig) (each_place sig.symbols))
                  (all_flat (Declared sig) (type_heads sig) (places sig.types)
                  (all_weaker (λ k. (x : TypeEntry) × (slice_get sig.types k ≡ Some x)) (λ n. AllByRecursion (Declared sig) (type_heads sig n))
                  (λ n h. subst (AllByRecursion (Declared sig)) (sym (heads_of_type n h.0 h.1)) (record_all n h.0 h.1 (fields_of h.0) refl)) (places sig.types) (each_place sig.types))),
            ),
          ),
        ),
      ),
    ),
  )

  -- where they stand
  pub symbol_place : (n : ℕ) (e : SymbolEntry) → slice_get sig.symbols n ≡ Some e → slice_get symbol_heads n ≡ Some (head.Symbol n)
  symbol_place n e g = get_map (λ n. head.Symbol n) (symbols sig) n n (own_place sig.symbols n e g)

  build_place : (n : ℕ) (fs : List FieldEntry) → fs ≢ [] → slice_get (record_heads n (places fs)) 0 ≡ Some (head.Build n)
  build_place n [] m = absurd (m refl)
  build_place n (f ∷ fs) m = refl

  field_place : (n p : ℕ) (f : FieldEntry) (fs : List FieldEntry) → slice_get fs p ≡ Some f → slice_get (record_heads n (places fs)) (suc p) ≡ Some (head.Field n p)
  field_place n p f [] g = absurd (none-some f g)
  field_place n p f (x ∷ fs) g = get_map (λ p. head.Field n p) (places (x ∷ fs)) p p (own_place (x ∷ fs) p f g)

  in_records : (n k : ℕ) (e : TypeEntry) (h : Head) → slice_get sig.types n ≡ Some e → slice_get (record_heads n (places (fields_of e))) k ≡ Some h → Stands (bracket_heads sig) h
  unfolding bracket_heads
  in_records n k e h g q =
      let r = part_stands (type_heads sig) (places sig.types) n k n h (own_place sig.types n e g) (ap (λ z. slice_get z k) (heads_of_type n e g) ∙ q) in
      (suc (suc (suc (suc (suc (suc (length symbol_heads + r.0)))))), get_after symbol_heads record_part r.0 ∙ r.1)

  pub declared_stands : (h : Head) → Declared sig h → Stands (bracket_heads sig) h
  unfolding bracket_heads
  declared_stands (head.Symbol n) d = (suc (suc (suc (suc (suc (suc n))))), get_append symbol_heads record_part n (head.Symbol n) (symbol_place n d.0 d.1))
  declared_stands (head.Build n) d = in_records n 0 d.0 (head.Build n) d.1 (build_place n (fields_of d.0) d.2)
  declared_stands (head.Field n p) d = in_records n (suc p) d.0 (head.Field n p) d.2 (field_place n p d.1 (fields_of d.0) d.3)
  declared_stands (head.Int op.Add) d = (0, refl)
  declared_stands (head.Int op.Sub) d = (1, refl)
  declared_stands (head.Int op.Neg) d = (2, refl)
  declared_stands (head.Int op.Mul) d = (3, refl)
  declared_stands (head.Int op.Div) d = (4, refl)
  declared_stands (head.Int op.Mod) d = (5, refl)
  declared_stands (head.Real o) d = absurd d
  declared_stands head.True d = absurd d
  declared_stands head.False d = absurd d
  declared_stands head.Void d = absurd d
