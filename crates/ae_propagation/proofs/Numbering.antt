-- The numbers of formulas, and what stands at their places.
use Rattle.std.proofs.Common.{◌≡◌, ◌≢◌, ℕ, ◌<◌, Bool, true, false, List, [], ◌∷◌, ◌++◌, length, get_or, set, refl, sym, ◌∙◌, ap, subst, arith, inl, inr, Option, Some, None, length-set}
use Rattle.std.specs.Prelude.{not}
use Rattle.std.proofs.lemmas.Bool.{cases_eq}
use Rattle.std.proofs.lemmas.List.{length_push, get_or_push, get_or_append_left, get_or-set_same, get_or-set_other}
use Rattle.ae_core.specs.declared.formulas.Formula.{Formula}
use Rattle.ae_core.specs.declared.formulas.Lit.{Lit}
use Rattle.ae_explain.specs.Assignments.{IsGiven}
use Rattle.ae_explain.proofs.Valuing.{given_cases, own_number, still_unlike}
use Rattle.ae_propagation.specs.declared.occurrences.Occurrences.{Occurrences}
use Rattle.ae_propagation.specs.declared.codes.Code.{Code}
use Rattle.ae_propagation.specs.Inner.Coding.{IsCode}
use Rattle.ae_propagation.specs.Inner.Finding.{side, none_listed, occurrences_at, listed, IsTable, IsWidened}
use Rattle.ae_propagation.proofs.Members.{lit_cases}

-- ---- one place more
room_at : (table : List Occurrences) (o : Option ℕ) → ((n : ℕ) → o ≡ Some n → n < length table) → occurrences_at (table ++ none_listed ∷ []) o ≡ occurrences_at table o
room_at table None w = refl
room_at table (Some n) w = get_or_append_left table (none_listed ∷ []) none_listed n (w n refl)

-- no formula has the number behind the table's
pub unused_next : (numbers : Formula → Option ℕ) (table : List Occurrences) → IsTable numbers table → (f : Formula) → numbers f ≢ Some (length table)
unused_next numbers table h f e = let l : length table < length table = h.within f (length table) e in omega (arith, l)

pub more_room : (numbers : Formula → Option ℕ) (table : List Occurrences) → IsTable numbers table → IsTable numbers (table ++ none_listed ∷ [])
more_room numbers table h = record { within = λ f n e. omega (arith, h.within f n e, length_push table none_listed); apart = h.apart }

pub room_listed : (numbers : Formula → Option ℕ) (table : List Occurrences) (l : Lit) → IsTable numbers table → listed numbers (table ++ none_listed ∷ []) l ≡ listed numbers table l
room_listed numbers table l h = ap (side l.positive) (room_at table (numbers l.formula) (λ n e. h.within l.formula n e))

pub numbered : (old new : Formula → Option ℕ) (table : List Occurrences) (k : Formula) → IsGiven k (length table) old new → IsTable old table → IsTable new (table ++ none_listed ∷ [])
numbered old new table k g h = record {
  within = λ f n e. elim (given_cases k (length table) old new g f) as (λ _. n < length (table ++ none_listed ∷ [])) [
    | inl q ↦ omega (arith, own_number k (length table) old new g f n q e, length_push table none_listed)
    | inr q ↦ omega (arith, h.within f n (sym q ∙ e), length_push table none_listed)
  ];
  apart = still_unlike k (length table) old new g (unused_next old table h) h.apart;
}

pub number_listed : (old new : Formula → Option ℕ) (table : List Occurrences) (k : Formula) → IsGiven k (length table) old new → IsTable old table → old k ≡ None
    → (l : Lit) → listed new (table ++ none_listed ∷ []) l ≡ listed old table l
number_listed old new table k g h none l = elim (given_cases k (length table) old new g l.formula) as (λ _. listed new (table ++ none_listed ∷ []) l ≡ listed old table l) [
  | inl q ↦
      let e : old l.formula ≡ None = ap old q ∙ none in
      let r : new l.formula ≡ Some (length table) = ap new q ∙ g.given in
      ap (λ (o : Option ℕ). side l.positive (occurrences_at (table ++ none_listed ∷ []) o)) r
      ∙ (ap (side l.positive) (get_or_push table none_listed none_listed (length table) refl) ∙ ap (λ (o : Option ℕ). side l.positive (occurrences_at table o)) (sym e))
  | inr q ↦ ap (λ (o : Option ℕ). side l.positive (occurrences_at (table ++ none_listed ∷ []) o)) q ∙ room_listed old table l h
]

-- ---- another value at a place
other_sign : (l m : Lit) → m ≢ l → m.formula ≡ l.formula → m.positive ≡ not l.positive
other_sign l m d e = by_signs m.positive l.positive refl refl
  where
    by_signs : (a b : Bool) → m.positive ≡ a → l.positive ≡ b → a ≡ not b
    by_signs true true p q = absurd (d (λ i. record { positive = (p ∙ sym q) i; formula = e i }))
    by_signs true false p q = refl
    by_signs false true p q = refl
    by_signs false false p q = absurd (d (λ i. record { positive = (p ∙ sym q) i; formula = e i }))

pub set_table : (numbers : Formula → Option ℕ) (table : List Occurrences) (n : ℕ) (o : Occurrences) → IsTable numbers table → IsTable numbers (set table n o)
set_table numbers table n o h = record { within = λ f k e. omega (arith, h.within f k e, length-set table n o); apart = h.apart }

pub listed_at : (numbers : Formula → Option ℕ) (table : List Occurrences) (l : Lit) (n : ℕ) → numbers l.formula ≡ Some n → listed numbers table l ≡ side l.positive (get_or table n none_listed)
listed_at numbers table l n e = ap (λ (o : Option ℕ). side l.positive (occurrences_at table o)) e

pub set_own : (numbers : Formula → Option ℕ) (table : List Occurrences) (l : Lit) (n : ℕ) (o : Occurrences) → numbers l.formula ≡ Some n → n < length table → listed numbers (set table n o) l ≡ side l.positive o
set_own numbers table l n o e w = listed_at numbers (set table n o) l n e ∙ ap (side l.positive) (get_or-set_same table n o none_listed w)

pub set_others : (numbers : Formula → Option ℕ) (table : List Occurrences) (l m : Lit) (n : ℕ) (o : Occurrences) → IsTable numbers table → numbers l.formula ≡ Some n
    → side (not l.positive) o ≡ side (not l.positive) (get_or table n none_listed) → m ≢ l → listed numbers (set table n o) m ≡ listed numbers table m
set_others numbers table l m n o h e s d = by_number (numbers m.formula) refl
  where
    by_number : (p : Option ℕ) → numbers m.formula ≡ p → listed numbers (set table n o) m ≡ listed numbers table m
    by_number None q = ap (λ (w : Option ℕ). side m.positive (occurrences_at (set table n o) w)) q ∙ ap (λ (w : Option ℕ). side m.positive (occurrences_at table w)) (sym q)
    by_number (Some k) q = elim (cases_eq k n) as (λ _. listed numbers (set table n o) m ≡ listed numbers table m) [
      | inl same ↦
          let at_n : numbers m.formula ≡ Some n = q ∙ ap Some same in
          let b : m.positive ≡ not l.positive = other_sign l m d (h.apart m.formula l.formula n at_n e) in
          set_own numbers table m n o at_n (h.within m.formula n at_n)
          ∙ (subst (λ (w : Bool). side w o ≡ side w (get_or table n none_listed)) (sym b) s ∙ sym (listed_at numbers table m n at_n))
      | inr far ↦
          listed_at numbers (set table n o) m k q ∙ (ap (side m.positive) (get_or-set_other table n k o none_listed far) ∙ sym (listed_at numbers table m k q))
    ]

-- ---- formulas that get numbers
pub widened_none : (f : Formula → Option ℕ) (s : List Occurrences) → IsTable f s → IsWidened f s f s
widened_none f s h = record { is_table = h; same = λ l. refl; kept = λ x k e. e }

pub widened_trans : (f : Formula → Option ℕ) (s : List Occurrences) (g : Formula → Option ℕ) (t : List Occurrences) (h : Formula → Option ℕ) (u : List Occurrences) → IsWidened f s g t → IsWidened g t h u → IsWidened f s h u
widened_trans f s g t h u a b = record {
  is_table = b.is_table;
  same = λ l. b.same l ∙ a.same l;
  kept = λ x k e. b.kept x k (a.kept x k e);
}

-- ---- the list of a literal, by its code
pub table_sized : (numbers : Formula → Option ℕ) (s t : List Occurrences) → length t ≡ length s → IsTable numbers s → IsTable numbers t
table_sized numbers s t e h = record { within = λ f n q. omega (arith, h.within f n q, e); apart = h.apart }

pub code_own : (R : List ℕ → List ℕ → Type 0) (numbers : Formula → Option ℕ) (table : List Occurrences) (l : Lit) (k : Code) (o : Occurrences) → IsCode numbers l k → k.number < length table
    → R (side k.positive (get_or table k.number none_listed)) (side k.positive o) → R (listed numbers table l) (listed numbers (set table k.number o) l)
code_own R numbers table l k o c w r =
    let a : side k.positive (get_or table k.number none_listed) ≡ listed numbers table l =
    ap (λ (b : Bool). side b (get_or table k.number none_listed)) (sym c.1) ∙ sym (listed_at numbers table l k.number c.0) in
    let b : side k.positive o ≡ listed numbers (set table k.number o) l = ap (λ (b : Bool). side b o) (sym c.1) ∙ sym (set_own numbers table l k.number o c.0 w) in
    subst (λ (x : List ℕ). R x (listed numbers (set table k.number o) l)) a (subst (λ (y : List ℕ). R (side k.positive (get_or table k.number none_listed)) y) b r)

pub code_others : (numbers : Formula → Option ℕ) (table : List Occurrences) (l m : Lit) (k : Code) (o : Occurrences) → IsTable numbers table → IsCode numbers l k
    → side (not k.positive) o ≡ side (not k.positive) (get_or table k.number none_listed) → m ≢ l → listed numbers (set table k.number o) m ≡ listed numbers table m
code_others numbers table l m k o h c s d =
    set_others numbers table l m k.number o h c.0 (subst (λ (b : Bool). side (not b) o ≡ side (not b) (get_or table k.number none_listed)) (sym c.1) s) d

pub code_same : (numbers : Formula → Option ℕ) (table : List Occurrences) (l m : Lit) (k : Code) (o : Occurrences) → IsTable numbers table → IsCode numbers l k
    → side k.positive o ≡ side k.positive (get_or table k.number none_listed) → side (not k.positive) o ≡ side (not k.positive) (get_or table k.number none_listed)
    → listed numbers (set table k.number o) m ≡ listed numbers table m
code_same numbers table l m k o h c own other = elim (lit_cases l m) as (λ _. listed numbers (set table k.number o) m ≡ listed numbers table m) [
  | inl e ↦ subst (λ (x : Lit). listed numbers (set table k.number o) x ≡ listed numbers table x) e
      (code_own (λ (x y : List ℕ). y ≡ x) numbers table l k o c (h.within l.formula k.number c.0) own)
  | inr d ↦ code_others numbers table l m k o h c other (λ e. d (sym e))
]
