-- No two heads that are declared have one word, and each word is of the form that tables ask.
use Rattle.std.specs.Prelude.{ℕ, suc, ◌<◌, ◌≤◌, ◌≡◌, ◌⊎◌, false, cond, not, IsTrue, nat_eq, List, [], ◌∷◌, map, slice_get, Option, Some}
use Rattle.std.specs.List.{filter}
use Rattle.std.proofs.Common.{refl, sym, ap, ◌∙◌, subst, arith, inl, inr}
use Rattle.std.proofs.lemmas.Bool.{le-leb}
use Rattle.ae_base.specs.Options.{or_else, ◌>>=◌}
use Rattle.ae_base.proofs.ListFacts.{cons_tail, get_map}
use Rattle.ae_base.proofs.AllOf.{all_of_map, all_weaker}
use Rattle.ae_codes.specs.Names.{Listed, Clean, Proper}
use Rattle.ae_core.specs.Signatures.{IsLawful, taken_names, fields_of}
use Rattle.ae_core.specs.declared.problems.Signature.{Signature}
use Rattle.ae_core.specs.declared.problems.SymbolEntry.{SymbolEntry}
use Rattle.ae_core.specs.declared.problems.TypeEntry.{TypeEntry}
use Rattle.ae_core.specs.declared.problems.FieldEntry.{FieldEntry}
use Rattle.ae_core.specs.declared.terms.Head.{Head}
use Rattle.ae_core.specs.declared.terms.Head.TheVariants as head
use Rattle.ae_core.specs.declared.terms.Op.{Op}
use Rattle.ae_core.specs.declared.terms.Op.TheVariants as op
use Rattle.ae_prooftext.specs.SortTexts.{blank}
use Rattle.ae_prooftext.specs.TermTexts.{head_fine, bracket_table}
use Rattle.ae_prooftext.specs.Words.{type_name, symbol_name, field_name, field_in, op_sign, head_word, head_of, symbol_of, lone_head_of, lone_symbol_of, bracket_heads, lone_heads, lone_symbols, symbols, takes_sorts, has_variables}
use Rattle.ae_legal_texts.proofs.Places.{stands_once, parts_once}
use Rattle.ae_legal_texts.proofs.Named.{IsNamed, type_named, symbol_named, field_named, first_range, clean_bytes, not_taken}
use Rattle.ae_legal_texts.proofs.Closing.{blank_apart}
use Rattle.ae_legal_texts.proofs.Heads.{Declared, Stands, named_is, word_listed, kept, all_kept, each_place, own_place, all_declared, declared_stands, symbol_place}

abbrev pub first_byte : List ℕ → ℕ
first_byte [] = 0
first_byte (x ∷ xs) = x

-- ---- signs
abbrev op_of : ℕ → Op
op_of x = cond (nat_eq x 43) op.Add (cond (nat_eq x 45) op.Sub (cond (nat_eq x 126) op.Neg (cond (nat_eq x 42) op.Mul (cond (nat_eq x 47) op.Div op.Mod))))

sign_back : (o : Op) → op_of (first_byte (op_sign o)) ≡ o
sign_back op.Add = refl
sign_back op.Sub = refl
sign_back op.Neg = refl
sign_back op.Mul = refl
sign_back op.Div = refl
sign_back op.Mod = refl

-- the first byte of a sign is none of `:`, `.`, and of the bytes that begin names
sign_range : (o : Op) → (first_byte (op_sign o) < 46) ⊎ ((first_byte (op_sign o) ≡ 47) ⊎ (first_byte (op_sign o) ≡ 126))
sign_range op.Add = inl (omega arith)
sign_range op.Sub = inl (omega arith)
sign_range op.Neg = inr (inr refl)
sign_range op.Mul = inl (omega arith)
sign_range op.Div = inr (inl refl)
sign_range op.Mod = inl (omega arith)

no_sign : (o : Op) (x : ℕ) → ((x ≡ 46) ⊎ (x ≡ 58)) ⊎ ((65 ≤ x) × (x ≤ 122)) → first_byte (op_sign o) ≡ x → ⊥
no_sign o x r e = elim (sign_range o) [
  | inl l ↦ elim r [ inl p ↦ elim p [ inl a ↦ omega (arith, l, e, a) | inr a ↦ omega (arith, l, e, a) ] | inr q ↦ let a = q.0 in omega (arith, l, e, a) ]
  | inr m ↦ elim m [
    | inl l ↦ elim r [ inl p ↦ elim p [ inl a ↦ omega (arith, l, e, a) | inr a ↦ omega (arith, l, e, a) ] | inr q ↦ let a = q.0 in omega (arith, l, e, a) ]
    | inr l ↦ elim r [ inl p ↦ elim p [ inl a ↦ omega (arith, l, e, a) | inr a ↦ omega (arith, l, e, a) ] | inr q ↦ let a = q.1 in omega (arith, l, e, a) ]
  ]
]

-- ---- the words of what a signature declares
pub symbol_name_is : (sig : Signature) (n : ℕ) (e : SymbolEntry) → slice_get sig.symbols n ≡ Some e → symbol_name sig n ≡ e.name
symbol_name_is sig n e g = ap (λ (o : Option SymbolEntry). or_else (o >>= λ e. Some e.name) []) g

pub type_name_is : (sig : Signature) (n : ℕ) (e : TypeEntry) → slice_get sig.types n ≡ Some e → type_name sig n ≡ e.name
type_name_is sig n e g = ap (λ (o : Option TypeEntry). or_else (o >>= λ e. Some e.name) []) g

pub field_name_is : (sig : Signature) (n p : ℕ) (e : TypeEntry) (f : FieldEntry) → slice_get sig.types n ≡ Some e → slice_get (fields_of e) p ≡ Some f → field_name sig n p ≡ f.name
field_name_is sig n p e f g h =
    ap (λ (o : Option TypeEntry). or_else (o >>= λ e. Some (field_in e p)) []) g ∙ ap (λ (o : Option FieldEntry). or_else (o >>= λ f. Some f.name) []) h

symbol_word : (sig : Signature) (n : ℕ) (e : SymbolEntry) → slice_get sig.symbols n ≡ Some e → head_word sig (head.Symbol n) ≡ e.name
unfolding head_word
symbol_word sig n e g = symbol_name_is sig n e g

build_word : (sig : Signature) (n : ℕ) (e : TypeEntry) → slice_get sig.types n ≡ Some e → head_word sig (head.Build n) ≡ 58 ∷ e.name
unfolding head_word
build_word sig n e g = ap (λ z. 58 ∷ z) (type_name_is sig n e g)

field_word : (sig : Signature) (n p : ℕ) (e : TypeEntry) (f : FieldEntry) → slice_get sig.types n ≡ Some e → slice_get (fields_of e) p ≡ Some f → head_word sig (head.Field n p) ≡ 46 ∷ f.name
unfolding head_word
field_word sig n p e f g h = ap (λ z. 46 ∷ z) (field_name_is sig n p e f g h)

pub sign_word : (sig : Signature) (o : Op) → head_word sig (head.Int o) ≡ op_sign o
unfolding head_word
sign_word sig o = refl

module _ (sig : Signature) (lawful : IsLawful sig) where
  first_of_name : (w : List ℕ) → IsNamed w → (65 ≤ first_byte w) × (first_byte w ≤ 122)
  first_of_name w n = let r = first_range n.first n.begins in subst (λ z. (65 ≤ first_byte z) × (first_byte z ≤ 122)) (sym n.is) (r.0, r.1)

  symbol_first : (n : ℕ) (e : SymbolEntry) → slice_get sig.symbols n ≡ Some e → (65 ≤ first_byte (head_word sig (head.Symbol n))) × (first_byte (head_word sig (head.Symbol n)) ≤ 122)
  symbol_first n e g = subst (λ z. (65 ≤ first_byte z) × (first_byte z ≤ 122)) (sym (symbol_word sig n e g)) (first_of_name e.name (symbol_named sig lawful n e g))

  build_first : (n : ℕ) (e : TypeEntry) → slice_get sig.types n ≡ Some e → first_byte (head_word sig (head.Build n)) ≡ 58
  build_first n e g = ap first_byte (build_word sig n e g)

  field_first : (n p : ℕ) (e : TypeEntry) (f : FieldEntry) → slice_get sig.types n ≡ Some e → slice_get (fields_of e) p ≡ Some f → first_byte (head_word sig (head.Field n p)) ≡ 46
  field_first n p e f g h = ap first_byte (field_word sig n p e f g h)

  sign_first : (o : Op) → first_byte (head_word sig (head.Int o)) ≡ first_byte (op_sign o)
  sign_first o = ap first_byte (sign_word sig o)

  pub one_symbol : (n m : ℕ) (e d : SymbolEntry) → slice_get sig.symbols n ≡ Some e → slice_get sig.symbols m ≡ Some d → e.name ≡ d.name → n ≡ m
  one_symbol n m e d g h q =
      stands_once (map (λ e. e.name) sig.symbols) lawful.symbol_names n m e.name (get_map (λ (e : SymbolEntry). e.name) sig.symbols n e g) (get_map (λ (e : SymbolEntry). e.name) sig.symbols m d h ∙ ap Some (sym q))

  one_type : (n m : ℕ) (e d : TypeEntry) → slice_get sig.types n ≡ Some e → slice_get sig.types m ≡ Some d → e.name ≡ d.name → n ≡ m
  one_type n m e d g h q =
      stands_once (map (λ e. e.name) sig.types) lawful.type_names n m e.name (get_map (λ (e : TypeEntry). e.name) sig.types n e g) (get_map (λ (e : TypeEntry). e.name) sig.types m d h ∙ ap Some (sym q))

  one_field : (n m p q : ℕ) (e d : TypeEntry) (f i : FieldEntry) → slice_get sig.types n ≡ Some e → slice_get sig.types m ≡ Some d → slice_get (fields_of e) p ≡ Some f
      → slice_get (fields_of d) q ≡ Some i → f.name ≡ i.name → (n ≡ m) × (p ≡ q)
  one_field n m p q e d f i g h u v s =
      parts_once (λ (e : TypeEntry). map (λ f. f.name) (fields_of e)) sig.types (stands_once _ lawful.field_names) n m p q e d f.name g h (get_map (λ (f : FieldEntry). f.name) (fields_of e) p f u)
      (get_map (λ (f : FieldEntry). f.name) (fields_of d) q i v ∙ ap Some (sym s))

  -- ---- one word, one head
  abbrev SameWord : Head → Head → Type 0
  SameWord h a = head_word sig a ≡ head_word sig h → a ≡ h

  only_symbol : (n : ℕ) → Declared sig (head.Symbol n) → (a : Head) → Declared sig a → SameWord (head.Symbol n) a
  only_symbol n d (head.Symbol m) c e = ap (λ k. head.Symbol k) (one_symbol m n c.0 d.0 c.1 d.1 (sym (symbol_word sig m c.0 c.1) ∙ e ∙ symbol_word sig n d.0 d.1))
  only_symbol n d (head.Build m) c e = let r = symbol_first n d.0 d.1 in let l = r.0 in let q = sym (build_first m c.0 c.1) ∙ ap first_byte e in absurd (omega (arith, l, q))
  only_symbol n d (head.Field m p) c e = let r = symbol_first n d.0 d.1 in let l = r.0 in let q = sym (field_first m p c.0 c.1 c.2 c.3) ∙ ap first_byte e in absurd (omega (arith, l, q))
  only_symbol n d (head.Int o) c e = absurd (no_sign o _ (inr (symbol_first n d.0 d.1)) (sym (sign_first o) ∙ ap first_byte e))
  only_symbol n d (head.Real o) c e = absurd c
  only_symbol n d head.True c e = absurd c
  only_symbol n d head.False c e = absurd c
  only_symbol n d head.Void c e = absurd c

  only_build : (n : ℕ) → Declared sig (head.Build n) → (a : Head) → Declared sig a → SameWord (head.Build n) a
  only_build n d (head.Symbol m) c e = let r = symbol_first m c.0 c.1 in let l = r.0 in let q = ap first_byte e ∙ build_first n d.0 d.1 in absurd (omega (arith, l, q))
  only_build n d (head.Build m) c e = ap (λ k. head.Build k) (one_type m n c.0 d.0 c.1 d.1 (cons_tail 58 58 _ _ (sym (build_word sig m c.0 c.1) ∙ e ∙ build_word sig n d.0 d.1)))
  only_build n d (head.Field m p) c e = let q = sym (field_first m p c.0 c.1 c.2 c.3) ∙ ap first_byte e ∙ build_first n d.0 d.1 in absurd (omega (arith, q))
  only_build n d (head.Int o) c e = absurd (no_sign o 58 (inl (inr refl)) (sym (sign_first o) ∙ ap first_byte e ∙ build_first n d.0 d.1))
  only_build n d (head.Real o) c e = absurd c
  only_build n d head.True c e = absurd c
  only_build n d head.False c e = absurd c
  only_build n d head.Void c e = absurd c

  only_field : (n p : ℕ) → Declared sig (head.Field n p) → (a : Head) → Declared sig a → SameWord (head.Field n p) a
  only_field n p d (head.Symbol m) c e = let r = symbol_first m c.0 c.1 in let l = r.0 in let q = ap first_byte e ∙ field_first n p d.0 d.1 d.2 d.3 in absurd (omega (arith, l, q))
  only_field n p d (head.Build m) c e = let q = sym (build_first m c.0 c.1) ∙ ap first_byte e ∙ field_first n p d.0 d.1 d.2 d.3 in absurd (omega (arith, q))
  only_field n p d (head.Field m q) c e =
      let r = one_field m n q p c.0 d.0 c.1 d.1 c.2 d.2 c.3 d.3 (cons_tail 46 46 _ _ (sym (field_word sig m q c.0 c.1 c.2 c.3) ∙ e ∙ field_word sig n p d.0 d.1 d.2 d.3)) in
      λ i. head.Field (r.0 i) (r.1 i)
  only_field n p d (head.Int o) c e = absurd (no_sign o 46 (inl (inl refl)) (sym (sign_first o) ∙ ap first_byte e ∙ field_first n p d.0 d.1 d.2 d.3))
  only_field n p d (head.Real o) c e = absurd c
  only_field n p d head.True c e = absurd c
  only_field n p d head.False c e = absurd c
  only_field n p d head.Void c e = absurd c

  only_sign : (o : Op) (a : Head) → Declared sig a → SameWord (head.Int o) a
  only_sign o (head.Symbol m) c e = absurd (no_sign o _ (inr (symbol_first m c.0 c.1)) (sym (sign_first o) ∙ ap first_byte (sym e)))
  only_sign o (head.Build m) c e = absurd (no_sign o 58 (inl (inr refl)) (sym (sign_first o) ∙ ap first_byte (sym e) ∙ build_first m c.0 c.1))
  only_sign o (head.Field m p) c e = absurd (no_sign o 46 (inl (inl refl)) (sym (sign_first o) ∙ ap first_byte (sym e) ∙ field_first m p c.0 c.1 c.2 c.3))
  only_sign o (head.Int o') c e = ap (λ k. head.Int k) (sym (sign_back o') ∙ ap op_of (sym (sign_first o') ∙ ap first_byte e ∙ sign_first o) ∙ sign_back o)
  only_sign o (head.Real o') c e = absurd c
  only_sign o head.True c e = absurd c
  only_sign o head.False c e = absurd c
  only_sign o head.Void c e = absurd c

  only_head : (h : Head) → Declared sig h → (a : Head) → Declared sig a → SameWord h a
  only_head (head.Symbol n) d = only_symbol n d
  only_head (head.Build n) d = only_build n d
  only_head (head.Field n p) d = only_field n p d
  only_head (head.Int o) d = only_sign o
  only_head (head.Real o) d = absurd d
  only_head head.True d = absurd d
  only_head head.False d = absurd d
  only_head head.Void d = absurd d

  -- a declared head is what its word names
  pub head_named : (h : Head) → Declared sig h → head_of sig (head_word sig h) ≡ h
  unfolding head_of
  head_named h d =
      let s = declared_stands sig h d in
      named_is (head_word sig) head.Void (bracket_heads sig) h s.0 s.1 (all_weaker (Declared sig) (SameWord h) (only_head h d) (bracket_heads sig) (all_declared sig))

  pub head_listed : (h : Head) → Declared sig h → Listed (bracket_table sig) (head_word sig h)
  head_listed h d = let s = declared_stands sig h d in word_listed (head_word sig) head.Void (bracket_heads sig) h s.0 s.1

  -- ---- forms
  abbrev Form : List ℕ → Type 0
  Form w = Proper head_fine (bracket_table sig) blank w

  blank_clean : (w : List ℕ) → IsNamed w → Clean head_fine (bracket_table sig) blank w
  blank_clean w n = clean_bytes head_fine (bracket_table sig) blank blank_apart w n.goes_on

  pub head_proper : (h : Head) → Declared sig h → Form (head_word sig h)
  unfolding head_word
  head_proper (head.Symbol n) d =
      let m = symbol_named sig lawful n d.0 d.1 in
      let r = first_range m.first m.begins in
      let l = r.0 in
      subst Form (sym (symbol_name_is sig n d.0 d.1)) (blank_clean (d.0).name m, subst (λ z. IsTrue (head_fine z)) (sym m.is) (le-leb 34 m.first (omega (arith, l))))
  head_proper (head.Build n) d = subst Form (sym (build_word sig n d.0 d.1)) ((refl, blank_clean (d.0).name (type_named sig lawful n d.0 d.1)), refl)
  head_proper (head.Field n p) d = subst Form (sym (field_word sig n p d.0 d.1 d.2 d.3)) ((refl, blank_clean (d.1).name (field_named sig lawful n p d.0 d.1 d.2 d.3)), refl)
  head_proper (head.Int op.Add) d = ((refl, tt), refl)
  head_proper (head.Int op.Sub) d = ((refl, tt), refl)
  head_proper (head.Int op.Neg) d = ((refl, tt), refl)
  head_proper (head.Int op.Mul) d = ((refl, tt), refl)
  head_proper (head.Int op.Div) d = ((refl, tt), refl)
  head_proper (head.Int op.Mod) d = ((refl, tt), refl)
  head_proper (head.Real o) d = absurd d
  head_proper head.True d = absurd d
  head_proper head.False d = absurd d
  head_proper head.Void d = absurd d

  -- ---- symbols by themselves
  abbrev IsSymbol : ℕ → Type 0
  IsSymbol k = (e : SymbolEntry) × (slice_get sig.symbols k ≡ Some e)

  only_number : (n : ℕ) → IsSymbol n → (a : ℕ) → IsSymbol a → symbol_name sig a ≡ symbol_name sig n → a ≡ n
  only_number n d a c e = one_symbol a n c.0 d.0 c.1 d.1 (sym (symbol_name_is sig a c.0 c.1) ∙ e ∙ symbol_name_is sig n d.0 d.1)

  pub symbol_back : (n : ℕ) → IsSymbol n → symbol_of sig (symbol_name sig n) ≡ n
  unfolding symbol_of
  symbol_back n d = named_is (symbol_name sig) 0 (symbols sig) n n (own_place sig.symbols n d.0 d.1) (all_weaker IsSymbol (λ a. symbol_name sig a ≡ symbol_name sig n → a ≡ n) (only_number n d) (symbols sig) (each_place sig.symbols))

  pub symbol_listed : (n : ℕ) → IsSymbol n → Listed (map (symbol_name sig) (symbols sig)) (symbol_name sig n)
  symbol_listed n d = word_listed (symbol_name sig) 0 (symbols sig) n n (own_place sig.symbols n d.0 d.1)

  lone_number : (n : ℕ) → IsSymbol n → has_variables sig n ≡ false → Stands (lone_symbols sig) n
  unfolding lone_symbols
  lone_number n d v = kept (λ n. not (has_variables sig n)) (symbols sig) n n (own_place sig.symbols n d.0 d.1) (ap not v)

  pub lone_symbol_back : (n : ℕ) → IsSymbol n → has_variables sig n ≡ false → lone_symbol_of sig (symbol_name sig n) ≡ n
  unfolding lone_symbol_of lone_symbols
  lone_symbol_back n d v =
      let s = lone_number n d v in
      named_is (symbol_name sig) 0 (lone_symbols sig) n s.0 s.1
      (all_kept (λ a. symbol_name sig a ≡ symbol_name sig n → a ≡ n) (λ n. not (has_variables sig n)) (symbols sig)
      (all_weaker IsSymbol (λ a. symbol_name sig a ≡ symbol_name sig n → a ≡ n) (only_number n d) (symbols sig) (each_place sig.symbols)))

  pub lone_symbol_listed : (n : ℕ) → IsSymbol n → has_variables sig n ≡ false → Listed (map (symbol_name sig) (lone_symbols sig)) (symbol_name sig n)
  lone_symbol_listed n d v = let s = lone_number n d v in word_listed (symbol_name sig) 0 (lone_symbols sig) n s.0 s.1

  -- ---- heads that stand alone
  symbol_free : (n : ℕ) → IsSymbol n → (w : List ℕ) → Listed taken_names w → w ≡ head_word sig (head.Symbol n) → ⊥
  symbol_free n d w i e = not_taken (d.0).name (symbol_named sig lawful n d.0 d.1) (subst (Listed taken_names) (e ∙ symbol_word sig n d.0 d.1) i)

  true_taken : Listed taken_names (head_word sig head.True)
  unfolding taken_names head_word
  true_taken = inr (inr (inr (inr (inl refl))))

  false_taken : Listed taken_names (head_word sig head.False)
  unfolding taken_names head_word
  false_taken = inr (inr (inr (inr (inr (inl refl)))))

  void_taken : Listed taken_names (head_word sig head.Void)
  unfolding taken_names head_word
  void_taken = inr (inr (inr (inr (inr (inr (inl refl))))))

  symbol_test : (n : ℕ) → has_variables sig n ≡ false → takes_sorts sig (head.Symbol n) ≡ false
  unfolding takes_sorts
  symbol_test n v = v

  pub lone_head_listed : (n : ℕ) → IsSymbol n → has_variables sig n ≡ false → Listed (map (head_word sig) (lone_heads sig)) (head_word sig (head.Symbol n))
  unfolding lone_heads
  lone_head_listed n d v =
      let s = kept (λ h. not (takes_sorts sig h)) (map (λ n. head.Symbol n) (symbols sig)) (head.Symbol n) n (symbol_place sig n d.0 d.1) (ap not (symbol_test n v)) in
      word_listed (head_word sig) head.Void (head.True ∷ head.False ∷ head.Void ∷ filter (λ h. not (takes_sorts sig h)) (map (λ n. head.Symbol n) (symbols sig))) (head.Symbol n) (suc (suc (suc s.0))) s.1

  pub lone_head_back : (n : ℕ) → IsSymbol n → has_variables sig n ≡ false → lone_head_of sig (head_word sig (head.Symbol n)) ≡ head.Symbol n
  unfolding lone_head_of lone_heads
  lone_head_back n d v =
      let s = kept (λ h. not (takes_sorts sig h)) (map (λ n. head.Symbol n) (symbols sig)) (head.Symbol n) n (symbol_place sig n d.0 d.1) (ap not (symbol_test n v)) in
      named_is (head_word sig) head.Void (head.True ∷ head.False ∷ head.Void ∷ filter (λ h. not (takes_sorts sig h)) (map (λ n. head.Symbol n) (symbols sig))) (head.Symbol n) (suc (suc (suc s.0))) s.1 (
        (λ e. absurd (symbol_free n d _ true_taken e)),
        (
          (λ e. absurd (symbol_free n d _ false_taken e)),
          (
            (λ e. absurd (symbol_free n d _ void_taken e)),
            all_kept (SameWord (head.Symbol n)) (λ h. not (takes_sorts sig h)) (map (λ n. head.Symbol n) (symbols sig))
                (all_of_map (SameWord (head.Symbol n)) (λ n. head.Symbol n) (symbols sig)
                (all_weaker IsSymbol (λ a. SameWord (head.Symbol n) (head.Symbol a)) (λ a c. only_symbol n d (head.Symbol a) c) (symbols sig) (each_place sig.symbols))),
          ),
        ),
      )

  -- `true`, `false` and `void`
  pub true_back : lone_head_of sig (head_word sig head.True) ≡ head.True
  unfolding lone_head_of lone_heads head_word
  true_back = refl

  pub false_back : lone_head_of sig (head_word sig head.False) ≡ head.False
  unfolding lone_head_of lone_heads head_word
  false_back = refl

  pub void_back : lone_head_of sig (head_word sig head.Void) ≡ head.Void
  unfolding lone_head_of lone_heads head_word
  void_back = refl
