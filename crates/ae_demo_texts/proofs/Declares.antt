-- The tokens of declarations are declarations by the grammar, and declare what they say.
use Rattle.std.proofs.Common.{ℕ, zero, suc, ◌+◌, ◌≤◌, Bool, true, false, not, ◌&&◌, ◌||◌, List, [], ◌∷◌, ◌++◌, ◌≡◌, map, refl, sym, ap, ◌∙◌, subst, arith, append_assoc, Some, Option}
use Rattle.std.specs.List.{AllByRecursion}
use Rattle.std.specs.Option.{is_some}
use Rattle.std.proofs.lemmas.Bool.{and_parts}
use Rattle.std.proofs.lemmas.List.{map-append}
use Rattle.ae_base.proofs.AllOf.{all_append}
use Rattle.ae_core.specs.Sorts.{type_fits}
use Rattle.ae_core.specs.declared.terms.Sort.{Sort, Real, Named}
use Rattle.ae_core.specs.declared.problems.Kind.TheVariants.{Abstract}
use Rattle.ae_core.specs.declared.problems.Signature.{Signature}
use Rattle.ae_core.specs.declared.problems.SymbolEntry.{SymbolEntry}
use Rattle.ae_lex.specs.declared.kinds.Token.{Token}
use Rattle.ae_lex.specs.declared.kinds.Reserved.TheVariants as reserved
use Rattle.ae_lex.specs.declared.kinds.Sign.TheVariants as sign
use Rattle.ae_syntax.specs.declared.spans.Span.{Span}
use Rattle.ae_syntax.specs.declared.types.WrittenType.{WrittenType, fold-roll-WrittenType}
use Rattle.ae_syntax.specs.declared.types.TypeKind.{TypeKind, fold-roll-TypeKind}
use Rattle.ae_syntax.specs.declared.types.TypeKind as kind
use Rattle.ae_syntax.specs.declared.types.TypeKind.TheVariants.{rolls-Real, rolls-Named}
use Rattle.ae_syntax.specs.declared.types.TypeKind.TheOpen as layer
use Rattle.ae_syntax.specs.Depth.{depths}
use Rattle.ae_syntax.specs.Grammar.{Is, a_type, ac, arguments, some, of_names, of_types, some_one, some_more, decl_type, decl_logic, is_id, ac_none, ac_word, params_none, arguments_none, arguments_some, result_type, type_real, type_name}
use Rattle.ae_syntax.specs.Parts.{flag, names, sort, sorts, span, cover, written, named_after, a_sort, abstract_type, logic_of}
use Rattle.ae_elab.specs.declared.grounds.Ground.TheVariants.{Free}
use Rattle.ae_elab.specs.Conditions.{test}
use Rattle.ae_elab.specs.Declarations.{only_declared, declared, logic_decl, may_be_ac, nature_of, new_symbols, no_declarations, scope_of, symbol_entry, twice, type_entry, with_symbols, with_types}
use Rattle.ae_elab.specs.Rules.{Passed, Rule, count_written, each, give, ◌>>◌}
use Rattle.ae_elab.specs.Scope.{is_among, name_in, symbol_number, type_number}
use Rattle.ae_elab.specs.Steps.{AreHeld, IsTaken}
use Rattle.ae_elab.specs.WrittenTypes.{TypeRule, named_rule, type_rule, type_step}
use Rattle.ae_elab.proofs.DeclRules.{logic_declares}
use Rattle.ae_elab.proofs.TypeRules.{kind_type, named_taken, result_taken}
use Rattle.ae_elab.proofs.WalkLaws.{none_met, one_met, test_met}
use Rattle.ae_demo_texts.proofs.Pieces.{Gap, nothing, a_blank, a_break, Piece, AreSpelt, IsSpelt, parted}
use Rattle.ae_demo_texts.proofs.Phrases.{kept, mark, word}
use Rattle.ae_demo_texts.proofs.Parses.{ReadsDecl, Gives, afresh, alone_taken, one_token}
use Rattle.ae_demo_texts.proofs.Taken.{give_taken, test_taken, then_taken}

-- ---- written types: the type t, or real
pub data Written : Type 0 where
  of_t of_real : Written

abbrev pub t_name : List ℕ
t_name = 116 ∷ []

abbrev pub written_piece : Written → Gap → Piece
written_piece of_t g = word t_name g
written_piece of_real g = kept reserved.Real g

abbrev pub t_sort : Sort
t_sort = Named 0 []

abbrev pub written_sort : Written → Sort
written_sort of_t = t_sort
written_sort of_real = Real

-- the type t is the first one that is declared, and has no parameters
pub record HasT (sig : Signature) : Type 0 where
  pub known : type_number sig t_name ≡ Some 0
  pub fits : type_fits sig 0 0 ≡ true

pub record ReadsType (text : List ℕ) (sig : Signature) (ts : List Token) (s : Sort) : Type 0 where
  pub type : WrittenType
  pub is : Is a_type ts (sort type)
  pub shallow : (d : ℕ) → depths is d ≡ d ∷ []
  pub has : (p : Passed) → IsTaken (type_rule type Free (scope_of text sig)) p p s

type_rolled : (s : Span) (k : TypeKind) → type_rule (written s k) ≡ kind_type k s
unfolding type_rule kind_type
type_rolled s k = fold-roll-WrittenType (Span → TypeRule) TypeRule type_step (λ t. t.kind t.span) (record { span = s; kind = k })

real_kind : kind_type kind.Real ≡ type_step layer.Real
unfolding type_rule kind_type
real_kind = ap kind_type (sym rolls-Real) ∙ fold-roll-TypeKind (Span → TypeRule) TypeRule type_step (λ t. t.kind t.span) layer.Real

named_kind : (n : Span) (ws : List WrittenType) → kind_type (kind.Named n ws) ≡ type_step (layer.Named n (map type_rule ws))
unfolding type_rule kind_type
named_kind n ws = ap kind_type (sym (rolls-Named n ws)) ∙ fold-roll-TypeKind (Span → TypeRule) TypeRule type_step (λ t. t.kind t.span) (layer.Named n ws)

module _ (text : List ℕ) (sig : Signature) where
  real_taken : (s : Span) (p : Passed) → IsTaken (type_rule (written s kind.Real) Free (scope_of text sig)) p p Real
  real_taken s p =
      subst (λ r. IsTaken (r Free (scope_of text sig)) p p Real) (sym (type_rolled s kind.Real ∙ ap (λ k. k s) real_kind)) (give_taken Real p)

  t_taken : HasT sig → (s n : Span) (p : Passed) → name_in text n ≡ t_name → IsTaken (type_rule (written s (kind.Named n [])) Free (scope_of text sig)) p p t_sort
  t_taken t s n p e =
      subst (λ r. IsTaken (r Free (scope_of text sig)) p p t_sort) (sym (type_rolled s (kind.Named n []) ∙ ap (λ k. k s) (named_kind n [])))
      (then_taken (give []) (λ ss. named_rule Free (scope_of text sig) n ss (type_number sig (name_in text n))) p p p [] t_sort (give_taken [] p)
      (named_taken Free (scope_of text sig) n [] 0 (type_number sig (name_in text n)) p (ap (type_number sig) e ∙ t.known) refl t.fits))

  pub type_read : (x : Written) (g : Gap) (t : Token) → HasT sig → IsSpelt text t (written_piece x g) → ReadsType text sig (t ∷ []) (written_sort x)
  type_read of_t g t k h = record { type = named_after (span t) [] t; is = type_name t h.0; shallow = λ d. refl; has = λ p. t_taken k (cover (span t) (span t)) (span t) p h.1 }
  type_read of_real g t k h = record { type = written (span t) kind.Real; is = type_real t h.0; shallow = λ d. refl; has = λ p. real_taken (span t) p }

-- ---- names, parted by commas
abbrev pub name_list : (ℕ → List ℕ) → ℕ → List (List ℕ)
name_list w zero = w 0 ∷ []
name_list w (suc n) = name_list w n ++ (w (suc n) ∷ [])

abbrev pub names_pieces : (ℕ → List ℕ) → ℕ → Gap → List Piece
names_pieces w zero g = word (w 0) g ∷ []
names_pieces w (suc n) g = names_pieces w n nothing ++ (mark sign.Comma a_blank ∷ word (w (suc n)) g ∷ [])

pub record ReadsNames (text : List ℕ) (ts : List Token) (ws : List (List ℕ)) : Type 0 where
  pub spans : List Span
  pub is : Is (some of_names) ts (names spans)
  pub shallow : (d : ℕ) → AllByRecursion (λ n. n ≤ d + 2) (depths is d)
  pub spelt : map (name_in text) spans ≡ ws

module _ (text : List ℕ) (w : ℕ → List ℕ) where
  two_tokens : (ts : List Token) (p q : Piece) → AreSpelt text ts (p ∷ q ∷ []) → (t : Token) × (u : Token) × (ts ≡ t ∷ u ∷ []) × IsSpelt text t p × IsSpelt text u q
  two_tokens [] p q h = absurd h
  two_tokens (t ∷ []) p q h = absurd h.1
  two_tokens (t ∷ u ∷ []) p q h = (t, u, refl, h.0, h.1.0)
  two_tokens (t ∷ u ∷ v ∷ ts) p q h = absurd h.1.1

  pub names_read : (n : ℕ) (g : Gap) (ts : List Token) → AreSpelt text ts (names_pieces w n g) → ReadsNames text ts (name_list w n)
  names_read zero g ts h =
      let t = one_token text ts (word (w 0) g) h in
      subst (λ z. ReadsNames text z (w 0 ∷ [])) (sym t.1)
      (record { spans = span t.0 ∷ []; is = some_one of_names (is_id t.0 t.2.0); shallow = λ d. (omega arith, tt); spelt = ap (λ z. z ∷ []) t.2.1 })
  names_read (suc n) g ts h =
      let parts = parted text ts (names_pieces w n nothing) (mark sign.Comma a_blank ∷ word (w (suc n)) g ∷ []) h in
      let last = two_tokens parts.second (mark sign.Comma a_blank) (word (w (suc n)) g) parts.back in
      let r = names_read n nothing parts.first parts.front in
      subst (λ z. ReadsNames text z (name_list w (suc n))) (sym (parts.cut ∙ ap (λ z. parts.first ++ z) last.2))
      (record {
        spans = r.spans ++ (span last.1 ∷ []);
        is = some_more of_names parts.first (last.1 ∷ []) last.0 r.is last.3.0 (is_id last.1 last.4.0);
        shallow = λ d. all_append (λ i. i ≤ d + 2) (depths r.is d) (d ∷ d ∷ []) (r.shallow d) (omega arith, (omega arith, tt));
        spelt = map-append (name_in text) r.spans (span last.1 ∷ []) ∙ ap (λ z. z ++ (name_in text (span last.1) ∷ [])) r.spelt ∙ ap (λ z. name_list w n ++ (z ∷ [])) last.4.1;
      })

-- ---- names that are new
abbrev pub all_new : Signature → List (List ℕ) → List (List ℕ) → Bool
all_new sig seen [] = true
all_new sig seen (w ∷ ws) = not (is_some (symbol_number sig w) || is_among w seen) && all_new sig (w ∷ seen) ws

pub names_held : (text : List ℕ) (sig : Signature) (seen : List (List ℕ)) (ns : List Span) → all_new sig seen (map (name_in text) ns) ≡ true → AreHeld (new_symbols text sig seen ns)
names_held text sig seen [] e m = none_met m
names_held text sig seen (n ∷ ns) e m =
    let w = name_in text n in
    let both = and_parts (not (is_some (symbol_number sig w) || is_among w seen)) (all_new sig (w ∷ seen) (map (name_in text) ns)) e in
    one_met (test (not (is_some (symbol_number sig w) || is_among w seen)) (twice text n)) (new_symbols text sig (w ∷ seen) ns) m m m
    (test_met (not (is_some (symbol_number sig w) || is_among w seen)) (twice text n) m both.0) (names_held text sig (w ∷ seen) ns both.1 m)

map_twice : {A B C : Type 0} (f : B → C) (g : A → B) (xs : List A) → map (λ x. f (g x)) xs ≡ map f (map g xs)
map_twice f g [] = refl
map_twice f g (x ∷ xs) = ap (λ z. f (g x) ∷ z) (map_twice f g xs)

-- ---- the sorts of arguments
pub data Arguments : Type 0 where
  no_argument : Arguments
  one_argument : (x : Written) → Arguments
  two_arguments : (x y : Written) → Arguments

abbrev pub arguments_pieces : Arguments → List Piece
arguments_pieces no_argument = []
arguments_pieces (one_argument x) = written_piece x a_blank ∷ mark sign.Arrow a_blank ∷ []
arguments_pieces (two_arguments x y) = written_piece x nothing ∷ mark sign.Comma a_blank ∷ written_piece y a_blank ∷ mark sign.Arrow a_blank ∷ []

abbrev pub arguments_sorts : Arguments → List Sort
arguments_sorts no_argument = []
arguments_sorts (one_argument x) = written_sort x ∷ []
arguments_sorts (two_arguments x y) = written_sort x ∷ written_sort y ∷ []

pub record ReadsArguments (text : List ℕ) (sig : Signature) (ts : List Token) (ss : List Sort) : Type 0 where
  pub types : List WrittenType
  pub is : Is arguments ts (sorts types)
  pub shallow : (d : ℕ) → AllByRecursion (λ n. n ≤ d + 2) (depths is d)
  pub has : (p : Passed) → IsTaken (each (λ w. type_rule w Free (scope_of text sig)) types) p p ss

module _ (text : List ℕ) (sig : Signature) (k : HasT sig) where
  abbrev sorted : WrittenType → Rule Sort
  sorted w = type_rule w Free (scope_of text sig)

  each_taken : (w : WrittenType) (ws : List WrittenType) (s : Sort) (ss : List Sort) → ((p : Passed) → IsTaken (sorted w) p p s) → ((p : Passed) → IsTaken (each sorted ws) p p ss) → (p : Passed) → IsTaken (each sorted (w ∷ ws)) p p (s ∷ ss)
  each_taken w ws s ss a b p =
      then_taken (sorted w) (λ y. each sorted ws >> λ ys. give (y ∷ ys)) p p p s (s ∷ ss) (a p)
      (then_taken (each sorted ws) (λ ys. give (s ∷ ys)) p p p ss (s ∷ ss) (b p) (give_taken (s ∷ ss) p))

  pub arguments_read : (x : Arguments) (ts : List Token) → AreSpelt text ts (arguments_pieces x) → ReadsArguments text sig ts (arguments_sorts x)
  arguments_read no_argument [] h = record { types = []; is = arguments_none; shallow = λ d. tt; has = λ p. give_taken [] p }
  arguments_read no_argument (t ∷ ts) h = absurd h
  arguments_read (one_argument x) [] h = absurd h
  arguments_read (one_argument x) (t ∷ []) h = absurd h.1
  arguments_read (one_argument x) (t ∷ a ∷ []) h =
      let r = type_read text sig x a_blank t k h.0 in
      record {
        types = r.type ∷ [];
        is = arguments_some (t ∷ []) a (some_one of_types r.is) h.1.0.0;
        shallow = λ d. subst (λ z. AllByRecursion (λ n. n ≤ d + 2) (z ++ (d ∷ []))) (sym (r.shallow d)) (omega arith, (omega arith, tt));
        has = each_taken r.type [] (written_sort x) [] r.has (λ p. give_taken [] p);
      }
  arguments_read (one_argument x) (t ∷ a ∷ b ∷ ts) h = absurd h.1.1
  arguments_read (two_arguments x y) [] h = absurd h
  arguments_read (two_arguments x y) (t ∷ []) h = absurd h.1
  arguments_read (two_arguments x y) (t ∷ c ∷ []) h = absurd h.1.1
  arguments_read (two_arguments x y) (t ∷ c ∷ u ∷ []) h = absurd h.1.1.1
  arguments_read (two_arguments x y) (t ∷ c ∷ u ∷ a ∷ []) h =
      let r = type_read text sig x nothing t k h.0 in
      let q = type_read text sig y a_blank u k h.1.1.0 in
      record {
        types = r.type ∷ q.type ∷ [];
        is = arguments_some (t ∷ c ∷ u ∷ []) a (some_more of_types (t ∷ []) (u ∷ []) c (some_one of_types r.is) h.1.0.0 q.is) h.1.1.1.0.0;
        shallow = λ d.
            subst (λ z. AllByRecursion (λ n. n ≤ d + 2) ((z ++ (d ∷ depths q.is d)) ++ (d ∷ []))) (sym (r.shallow d))
            (subst (λ z. AllByRecursion (λ n. n ≤ d + 2) (((d ∷ []) ++ (d ∷ z)) ++ (d ∷ []))) (sym (q.shallow d)) (omega arith, (omega arith, (omega arith, (omega arith, tt)))));
        has = each_taken r.type (q.type ∷ []) (written_sort x) (written_sort y ∷ []) r.has (each_taken q.type [] (written_sort y) [] q.has (λ p. give_taken [] p));
      }
  arguments_read (two_arguments x y) (t ∷ c ∷ u ∷ a ∷ b ∷ ts) h = absurd h.1.1.1.1

-- ---- symbols of one declaration
pub record Symbols : Type 0 where
  pub ac : Bool
  pub name : ℕ → List ℕ
  pub last : ℕ
  pub args : Arguments
  pub value : Written

abbrev pub ac_pieces : Bool → List Piece
ac_pieces true = kept reserved.Ac a_blank ∷ []
ac_pieces false = []

abbrev pub symbols_pieces : Symbols → List Piece
symbols_pieces x =
    kept reserved.Logic a_blank ∷ (ac_pieces x.ac ++ (names_pieces x.name x.last a_blank ++ (mark sign.Colon a_blank ∷ (arguments_pieces x.args ++ (written_piece x.value a_break ∷ [])))))

abbrev pub symbols_entries : Symbols → List SymbolEntry
symbols_entries x = map (λ w. symbol_entry w 0 (arguments_sorts x.args) (Some (written_sort x.value)) (nature_of x.ac)) (name_list x.name x.last)

-- they may be declared
pub record MayDeclare (sig : Signature) (x : Symbols) : Type 0 where
  pub type : HasT sig
  pub new : all_new sig [] (name_list x.name x.last) ≡ true
  pub fits : may_be_ac x.ac (arguments_sorts x.args) (Some (written_sort x.value)) ≡ true

pub record ReadsAc (ts : List Token) (b : Bool) : Type 0 where
  pub is : Is ac ts (flag b)
  pub shallow : (d : ℕ) → AllByRecursion (λ n. n ≤ d + 2) (depths is d)

ac_read : (text : List ℕ) (b : Bool) (ts : List Token) → AreSpelt text ts (ac_pieces b) → ReadsAc ts b
ac_read text true [] h = absurd h
ac_read text true (t ∷ []) h = record { is = ac_word t h.0.0; shallow = λ d. (omega arith, tt) }
ac_read text true (t ∷ u ∷ ts) h = absurd h.1
ac_read text false [] h = record { is = ac_none; shallow = λ d. tt }
ac_read text false (t ∷ ts) h = absurd h

module _ (text : List ℕ) (sig : Signature) (x : Symbols) (may : MayDeclare sig x) where
  abbrev new : Signature
  new = with_symbols sig (symbols_entries x)

  abbrev ss : List Sort
  ss = arguments_sorts x.args

  abbrev r : Option Sort
  r = Some (written_sort x.value)

  counts_none : (p : Passed) → IsTaken count_written (afresh text sig p) (afresh text sig p) 0
  counts_none p m = record { met = none_met m; value = refl; passed = refl }

  declared_taken : (place : Span) (ns : List Span) (args : List WrittenType) (value : WrittenType) (p : Passed) → map (name_in text) ns ≡ name_list x.name x.last
      → ((p : Passed) → IsTaken (each (λ w. type_rule w Free (scope_of text sig)) args) p p ss) → ((p : Passed) → IsTaken (type_rule value Free (scope_of text sig)) p p (written_sort x.value))
      → IsTaken (logic_decl text sig place x.ac ns args (a_sort value)) (afresh text sig p) (afresh text sig p) (only_declared new)
  declared_taken place ns args value p spelt sorts_taken value_taken =
      let q = afresh text sig p in
      let e : new ≡ with_symbols sig (map (λ n. symbol_entry (name_in text n) 0 ss r (nature_of x.ac)) ns) =
      ap (with_symbols sig) (sym (map_twice (λ w. symbol_entry w 0 ss r (nature_of x.ac)) (name_in text) ns ∙ ap (map (λ w. symbol_entry w 0 ss r (nature_of x.ac))) spelt)) in
      logic_declares text sig place x.ac ns args (a_sort value) q (names_held text sig [] ns (subst (λ ws. all_new sig [] ws ≡ true) (sym spelt) may.new)) q ss (sorts_taken q) q r
      (result_taken text sig value q q (written_sort x.value) (value_taken q)) may.fits 0 (counts_none p) new e

  -- the tokens, by their parts
  logic_parts : (t c : Token) (us vs ws xs : List Token) → ReadsAc us x.ac → ReadsNames text vs (name_list x.name x.last) → ReadsArguments text sig ws ss → ReadsType text sig xs (written_sort x.value)
      → t.kind ≡ (kept reserved.Logic a_blank).kind → c.kind ≡ (mark sign.Colon a_blank).kind → ReadsDecl (t ∷ (us ++ (vs ++ (c ∷ (ws ++ xs))))) 2 (Gives text sig (only_declared new))
  logic_parts t c us vs ws xs u v w y ht hc =
      let whole : (((t ∷ us) ++ vs) ++ (c ∷ ws)) ++ xs ≡ t ∷ (us ++ (vs ++ (c ∷ (ws ++ xs)))) =
      append_assoc ((t ∷ us) ++ vs) (c ∷ ws) xs ∙ append_assoc (t ∷ us) vs (c ∷ (ws ++ xs)) in
      let d = logic_of t x.ac v.spans w.types (a_sort y.type) in
      let is = decl_logic us vs ws xs t c ht u.is v.is hc w.is (result_type y.is) in
      let declaration : ReadsDecl ((((t ∷ us) ++ vs) ++ (c ∷ ws)) ++ xs) 2 (Gives text sig (only_declared new)) = record {
        declaration = d;
        is = is;
        shallow = λ e.
            all_append (λ n. n ≤ e + 2) (((e ∷ depths u.is e) ++ depths v.is e) ++ (e ∷ depths w.is e)) (depths y.is e)
            (all_append (λ n. n ≤ e + 2) ((e ∷ depths u.is e) ++ depths v.is e) (e ∷ depths w.is e)
            (all_append (λ n. n ≤ e + 2) (e ∷ depths u.is e) (depths v.is e) (omega arith, u.shallow e) (v.shallow e)) (omega arith, w.shallow e))
            (subst (AllByRecursion (λ n. n ≤ e + 2)) (sym (y.shallow e)) (omega arith, tt));
        has = λ p. alone_taken text sig d (only_declared new) p (declared_taken d.span v.spans w.types y.type p v.spelt w.has y.has);
      } in
      subst (λ z. ReadsDecl z 2 (Gives text sig (only_declared new))) whole declaration

  behind_colon : (t : Token) (us vs ts : List Token) → ReadsAc us x.ac → ReadsNames text vs (name_list x.name x.last) → t.kind ≡ (kept reserved.Logic a_blank).kind
      → AreSpelt text ts (mark sign.Colon a_blank ∷ (arguments_pieces x.args ++ (written_piece x.value a_break ∷ []))) → ReadsDecl (t ∷ (us ++ (vs ++ ts))) 2 (Gives text sig (only_declared new))
  behind_colon t us vs [] u v ht h = absurd h
  behind_colon t us vs (c ∷ ts) u v ht h =
      let parts = parted text ts (arguments_pieces x.args) (written_piece x.value a_break ∷ []) h.1 in
      let last = one_token text parts.second (written_piece x.value a_break) parts.back in
      subst (λ z. ReadsDecl (t ∷ (us ++ (vs ++ (c ∷ z)))) 2 (Gives text sig (only_declared new))) (sym (parts.cut ∙ ap (λ z. parts.first ++ z) last.1))
      (logic_parts t c us vs parts.first (last.0 ∷ []) u v (arguments_read text sig may.type x.args parts.first parts.front) (type_read text sig x.value a_break last.0 may.type last.2) ht h.0.0)

  pub symbols_read : (ts : List Token) → AreSpelt text ts (symbols_pieces x) → ReadsDecl ts 2 (Gives text sig (only_declared new))
  symbols_read [] h = absurd h
  symbols_read (t ∷ ts) h =
      let first = parted text ts (ac_pieces x.ac) (names_pieces x.name x.last a_blank ++ (mark sign.Colon a_blank ∷ (arguments_pieces x.args ++ (written_piece x.value a_break ∷ [])))) h.1 in
      let second = parted text first.second (names_pieces x.name x.last a_blank) (mark sign.Colon a_blank ∷ (arguments_pieces x.args ++ (written_piece x.value a_break ∷ []))) first.back in
      subst (λ z. ReadsDecl (t ∷ z) 2 (Gives text sig (only_declared new))) (sym (first.cut ∙ ap (λ z. first.first ++ z) second.cut))
      (behind_colon t first.first second.first second.second (ac_read text x.ac first.first first.front) (names_read text x.name x.last a_blank second.first second.front) h.0.0 second.back)

-- ---- the declaration of the type t, the first one
abbrev pub with_t : Signature
with_t = with_types no_declarations (type_entry t_name 0 Abstract ∷ [])

abbrev pub t_pieces : List Piece
t_pieces = kept reserved.Type_ a_blank ∷ word t_name a_break ∷ []

pub t_read : (text : List ℕ) (ts : List Token) → AreSpelt text ts t_pieces → ReadsDecl ts 2 (Gives text no_declarations (only_declared with_t))
t_read text [] h = absurd h
t_read text (t ∷ []) h = absurd h.1
t_read text (t ∷ n ∷ u ∷ ts) h = absurd h.1.1
t_read text (t ∷ n ∷ []) h =
    let d = abstract_type t [] n in
    record {
      declaration = d;
      is = decl_type [] t n h.0.0 params_none h.1.0.0;
      shallow = λ e. (omega arith, (omega arith, tt));
      has = λ p.
          alone_taken text no_declarations d (only_declared with_t) p
          (test_taken true (twice text (span n)) (declared (with_types no_declarations (type_entry (name_in text (span n)) 0 Abstract ∷ []))) (afresh text no_declarations p) (afresh text no_declarations p)
          (only_declared with_t) refl
          (subst (λ w. IsTaken (declared (with_types no_declarations (type_entry w 0 Abstract ∷ []))) (afresh text no_declarations p) (afresh text no_declarations p) (only_declared with_t)) (sym h.1.0.1)
          (give_taken (only_declared with_t) (afresh text no_declarations p))));
    }
