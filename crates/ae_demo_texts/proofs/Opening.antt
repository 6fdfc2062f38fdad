-- The declarations with which the demo's texts begin.
use Rattle.std.proofs.Common.{ℕ, zero, suc, ◌+◌, ◌≤◌, ◌<◌, Bool, true, false, List, [], ◌∷◌, ◌++◌, ◌≡◌, map, refl, sym, ap, ◌∙◌, subst, arith, Some}
use Rattle.std.specs.Prelude.{decimal}
use Rattle.std.specs.Fmt.{digits}
use Rattle.ae_base.proofs.Decided.{decided_of}
use Rattle.ae_core.proofs.PuttingLaws.{put_named, put_real}
use Rattle.ae_core.proofs.Recursion.{fold_named, fold_real}
use Rattle.ae_core.specs.Decided.{Sort_discrete}
use Rattle.ae_core.specs.Putting.{put_sort}
use Rattle.ae_core.specs.Sorts.{same_sort}
use Rattle.ae_core.specs.declared.problems.Nature.{Nature}
use Rattle.ae_core.specs.declared.problems.Nature.TheVariants.{Ac, Free}
use Rattle.ae_core.specs.declared.problems.Signature.{Signature}
use Rattle.ae_core.specs.declared.terms.Sort.{Sort, Real}
use Rattle.ae_gen.specs.Demo.{opening, symbols, declared, names}
use Rattle.ae_lex.specs.Inner.Pieces.{StopsAt}
use Rattle.ae_lex.specs.Lexis.{is_inner}
use Rattle.ae_lex.specs.declared.kinds.Reserved.TheVariants as reserved
use Rattle.ae_lex.specs.declared.kinds.Sign.TheVariants as sign
use Rattle.ae_lex.specs.declared.kinds.Token.{Token}
use Rattle.ae_elab.specs.Declarations.{generalize, generalize_step, no_declarations, symbol_entry, with_symbols}
use Rattle.ae_elab.specs.Scope.{function, symbol_from}
use Rattle.ae_demo_texts.proofs.Before.{IsIdentifier, ident_before, numbered_name, one_letter, reserved_before, sign_before}
use Rattle.ae_demo_texts.proofs.Declares.{Written, of_t, of_real, t_name, t_sort, written_piece, written_sort, names_pieces, Arguments, no_argument, one_argument, two_arguments, arguments_pieces, arguments_sorts, Symbols, ac_pieces, symbols_pieces, symbols_entries, symbols_read, MayDeclare, with_t, t_pieces, t_read}
use Rattle.ae_demo_texts.proofs.Files.{ReadsFile, file_more, no_file}
use Rattle.ae_demo_texts.proofs.Phrases.{mark, word, joined}
use Rattle.ae_demo_texts.proofs.Pieces.{Gap, nothing, a_blank, a_break, gap_bytes, Piece, text_of, AreRight, AreSpelt, parted}
use Rattle.ae_demo_texts.proofs.Taken.{IsSymbol}

-- ---- the declarations
abbrev pub u_symbols : Symbols
u_symbols = record { ac = true; name = λ n. 117 ∷ []; last = 0; args = two_arguments of_t of_t; value = of_t }

abbrev pub f_symbols : Symbols
f_symbols = record { ac = false; name = λ n. 102 ∷ []; last = 0; args = one_argument of_t; value = of_t }

abbrev pub h_symbols : Symbols
h_symbols = record { ac = false; name = λ n. 104 ∷ []; last = 0; args = one_argument of_real; value = of_real }

abbrev pub a_symbols : Symbols
a_symbols = record { ac = false; name = λ n. 97 ∷ decimal n; last = 15; args = no_argument; value = of_t }

abbrev pub x_symbols : Symbols
x_symbols = record { ac = false; name = λ n. 120 ∷ decimal n; last = 7; args = no_argument; value = of_real }

abbrev pub declaring : Signature → Symbols → Signature
declaring sig x = with_symbols sig (symbols_entries x)

abbrev pub with_u : Signature
with_u = declaring with_t u_symbols

abbrev pub with_f : Signature
with_f = declaring with_u f_symbols

abbrev pub with_h : Signature
with_h = declaring with_f h_symbols

abbrev pub with_a : Signature
with_a = declaring with_h a_symbols

abbrev pub demo_signature : Signature
demo_signature = declaring with_a x_symbols

abbrev pub opening_pieces : List Piece
opening_pieces = ((((t_pieces ++ symbols_pieces u_symbols) ++ symbols_pieces f_symbols) ++ symbols_pieces h_symbols) ++ symbols_pieces a_symbols) ++ symbols_pieces x_symbols

pub opening_text : text_of opening_pieces ≡ opening
unfolding opening symbols declared names digits
opening_text = refl

-- ---- their pieces are tokens
written_right : (x : Written) (g : Gap) (qs : List Piece) → StopsAt is_inner (gap_bytes g ++ text_of qs) → AreRight qs → AreRight (written_piece x g ∷ qs)
written_right of_t g qs s r = (ident_before t_name (gap_bytes g ++ text_of qs) (one_letter 116 refl) s, r)
written_right of_real g qs s r = (reserved_before reserved.Real (gap_bytes g ++ text_of qs) s, r)

names_right : (w : ℕ → List ℕ) (n : ℕ) (g : Gap) (qs : List Piece) → ((k : ℕ) → k ≤ n → IsIdentifier (w k)) → StopsAt is_inner (gap_bytes g ++ text_of qs) → AreRight qs → AreRight (names_pieces w n g ++ qs)
names_right w zero g qs i s r = (ident_before (w 0) (gap_bytes g ++ text_of qs) (i 0 (omega arith)) s, r)
names_right w (suc n) g qs i s r =
    joined (names_pieces w n nothing) (mark sign.Comma a_blank ∷ word (w (suc n)) g ∷ []) qs
    (names_right w n nothing (mark sign.Comma a_blank ∷ word (w (suc n)) g ∷ qs) (λ k le. i k (omega (arith, le))) refl
    (sign_before sign.Comma _ refl refl, (ident_before (w (suc n)) (gap_bytes g ++ text_of qs) (i (suc n) (omega arith)) s, r)))

arguments_right : (x : Arguments) (qs : List Piece) → AreRight qs → AreRight (arguments_pieces x ++ qs)
arguments_right no_argument qs r = r
arguments_right (one_argument x) qs r = written_right x a_blank (mark sign.Arrow a_blank ∷ qs) refl (sign_before sign.Arrow _ refl refl, r)
arguments_right (two_arguments x y) qs r =
    written_right x nothing (mark sign.Comma a_blank ∷ written_piece y a_blank ∷ mark sign.Arrow a_blank ∷ qs) refl
    (sign_before sign.Comma _ refl refl, written_right y a_blank (mark sign.Arrow a_blank ∷ qs) refl (sign_before sign.Arrow _ refl refl, r))

ac_right : (b : Bool) (qs : List Piece) → AreRight qs → AreRight (ac_pieces b ++ qs)
ac_right true qs r = (reserved_before reserved.Ac _ refl, r)
ac_right false qs r = r

symbols_right : (x : Symbols) (qs : List Piece) → ((k : ℕ) → k ≤ x.last → IsIdentifier (x.name k)) → AreRight qs → AreRight (symbols_pieces x ++ qs)
symbols_right x qs i r =
    let tail = written_piece x.value a_break ∷ [] in
    let sorted = mark sign.Colon a_blank ∷ (arguments_pieces x.args ++ tail) in
    let named = names_pieces x.name x.last a_blank ++ sorted in (
      reserved_before reserved.Logic _ refl,
      joined (ac_pieces x.ac) named qs
          (ac_right x.ac (named ++ qs)
          (joined (names_pieces x.name x.last a_blank) sorted qs
          (names_right x.name x.last a_blank (sorted ++ qs) i refl
          (sign_before sign.Colon _ refl refl, joined (arguments_pieces x.args) tail qs (arguments_right x.args (tail ++ qs) (written_right x.value a_break qs refl r)))))),
    )

pub opening_right : (qs : List Piece) → AreRight qs → AreRight (opening_pieces ++ qs)
opening_right qs r =
    let u = symbols_pieces u_symbols in
    let f = symbols_pieces f_symbols in
    let h = symbols_pieces h_symbols in
    let a = symbols_pieces a_symbols in
    let x = symbols_pieces x_symbols in
    joined ((((t_pieces ++ u) ++ f) ++ h) ++ a) x qs
    (joined (((t_pieces ++ u) ++ f) ++ h) a (x ++ qs)
    (joined ((t_pieces ++ u) ++ f) h (a ++ (x ++ qs))
    (joined (t_pieces ++ u) f (h ++ (a ++ (x ++ qs)))
    (joined t_pieces u (f ++ (h ++ (a ++ (x ++ qs)))) (
      reserved_before reserved.Type_ _ refl,
      (
        ident_before t_name _ (one_letter 116 refl) refl,
        symbols_right u_symbols (f ++ (h ++ (a ++ (x ++ qs)))) (λ k le. one_letter 117 refl)
            (symbols_right f_symbols (h ++ (a ++ (x ++ qs))) (λ k le. one_letter 102 refl)
            (symbols_right h_symbols (a ++ (x ++ qs)) (λ k le. one_letter 104 refl)
            (symbols_right a_symbols (x ++ qs) (λ k le. numbered_name 97 k refl (omega (arith, le)))
            (symbols_right x_symbols qs (λ k le. numbered_name 120 k refl (omega (arith, le))) r)))),
      ),
    )))))

-- ---- what they declare
same_t : same_sort t_sort t_sort ≡ true
same_t = decided_of (Sort_discrete t_sort t_sort) refl

may_u : MayDeclare with_t u_symbols
may_u = record { type = record { known = refl; fits = refl }; new = refl; fits = ap (λ (b : Bool). elim b as (λ _. Bool) [ true ↦ b | false ↦ false ]) same_t }

may_f : MayDeclare with_u f_symbols
may_f = record { type = record { known = refl; fits = refl }; new = refl; fits = refl }

may_h : MayDeclare with_f h_symbols
may_h = record { type = record { known = refl; fits = refl }; new = refl; fits = refl }

may_a : MayDeclare with_h a_symbols
unfolding digits
may_a = record { type = record { known = refl; fits = refl }; new = refl; fits = refl }

may_x : MayDeclare with_a x_symbols
unfolding digits
may_x = record { type = record { known = refl; fits = refl }; new = refl; fits = refl }

-- one declaration of symbols more
symbols_more : (text : List ℕ) (ts : List Token) (sig : Signature) (ps : List Piece) (x : Symbols) → ((us : List Token) → AreSpelt text us ps → ReadsFile text us sig []) → MayDeclare sig x
    → AreSpelt text ts (ps ++ symbols_pieces x) → ReadsFile text ts (declaring sig x) []
symbols_more text ts sig ps x before may h =
    let parts = parted text ts ps (symbols_pieces x) h in
    subst (λ z. ReadsFile text z (declaring sig x) []) (sym parts.cut)
    (file_more text parts.first parts.second sig (declaring sig x) [] [] (λ d. []) 2 (before parts.first parts.front) (symbols_read text sig x may parts.second parts.back) (omega arith) (λ d. tt))

pub opening_read : (text : List ℕ) (ts : List Token) → AreSpelt text ts opening_pieces → ReadsFile text ts demo_signature []
opening_read text ts h =
    symbols_more text ts with_a ((((t_pieces ++ symbols_pieces u_symbols) ++ symbols_pieces f_symbols) ++ symbols_pieces h_symbols) ++ symbols_pieces a_symbols) x_symbols
    (λ us. symbols_more text us with_h (((t_pieces ++ symbols_pieces u_symbols) ++ symbols_pieces f_symbols) ++ symbols_pieces h_symbols) a_symbols
    (λ vs. symbols_more text vs with_f ((t_pieces ++ symbols_pieces u_symbols) ++ symbols_pieces f_symbols) h_symbols
    (λ ws. symbols_more text ws with_u (t_pieces ++ symbols_pieces u_symbols) f_symbols
    (λ xs. symbols_more text xs with_t t_pieces u_symbols
    (λ ys k. file_more text [] ys no_declarations with_t [] [] (λ d. []) 2 (no_file text) (t_read text ys k) (omega arith) (λ d. tt))
    may_u) may_f) may_h) may_a) may_x h

-- ---- its symbols
generalize_t : generalize t_sort ≡ t_sort
unfolding generalize
generalize_t = fold_named Sort generalize_step 0 []

generalize_real : generalize Real ≡ Real
unfolding generalize
generalize_real = fold_real Sort generalize_step

back : (x : Written) → put_sort [] (generalize (written_sort x)) ≡ written_sort x
back of_t = ap (put_sort []) generalize_t ∙ put_named [] 0 []
back of_real = ap (put_sort []) generalize_real ∙ put_real []

args_back : (x : Arguments) → map (put_sort []) (map generalize (arguments_sorts x)) ≡ arguments_sorts x
args_back no_argument = refl
args_back (one_argument x) = ap (λ s. s ∷ []) (back x)
args_back (two_arguments x y) = (λ i. back x i ∷ back y i ∷ [])

declares_symbol : (sig : Signature) (w : List ℕ) (k : ℕ) (args : Arguments) (value : Written) (nature : Nature)
    → symbol_from 0 sig.symbols w ≡ function k (symbol_entry w 0 (arguments_sorts args) (Some (written_sort value)) nature) (generalize (written_sort value)) → IsSymbol sig w k (arguments_sorts args) (written_sort value)
declares_symbol sig w k args value nature e = record {
  entry = symbol_entry w 0 (arguments_sorts args) (Some (written_sort value)) nature;
  value = generalize (written_sort value);
  found = e;
  plain = refl;
  args_are = args_back args;
  result_is = back value;
}

pub is_u : IsSymbol demo_signature (117 ∷ []) 0 (t_sort ∷ t_sort ∷ []) t_sort
unfolding digits
is_u = declares_symbol demo_signature (117 ∷ []) 0 (two_arguments of_t of_t) of_t Ac refl

pub is_f : IsSymbol demo_signature (102 ∷ []) 1 (t_sort ∷ []) t_sort
unfolding digits
is_f = declares_symbol demo_signature (102 ∷ []) 1 (one_argument of_t) of_t Free refl

pub is_h : IsSymbol demo_signature (104 ∷ []) 2 (Real ∷ []) Real
unfolding digits
is_h = declares_symbol demo_signature (104 ∷ []) 2 (one_argument of_real) of_real Free refl

abbrev A : ℕ → Type 0
A i = IsSymbol demo_signature (97 ∷ decimal i) (3 + i) [] t_sort

pub is_a : (i : ℕ) → i < 16 → A i
unfolding digits
is_a zero lt = declares_symbol demo_signature (97 ∷ decimal 0) 3 no_argument of_t Free refl
is_a (suc zero) lt = declares_symbol demo_signature (97 ∷ decimal 1) 4 no_argument of_t Free refl
is_a (suc (suc zero)) lt = declares_symbol demo_signature (97 ∷ decimal 2) 5 no_argument of_t Free refl
is_a (suc (suc (suc zero))) lt = declares_symbol demo_signature (97 ∷ decimal 3) 6 no_argument of_t Free refl
is_a (suc (suc (suc (suc zero)))) lt = declares_symbol demo_signature (97 ∷ decimal 4) 7 no_argument of_t Free refl
is_a (suc (suc (suc (suc (suc zero))))) lt = declares_symbol demo_signature (97 ∷ decimal 5) 8 no_argument of_t Free refl
is_a (suc (suc (suc (suc (suc (suc zero)))))) lt = declares_symbol demo_signature (97 ∷ decimal 6) 9 no_argument of_t Free refl
is_a (suc (suc (suc (suc (suc (suc (suc zero))))))) lt = declares_symbol demo_signature (97 ∷ decimal 7) 10 no_argument of_t Free refl
is_a (suc (suc (suc (suc (suc (suc (suc (suc zero)))))))) lt = declares_symbol demo_signature (97 ∷ decimal 8) 11 no_argument of_t Free refl
is_a (suc (suc (suc (suc (suc (suc (suc (suc (suc zero))))))))) lt = declares_symbol demo_signature (97 ∷ decimal 9) 12 no_argument of_t Free refl
is_a (suc (suc (suc (suc (suc (suc (suc (suc (suc (suc zero)))))))))) lt = declares_symbol demo_signature (97 ∷ decimal 10) 13 no_argument of_t Free refl
is_a (suc (suc (suc (suc (suc (suc (suc (suc (suc (suc (suc zero))))))))))) lt = declares_symbol demo_signature (97 ∷ decimal 11) 14 no_argument of_t Free refl
is_a (suc (suc (suc (suc (suc (suc (suc (suc (suc (suc (suc (suc zero)))))))))))) lt = declares_symbol demo_signature (97 ∷ decimal 12) 15 no_argument of_t Free refl
is_a (suc (suc (suc (suc (suc (suc (suc (suc (suc (suc (suc (suc (suc zero))))))))))))) lt = declares_symbol demo_signature (97 ∷ decimal 13) 16 no_argument of_t Free refl
is_a (suc (suc (suc (suc (suc (suc (suc (suc (suc (suc (suc (suc (suc (suc zero)))))))))))))) lt = declares_symbol demo_signature (97 ∷ decimal 14) 17 no_argument of_t Free refl
is_a (suc (suc (suc (suc (suc (suc (suc (suc (suc (suc (suc (suc (suc (suc (suc zero))))))))))))))) lt = declares_symbol demo_signature (97 ∷ decimal 15) 18 no_argument of_t Free refl
is_a (suc (suc (suc (suc (suc (suc (suc (suc (suc (suc (suc (suc (suc (suc (suc (suc i)))))))))))))))) lt = absurd (omega (arith, lt))

abbrev X : ℕ → Type 0
X j = IsSymbol demo_signature (120 ∷ decimal j) (19 + j) [] Real

pub is_x : (j : ℕ) → j < 8 → X j
unfolding digits
is_x zero lt = declares_symbol demo_signature (120 ∷ decimal 0) 19 no_argument of_real Free refl
is_x (suc zero) lt = declares_symbol demo_signature (120 ∷ decimal 1) 20 no_argument of_real Free refl
is_x (suc (suc zero)) lt = declares_symbol demo_signature (120 ∷ decimal 2) 21 no_argument of_real Free refl
is_x (suc (suc (suc zero))) lt = declares_symbol demo_signature (120 ∷ decimal 3) 22 no_argument of_real Free refl
is_x (suc (suc (suc (suc zero)))) lt = declares_symbol demo_signature (120 ∷ decimal 4) 23 no_argument of_real Free refl
is_x (suc (suc (suc (suc (suc zero))))) lt = declares_symbol demo_signature (120 ∷ decimal 5) 24 no_argument of_real Free refl
is_x (suc (suc (suc (suc (suc (suc zero)))))) lt = declares_symbol demo_signature (120 ∷ decimal 6) 25 no_argument of_real Free refl
is_x (suc (suc (suc (suc (suc (suc (suc zero))))))) lt = declares_symbol demo_signature (120 ∷ decimal 7) 26 no_argument of_real Free refl
is_x (suc (suc (suc (suc (suc (suc (suc (suc j)))))))) lt = absurd (omega (arith, lt))
