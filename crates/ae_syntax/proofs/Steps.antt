-- One step of the machine.
use Rattle.std.proofs.Common.{ℕ, suc, ◌<◌, List, [], ◌∷◌, ◌++◌, ◌≡◌, length, refl, sym, ap, ◌∙◌, subst, arith}
use Rattle.ae_lex.specs.declared.kinds.Token.{Token}
use Rattle.ae_lex.specs.declared.kinds.TokenKind.{TokenKind}
use Rattle.ae_lex.specs.declared.kinds.TokenKind.TheVariants as kind
use Rattle.ae_lex.specs.declared.kinds.Reserved.TheVariants as word
use Rattle.ae_lex.specs.declared.kinds.Sign.TheVariants as sign
use Rattle.ae_syntax.specs.Grammar.{of_exprs, of_constructors}
use Rattle.ae_syntax.specs.Parts.{Part}
use Rattle.ae_syntax.specs.Inner.Machine.{Rule, be_bare, apply, Want, more_arrow, more_or, more_and, more_rel, more_sum, more_prod, more_post, more_type, more, make, call, type_body, type_end, after_sort, be_abstract, be_symbols, lone_result, Act, skip, take, opens, refuse, act, unchained, Outcome, stops, mark, after, feed, idle, ended, finish, onward, run}

-- what follows an act
unfoldable pub went : Act → List Want → Token → List Token → Outcome
unfolding feed run
went a ss t ts = onward (after a (λ u. feed ss u t) ss) (λ s v. run ts s v) (suc (length ts))

pub run_is : (t : Token) (ts : List Token) (s : Want) (ss : List Want) (v : List Part) → run (t ∷ ts) (s ∷ ss) v ≡ went (act s v t t.kind) ss t ts
unfolding run feed went
run_is t ts s ss v = refl

pub went_take : (d : ℕ) (new : List Want) (u : List Part) (ss : List Want) (t : Token) (ts : List Token) → went (take d new u) ss t ts ≡ mark d (run ts (new ++ ss) u)
unfolding went run feed
went_take d new u ss t ts = refl

pub went_opens : (d : ℕ) (new : List Want) (u : List Part) (ss : List Want) (t : Token) (ts : List Token) → went (opens d new u) ss t ts ≡ mark d (run ts (new ++ unchained ss) u)
unfolding went run feed
went_opens d new u ss t ts = refl

pub went_skip : (u : List Part) (ss : List Want) (t : Token) (ts : List Token) → went (skip u) ss t ts ≡ run (t ∷ ts) ss u
unfolding went run feed
went_skip u ss t ts = refl

pub went_refuse : (ss : List Want) (t : Token) (ts : List Token) → went refuse ss t ts ≡ stops (suc (length ts))
unfolding went run feed
went_refuse ss t ts = refl

pub run_act : (t : Token) (ts : List Token) (s : Want) (ss : List Want) (v : List Part) (k : TokenKind) (a : Act) → t.kind ≡ k → act s v t k ≡ a → run (t ∷ ts) (s ∷ ss) v ≡ went a ss t ts
run_act t ts s ss v k a h e = run_is t ts s ss v ∙ ap (λ k. went (act s v t k) ss t ts) h ∙ ap (λ a. went a ss t ts) e

pub step_take : (t : Token) (ts : List Token) (s : Want) (ss : List Want) (v : List Part) (k : TokenKind) (d : ℕ) (new : List Want) (u : List Part) → t.kind ≡ k → act s v t k ≡ take d new u → run (t ∷ ts) (s ∷ ss) v ≡ mark d (run ts (new ++ ss) u)
step_take t ts s ss v k d new u h e = run_act t ts s ss v k (take d new u) h e ∙ went_take d new u ss t ts

pub step_opens : (t : Token) (ts : List Token) (s : Want) (ss : List Want) (v : List Part) (k : TokenKind) (d : ℕ) (new : List Want) (u : List Part) → t.kind ≡ k → act s v t k ≡ opens d new u → run (t ∷ ts) (s ∷ ss) v ≡ mark d (run ts (new ++ unchained ss) u)
step_opens t ts s ss v k d new u h e = run_act t ts s ss v k (opens d new u) h e ∙ went_opens d new u ss t ts

pub step_skip : (t : Token) (ts : List Token) (s : Want) (ss : List Want) (v : List Part) (k : TokenKind) (u : List Part) → t.kind ≡ k → act s v t k ≡ skip u → run (t ∷ ts) (s ∷ ss) v ≡ run (t ∷ ts) ss u
step_skip t ts s ss v k u h e = run_act t ts s ss v k (skip u) h e ∙ went_skip u ss t ts

pub step_refuse : (t : Token) (ts : List Token) (s : Want) (ss : List Want) (v : List Part) (k : TokenKind) → t.kind ≡ k → act s v t k ≡ refuse → run (t ∷ ts) (s ∷ ss) v ≡ stops (suc (length ts))
step_refuse t ts s ss v k h e = run_act t ts s ss v k refuse h e ∙ went_refuse ss t ts

-- ---- parts that are joined without a token
pub makes : (r : Rule) (rest : List Token) (ss : List Want) (v : List Part) → run rest (make r ∷ ss) v ≡ run rest ss (apply r v)
unfolding run finish feed
makes r [] ss v = refl
makes r (t ∷ ts) ss v = refl

-- ---- how strongly the next token goes on with what stands before it
abbrev pub pull_of : TokenKind → ℕ
pull_of (kind.Sign sign.Bar) = 1
pull_of (kind.Sign sign.Comma) = 2
pull_of (kind.Sign sign.Arrow) = 3
pull_of (kind.Sign sign.Iff) = 3
pull_of (kind.Reserved word.Xor) = 3
pull_of (kind.Reserved word.Or) = 4
pull_of (kind.Reserved word.And) = 5
pull_of (kind.Sign sign.Equal) = 6
pull_of (kind.Sign sign.NotEqual) = 6
pull_of (kind.Sign sign.Less) = 6
pull_of (kind.Sign sign.AtMost) = 6
pull_of (kind.Sign sign.Greater) = 6
pull_of (kind.Sign sign.AtLeast) = 6
pull_of (kind.Sign sign.Plus) = 7
pull_of (kind.Sign sign.Minus) = 7
pull_of (kind.Sign sign.Star) = 8
pull_of (kind.Sign sign.Slash) = 8
pull_of (kind.Sign sign.Percent) = 8
pull_of (kind.Sign sign.Dot) = 9
pull_of kind.Ident = 10
pull_of (kind.Sign sign.OpenParen) = 11
pull_of _ = 0

unfoldable pub pull : List Token → ℕ
pull [] = 0
pull (t ∷ ts) = pull_of t.kind

pub pulls : (t : Token) (ts : List Token) (k : TokenKind) (n : ℕ) → t.kind ≡ k → pull_of k < n → pull (t ∷ ts) < n
unfolding pull
pulls t ts k n h l = subst (λ k. pull_of k < n) (sym h) l

-- a chain that doesn't go on
idles : (n : ℕ) (s : Want) (u : List Part → List Part) → ((v : List Part) → idle s v ≡ skip (u v)) → ((v : List Part) (t : Token) (k : TokenKind) → pull_of k < n → act s v t k ≡ skip (u v)) → (rest : List Token) (ss : List Want) (v : List Part) → pull rest < n → run rest (s ∷ ss) v ≡ run rest ss (u v)
unfolding run finish pull
idles n s u e a [] ss v l = ap (λ z. ended z (λ w. finish ss w)) (e v)
idles n s u e a (t ∷ ts) ss v l = step_skip t ts s ss v t.kind (u v) refl (a v t t.kind l)

calm_arrow : (d : ℕ) (v : List Part) (t : Token) (k : TokenKind) → pull_of k < 3 → act (more_arrow d) v t k ≡ skip v
calm_arrow d v t (kind.Sign sign.Arrow) l = absurd (omega arith)
calm_arrow d v t (kind.Sign sign.Iff) l = absurd (omega arith)
calm_arrow d v t (kind.Reserved word.Xor) l = absurd (omega arith)
calm_arrow d v t k l = refl

pub no_arrow : (d : ℕ) (rest : List Token) (ss : List Want) (v : List Part) → pull rest < 3 → run rest (more_arrow d ∷ ss) v ≡ run rest ss v
no_arrow d = idles 3 (more_arrow d) (λ v. v) (λ v. refl) (calm_arrow d)

calm_or : (d : ℕ) (v : List Part) (t : Token) (k : TokenKind) → pull_of k < 4 → act (more_or d) v t k ≡ skip v
calm_or d v t (kind.Reserved word.Or) l = absurd (omega arith)
calm_or d v t k l = refl

pub no_or : (d : ℕ) (rest : List Token) (ss : List Want) (v : List Part) → pull rest < 4 → run rest (more_or d ∷ ss) v ≡ run rest ss v
no_or d = idles 4 (more_or d) (λ v. v) (λ v. refl) (calm_or d)

calm_and : (d : ℕ) (v : List Part) (t : Token) (k : TokenKind) → pull_of k < 5 → act (more_and d) v t k ≡ skip v
calm_and d v t (kind.Reserved word.And) l = absurd (omega arith)
calm_and d v t k l = refl

pub no_and : (d : ℕ) (rest : List Token) (ss : List Want) (v : List Part) → pull rest < 5 → run rest (more_and d ∷ ss) v ≡ run rest ss v
no_and d = idles 5 (more_and d) (λ v. v) (λ v. refl) (calm_and d)

calm_rel : (d : ℕ) (v : List Part) (t : Token) (k : TokenKind) → pull_of k < 6 → act (more_rel d) v t k ≡ skip v
calm_rel d v t (kind.Sign sign.Equal) l = absurd (omega arith)
calm_rel d v t (kind.Sign sign.NotEqual) l = absurd (omega arith)
calm_rel d v t (kind.Sign sign.Less) l = absurd (omega arith)
calm_rel d v t (kind.Sign sign.AtMost) l = absurd (omega arith)
calm_rel d v t (kind.Sign sign.Greater) l = absurd (omega arith)
calm_rel d v t (kind.Sign sign.AtLeast) l = absurd (omega arith)
calm_rel d v t k l = refl

pub no_rel : (d : ℕ) (rest : List Token) (ss : List Want) (v : List Part) → pull rest < 6 → run rest (more_rel d ∷ ss) v ≡ run rest ss v
no_rel d = idles 6 (more_rel d) (λ v. v) (λ v. refl) (calm_rel d)

calm_sum : (d : ℕ) (v : List Part) (t : Token) (k : TokenKind) → pull_of k < 7 → act (more_sum d) v t k ≡ skip v
calm_sum d v t (kind.Sign sign.Plus) l = absurd (omega arith)
calm_sum d v t (kind.Sign sign.Minus) l = absurd (omega arith)
calm_sum d v t k l = refl

pub no_sum : (d : ℕ) (rest : List Token) (ss : List Want) (v : List Part) → pull rest < 7 → run rest (more_sum d ∷ ss) v ≡ run rest ss v
no_sum d = idles 7 (more_sum d) (λ v. v) (λ v. refl) (calm_sum d)

calm_prod : (d : ℕ) (v : List Part) (t : Token) (k : TokenKind) → pull_of k < 8 → act (more_prod d) v t k ≡ skip v
calm_prod d v t (kind.Sign sign.Star) l = absurd (omega arith)
calm_prod d v t (kind.Sign sign.Slash) l = absurd (omega arith)
calm_prod d v t (kind.Sign sign.Percent) l = absurd (omega arith)
calm_prod d v t k l = refl

pub no_prod : (d : ℕ) (rest : List Token) (ss : List Want) (v : List Part) → pull rest < 8 → run rest (more_prod d ∷ ss) v ≡ run rest ss v
no_prod d = idles 8 (more_prod d) (λ v. v) (λ v. refl) (calm_prod d)

calm_post : (d : ℕ) (v : List Part) (t : Token) (k : TokenKind) → pull_of k < 9 → act (more_post d) v t k ≡ skip v
calm_post d v t (kind.Sign sign.Dot) l = absurd (omega arith)
calm_post d v t k l = refl

pub no_post : (d : ℕ) (rest : List Token) (ss : List Want) (v : List Part) → pull rest < 9 → run rest (more_post d ∷ ss) v ≡ run rest ss v
no_post d = idles 9 (more_post d) (λ v. v) (λ v. refl) (calm_post d)

calm_type : (d : ℕ) (v : List Part) (t : Token) (k : TokenKind) → pull_of k < 10 → act (more_type d) v t k ≡ skip v
calm_type d v t kind.Ident l = absurd (omega arith)
calm_type d v t k l = refl

pub no_type : (d : ℕ) (rest : List Token) (ss : List Want) (v : List Part) → pull rest < 10 → run rest (more_type d ∷ ss) v ≡ run rest ss v
no_type d = idles 10 (more_type d) (λ v. v) (λ v. refl) (calm_type d)

calm_call : (d : ℕ) (v : List Part) (t : Token) (k : TokenKind) → pull_of k < 11 → act (call d) v t k ≡ skip (apply be_bare v)
calm_call d v t (kind.Sign sign.OpenParen) l = absurd (omega arith)
calm_call d v t k l = refl

pub no_call : (d : ℕ) (rest : List Token) (ss : List Want) (v : List Part) → pull rest < 11 → run rest (call d ∷ ss) v ≡ run rest ss (apply be_bare v)
no_call d = idles 11 (call d) (λ v. apply be_bare v) (λ v. refl) (calm_call d)

calm_exprs : (d : ℕ) (v : List Part) (t : Token) (k : TokenKind) → pull_of k < 2 → act (more of_exprs d) v t k ≡ skip v
calm_exprs d v t (kind.Sign sign.Comma) l = absurd (omega arith)
calm_exprs d v t k l = refl

pub no_more_exprs : (d : ℕ) (rest : List Token) (ss : List Want) (v : List Part) → pull rest < 2 → run rest (more of_exprs d ∷ ss) v ≡ run rest ss v
no_more_exprs d = idles 2 (more of_exprs d) (λ v. v) (λ v. refl) (calm_exprs d)

calm_constructors : (d : ℕ) (v : List Part) (t : Token) (k : TokenKind) → pull_of k < 1 → act (more of_constructors d) v t k ≡ skip v
calm_constructors d v t (kind.Sign sign.Bar) l = absurd (omega arith)
calm_constructors d v t k l = refl

pub no_more_constructors : (d : ℕ) (rest : List Token) (ss : List Want) (v : List Part) → pull rest < 1 → run rest (more of_constructors d ∷ ss) v ≡ run rest ss v
no_more_constructors d = idles 1 (more of_constructors d) (λ v. v) (λ v. refl) (calm_constructors d)

calm_body : (v : List Part) (t : Token) (k : TokenKind) → pull_of k < 6 → act type_body v t k ≡ skip (apply be_abstract v)
calm_body v t (kind.Sign sign.Equal) l = absurd (omega arith)
calm_body v t k l = refl

pub no_body : (rest : List Token) (ss : List Want) (v : List Part) → pull rest < 6 → run rest (type_body ∷ ss) v ≡ run rest ss (apply be_abstract v)
no_body = idles 6 type_body (λ v. apply be_abstract v) (λ v. refl) calm_body

calm_end : (v : List Part) (t : Token) (k : TokenKind) → pull_of k < 6 → act type_end v t k ≡ skip (apply be_abstract v)
calm_end v t (kind.Sign sign.Equal) l = absurd (omega arith)
calm_end v t k l = refl

pub no_end : (rest : List Token) (ss : List Want) (v : List Part) → pull rest < 6 → run rest (type_end ∷ ss) v ≡ run rest ss (apply be_abstract v)
no_end = idles 6 type_end (λ v. apply be_abstract v) (λ v. refl) calm_end

calm_after : (v : List Part) (t : Token) (k : TokenKind) → pull_of k < 2 → act after_sort v t k ≡ skip (apply be_symbols (apply lone_result v))
calm_after v t (kind.Sign sign.Comma) l = absurd (omega arith)
calm_after v t (kind.Sign sign.Arrow) l = absurd (omega arith)
calm_after v t k l = refl

pub no_after : (rest : List Token) (ss : List Want) (v : List Part) → pull rest < 2 → run rest (after_sort ∷ ss) v ≡ run rest ss (apply be_symbols (apply lone_result v))
no_after = idles 2 after_sort (λ v. apply be_symbols (apply lone_result v)) (λ v. refl) calm_after
