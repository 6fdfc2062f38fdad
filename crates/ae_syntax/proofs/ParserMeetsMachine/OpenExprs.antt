-- What the functions that read forms, atoms and lists answer, put together.
use Rattle.std.proofs.Common.{ℕ, suc, ◌+◌, ◌≤◌, ◌<◌, true, cond, List, [], ◌∷◌, ◌++◌, ◌≡◌, Some, Err, length, drop, refl, sym, ap, subst, arith}
use Rattle.std.proofs.lemmas.Bool.{false≢true}
use Rattle.ae_lex.specs.declared.kinds.Token.{Token}
use Rattle.ae_lex.specs.declared.kinds.TokenKind.{TokenKind}
use Rattle.ae_lex.specs.declared.kinds.TokenKind.TheVariants as kind
use Rattle.ae_lex.specs.declared.kinds.Reserved.TheVariants as word
use Rattle.ae_lex.specs.declared.kinds.Sign.TheVariants as sign
use Rattle.ae_syntax.specs.declared.exprs.Quantifier.{Quantifier}
use Rattle.ae_syntax.specs.declared.exprs.Expr.{Expr}
use Rattle.ae_syntax.specs.declared.faults.Refusal.{Refusal}
use Rattle.ae_syntax.specs.declared.faults.Refusal.TheVariants.{Deep}
use Rattle.ae_syntax.specs.Kinds.{quantifies}
use Rattle.ae_syntax.specs.Inner.SameKinds.{same}
use Rattle.ae_syntax.specs.Parts.{Part, token, tree, negation, negative, alone, and_then}
use Rattle.ae_syntax.specs.Grammar.{Items, separator}
use Rattle.ae_syntax.specs.Inner.Machine.{Want, Rule, an_expr, an_not, a_unary, an_atom, more, make, negate, oppose, begin, add, call, bracket_end, brace, apply, skip, take, opens, act, on_atom, on_not, items_wants, element_wants, let_wants, if_wants, block_wants, the_sign}
use Rattle.ae_syntax.specs.Inner.Reading.{Done, Answered, IsAt, Stands, Lacks, grip, distinct_wants}
use Rattle.ae_syntax.proofs.ParserMeetsMachine.Steps.{Reaches, start, then_takes, then_makes, then_skips, then_reads, done, fails_on, sinking}
use Rattle.ae_syntax.specs.declared.cursor.TheConstants.{DEPTH_LIMIT}
use Rattle.std.proofs.lemmas.Option.{none-some}

-- ---- a token that begins something
pub record Begins (s : Want) (n : ℕ) (new : List Want) (T : List Token) (at : ℕ) (t : Token) : Type 0 where
  pub here : IsAt T at t
  pub acts : (v : List Part) → act s v t t.kind ≡ take n new (token t ∷ v)

pub begin_deep : {A : Type 0} (part : A → Part) (s : Want) (n : ℕ) (new : List Want) (T : List Token) (at bound : ℕ) (t : Token) (e : Refusal) → Begins s n new T at t → DEPTH_LIMIT < n → e ≡ Deep at → Answered part (s ∷ []) [] T bound at (Err e)
begin_deep part s n new T at bound t e b l h = let i = b.here in sinking part bound n new (λ v. token t ∷ v) t e (start T (s ∷ []) [] at (let w = i.within in omega (arith, w))) i l (λ v. b.acts v) h

pub begin_1 : (s : Want) (n : ℕ) (new : List Want) (T : List Token) (at : ℕ) (t : Token) → Begins s n new T at t → n ≤ DEPTH_LIMIT → Reaches T (s ∷ []) [] at (new ++ []) (token t ∷ []) (at + 1)
begin_1 s n new T at t b l = let i = b.here in then_takes n new (token t ∷ []) t (start T (s ∷ []) [] at (let w = i.within in omega (arith, w))) i l (λ v. b.acts v)

act_not : (d : ℕ) (v : List Part) (t : Token) (k : TokenKind) → same k (kind.Reserved word.Not) ≡ true → on_not d v t k ≡ take (suc d) (an_not (suc d) ∷ make negate ∷ []) (token t ∷ v)
act_not d v t (kind.Reserved word.Not) h = refl
act_not d v t (kind.Reserved word.Xor) h = absurd (false≢true h)
act_not d v t k h = absurd (false≢true h)

pub begins_not : (T : List Token) (at d n : ℕ) (t : Token) → IsAt T at t → same t.kind (kind.Reserved word.Not) ≡ true → n ≡ suc d → Begins (an_not d) n (an_not n ∷ make negate ∷ []) T at t
begins_not T at d n t i h e = subst (λ n. Begins (an_not d) n (an_not n ∷ make negate ∷ []) T at t) (sym e) (record { here = i; acts = λ v. act_not d v t t.kind h })

act_minus : (d : ℕ) (v : List Part) (t : Token) (k : TokenKind) → same k (kind.Sign sign.Minus) ≡ true → act (a_unary d) v t k ≡ take (suc d) (a_unary (suc d) ∷ make oppose ∷ []) (token t ∷ v)
act_minus d v t (kind.Sign sign.Minus) h = refl
act_minus d v t (kind.Sign sign.Arrow) h = absurd (false≢true h)
act_minus d v t k h = absurd (false≢true h)

pub begins_minus : (T : List Token) (at d n : ℕ) (t : Token) → IsAt T at t → same t.kind (kind.Sign sign.Minus) ≡ true → n ≡ suc d → Begins (a_unary d) n (a_unary n ∷ make oppose ∷ []) T at t
begins_minus T at d n t i h e = subst (λ n. Begins (a_unary d) n (a_unary n ∷ make oppose ∷ []) T at t) (sym e) (record { here = i; acts = λ v. act_minus d v t t.kind h })

act_name : (d : ℕ) (v : List Part) (t : Token) (k : TokenKind) → same k kind.Ident ≡ true → on_atom d v t k ≡ take d (call d ∷ []) (token t ∷ v)
act_name d v t kind.Ident h = refl
act_name d v t k h = absurd (false≢true h)

pub begins_name : (T : List Token) (at d : ℕ) (t : Token) → IsAt T at t → same t.kind kind.Ident ≡ true → Begins (an_atom d) d (call d ∷ []) T at t
begins_name T at d t i h = record { here = i; acts = λ v. act_name d v t t.kind h }

act_paren : (d : ℕ) (v : List Part) (t : Token) (k : TokenKind) → same k (kind.Sign sign.OpenParen) ≡ true → on_atom d v t k ≡ take (suc d) (an_expr (suc d) ∷ bracket_end d ∷ []) (token t ∷ v)
act_paren d v t (kind.Sign sign.OpenParen) h = refl
act_paren d v t (kind.Sign sign.Arrow) h = absurd (false≢true h)
act_paren d v t k h = absurd (false≢true h)

pub begins_paren : (T : List Token) (at d n : ℕ) (t : Token) → IsAt T at t → same t.kind (kind.Sign sign.OpenParen) ≡ true → n ≡ suc d → Begins (an_atom d) n (an_expr n ∷ bracket_end d ∷ []) T at t
begins_paren T at d n t i h e = subst (λ n. Begins (an_atom d) n (an_expr n ∷ bracket_end d ∷ []) T at t) (sym e) (record { here = i; acts = λ v. act_paren d v t t.kind h })

act_brace : (d : ℕ) (v : List Part) (t : Token) (k : TokenKind) → same k (kind.Sign sign.OpenBrace) ≡ true → on_atom d v t k ≡ take (suc d) (brace d ∷ []) (token t ∷ v)
act_brace d v t (kind.Sign sign.OpenBrace) h = refl
act_brace d v t (kind.Sign sign.Arrow) h = absurd (false≢true h)
act_brace d v t k h = absurd (false≢true h)

pub begins_brace : (T : List Token) (at d n : ℕ) (t : Token) → IsAt T at t → same t.kind (kind.Sign sign.OpenBrace) ≡ true → n ≡ suc d → Begins (an_atom d) n (brace d ∷ []) T at t
begins_brace T at d n t i h e = subst (λ n. Begins (an_atom d) n (brace d ∷ []) T at t) (sym e) (record { here = i; acts = λ v. act_brace d v t t.kind h })

act_distinct : (d : ℕ) (v : List Part) (t : Token) (k : TokenKind) → same k (kind.Reserved word.Distinct) ≡ true → on_atom d v t k ≡ take d (distinct_wants d) (token t ∷ v)
act_distinct d v t (kind.Reserved word.Distinct) h = refl
act_distinct d v t (kind.Reserved word.Xor) h = absurd (false≢true h)
act_distinct d v t k h = absurd (false≢true h)

pub begins_distinct : (T : List Token) (at d : ℕ) (t : Token) → IsAt T at t → same t.kind (kind.Reserved word.Distinct) ≡ true → Begins (an_atom d) d (distinct_wants d) T at t
begins_distinct T at d t i h = record { here = i; acts = λ v. act_distinct d v t t.kind h }

-- ---- `not` and `-`
pub not_done : (T : List Token) (at d n to bound : ℕ) (t : Token) (a whole : Expr) → Begins (an_not d) n (an_not n ∷ make negate ∷ []) T at t → n ≤ DEPTH_LIMIT → Done (an_not n ∷ []) [] T bound (at + 1) to (tree a) → whole ≡ negation t a → Done (an_not d ∷ []) [] T bound at to (tree whole)
not_done T at d n to bound t a whole b l g e = subst (λ w. Done (an_not d ∷ []) [] T bound at to (tree w)) (sym e) (done (then_makes (tree (negation t a) ∷ []) (then_reads (an_not n ∷ []) (make negate ∷ []) [] (token t ∷ []) (begin_1 (an_not d) n (an_not n ∷ make negate ∷ []) T at t b l) g) (λ v. refl)) g.weak)

pub not_fails : (T : List Token) (at d n bound bound' : ℕ) (t : Token) (e : Refusal) → Begins (an_not d) n (an_not n ∷ make negate ∷ []) T at t → n ≤ DEPTH_LIMIT → Answered (λ p. tree p) (an_not n ∷ []) [] T bound' (at + 1) (Err e) → Answered (λ p. tree p) (an_not d ∷ []) [] T bound at (Err e)
not_fails T at d n bound bound' t e b l g = fails_on (λ p. tree p) (λ p. tree p) bound bound' (an_not n ∷ []) (make negate ∷ []) [] (token t ∷ []) e (begin_1 (an_not d) n (an_not n ∷ make negate ∷ []) T at t b l) g

pub minus_done : (T : List Token) (at d n to bound : ℕ) (t : Token) (a whole : Expr) → Begins (a_unary d) n (a_unary n ∷ make oppose ∷ []) T at t → n ≤ DEPTH_LIMIT → Done (a_unary n ∷ []) [] T bound (at + 1) to (tree a) → whole ≡ negative t a → Done (a_unary d ∷ []) [] T bound at to (tree whole)
minus_done T at d n to bound t a whole b l g e = subst (λ w. Done (a_unary d ∷ []) [] T bound at to (tree w)) (sym e) (done (then_makes (tree (negative t a) ∷ []) (then_reads (a_unary n ∷ []) (make oppose ∷ []) [] (token t ∷ []) (begin_1 (a_unary d) n (a_unary n ∷ make oppose ∷ []) T at t b l) g) (λ v. refl)) g.weak)

pub minus_fails : (T : List Token) (at d n bound bound' : ℕ) (t : Token) (e : Refusal) → Begins (a_unary d) n (a_unary n ∷ make oppose ∷ []) T at t → n ≤ DEPTH_LIMIT → Answered (λ p. tree p) (a_unary n ∷ []) [] T bound' (at + 1) (Err e) → Answered (λ p. tree p) (a_unary d ∷ []) [] T bound at (Err e)
minus_fails T at d n bound bound' t e b l g = fails_on (λ p. tree p) (λ p. tree p) bound bound' (a_unary n ∷ []) (make oppose ∷ []) [] (token t ∷ []) e (begin_1 (a_unary d) n (a_unary n ∷ make oppose ∷ []) T at t b l) g

-- ---- open forms: what their words do
act_let : (d : ℕ) (v : List Part) (t : Token) (k : TokenKind) → same k (kind.Reserved word.Let) ≡ true → on_not d v t k ≡ opens (suc d) (let_wants (suc d)) (token t ∷ v)
act_let d v t (kind.Reserved word.Let) h = refl
act_let d v t (kind.Reserved word.Xor) h = absurd (false≢true h)
act_let d v t k h = absurd (false≢true h)

act_if : (d : ℕ) (v : List Part) (t : Token) (k : TokenKind) → same k (kind.Reserved word.If) ≡ true → on_not d v t k ≡ opens (suc d) (if_wants (suc d)) (token t ∷ v)
act_if d v t (kind.Reserved word.If) h = refl
act_if d v t (kind.Reserved word.Xor) h = absurd (false≢true h)
act_if d v t k h = absurd (false≢true h)

act_quantifies : (d : ℕ) (v : List Part) (t : Token) (k : TokenKind) (q : Quantifier) → quantifies k ≡ Some q → on_not d v t k ≡ opens (suc d) (block_wants (suc d)) (token t ∷ v)
act_quantifies d v t (kind.Reserved word.Forall) q h = refl
act_quantifies d v t (kind.Reserved word.Exists) q h = refl
act_quantifies d v t k q h = absurd (none-some q h)

pub opens_let : (d n : ℕ) (t : Token) → same t.kind (kind.Reserved word.Let) ≡ true → n ≡ suc d → (v : List Part) → act (an_not d) v t t.kind ≡ opens n (let_wants n) (token t ∷ v)
opens_let d n t h e v = subst (λ n. act (an_not d) v t t.kind ≡ opens n (let_wants n) (token t ∷ v)) (sym e) (act_let d v t t.kind h)

pub opens_if : (d n : ℕ) (t : Token) → same t.kind (kind.Reserved word.If) ≡ true → n ≡ suc d → (v : List Part) → act (an_not d) v t t.kind ≡ opens n (if_wants n) (token t ∷ v)
opens_if d n t h e v = subst (λ n. act (an_not d) v t t.kind ≡ opens n (if_wants n) (token t ∷ v)) (sym e) (act_if d v t t.kind h)

pub opens_block : (d n : ℕ) (t : Token) (q : Quantifier) → quantifies t.kind ≡ Some q → n ≡ suc d → (v : List Part) → act (an_not d) v t t.kind ≡ opens n (block_wants n) (token t ∷ v)
opens_block d n t q h e v = subst (λ n. act (an_not d) v t t.kind ≡ opens n (block_wants n) (token t ∷ v)) (sym e) (act_quantifies d v t t.kind q h)

-- ---- items: one or more of a kind, parted by a sign
pub items_first : (r : Items) (T : List Token) (at d to bound : ℕ) (p q : Part) → at ≤ length T → Done (element_wants r d) [] T bound at to p → q ≡ alone p → Reaches T (items_wants r d) [] at (more r d ∷ []) (q ∷ []) to
items_first r T at d to bound p q w g e = subst (λ q. Reaches T (items_wants r d) [] at (more r d ∷ []) (q ∷ []) to) (sym e) (then_makes (alone p ∷ []) (then_reads (element_wants r d) (make begin ∷ more r d ∷ []) [] [] (start T (items_wants r d) [] at w) g) (λ v. refl))

pub items_first_fails : {A B : Type 0} (part : A → Part) (inner : B → Part) (r : Items) (T : List Token) (at d bound bound' : ℕ) (e : Refusal) → at ≤ length T → Answered inner (element_wants r d) [] T bound' at (Err e) → Answered part (items_wants r d) [] T bound at (Err e)
items_first_fails part inner r T at d bound bound' e w g = fails_on part inner bound bound' (element_wants r d) (make begin ∷ more r d ∷ []) [] [] e (start T (items_wants r d) [] at w) g

go_more : (r : Items) (d : ℕ) (v : List Part) (t : Token) (k : TokenKind) → same k (the_sign (separator r)) ≡ true → act (more r d) v t k ≡ take d (element_wants r d ++ make add ∷ more r d ∷ []) v
go_more r d v t k h = ap (λ b. cond b (take d (element_wants r d ++ make add ∷ more r d ∷ []) v) (skip v)) h

items_next : (r : Items) (T : List Token) (from at d : ℕ) (q : Part) → Reaches T (items_wants r d) [] from (more r d ∷ []) (q ∷ []) at → Stands (the_sign (separator r)) T at → d ≤ DEPTH_LIMIT → Reaches T (items_wants r d) [] from ((element_wants r d ++ make add ∷ more r d ∷ []) ++ []) (q ∷ []) (at + 1)
items_next r T from at d q p s l = then_takes d (element_wants r d ++ make add ∷ more r d ∷ []) (q ∷ []) s.token p (record { next = s.next; within = s.within; room = s.room }) l (λ v. go_more r d (q ∷ v) s.token (let t = s.token in t.kind) s.is)

append_none : (xs : List Want) → xs ++ [] ≡ xs
append_none [] = refl
append_none (x ∷ xs) = ap (λ z. x ∷ z) (append_none xs)

items_next_0 : (r : Items) (T : List Token) (from at d : ℕ) (q : Part) → Reaches T (items_wants r d) [] from (more r d ∷ []) (q ∷ []) at → Stands (the_sign (separator r)) T at → d ≤ DEPTH_LIMIT → Reaches T (items_wants r d) [] from (element_wants r d ++ make add ∷ more r d ∷ []) (q ∷ []) (at + 1)
items_next_0 r T from at d q p s l = subst (λ w. Reaches T (items_wants r d) [] from w (q ∷ []) (at + 1)) (append_none (element_wants r d ++ make add ∷ more r d ∷ [])) (items_next r T from at d q p s l)

pub items_more : (r : Items) (T : List Token) (from at d to bound : ℕ) (q p q' : Part) → Reaches T (items_wants r d) [] from (more r d ∷ []) (q ∷ []) at → Stands (the_sign (separator r)) T at → d ≤ DEPTH_LIMIT → Done (element_wants r d) [] T bound (at + 1) to p → q' ≡ and_then q p → Reaches T (items_wants r d) [] from (more r d ∷ []) (q' ∷ []) to
items_more r T from at d to bound q p q' h s l g e = subst (λ z. Reaches T (items_wants r d) [] from (more r d ∷ []) (z ∷ []) to) (sym e) (then_makes (and_then q p ∷ []) (then_reads (element_wants r d) (make add ∷ more r d ∷ []) [] (q ∷ []) (items_next_0 r T from at d q h s l) g) (λ v. refl))

pub items_more_fails : {A B : Type 0} (part : A → Part) (inner : B → Part) (r : Items) (T : List Token) (from at d bound bound' : ℕ) (q : Part) (e : Refusal) → Reaches T (items_wants r d) [] from (more r d ∷ []) (q ∷ []) at → Stands (the_sign (separator r)) T at → d ≤ DEPTH_LIMIT → Answered inner (element_wants r d) [] T bound' (at + 1) (Err e) → Answered part (items_wants r d) [] T bound from (Err e)
items_more_fails part inner r T from at d bound bound' q e h s l g = fails_on part inner bound bound' (element_wants r d) (make add ∷ more r d ∷ []) [] (q ∷ []) e (items_next_0 r T from at d q h s l) g

pub items_ends : (r : Items) (T : List Token) (from at d bound : ℕ) (q : Part) → Reaches T (items_wants r d) [] from (more r d ∷ []) (q ∷ []) at → Lacks (the_sign (separator r)) T at → grip (drop at T) < bound → Done (items_wants r d) [] T bound from at q
items_ends r T from at d bound q h n g = done (then_skips (q ∷ []) h (λ v. record { here = λ t ts e. ap (λ b. cond b (take d (element_wants r d ++ make add ∷ more r d ∷ []) (q ∷ v)) (skip (q ∷ v))) (n.none t ts e); end = refl })) g

-- ---- the parts of a whole, at its end
pub made : {T : List Token} {W : List Want} {G : List Part} {at : ℕ} {rule : Rule} {G' : List Part} {to : ℕ} (bound : ℕ) (e whole : Expr) → Reaches T W G at (make rule ∷ []) G' to → ((v : List Part) → apply rule (G' ++ v) ≡ tree e ∷ v) → whole ≡ e → grip (drop to T) < bound → Done W G T bound at to (tree whole)
made {T} {W} {G} {at} {rule} {G'} {to} bound e whole r a h g = subst (λ z. Done W G T bound at to (tree z)) (sym h) (done (then_makes (tree e ∷ []) r a) g)
