-- The places of faults are in the text.
use Rattle.std.proofs.Common.{ℕ, ◌+◌, ◌≤◌, Bool, List, [], ◌∷◌, ◌++◌, ◌≡◌, Option, Some, None, length, length-append, refl, ap, ◌∙◌, subst, arith}
use Rattle.ae_lex.specs.declared.kinds.Token.{Token}
use Rattle.ae_lex.specs.declared.kinds.LexFault.{LexFault}
use Rattle.ae_lex.specs.declared.kinds.LexFault.TheVariants as lex_fault
use Rattle.ae_lex.specs.Lexis.{IsCut, ends, fails, passes, gives, IsTokenized, IsFault, IsFaultAt}
use Rattle.ae_lex.specs.Lexis as lexis
use Rattle.std.specs.Prelude.{IfSome}
use Rattle.ae_syntax.specs.declared.faults.SyntaxFault.{SyntaxFault}
use Rattle.ae_syntax.specs.declared.faults.SyntaxFault.TheVariants as fault
use Rattle.ae_syntax.specs.Files.{IsSyntaxFault, StopsAt, place, fault_place}
use Rattle.std.proofs.lemmas.Option.{none-some}

-- no token begins after a place
abbrev Begin : ℕ → List Token → Type 0
Begin n [] = Unit {0}
Begin n (t ∷ ts) = (t.from ≤ n) × Begin n ts

further : (at : ℕ) (x w rest : List ℕ) → x ≡ w ++ rest → at + length w + length rest ≡ at + length x
further at x w rest e = let q : length x ≡ length w + length rest = ap length e ∙ length-append w rest in omega (arith, q)

cut_begin : (at : ℕ) (x : List ℕ) (ts : List Token) (o : Option LexFault) → IsCut at x ts o → Begin (at + length x) ts
cut_begin at x ts o (ends a) = tt
cut_begin at x ts o (fails a y f h) = tt
cut_begin at x ts o (passes a y w rest us f e g c) = subst (λ n. Begin n us) (further a y w rest e) (cut_begin (a + length w) rest us f c)
cut_begin at x ts o (gives a y w rest k us f e b c) = (omega arith, subst (λ n. Begin n us) (further a y w rest e) (cut_begin (a + length w) rest us f c))

begins_at : (n : ℕ) (before after : List Token) (t : Token) → Begin n (before ++ t ∷ after) → t.from ≤ n
begins_at n [] after t b = b.0
begins_at n (u ∷ before) after t b = begins_at n before after t b.1

place_within : (text : List ℕ) (before after : List Token) → Begin (length text) (before ++ after) → place text after ≤ length text
place_within text before [] b = omega arith
place_within text before (t ∷ after) b = begins_at (length text) before after t b

tokens_begin : (text : List ℕ) (ts : List Token) → IsTokenized text ts → Begin (length text) ts
tokens_begin text ts c = subst (λ n. Begin n ts) (omega arith) (cut_begin 0 text ts None c)

stops_within : (text : List ℕ) (ts : List Token) (b : Bool) (at : ℕ) → IsTokenized text ts → StopsAt text ts b at → at ≤ length text
stops_within text ts b at c s = let l = place_within text s.before s.after (subst (λ z. Begin (length text) z) s.cut (tokens_begin text ts c)) in let e = s.at_is in omega (arith, l, e)

-- the place of a fault of syntax is in the text
pub fault_within : (text : List ℕ) (ts : List Token) (e : SyntaxFault) → IsTokenized text ts → IsSyntaxFault text ts e → IfSome (fault_place e) (λ at. at ≤ length text)
fault_within text ts (fault.Unexpected at) c s = stops_within text ts _ at c s
fault_within text ts (fault.OutsideProfile at) c s = stops_within text ts _ at c s
fault_within text ts (fault.TooDeep at) c s = let l = begins_at (length text) s.before s.after s.token (subst (λ z. Begin (length text) z) s.cut (tokens_begin text ts c)) in let e = s.at_is in omega (arith, l, e)
fault_within text ts fault.Memory c s = absurd s

fault_at : (f : LexFault) (at : ℕ) (x : List ℕ) → IsFaultAt f at x → IfSome (lexis.fault_place f) (λ p. p ≤ at + length x)
fault_at (lex_fault.BadByte p) at x h = let e = h.0 in omega (arith, e)
fault_at (lex_fault.OpenComment p) at x h = let e = h.0 in omega (arith, e)
fault_at (lex_fault.WideLiteral p) at x h = let e = h.0 in omega (arith, e)
fault_at (lex_fault.OutsideProfile p) at x h = let e = h.0 in omega (arith, e)
fault_at lex_fault.Memory at x h = absurd h

cut_within : (at : ℕ) (x : List ℕ) (ts : List Token) (o : Option LexFault) (f : LexFault) → IsCut at x ts o → o ≡ Some f → IfSome (lexis.fault_place f) (λ p. p ≤ at + length x)
cut_within at x ts o f (ends a) q = absurd (none-some f q)
cut_within at x ts o f (fails a y g h) q = let e : g ≡ f = cc in subst (λ z. IfSome (lexis.fault_place z) (λ p. p ≤ a + length y)) e (fault_at g a y h)
cut_within at x ts o f (passes a y w rest us g e p c) q = subst (λ n. IfSome (lexis.fault_place f) (λ p. p ≤ n)) (further a y w rest e) (cut_within (a + length w) rest us g f c q)
cut_within at x ts o f (gives a y w rest k us g e b c) q = subst (λ n. IfSome (lexis.fault_place f) (λ p. p ≤ n)) (further a y w rest e) (cut_within (a + length w) rest us g f c q)

-- and so is the place of a fault of lexis
pub lex_fault_within : (text : List ℕ) (f : LexFault) → IsFault text f → IfSome (lexis.fault_place f) (λ at. at ≤ length text)
lex_fault_within text f h = let whole : 0 + length text ≡ length text = omega arith in subst (λ n. IfSome (lexis.fault_place f) (λ p. p ≤ n)) whole (cut_within 0 text h.0 (Some f) f h.1 refl)
