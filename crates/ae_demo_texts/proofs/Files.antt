-- Declarations one after another: their tokens are a file, and what it states.
use Rattle.std.proofs.Common.{ℕ, ◌+◌, ◌≤◌, true, List, [], ◌∷◌, ◌++◌, ◌≡◌, sym, subst, arith, append_assoc}
use Rattle.std.specs.List.{AllByRecursion}
use Rattle.ae_base.specs.Relations.{Pairwise}
use Rattle.ae_base.proofs.AllOf.{all_append, all_weaker}
use Rattle.ae_core.specs.declared.problems.Signature.{Signature}
use Rattle.ae_lex.specs.declared.kinds.Token.{Token}
use Rattle.ae_syntax.specs.declared.decls.Decl.{Decl}
use Rattle.ae_syntax.specs.Depth.{depths}
use Rattle.ae_syntax.specs.Grammar.{Is, file, file_none, file_decl}
use Rattle.ae_syntax.specs.Parts.{decls}
use Rattle.ae_elab.specs.Declarations.{Declared, Draft, decl_rule, decls_rule, no_declarations}
use Rattle.ae_elab.specs.Rules.{Passed, give, ◌>>◌}
use Rattle.ae_elab.specs.Steps.{IsTaken}
use Rattle.ae_demo_texts.proofs.Parses.{ReadsDecl, Gives, afresh, chain_claim}
use Rattle.ae_demo_texts.proofs.Phrases.{Goal}
use Rattle.ae_demo_texts.proofs.Taken.{give_taken, then_taken}

-- a draft is that of a goal
pub record IsDraft (d : Draft) (g : Goal) : Type 0 where
  pub goal : d.is_goal ≡ true
  pub claim : d.claim ≡ chain_claim g.given g.then

pairwise_append : {A B : Type 0} (R : A → B → Type 0) (xs ys : List A) (us vs : List B) → Pairwise R xs us → Pairwise R ys vs → Pairwise R (xs ++ ys) (us ++ vs)
pairwise_append R [] ys [] vs a b = b
pairwise_append R (x ∷ xs) ys (u ∷ us) vs a b = (a.0, pairwise_append R xs ys us vs a.1 b)
pairwise_append R [] ys (u ∷ us) vs a b = absurd a
pairwise_append R (x ∷ xs) ys [] vs a b = absurd a

abbrev pub stating : Signature → List Draft → Declared
stating sig fs = record { signature = sig; drafts = fs }

module _ (text : List ℕ) where
  abbrev pub start : Passed
  start = record { next = 0; written = [] }

  pub record ReadsFile (ts : List Token) (sig : Signature) (gs : List Goal) : Type 0 where
    pub declarations : List Decl
    pub is : Is file ts (decls declarations)
    pub shallow : AllByRecursion (λ n. n ≤ 1000) (depths is 0)
    pub drafts : List Draft
    pub are : Pairwise IsDraft drafts gs
    pub passed : Passed
    pub goes : (more : List Decl) (q : Passed) (new : Signature) (fs : List Draft) → IsTaken (decls_rule text sig more) passed q (stating new fs)
        → IsTaken (decls_rule text no_declarations (declarations ++ more)) start q (stating new (drafts ++ fs))

  pub no_file : ReadsFile [] no_declarations []
  no_file = record { declarations = []; is = file_none; shallow = tt; drafts = []; are = tt; passed = start; goes = λ more q new fs t. t }

  module _ (ts us : List Token) (sig new : Signature) (gs hs : List Goal) (fs : Decl → List Draft) (h : ℕ) (f : ReadsFile ts sig gs) (r : ReadsDecl us h (λ d. Gives text sig (stating new (fs d)) d)) where
    abbrev d : Decl
    d = r.declaration

    goes_on : (more : List Decl) (q : Passed) (fin : Signature) (ks : List Draft) → IsTaken (decls_rule text new more) (afresh text sig f.passed) q (stating fin ks)
        → IsTaken (decls_rule text no_declarations ((f.declarations ++ (d ∷ [])) ++ more)) start q (stating fin ((f.drafts ++ fs d) ++ ks))
    goes_on more q fin ks t =
        let both = then_taken (decl_rule text sig d) (λ a. decls_rule text a.signature more >> λ b. give (stating b.signature (a.drafts ++ b.drafts))) f.passed (afresh text sig f.passed) q (stating new (fs d)) (stating fin (fs d ++ ks))
        (r.has f.passed)
        (then_taken (decls_rule text new more) (λ b. give (stating b.signature (fs d ++ b.drafts))) (afresh text sig f.passed) q q (stating fin ks) (stating fin (fs d ++ ks)) t (give_taken (stating fin (fs d ++ ks)) q)) in
        subst (λ ds. IsTaken (decls_rule text no_declarations ds) start q (stating fin ((f.drafts ++ fs d) ++ ks))) (sym (append_assoc f.declarations (d ∷ []) more))
        (subst (λ xs. IsTaken (decls_rule text no_declarations (f.declarations ++ (d ∷ more))) start q (stating fin xs)) (sym (append_assoc f.drafts (fs d) ks)) (f.goes (d ∷ more) q fin (fs d ++ ks) both))

    pub file_more : h ≤ 1000 → ((d : Decl) → Pairwise IsDraft (fs d) hs) → ReadsFile (ts ++ us) new (gs ++ hs)
    file_more le are = record {
      declarations = f.declarations ++ (d ∷ []);
      is = file_decl ts us f.is r.is;
      shallow = all_append (λ n. n ≤ 1000) (depths f.is 0) (depths r.is 0) f.shallow (all_weaker (λ n. n ≤ 0 + h) (λ n. n ≤ 1000) (λ n b. omega (arith, le, b)) (depths r.is 0) (r.shallow 0));
      drafts = f.drafts ++ fs d;
      are = pairwise_append IsDraft f.drafts (fs d) gs hs f.are (are d);
      passed = afresh text sig f.passed;
      goes = goes_on;
    }
