-- Written values: what they mean, and that those of different kinds differ.
use Rattle.std.specs.Prelude.{ℕ, List, ◌≡◌, map}
use Rattle.std.proofs.Common.{sym, ap, ◌∙◌}
use Rattle.ae_num.specs.Forms.{meaning as form_of}
use Rattle.ae_num.specs.declared.forms.Lin.{Lin}
use Rattle.ae_num.specs.declared.forms.Value.{Value, Value-F, Leaf, Number, Fields, out-Value}
use Rattle.ae_num.specs.declared.forms.Value.TheOpen as layer
use Rattle.ae_num.specs.declared.forms.Value.TheVariants.{rolls-Leaf, rolls-Number, rolls-Fields, outs-Leaf, outs-Number}
use Rattle.ae_journal.specs.Values.{leaf, fields, vals, meaning}
use Rattle.ae_decide.proofs.NormalValues.{meaning-roll}
use Rattle.ae_name_lines.proofs.Spelled.{val_of}

pub leaf_means : (n : ℕ) → meaning (Leaf n) ≡ leaf n
leaf_means n = ap meaning (sym (rolls-Leaf n)) ∙ meaning-roll (layer.Leaf n)

pub number_means : (f : Lin) → meaning (Number f) ≡ val_of (form_of f)
number_means f = ap meaning (sym (rolls-Number f)) ∙ meaning-roll (layer.Number f)

pub fields_mean : (vs : List Value) → meaning (Fields vs) ≡ fields (vals (map meaning vs))
fields_mean vs = ap meaning (sym (rolls-Fields vs)) ∙ meaning-roll (layer.Fields vs)

pub no_leaf : (n : ℕ) (f : Lin) → Leaf n ≡ Number f → ⊥
no_leaf n f e = let z : ◌≡◌ {A = Value-F Value} (layer.Leaf n) (layer.Number f) = sym (outs-Leaf n) ∙ ap out-Value e ∙ outs-Number f in cc z

pub same_leaf : (m n : ℕ) → Leaf m ≡ Leaf n → m ≡ n
same_leaf m n e = let z : ◌≡◌ {A = Value-F Value} (layer.Leaf m) (layer.Leaf n) = sym (outs-Leaf m) ∙ ap out-Value e ∙ outs-Leaf n in cc z

pub same_number : (f g : Lin) → Number f ≡ Number g → f ≡ g
same_number f g e = let z : ◌≡◌ {A = Value-F Value} (layer.Number f) (layer.Number g) = sym (outs-Number f) ∙ ap out-Value e ∙ outs-Number g in cc z
