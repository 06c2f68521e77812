-- Each kind has a number of its own.
use Rattle.std.proofs.Common.{◌≡◌, ℕ, Bool, List, [], ◌∷◌, get_or, refl, sym, ap, ◌∙◌}
use Rattle.std.specs.Prelude.{◌↔◌, ◌==◌, IsTrue}
use Rattle.std.proofs.lemmas.Bool.Decides.{Decides-eqb}
use Rattle.dx_script_tokens.specs.declared.kinds.ScriptKind.{ScriptKind}
use Rattle.dx_script_tokens.specs.declared.kinds.ScriptKind.TheVariants as kinds
use Rattle.dx_script_tokens.specs.Kinds.{kind_number}

abbrev ranked : List ScriptKind
ranked =
    kinds.Create ∷ kinds.Table ∷ kinds.Target ∷ kinds.Source ∷ kinds.As ∷ kinds.Select ∷ kinds.Distinct ∷ kinds.From ∷
    kinds.Where ∷ kinds.And ∷ kinds.Not ∷ kinds.Exists ∷ kinds.Insert ∷ kinds.Into ∷ kinds.Skolem ∷ kinds.Place ∷ kinds.Type ∷
    kinds.Own ∷ kinds.Other ∷ kinds.Match ∷ kinds.Keep ∷ kinds.Alias ∷ kinds.Column ∷ kinds.Word ∷ kinds.Number ∷ kinds.Name ∷
    kinds.Text ∷ kinds.Open ∷ kinds.Close ∷ kinds.Comma ∷ kinds.Semicolon ∷ kinds.Dot ∷ kinds.Equal ∷ kinds.Star ∷ []

abbrev kind_ranked : ℕ → ScriptKind
kind_ranked n = get_or ranked n kinds.Star

of_rank : (k : ScriptKind) → kind_ranked (kind_number k) ≡ k
of_rank kinds.Create = refl
of_rank kinds.Table = refl
of_rank kinds.Target = refl
of_rank kinds.Source = refl
of_rank kinds.As = refl
of_rank kinds.Select = refl
of_rank kinds.Distinct = refl
of_rank kinds.From = refl
of_rank kinds.Where = refl
of_rank kinds.And = refl
of_rank kinds.Not = refl
of_rank kinds.Exists = refl
of_rank kinds.Insert = refl
of_rank kinds.Into = refl
of_rank kinds.Skolem = refl
of_rank kinds.Place = refl
of_rank kinds.Type = refl
of_rank kinds.Own = refl
of_rank kinds.Other = refl
of_rank kinds.Match = refl
of_rank kinds.Keep = refl
of_rank kinds.Alias = refl
of_rank kinds.Column = refl
of_rank kinds.Word = refl
of_rank kinds.Number = refl
of_rank kinds.Name = refl
of_rank kinds.Text = refl
of_rank kinds.Open = refl
of_rank kinds.Close = refl
of_rank kinds.Comma = refl
of_rank kinds.Semicolon = refl
of_rank kinds.Dot = refl
of_rank kinds.Equal = refl
of_rank kinds.Star = refl

pub one_rank : (j k : ScriptKind) → kind_number j ≡ kind_number k → j ≡ k
one_rank j k e = sym (of_rank j) ∙ (ap kind_ranked e ∙ of_rank k)

pub same_kind : (b : Bool) (j k : ScriptKind) → b ≡ (kind_number j == kind_number k) → IsTrue b ↔ (j ≡ k)
same_kind b j k e =
    let d = Decides-eqb (kind_number j) (kind_number k) in
    (λ t. one_rank j k (d.0 (sym e ∙ t)), λ is. e ∙ d.1 (ap (λ i. kind_number i) is))
