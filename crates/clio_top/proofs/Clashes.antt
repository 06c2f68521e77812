-- When a run is refused with a clash.
use Rattle.std.proofs.Common.{◌≡◌, ℕ, List, refl, sym, ◌∙◌, ap, inl, inr, Option, Some, None, Err, false}
use Rattle.std.proofs.lemmas.Bool.{true≢false}
use Rattle.dx_keys.specs.declared.answers.Clash.{Clash}
use Rattle.dx_stages.specs.Worlds.{World}
use Rattle.clio_ending.specs.declared.ending.Refusal.{Refusal}
use Rattle.clio_ending.specs.declared.ending.Refusal.TheVariants as refusals
use Rattle.clio_top.specs.declared.command.Command.{Command}
use Rattle.clio_top.specs.declared.command.Command.TheVariants.{Answering, Comparing, Demonstrating, Exchanging, Judging, Showing}
use Rattle.clio_steps.specs.declared.texts.Side.TheVariants.{First}
use Rattle.clio_top.specs.Words.{or_usage, says}
use Rattle.clio_steps.specs.Steps.{Program}
use Rattle.clio_top.specs.Demo.{demo_world}
use Rattle.clio_top.specs.Commands.{stages_of}
use Rattle.clio_top.specs.Promises.{ClashesAreOfTexts, IsClashOf, NoSolutionIsAClash}
use Rattle.clio_top.specs.Completing.{DemoIsAClash}
use Rattle.clio_top.proofs.Asked.{said}
use Rattle.clio_steps.proofs.Clashes.{is_clash, text_never, exchange_clashes, exchange_refused}
use Rattle.clio_compare.proofs.Refusals.{compare_never}
use Rattle.clio_judge.proofs.Refusals.{judge_never}
use Rattle.clio_answer.proofs.Refusals.{answer_clashes}

usage_never : (words : List (List ℕ)) (e : Refusal) → or_usage (says words) ≡ Err e → is_clash e ≡ false
unfolding is_clash
usage_never words e is = of (says words) refl
  where
    of : (o : Option Command) → says words ≡ o → is_clash e ≡ false
    of None h = let k : or_usage None ≡ Err e = sym (ap or_usage h) ∙ is in usage e k
      where
        usage : (f : Refusal) → or_usage None ≡ Err f → is_clash f ≡ false
        usage refusals.Usage k = refl
        usage (refusals.Clash c t l n) k = cc
        usage (refusals.Mapping fault) k = refl
        usage (refusals.Rows file fault) k = refl
        usage (refusals.Limit limit) k = refl
        usage (refusals.Query fault) k = refl
        usage (refusals.Other fault) k = refl
    of (Some d) h = let k : or_usage (Some d) ≡ Err e = sym (ap or_usage h) ∙ is in cc

clashing_by : (P : Program) (c : World) (words : List (List ℕ)) (d : Command) (k : Clash) (table : List ℕ) (key : List (List ℕ)) (column : List ℕ)
    → says words ≡ Some d → (stages_of P d).refuses c (tt {0}) (refusals.Clash k table key column) → IsClashOf P c words k table key column
unfolding is_clash
clashing_by P c words (Exchanging mode nested) k table key column w r = inl (mode, nested, w, exchange_clashes P mode c k table key column r)
clashing_by P c words (Showing mode) k table key column w r = absurd (true≢false (text_never P First c (refusals.Clash k table key column) r))
clashing_by P c words (Demonstrating number mode) k table key column w r =
    inr (inl (number, mode, w, exchange_clashes P mode (demo_world number) k table key column r))
clashing_by P c words Answering k table key column w r = inr (inr (w, answer_clashes P c k table key column r))
clashing_by P c words Judging k table key column w r = absurd (true≢false (judge_never P c (refusals.Clash k table key column) r))
clashing_by P c words Comparing k table key column w r = absurd (true≢false (compare_never P c (refusals.Clash k table key column) r))

pub of_texts : ClashesAreOfTexts
unfolding is_clash
of_texts P c words before after k table key column (inl e, left) = absurd (true≢false (usage_never words (refusals.Clash k table key column) e))
of_texts P c words before after k table key column (inr (d, w, r), left) = clashing_by P c words d k table key column (said words d w) r

pub no_solution : NoSolutionIsAClash
no_solution P c words mode nested w h =
    let r = exchange_refused P mode c h in (r.0, _, _, _, inr (Exchanging mode nested, ap or_usage w, r.1))

-- and so is that of a demo, whatever is outside
pub demo_clashes : DemoIsAClash
demo_clashes P c words number mode w h =
    let r = exchange_refused P mode (demo_world number) h in (r.0, _, _, _, inr (Demonstrating number mode, ap or_usage w, r.1))
