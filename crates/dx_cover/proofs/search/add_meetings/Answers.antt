use Rattle.std.proofs.Common.{◌≡◌, ◌∙◌, ◌<◌, ◌+◌, ℕ, List, [], ◌∷◌, ◌++◌, sym, ap, arith, append_assoc, length, get_or, drop}
use Rattle.std.proofs.lemmas.List.{drop_more}
use Rattle.dx_model.specs.declared.rules.Cell.{Cell}
use Rattle.dx_model.specs.declared.covers.Meeting.{Meeting}
use Rattle.dx_model.specs.Covers.{meet}
use Rattle.dx_cover.proofs.search.add_meetings.Goals as goal

next : (cells : List Cell) (i : ℕ) (c : Cell) → i < length cells → c ≡ get_or cells i c → drop i cells ≡ c ∷ drop (i + 1) cells
next cells i c h e = drop_more cells i c h ∙ ap (λ (x : Cell). x ∷ drop (i + 1) cells) (sym e)

one_met : (cells others : List Cell) (i : ℕ) (a b : Cell) (m : Meeting) (old new start : List Meeting) → drop i cells ≡ a ∷ drop (i + 1) cells
    → drop i others ≡ b ∷ drop (i + 1) others → m ≡ record { cell = a; met = b } → new ≡ old ++ m ∷ []
    → old ++ meet (drop i cells) (drop i others) ≡ start → new ++ meet (drop (i + 1) cells) (drop (i + 1) others) ≡ start
one_met cells others i a b m old new start p q e n d =
    let k = rw (p, q) at d in
    rw (n, e, append_assoc) k

pub loop-i-preserved : goal.loop-i-preserved
loop-i-preserved c =
    let cells = c.args.cells.now in
    let others = c.args.others.now in
    let i = c.loop-i.i in
    let p = next cells i c.index-cells-i.result (omega arith) c.index-cells-i.is in
    let q = next others i c.index-others-i.result (omega arith) c.index-others-i.is in
    one_met cells others i _ _ _ _ _ _ p q c.in_ok-meeting_of.ensures c.in_ok-push.ensures.items c.loop-i.invariant
