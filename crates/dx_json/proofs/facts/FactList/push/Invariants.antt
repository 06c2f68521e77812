use Rattle.std.proofs.Common.{◌≡◌, ◌++◌, take}
use Rattle.dx_json.proofs.facts.FactList.push.Given as goal

abbrev pub invariant-loop-text : goal.invariant-loop-text
invariant-loop-text l = record {
  texts : l.self-inside.texts ≡ l.initial.self-inside.texts ++ take l.text-index l.constants;
  lines : l.self-inside.lines ≡ l.initial.self-inside.lines;
}
