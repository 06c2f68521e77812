-- A comparison that the stages pass on, in a world.
use Rattle.std.proofs.Common.{List, subst}
use Rattle.dx_compare.specs.declared.comparing.Comparison.{Comparison}
use Rattle.dx_compare.specs.Letters.{letters}
use Rattle.dx_compare.proofs.Answered.{answer_tells}
use Rattle.dx_stages.specs.Worlds.{World}
use Rattle.clio_accept.specs.declared.mapping.Mapping.{Mapping}
use Rattle.clio_files.specs.Comparisons.{AreComparedFiles, compared_text}
use Rattle.clio_files.specs.Files.{files_of}
use Rattle.clio_files.specs.Sheets.{PrintedFile}
use Rattle.clio_steps.specs.Steps.{Program}
use Rattle.clio_compare.specs.Comparing.{comparisons}
use Rattle.clio_compare.specs.Outcomes.{IsComparedIn}
use Rattle.clio_steps.specs.Outcomes.{Writing}
use Rattle.clio_compare.proofs.Pairs.{made_in}

pub compared_with : (P : Program) (c : World) (q : Mapping × Comparison) (files : List PrintedFile) (Wrote : Writing)
    → (comparisons P).passes c (tt {0}) q
    → AreComparedFiles q.0.source q.0.target q.1 files → Wrote (files_of files) (compared_text q.1 files) → IsComparedIn P c q.1 Wrote
compared_with P c q files Wrote x are wrote =
    let m = made_in P c q x in
    let k = m.comparison in record {
      first = m.first;
      accepted = m.accepted;
      second = m.second;
      other_accepted = m.other_accepted;
      same = m.same;
      free = m.free;
      plain = m.plain;
      forward = answer_tells (letters k.number) m.first.source m.first.target m.first.rules m.second.rules q.1.forward k.forward;
      backward = answer_tells (letters k.number) m.first.source m.first.target m.second.rules m.first.rules q.1.backward k.backward;
      comparison = k;
      files = files;
      are = subst (λ (M : Mapping). AreComparedFiles M.source M.target q.1 files) m.is are;
      written = wrote;
    }
