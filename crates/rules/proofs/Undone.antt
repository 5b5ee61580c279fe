-- Each operator that makes something is undone, with its numbers, by the one that takes it away.
use Rattle.boundary.specs.declared.Boundary.{Boundary}
use Rattle.rules.specs.Rules.{Sound}
use Rattle.rules.specs.RingLaws.{Undone}
use Rattle.rules.proofs.Undo.{kvfs_undoes_mvfs, kev_undoes_mev}
use Rattle.rules.proofs.UndoMef.{kef_undoes_mef}
use Rattle.rules.proofs.UndoKemr.{mekr_undoes_kemr}

pub undone : (b : Boundary) → Sound b → Undone b
undone b s = record {
  kvfs_mvfs = λ a f l v p. kvfs_undoes_mvfs b a f l v p s;
  kev_mev = λ a k v p. kev_undoes_mev b a k v p s;
  kef_mef = λ h j k f l. kef_undoes_mef b h j k f l s;
  mekr_kemr = λ k l. mekr_undoes_kemr b k l s;
}
