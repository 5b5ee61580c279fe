-- The laws of the rings, together.
use Rattle.boundary.specs.declared.Boundary.{Boundary}
use Rattle.rules.specs.Rules.{Sound}
use Rattle.rules.specs.RingLaws.{RingLaws}
use Rattle.rules.proofs.RingsExist.{has_rings}
use Rattle.rules.proofs.SameEdgesLaws.{mvfs_law, kvfs_law, kfmrh_law, move_law}
use Rattle.rules.proofs.MevLaw.{mev_law}
use Rattle.rules.proofs.KevLaw.{kev_law}
use Rattle.rules.proofs.MefLaw.{mef_law}
use Rattle.rules.proofs.KefLaw.{kef_law}
use Rattle.rules.proofs.KemrLaw.{kemr_law}
use Rattle.rules.proofs.MekrLaw.{mekr_law}
use Rattle.rules.proofs.Undone.{undone}

pub ring_laws : (b : Boundary) → Sound b → RingLaws b
ring_laws b s = record {
  rings = has_rings b s;
  mvfs_law = λ a f l v p ll. mvfs_law b a f l v p s ll;
  kvfs_law = kvfs_law b;
  mev_law = λ a k v p lk lv q. mev_law b a k v p s lk lv q;
  kev_law = λ h lh q. kev_law b h s lh q;
  mef_law = λ h j k f l lh lj lk lf ll q. mef_law b h j k f l s lh lj lk lf ll q;
  kef_law = λ h lh q. kef_law b h s lh q;
  kemr_law = λ h l lh ll q. kemr_law b h l s lh ll q;
  mekr_law = λ a c k lk q. mekr_law b a c k s lk q;
  kfmrh_law = kfmrh_law b;
  move_law = λ v p lv. move_law b v p s lv;
  undone = undone b s;
}
