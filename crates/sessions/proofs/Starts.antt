-- The first disk is blank, so that the law speaks of it.
use Rattle.std.proofs.Common.{◌≡◌, ◌≤◌, List, length, refl, sym, subst, lit≤}
use Rattle.disk.specs.Losses.{AfterLoss, Blank}
use Rattle.disk.specs.declared.Cell.{Cell}
use Rattle.disk.specs.declared.Settling.{Settling}
use Rattle.disk.specs.Settlings.{May, blank_cells, read_all}
use Rattle.disk.proofs.Losses.{after_under, blank_under}
use Rattle.disk.specs.SettlingsLemmas.{blank_all}
use Rattle.runs.specs.declared.Step.{Step}
use Rattle.runs.specs.Laws.{KeptBy}
use Rattle.sessions.specs.Benches.{Make, reads_of, may_of, did_of, first_disk, Law}

first_blank : Blank reads_of may_of first_disk
first_blank = blank_under read_all May (λ (s : Make). s.disk.cells) first_disk (blank_all 16 (blank_cells 16) refl)

pub law_at : (d : Make) (ss : List Step) (z : Make) → d ≡ first_disk → (Blank reads_of may_of d → 2 ≤ length (reads_of d) → length (reads_of d) ≤ 1000 → KeptBy reads_of may_of did_of d ss z) → Law first_disk ss
law_at d ss z e f = (z, subst (λ v. Blank reads_of may_of v → 2 ≤ length (reads_of v) → length (reads_of v) ≤ 1000 → KeptBy reads_of may_of did_of v ss z) e f first_blank (lit≤ tt) (lit≤ tt))

-- a disk behind a new stop is found after a loss of the disk that was behind the old one
pub found_after : (d : Make) (s t : Settling (List Cell)) (e : Make) → s ≡ d.disk → AfterLoss (λ u. read_all u.cells) (λ u. May u.cells) s t → e.disk ≡ t → AfterLoss reads_of may_of d e
found_after d s t e from h to =
    after_under (λ u. read_all u.cells) (λ u. May u.cells) (λ (v : Make). v.disk) d e
    (subst (λ v. AfterLoss (λ u. read_all u.cells) (λ u. May u.cells) v e.disk) from (subst (λ v. AfterLoss (λ u. read_all u.cells) (λ u. May u.cells) s v) (sym to) h))
