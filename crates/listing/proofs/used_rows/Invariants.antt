use Rattle.std.proofs.Common.{◌≡◌, ◌≤◌, take}
use Rattle.boundary.specs.Tables.{count}
use Rattle.listing.proofs.used_rows.Given as goal

abbrev pub invariant-loop-row : goal.invariant-loop-row
invariant-loop-row g l = (l.n ≡ count (take l.row-index l.rows)) × (l.n ≤ l.row-index)
