-- Tables, half-edges and what an accepted edit says.
pub mod Rows
pub mod Counts
pub mod Fields
pub mod Halves
pub mod LedEdges
pub mod Accepted
-- Rings, as the rules state them, as walks and as lists.
pub mod RulesAsRings
pub mod RingsEntered
pub mod Runs
pub mod RingLists
pub mod RingRuns
pub mod RingsExist
-- What several operators do alike.
pub mod SameEdges
pub mod Places
pub mod OneEdgeMore
pub mod ErasedEdge
pub mod ErasedRings
-- The empty boundary and each operator: the rules are kept.
pub mod EmptyBoundary
pub mod Move
pub mod Mvfs
pub mod Kvfs
pub mod Kfmrh
pub mod MevBefore
pub mod MevLone
pub mod Mev
pub mod KevHalves
pub mod Kev
pub mod Mef
pub mod Kef
pub mod Kemr
pub mod Mekr
-- Each operator: what becomes of the rings.
pub mod SameEdgesLaws
pub mod MevLaw
pub mod KevLaw
pub mod MefLaw
pub mod KefLaw
pub mod KemrLaw
pub mod MekrLaw
-- Each operator that makes something is undone.
pub mod Undo
pub mod UndoMef
pub mod UndoKemr
pub mod Undone
-- What the crate's functions state.
pub mod Histories
pub mod Consequences
pub mod RingLaws
pub mod Examples
pub mod Broken
