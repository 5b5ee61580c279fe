-- Appends and readings seen through a map of states.
use Rattle.std.proofs.Common.{List, Ok, Err, Result, ap}
use Rattle.disk.specs.declared.Content.{Content}
use Rattle.disk.specs.Calls.{Call}
use Rattle.disk.proofs.Maps.{chain_map}
use Rattle.disk.specs.declared.DiskFault.{DiskFault}
use Rattle.boundary.specs.declared.Boundary.{Boundary}
use Rattle.boundary.specs.declared.Edit.{Edit}
use Rattle.faults.specs.declared.JournalFault.{JournalFault}
use Rattle.faults.specs.declared.JournalFault.TheVariants.{Disk, NoEdits, Full, BadSize, Unfit}
use Rattle.standing.specs.Plans.{Step, Carried}
use Rattle.journal.specs.declared.Extent.{Extent}
use Rattle.journal.specs.Appends.{Appends, no_edits, no_room, carried}
use Rattle.journal.specs.Readings.{Failed, Looked}

module _ {S U : Type 0} (f : S → U) (did : S → Call → S → Type 0) (did' : U → Call → U → Type 0) (h : (d : S) (c : Call) (e : S) → did d c e → did' (f d) c (f e)) where
  carried_map : (d : S) (ss : List Step) (w : Result (Unit {0}) DiskFault) (e : S) → Carried did d ss w e → Carried did' (f d) ss w (f e)
  carried_map d ss (Ok u) e w = chain_map f did did' h w
  carried_map d ss (Err x) e w = (w.0, w.1, chain_map f did did' h w.2)

  pub appends_map : (d : S) (x : Extent) (es : List Edit) (r : Result Extent JournalFault) (e : S) → Appends did d x es r e → Appends did' (f d) x es r (f e)
  appends_map d x es r e (no_edits n is same) = no_edits n is (ap f same)
  appends_map d x es r e (no_room some full is same) = no_room some full is (ap f same)
  appends_map d x es r e (carried some room w h is) = carried some room w (carried_map d _ w e h) is

  failed_map : (reads : U → List Content) (d : S) (x : JournalFault) (e : S) → Failed (λ s. reads (f s)) did d x e → Failed reads did' (f d) x (f e)
  failed_map reads d (Disk x) e w = (w.0, w.1, w.2, w.3, w.4, chain_map f did did' h w.5)
  failed_map reads d (NoEdits t) e w = absurd w
  failed_map reads d (Full t) e w = absurd w
  failed_map reads d (BadSize n) e w = (w.0, w.1, ap f w.2)
  failed_map reads d (Unfit b x) e w = (w.0, w.1, w.2, w.3, w.4, chain_map f did did' h w.5)

  pub looked_map : (reads : U → List Content) (d : S) (b : Boundary) (r : Result Extent JournalFault) (e : S) → Looked (λ s. reads (f s)) did d b r e → Looked reads did' (f d) b r (f e)
  looked_map reads d b (Ok x) e w = (record { size = w.0.size; calls = chain_map f did did' h w.0.calls; is = w.0.is }, w.1)
  looked_map reads d b (Err x) e w = (failed_map reads d x e w.0, w.1)
