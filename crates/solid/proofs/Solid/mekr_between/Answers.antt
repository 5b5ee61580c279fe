use Rattle.solid.proofs.Solid.mekr_between.Goals as goal

pub returns : goal.returns
returns c = simp (c.set-2.ensures, c.put_lone.ensures, c.set.ensures, c.bridge-edge.ensures, c.lead_place-2.ensures, c.lead_place.ensures, c.join.ensures, c.even.ensures, c.odd.ensures, c.place_loop-outer.ensures, c.place_loop-inner.ensures, c.requires.0, c.requires.1)
