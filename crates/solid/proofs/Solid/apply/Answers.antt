use Rattle.std.proofs.Common.{rules}
use Rattle.solid.proofs.Edits.{out_of_range, mvfs_done, kvfs_done, mev_done, kev_done, mef_done, kef_done, kemr_done, mekr_done, kfmrh_done, move_done}
use Rattle.solid.proofs.Solid.apply.Goals as goal

pub returns-then-not-in_range : goal.returns-then-not-in_range
returns-then-not-in_range c = let d = out_of_range c.args.self.now.boundary c.args.edit c.if-not-in_range.ensures in record { reply = d.reply; left = d.left; sound = d.sound }

pub returns-in-Mvfs : goal.returns-in-Mvfs
returns-in-Mvfs c =
    let i = c.in-Mvfs in
    let d = mvfs_done c.args.edit c.if-not-in_range.ensures i.shell i.face i.outer i.vertex i.at i.is c.named.result c.named-in-Mvfs.result c.named-in-Mvfs-2.result c.named-in-Mvfs-3.result (search rules) (search rules) (search rules) (search rules) c.args.self.now.boundary c.mvfs.result c.mvfs.new.self.boundary c.mvfs.ensures in record { reply = d.reply; left = d.left; sound = d.sound }

pub returns-in-Kvfs : goal.returns-in-Kvfs
returns-in-Kvfs c =
    let i = c.in-Kvfs in
    let d = kvfs_done c.args.edit c.if-not-in_range.ensures i.shell i.is c.named-in-Kvfs.result (search rules) c.args.self.now.boundary c.kvfs.result c.kvfs.new.self.boundary c.kvfs.ensures in record { reply = d.reply; left = d.left; sound = d.sound }

pub returns-in-Mev : goal.returns-in-Mev
returns-in-Mev c =
    let i = c.in-Mev in
    let d = mev_done c.args.edit c.if-not-in_range.ensures i.place i.edge i.vertex i.at i.is c.named-in-Mev.result c.named-in-Mev-2.result.number c.named-in-Mev-3.result (search rules) (search rules) (search rules) c.args.self.now.boundary c.mev.result c.mev.new.self.boundary c.mev.ensures in record { reply = d.reply; left = d.left; sound = d.sound }

pub returns-in-Kev : goal.returns-in-Kev
returns-in-Kev c =
    let i = c.in-Kev in
    let d = kev_done c.args.edit c.if-not-in_range.ensures i.half i.is c.named-in-Kev.result (search rules) c.args.self.now.boundary c.kev.result c.kev.new.self.boundary c.kev.ensures in record { reply = d.reply; left = d.left; sound = d.sound }

pub returns-in-Mef : goal.returns-in-Mef
returns-in-Mef c =
    let i = c.in-Mef in
    let d = mef_done c.args.edit c.if-not-in_range.ensures i.from i.to i.edge i.face i.outer i.is c.named-in-Mef.result c.named-in-Mef-2.result c.named-in-Mef-3.result.number c.named-in-Mef-4.result c.named-in-Mef-5.result (search rules) (search rules) (search rules) (search rules) (search rules) c.args.self.now.boundary c.mef.result c.mef.new.self.boundary c.mef.ensures in record { reply = d.reply; left = d.left; sound = d.sound }

pub returns-in-Kef : goal.returns-in-Kef
returns-in-Kef c =
    let i = c.in-Kef in
    let d = kef_done c.args.edit c.if-not-in_range.ensures i.half i.is c.named-in-Kef.result (search rules) c.args.self.now.boundary c.kef.result c.kef.new.self.boundary c.kef.ensures in record { reply = d.reply; left = d.left; sound = d.sound }

pub returns-in-Kemr : goal.returns-in-Kemr
returns-in-Kemr c =
    let i = c.in-Kemr in
    let d = kemr_done c.args.edit c.if-not-in_range.ensures i.half i.inner i.is c.named-in-Kemr.result c.named-in-Kemr-2.result (search rules) (search rules) c.args.self.now.boundary c.kemr.result c.kemr.new.self.boundary c.kemr.ensures in record { reply = d.reply; left = d.left; sound = d.sound }

pub returns-in-Mekr : goal.returns-in-Mekr
returns-in-Mekr c =
    let i = c.in-Mekr in
    let d = mekr_done c.args.edit c.if-not-in_range.ensures i.to i.inner i.edge i.is c.named-in-Mekr.result c.named-in-Mekr-2.result c.named-in-Mekr-3.result.number (search rules) (search rules) (search rules) c.args.self.now.boundary c.mekr.result c.mekr.new.self.boundary c.mekr.ensures in record { reply = d.reply; left = d.left; sound = d.sound }

pub returns-in-Kfmrh : goal.returns-in-Kfmrh
returns-in-Kfmrh c =
    let i = c.in-Kfmrh in
    let d = kfmrh_done c.args.edit c.if-not-in_range.ensures i.kept i.killed i.is c.named-in-Kfmrh.result c.named-in-Kfmrh-2.result (search rules) (search rules) c.args.self.now.boundary c.kfmrh.result c.kfmrh.new.self.boundary c.kfmrh.ensures in record { reply = d.reply; left = d.left; sound = d.sound }

pub returns-in-Move : goal.returns-in-Move
returns-in-Move c =
    let i = c.in-Move in
    let d = move_done c.args.edit c.if-not-in_range.ensures i.vertex i.at i.is c.named-in-Move.result (search rules) c.args.self.now.boundary c.move_vertex.result c.move_vertex.new.self.boundary c.move_vertex.ensures in record { reply = d.reply; left = d.left; sound = d.sound }
