-- How a fault of the disk is told: its number, the layer it comes from, and its place.
use Rattle.std.specs.Prelude.{ℕ, Some, None}
use Rattle.disk.specs.declared.Layer.{Layer}
use Rattle.disk.specs.declared.Layer.TheVariants.{Disk}
use Rattle.disk.specs.declared.Told.{Told}
use Rattle.disk.specs.declared.DiskFault.{DiskFault}
use Rattle.disk.specs.declared.DiskFault.TheVariants.{PowerGone, NoSuchBlock}

-- 20 where the power is gone, 21 where there is no such block
abbrev pub fault_number : DiskFault → ℕ
fault_number (PowerGone p) = 20
fault_number (NoSuchBlock p) = 21

-- every such fault is the disk's
abbrev pub fault_layer : DiskFault → Layer
fault_layer (PowerGone p) = Disk
fault_layer (NoSuchBlock p) = Disk

-- the block, or 65,535 for a flush
abbrev pub fault_place : DiskFault → ℕ
fault_place (PowerGone (Some k)) = k
fault_place (PowerGone None) = 65535
fault_place (NoSuchBlock p) = p

-- all three, as whoever is answered is told
abbrev pub disk_told : DiskFault → Told
disk_told fault = record { number = fault_number fault; layer = fault_layer fault; place = fault_place fault }
