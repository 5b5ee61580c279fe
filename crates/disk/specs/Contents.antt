-- What stands in a block: 32 bytes, or the mark unreadable.
use Rattle.std.specs.Prelude.{ℕ, List, replicate}
use Rattle.disk.specs.declared.Content.{Content}
use Rattle.disk.specs.declared.Content.TheVariants.{Bytes, Unreadable}

-- 32 zero bytes
abbrev pub zeros : Content
zeros = Bytes (replicate 32 0)

-- the bytes of a content: zero bytes beside the mark unreadable
abbrev pub bytes_of : Content → List ℕ
bytes_of (Bytes bs) = bs
bytes_of Unreadable = replicate 32 0
