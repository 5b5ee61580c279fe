-- A block of 32 bytes and its parts, low byte first: byte 0 kind, byte 1 spare, bytes 2 to 5 number, 6 and 7 position, 8 to 17 the five fields, 18 and 19 gap, 20 to 31 the coordinates x y z.
--     laid b    the bytes of the parts b
--     parts bs  the parts that the bytes bs say
use Rattle.std.specs.Prelude.{ℕ, ◌+◌, ◌*◌, ◌/◌, ◌%◌, List, [], ◌∷◌, ◌++◌, ℤ, slice_index}
use Rattle.std.specs.List.{flat_map}
use Rattle.std.specs.Int.{w32}
use Rattle.std.proofs.Common.{of_z, to_z}
use Rattle.boundary.specs.declared.Point.{Point}
use Rattle.records.specs.declared.Block.{Block}

-- a number in two bytes
abbrev pub two : ℕ → List ℕ
two n = n % 256 ∷ n / 256 % 256 ∷ []

-- a number in four bytes
abbrev pub four : ℕ → List ℕ
four n = n % 256 ∷ n / 256 % 256 ∷ n / 65536 % 256 ∷ n / 16777216 % 256 ∷ []

-- the two's complement of a signed number in 32 bits: a negative one with 2 ^ 32 added
abbrev pub complement : ℤ → ℕ
complement z = of_z w32 z

-- the signed number of a two's complement
abbrev pub signed : ℕ → ℤ
signed n = to_z w32 n

abbrev pub laid_fields : List ℕ → List ℕ
laid_fields f = flat_map two f

abbrev pub laid_point : Point → List ℕ
laid_point p = four (complement p.x) ++ (four (complement p.y) ++ four (complement p.z))

abbrev pub laid : Block → List ℕ
laid b = b.kind ∷ b.spare ∷ (four b.number ++ (two b.position ++ (laid_fields b.fields ++ (two b.gap ++ laid_point b.at))))

-- the number in the two bytes from the byte i on
abbrev pub two_at : List ℕ → ℕ → ℕ
two_at bs i = slice_index bs i + slice_index bs (i + 1) * 256

-- the number in the four bytes from the byte i on
abbrev pub four_at : List ℕ → ℕ → ℕ
four_at bs i = slice_index bs i + slice_index bs (i + 1) * 256 + slice_index bs (i + 2) * 65536 + slice_index bs (i + 3) * 16777216

abbrev pub fields_at : List ℕ → List ℕ
fields_at bs = two_at bs 8 ∷ two_at bs 10 ∷ two_at bs 12 ∷ two_at bs 14 ∷ two_at bs 16 ∷ []

abbrev pub point_at : List ℕ → Point
point_at bs = record { x = signed (four_at bs 20); y = signed (four_at bs 24); z = signed (four_at bs 28) }

unfoldable pub parts : List ℕ → Block
parts bs = record {
  kind = slice_index bs 0;
  spare = slice_index bs 1;
  number = four_at bs 2;
  position = two_at bs 6;
  fields = fields_at bs;
  gap = two_at bs 18;
  at = point_at bs;
}
